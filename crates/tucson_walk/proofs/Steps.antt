-- One raw line more: left out, or taken.
use mathlib.Core.Path.{◌≡◌, refl, sym, ◌∙◌, ap, ap₂, subst}
use mathlib.Core.Bool.{Bool, true, false, cond, not}
use mathlib.Core.List.{List, [], ◌∷◌, ◌++◌}
use mathlib.Core.Option.{some}
use Prim.Native.Nat.{ℕ, suc, ◌+◌, ◌<◌}
use native.Mathlib.Numerals.{add-one}
use native.Mathlib.Omega.{arith}
use borrow.Author.Tests.{ltb-true}
use lib.Dec.{ltb}
use lib.IntN.{ℤ}
use lib.ListN.{length, drop}
use lib.Seq.{slice}
use Rattle.base_exact.proofs.Decide.{and-true}
use Rattle.base_outcome.specs.Outcome.{answer}
use Rattle.base_print.specs.Buffer.{Puts}
use Rattle.base_print.proofs.Buffer.{puts_none, puts_within}
use Rattle.base_text.specs.Bytes.{Text}
use Rattle.spec_tucson.specs.Line.{lines_of}
use Rattle.spec_tucson.specs.Shown.{is_blank_line}
use Rattle.spec_tucson.specs.StrictLine.{Kept}
use Rattle.spec_tucson.specs.KeptLines.{is_data, kept_lines}
use Rattle.spec_tucson.specs.CleanSeries.{continues, follows_its, reclosed, closed_lines, with_end, strict_text}
use Rattle.spec_tucson.specs.CleanNotes.{ahead, kept_notes, line_notes, at_line, Before, behind, closing_or, notes_of}
use Rattle.tucson_lines.specs.Machine.{LineEnd}
use Rattle.tucson_lines.proofs.Lines.{lines_step}
use Rattle.tucson_walk.specs.declared.Turn.{Turn}
use Rattle.tucson_walk.specs.Following.{KeptBehind}
use Rattle.tucson_walk.specs.Walking.{Holds, other_notes, Walks, numbers_of, Stepped, Took}
use Rattle.tucson_walk.proofs.Kept.{kept_other, KeptData, kept_data}

data_below : (h i : ℕ) (raw : Text) → is_data h i raw ≡ true → h < i
unfolding is_data
data_below h i raw e = ltb-true h i (and-true (not (is_blank_line raw)) (ltb h i) e).1

module _ (unit h : ℕ) (early : Bool) (text : Text) (from end i : ℕ) (b : Before) (ks : List Kept) (t : Turn) (at : LineEnd text from end) (more : from < length text)
    (w : Walks unit h text from i b ks t.series) where
  abbrev raw : Text
  raw = slice from (end + 1) text

  abbrev rest : List Text
  rest = lines_of (drop (end + 1) text)

  lines_are : lines_of (drop from text) ≡ raw ∷ rest
  lines_are = lines_step text from end at more

  kept_here : kept_lines h i b.kept (raw ∷ rest) ≡ answer ks
  kept_here = ap (kept_lines h i b.kept) (sym lines_are) ∙ w.kept

  -- ---- left out
  module _ (other : is_data h i raw ≡ false) where
    notes_other : (ks : List Kept) → notes_of unit h early i b (raw ∷ rest) ks ≡ at_line i (other_notes early raw) ++ notes_of unit h early (suc i) b rest ks
    unfolding notes_of
    notes_other [] = refl
    notes_other (k ∷ ks) = ap (λ (d : Bool). cond d
        (at_line i (line_notes early raw (kept_notes unit (closing_or b.closing (ahead unit (k ∷ ks)).closing) (not (follows_its b.kept k)) (ahead unit (k ∷ ks)) k))
        ++ notes_of unit h early (suc i) (behind (closing_or b.closing (ahead unit (k ∷ ks)).closing) k) rest ks)
        (at_line i (other_notes early raw) ++ notes_of unit h early (suc i) b rest (k ∷ ks))) other

    pub step_other : {out : Text} {lines notes notes' : List ℕ} {next : ℕ} → Puts 22 t.walked.cells (at_line i (other_notes early raw)) notes notes' next
        → Stepped unit h early text from (end + 1) i b ks t.walked out out lines lines notes notes'
        (record { series = t.series; walked = record { bytes = t.walked.bytes; lines = t.walked.lines; cells = next } })
    step_other {out} {lines} p = record {
      later = b;
      others = ks;
      walks = record {
        kept = ap (λ (n : ℕ). kept_lines h n b.kept rest) (add-one i) ∙ sym (kept_other h i b.kept raw rest other) ∙ kept_here;
        holds = w.holds;
      };
      bytes = [];
      bytes-put = puts_within (omega arith) (puts_none t.walked.bytes out);
      bytes_are = refl;
      numbers = [];
      numbers-put = puts_within (omega arith) (puts_none t.walked.lines lines);
      numbers_are = refl;
      cells = at_line i (other_notes early raw);
      cells-put = p;
      cells_are = ap (λ (ls : List Text). notes_of unit h early i b ls ks) lines_are ∙ notes_other ks
          ∙ ap (λ (n : ℕ). at_line i (other_notes early raw) ++ notes_of unit h early n b rest ks) (sym (add-one i));
    }

  -- ---- taken
  module _ (is-data : is_data h i raw ≡ true) where
    pub kept_line : KeptData h i b.kept raw rest ks
    kept_line = kept_data h i b.kept raw rest ks is-data kept_here

    abbrev k : Kept
    k = record { line = i; raw = raw; text = kept_line.text }

    abbrev ls : List Kept
    ls = kept_line.others

    notes_data : notes_of unit h early i b (raw ∷ rest) (k ∷ ls)
        ≡ at_line i (line_notes early raw (kept_notes unit (closing_or b.closing (ahead unit (k ∷ ls)).closing) (not (follows_its b.kept k)) (ahead unit (k ∷ ls)) k))
        ++ notes_of unit h early (suc i) (behind (closing_or b.closing (ahead unit (k ∷ ls)).closing) k) rest ls
    unfolding notes_of
    notes_data = ap (λ (d : Bool). cond d
        (at_line i (line_notes early raw (kept_notes unit (closing_or b.closing (ahead unit (k ∷ ls)).closing) (not (follows_its b.kept k)) (ahead unit (k ∷ ls)) k))
        ++ notes_of unit h early (suc i) (behind (closing_or b.closing (ahead unit (k ∷ ls)).closing) k) rest ls)
        (at_line i (other_notes early raw) ++ notes_of unit h early (suc i) b rest (k ∷ ls))) is-data

    pub behind-line : KeptBehind text h (suc i) k (end + 1) ls
    behind-line = record { below = omega (arith, data_below h i raw is-data); are = kept_line.rest }

    pub holds-line : Holds unit b (k ∷ ls) t.series
    holds-line = subst (λ (l : List Kept). Holds unit b l t.series) kept_line.is w.holds

    abbrev noted : ℤ → List ℕ
    noted z = at_line i (line_notes early raw (kept_notes unit z (not (follows_its b.kept k)) (ahead unit (k ∷ ls)) k))

    pub step_data : {out out' : Text} {lines lines' notes notes' : List ℕ} {r : Turn} → Took unit early b k ls t out out' lines lines' notes notes' r
        → Stepped unit h early text from (end + 1) i b ks t.walked out out' lines lines' notes notes' r
    unfolding closed_lines strict_text
    step_data x = record {
      later = behind x.closing k;
      others = ls;
      walks = record { kept = ap (λ (n : ℕ). kept_lines h n (some k) rest) (add-one i) ∙ kept_line.rest; holds = x.holds };
      bytes = with_end (reclosed unit (continues k ls) k.text);
      bytes-put = x.bytes-put;
      bytes_are = ap (λ (l : List Kept). strict_text (closed_lines unit l)) kept_line.is;
      numbers = i ∷ [];
      numbers-put = x.number_put;
      numbers_are = ap (λ (l : List Kept). numbers_of (closed_lines unit l)) kept_line.is;
      cells = noted x.closing;
      cells-put = x.cells-put;
      cells_are = ap₂ (λ (rs : List Text) (l : List Kept). notes_of unit h early i b rs l) lines_are kept_line.is ∙ notes_data
          ∙ ap (λ (z : ℤ). noted z ++ notes_of unit h early (suc i) (behind z k) rest ls) (sym x.closing_is)
          ∙ ap (λ (n : ℕ). noted x.closing ++ notes_of unit h early n (behind x.closing k) rest ls) (sym (add-one i));
    }
