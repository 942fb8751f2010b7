-- Line i of the answer is what is shown of the line of the file that it has, but for ? in its name and a closing that the caller says.
use mathlib.Core.Path.{◌≡◌, refl, sym, ◌∙◌, ap, ap₂, subst}
use mathlib.Core.Bool.{Bool, true, false, cond, ◌&&◌, not}
use mathlib.Core.List.{List, [], ◌∷◌, ◌++◌}
use mathlib.Core.Option.{Option, some, none, some-injective}
use Prim.Native.Nat.{ℕ, zero, suc, ◌+◌, ◌*◌, ◌-◌, ◌<◌}
use native.Mathlib.Omega.{arith}
use lib.Dec.{eqb}
use lib.IntN.{ℤ}
use lib.ListN.{length, take, drop, take-append-drop, length-drop}
use lib.Seq.{take_all, drop-drop}
use Rattle.base_exact.proofs.Decide.{clash, and-true}
use Rattle.base_text.specs.Bytes.{Text, newline}
use Rattle.spec_tucson.specs.Columns.{in_columns, columns}
use Rattle.spec_tucson.specs.Line.{Line, field_columns, same, lines_of, field_count, field_numerals, line_in_columns}
use Rattle.spec_tucson.specs.TextReading.{last_field}
use Rattle.spec_tucson.specs.FileText.{text_of}
use Rattle.spec_tucson.specs.StrictLine.{shown_fields, Kept}
use Rattle.spec_tucson.specs.CleanSeries.{continues, fields_in, fields_of, unknown_unit, unit_not_said, closing_of, is_reclosed, reclosed, closed_lines}
use Rattle.spec_tucson.proofs.Lines.{same_is}
use Rattle.tucson_lines.proofs.GoodLines.{columns-parts}
use Rattle.tucson_lines.proofs.LineNumerals.{behind, fields-behind, last-behind}
use Rattle.tucson_strict.proofs.Strict.{fitting}
use Rattle.theorems_clean.specs.Places.{At, here, later}
use Rattle.theorems_clean.specs.Shown.{Reads, Stands, read, reclosed as closed_anew, AnswersAreShown}
use Rattle.theorems_clean.proofs.Answers.{answered}
use Rattle.theorems_clean.proofs.StrictLines.{strict-line, with_ends, strict_lines, closed_strict}
use Rattle.theorems_clean.proofs.WrittenForm.{columns_form}
use Rattle.theorems_clean.proofs.ShownBytes.{ReadAs, strict_reads}
use Rattle.theorems_clean.proofs.Sources.{Each, Source, kept-sources, sources_strict}
use Rattle.theorems_clean.proofs.Lines.{numbers, numbers_length, closed-numbers}

-- ---- the last field's columns

behind-last : (x : Option (List ℤ)) (o : Option ℤ) (fs : List ℤ) → behind x o ≡ some fs → o ≡ some (last_field fs)
behind-last none o fs e = clash cc
behind-last (some ws) none fs e = clash cc
behind-last (some ws) (some f) fs e = ap some (sym (last-behind ws f)) ∙ ap (λ (gs : List ℤ). some (last_field gs)) (some-injective (ws ++ (f ∷ [])) fs e)

pub last-columns : (t : Text) (l : Line) → line_in_columns t ≡ some l → in_columns (drop (length t - field_columns) t) ≡ some (last_field l.fields)
last-columns t l e =
    let p = columns-parts t l e in
    let f = fitting t p.fits in
    let n = field_count t - 1 in
    let count : field_count t ≡ suc n = omega (arith, f.some_field) in
    let start : 12 + n * field_columns ≡ length t - field_columns = omega (arith, f.size, f.some_field) in
    let six : drop (n * field_columns) (drop 12 t) ≡ drop (length t - field_columns) t = drop-drop (n * field_columns) 12 t ∙ ap (λ (k : ℕ). drop k t) start in
    let whole : take field_columns (drop (n * field_columns) (drop 12 t)) ≡ drop (length t - field_columns) t =
    ap (take field_columns) six ∙ take_all field_columns (drop (length t - field_columns) t) (omega (arith, length-drop (length t - field_columns) t)) in
    ap in_columns (sym whole)
    ∙ behind-last (field_numerals n (drop 12 t)) (in_columns (take field_columns (drop (n * field_columns) (drop 12 t)))) l.fields
    (sym (fields-behind n (drop 12 t)) ∙ ap (λ (k : ℕ). field_numerals k (drop 12 t)) (sym count) ∙ p.fields)

-- a line that -999 closes ends with these six bytes
unknown_last : (t : Text) (l : Line) → line_in_columns t ≡ some l → last_field l.fields ≡ unknown_unit → t ≡ take (length t - field_columns) t ++ columns field_columns unknown_unit
unknown_last t l e last =
    let p = columns-parts t l e in
    let f = fitting t p.fits in
    let w = drop (length t - field_columns) t in
    let six : length w ≡ field_columns = omega (arith, length-drop (length t - field_columns) t, f.size, f.some_field) in
    sym (take-append-drop (length t - field_columns) t)
    ∙ ap (λ (s : Text). take (length t - field_columns) t ++ s)
    (columns_form w (last_field l.fields) (last-columns t l e) ∙ ap₂ columns six last)

-- ---- a line of the answer

pub line_stands : (unit : ℕ) (goes : Bool) (bytes t : Text) → ReadAs bytes t → Stands unit bytes (reclosed unit goes t)
unfolding reclosed is_reclosed fields_of
line_stands unit goes bytes t r = go (not goes && (same (last_field (fields_of t)) unknown_unit && not (eqb unit unit_not_said))) refl
  where
    go : (b : Bool) → (not goes && (same (last_field (fields_of t)) unknown_unit && not (eqb unit unit_not_said))) ≡ b
        → Stands unit bytes (cond b (take (length t - field_columns) t ++ columns field_columns (closing_of unit)) t)
    go false w = read r.reads
    go true w =
        let l = strict-line t r.strict in
        let both = and-true (not goes) (same (last_field (fields_of t)) unknown_unit && not (eqb unit unit_not_said)) w in
        let last = same_is (last_field (fields_of t)) unknown_unit (and-true (same (last_field (fields_of t)) unknown_unit) (not (eqb unit unit_not_said)) both.1).0 in
        let is : last_field l.line.fields ≡ unknown_unit = ap (λ (o : Option Line). last_field (fields_in o)) (sym l.is) ∙ last in
        closed_anew (take (length t - field_columns) t) (subst (Reads bytes) (unknown_last t l.line l.is is) r.reads)

-- ---- all lines

-- Where line i of the answer stands in these raw lines, and what is shown there.
abbrev Shows : ℕ → List Text → List ℕ → List Text → ℕ → Type 0
Shows unit rs lines texts i =
    (line : ℕ) × ((raw : Text) × ((text : Text) ×
    (At (suc line) i lines × (At raw line rs
    × (At (text ++ (newline ∷ [])) i texts × Stands unit (shown_fields raw) text)))))

lines_show : (unit : ℕ) (rs : List Text) (ks : List Kept) (i : ℕ) → i < length ks → Each (Source rs 1) ks → Shows unit rs (numbers (closed_lines unit ks)) (with_ends (closed_lines unit ks)) i
unfolding closed_lines
lines_show unit rs [] i l h = absurd (omega arith)
lines_show unit rs (k ∷ ks) zero l h =
    let s = h.0 in
    let n : k.line ≡ suc s.index = s.number ∙ omega arith in (
      s.index,
      (
        k.raw,
        (
          reclosed unit (continues k ks) k.text,
          (
            subst (λ (m : ℕ). At m 0 (k.line ∷ numbers (closed_lines unit ks))) n here,
            (
              s.at,
              (here, line_stands unit (continues k ks) (shown_fields k.raw) k.text (strict_reads k.line k.raw k.text s.is)),
            ),
          ),
        ),
      ),
    )
lines_show unit rs (k ∷ ks) (suc i) l h =
    let r = lines_show unit rs ks i (omega arith) h.1 in
    let p = r.1.1.1 in
    (r.0, (r.1.0, (r.1.1.0, (later p.0, (p.1.0, (later p.1.1.0, p.1.1.1))))))

pub answers_are_shown : AnswersAreShown
answers_are_shown t header unit c e i l =
    let a = answered t header unit c e in
    let rs = lines_of (text_of t) in
    let sources = kept-sources rs a.last 1 none a.kept a.kept_are in
    let strict = closed_strict unit a.kept (sources_strict rs 1 a.kept sources) in
    let size : length c.lines ≡ length a.kept = ap length (a.lines_are ∙ closed-numbers unit a.kept) ∙ numbers_length a.kept in
    let texts : with_ends (closed_lines unit a.kept) ≡ lines_of c.text = sym (ap lines_of a.text_is ∙ strict_lines (closed_lines unit a.kept) strict) in
    subst (λ (ns : List ℕ). Shows unit rs ns (lines_of c.text) i) (sym a.lines_are)
    (subst (λ (ts : List Text). Shows unit rs (numbers (closed_lines unit a.kept)) ts i) texts
    (lines_show unit rs a.kept i (omega (arith, size, l)) sources))
