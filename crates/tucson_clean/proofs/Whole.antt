-- All notes of a file: its mark, its lines, its end.
use mathlib.Core.Path.{◌≡◌, refl, ◌∙◌, ap, ap₂}
use mathlib.Core.Bool.{Bool, true, false, cond, ◌&&◌}
use mathlib.Core.List.{List, [], ◌∷◌}
use mathlib.Core.Option.{none}
use Prim.Native.Nat.{ℕ, suc, ◌+◌}
use native.Mathlib.Numerals.{add-one}
use native.Mathlib.Omega.{arith}
use lib.Dec.{ltb}
use lib.ListN.{length}
use Rattle.base_print.specs.Buffer.{Puts}
use Rattle.base_print.proofs.Buffer.{puts_then, puts_within, puts_as}
use Rattle.base_text.specs.Bytes.{Text}
use Rattle.spec_tucson.specs.Line.{lines_of}
use Rattle.spec_tucson.specs.FileText.{is_marked, text_of, ends_early}
use Rattle.spec_tucson.specs.KeptLines.{kept_lines}
use Rattle.spec_tucson.specs.CleanNotes.{note_if, at_line, notes_of}
use Rattle.spec_tucson.specs.CleanCall.{mark_note, all_ended, end_note, at_start, all_notes}
use Rattle.tucson_walk.specs.declared.Walked.{Walked}
use Rattle.tucson_walk.specs.Walking.{WalkTold}
use Rattle.tucson_clean.specs.declared.Tail.{Tail}
use Rattle.tucson_clean.specs.Machine.{TailIs, part, BodyAt, PutTold}

-- one note on a line, where it applies
one_note : (b : Bool) (n line : ℕ) → at_line line (note_if b n []) ≡ cond b (n ∷ line ∷ []) []
unfolding at_line
one_note true n line = refl
one_note false n line = refl

pub mark_is : (t : Text) (b : Bool) → b ≡ is_marked t → at_line 1 (note_if b 1 []) ≡ mark_note t
unfolding mark_note
mark_is t b e = one_note b 1 1 ∙ ap (λ (x : Bool). cond x (1 ∷ 1 ∷ []) []) e

module _ {t : Text} {from stop : ℕ} (at : BodyAt t from stop) where
  abbrev body : Text
  body = part from stop t

  end_is : {r : Tail} (u : TailIs body r) (b : Bool) → b ≡ (ltb stop (length t) && r.ended) → at_line (r.count + 1) (note_if b 2 []) ≡ end_note t
  unfolding end_note
  end_is {r} u b e =
      let c : r.count + 1 ≡ suc (length (lines_of (text_of t))) = add-one r.count ∙ ap suc (u.count_is ∙ ap (λ (x : Text). length (lines_of x)) at.body_is) in
      let d : b ≡ (ends_early t && all_ended (lines_of (text_of t))) =
      e ∙ ap₂ (λ (x y : Bool). x && y) at.early_is (u.ended_is ∙ ap (λ (x : Text). all_ended (lines_of x)) at.body_is) in
      one_note b 2 (r.count + 1) ∙ ap₂ (λ (x : Bool) (n : ℕ). cond x (2 ∷ n ∷ []) []) d c

  pub all_put : {h unit : ℕ} {out out' : Text} {lines lines' notes notes₁ notes₂ notes₃ : List ℕ} {next cells : ℕ} {w : Walked} {r : Tail} {marked cut : Bool}
      → marked ≡ is_marked t → Puts 2 0 (at_line 1 (note_if marked 1 [])) notes notes₁ next
      → WalkTold unit h (ltb stop (length t)) body next out out' lines lines' notes₁ notes₂ w
      → TailIs body r → cut ≡ (ltb stop (length t) && r.ended) → Puts 2 w.cells (at_line (r.count + 1) (note_if cut 2 [])) notes₂ notes₃ cells
      → PutTold t h unit out out' lines lines' notes notes₃ (record { bytes = w.bytes; lines = w.lines; cells = cells })
  unfolding all_notes
  all_put {h} {unit} {marked = marked} {cut} e p k u f q ks kept =
      let a = k.told ks (ap (λ (x : Text). kept_lines h 1 none (lines_of x)) at.body_is ∙ kept) in
      let m = puts_as (mark_is t marked e) p in
      let n = puts_as (ap₂ (λ (x : Bool) (y : Text). notes_of unit h x 1 at_start (lines_of y) ks) at.early_is at.body_is) a.cells-put in
      let z = puts_as (end_is u cut f) q in
      let b : length (lines_of body) ≡ length (lines_of (text_of t)) = ap (λ (x : Text). length (lines_of x)) at.body_is in
      record {
        bytes-put = puts_within (omega (arith, b)) a.bytes-put;
        numbers-put = puts_within (omega (arith, b)) a.numbers-put;
        cells-put = puts_within (omega (arith, b)) (puts_then m (puts_then n z));
      }
