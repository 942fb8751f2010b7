-- Fields of widths, one more at a time.
use mathlib.Core.Path.{◌≡◌, refl, sym, ap, ◌∙◌}
use mathlib.Core.Bool.{true}
use mathlib.Core.List.{List, [], ◌∷◌, ◌++◌, append_assoc, append-nil}
use Prim.Native.Nat.{ℕ, zero, suc, ◌+◌, ◌*◌, ◌<◌, ◌≤◌}
use native.Mathlib.Numerals.{add-one}
use native.Mathlib.Omega.{arith}
use lib.IntN.{ℤ, pos}
use lib.ListN.{length, get_or, take}
use lib.Seq.{take-suc, length-take-le}
use Rattle.base_text.specs.Bytes.{Text}
use Rattle.base_text.specs.Numeral.{decimal}
use Rattle.spec_tucson.specs.Columns.{columns}
use Rattle.spec_tucson.specs.Line.{field_columns, is_width}
use Rattle.spec_tucson.specs.Writing.{fields_text, all_widths}
use Rattle.theorems_tucson.proofs.Columns.{fits_length}
use Rattle.theorems_tucson.proofs.Lines.{fields_length}
use Rattle.theorems_tucson.proofs.InDecades.{widths_parts}
use Rattle.theorems_tucson.proofs.ReadsBack.{width_fits, widths_fit}

pub fields_append : (fs gs : List ℤ) → fields_text (fs ++ gs) ≡ fields_text fs ++ fields_text gs
unfolding fields_text
fields_append [] gs = refl
fields_append (f ∷ fs) gs = ap (λ (t : Text). columns field_columns f ++ t) (fields_append fs gs)
    ∙ sym (append_assoc (columns field_columns f) (fields_text fs) (fields_text gs))

pub fields_one : (f : ℤ) → fields_text (f ∷ []) ≡ columns field_columns f
unfolding fields_text
fields_one f = append-nil (columns field_columns f)

pub fields-none : (ws : List ℤ) → [] ≡ fields_text (take 0 ws)
unfolding fields_text
fields-none ws = refl

pub fields_more : (ws : List ℤ) (i : ℕ) → i < length ws → fields_text (take (i + 1) ws) ≡ fields_text (take i ws) ++ columns field_columns (get_or ws i (pos 0))
fields_more ws i h =
    ap (λ (n : ℕ). fields_text (take n ws)) (add-one i)
    ∙ ap fields_text (take-suc ws i (pos 0) h)
    ∙ fields_append (take i ws) (get_or ws i (pos 0) ∷ [])
    ∙ ap (λ (t : Text). fields_text (take i ws) ++ t) (fields_one (get_or ws i (pos 0)))

-- ---- parts of allowed widths are allowed

pub widths_take : (n : ℕ) (ws : List ℤ) → all_widths ws ≡ true → all_widths (take n ws) ≡ true
unfolding all_widths
widths_take zero ws h = refl
widths_take (suc n) [] h = refl
widths_take (suc n) (w ∷ ws) h = let parts = widths_parts w ws h in rw parts.0 (widths_take n ws parts.1)

pub widths_at : (ws : List ℤ) (i : ℕ) → i < length ws → all_widths ws ≡ true → is_width (get_or ws i (pos 0)) ≡ true
widths_at [] i h e = absurd (omega arith)
widths_at (w ∷ ws) zero h e = (widths_parts w ws e).0
widths_at (w ∷ ws) (suc i) h e = widths_at ws i (omega arith) (widths_parts w ws e).1

pub width_length : (ws : List ℤ) (i : ℕ) → i < length ws → all_widths ws ≡ true → length (decimal (get_or ws i (pos 0))) ≤ field_columns
width_length ws i h e = fits_length 4 (get_or ws i (pos 0)) (width_fits (get_or ws i (pos 0)) (widths_at ws i h e))

pub widths-length : (ws : List ℤ) → all_widths ws ≡ true → length (fields_text ws) ≡ length ws * field_columns
widths-length ws e = fields_length ws (widths_fit ws e)

pub taken_length : (ws : List ℤ) (i : ℕ) → i ≤ length ws → all_widths ws ≡ true → length (fields_text (take i ws)) ≡ i * field_columns
taken_length ws i h e = widths-length (take i ws) (widths_take i ws e) ∙ ap (λ (n : ℕ). n * field_columns) (length-take-le i ws h)
