-- A name, and the fields of a line one after another: what the first field says of all of them.
use mathlib.Core.Path.{◌≡◌, refl, sym, ◌∙◌, ap, ap₂}
use mathlib.Core.Bool.{Bool, true, false, cond, ◌&&◌, not, and_assoc}
use mathlib.Core.Bool.{and-true as and-true-right}
use mathlib.Core.List.{List, ◌∷◌}
use mathlib.Core.Option.{Option, some, none}
use Prim.Native.Nat.{ℕ, suc, ◌+◌, ◌-◌, ◌≤◌}
use native.Mathlib.Omega.{arith}
use borrow.Author.Tests.{eq-eqb}
use Rattle.std.specs.Prelude.{Some, None}
use lib.IntN.{ℤ, pos}
use lib.Signed.{le_z}
use lib.ListN.{length}
use lib.Seq.{slice, length-slice}
use Rattle.base_text.specs.Bytes.{Text}
use Rattle.base_text.proofs.Slice.{take_slice, drop-slice}
use Rattle.spec_tucson.specs.Columns.{in_columns}
use Rattle.spec_tucson.specs.Line.{name_columns, field_columns, all_printable, all_blank, is_name, with_field, field_numerals, is_width}
use Rattle.spec_tucson.specs.Series.{hundredths_limit, all_hundredths}
use Rattle.spec_tucson.specs.Writing.{all_widths}
use Rattle.tucson_lines.specs.Machine.{widths_told}

-- ---- a name of the right length
module _ (text : Text) (from : ℕ) (within : from + name_columns ≤ length text) where
  name_is : is_name (slice from (from + name_columns) text)
      ≡ (all_printable (slice from (from + name_columns) text) && not (all_blank (slice from (from + name_columns) text)))
  unfolding is_name
  name_is = rw (eq-eqb (length (slice from (from + name_columns) text)) name_columns (length-slice from (from + name_columns) text within ∙ omega arith))

  pub name_unprintable : all_printable (slice from (from + name_columns) text) ≡ false → is_name (slice from (from + name_columns) text) ≡ false
  name_unprintable e = name_is ∙ ap (λ (b : Bool). b && not (all_blank (slice from (from + name_columns) text))) e

  pub name_printable : all_printable (slice from (from + name_columns) text) ≡ true
      → is_name (slice from (from + name_columns) text) ≡ not (all_blank (slice from (from + name_columns) text))
  name_printable e = name_is ∙ ap (λ (b : Bool). b && not (all_blank (slice from (from + name_columns) text))) e

-- ---- the first field of a part, and the others
pub fields-here : (n : ℕ) (text : Text) (at to : ℕ) → at + field_columns ≤ to →
    field_numerals (suc n) (slice at to text) ≡ with_field (in_columns (slice at (at + field_columns) text)) (field_numerals n (slice (at + field_columns) to text))
unfolding field_numerals
fields-here n text at to h = ap₂ with_field (ap in_columns (take_slice field_columns at to text h)) (ap (field_numerals n) (drop-slice field_columns at to text))

pub fields-first : (n : ℕ) (text : Text) (at to : ℕ) → 1 ≤ n → at + field_columns ≤ to →
    field_numerals n (slice at to text) ≡ with_field (in_columns (slice at (at + field_columns) text)) (field_numerals (n - 1) (slice (at + field_columns) to text))
fields-first n text at to h k = let e : n ≡ suc (n - 1) = omega arith in ap (λ (m : ℕ). field_numerals m (slice at to text)) e ∙ fields-here (n - 1) text at to k

-- ---- widths
pub widths_no_numeral : (small : Bool) (o : Option ℤ) (r : Option (List ℤ)) → o ≡ none → widths_told small (with_field o r) ≡ None
unfolding widths_told
widths_no_numeral small o r e = ap (λ (x : Option ℤ). widths_told small (with_field x r)) e

pub widths_no_width : (small : Bool) (o : Option ℤ) (z : ℤ) (r : Option (List ℤ)) → o ≡ some z → is_width z ≡ false → widths_told small (with_field o r) ≡ None
unfolding widths_told all_widths
widths_no_width small o z r e h = ap (λ (x : Option ℤ). widths_told small (with_field x r)) e ∙ go r
  where
    go : (r : Option (List ℤ)) → widths_told small (with_field (some z) r) ≡ None
    go none = refl
    go (some ws) = ap (λ (b : Bool). cond (b && all_widths ws) (Some (small && all_hundredths (z ∷ ws))) None) h

pub widths_next : (small : Bool) (o : Option ℤ) (z : ℤ) (r : Option (List ℤ)) → o ≡ some z → is_width z ≡ true
    → widths_told small (with_field o r) ≡ widths_told (small && le_z z (pos hundredths_limit)) r
unfolding widths_told all_widths all_hundredths
widths_next small o z r e h = ap (λ (x : Option ℤ). widths_told small (with_field x r)) e ∙ go r
  where
    go : (r : Option (List ℤ)) → widths_told small (with_field (some z) r) ≡ widths_told (small && le_z z (pos hundredths_limit)) r
    go none = refl
    go (some ws) = ap₂ (λ (b c : Bool). cond (b && all_widths ws) (Some c) None) h (sym (and_assoc small (le_z z (pos hundredths_limit)) (all_hundredths ws)))

pub widths_end : (small : Bool) (t : Text) → widths_told small (field_numerals 0 t) ≡ Some small
unfolding widths_told field_numerals all_widths all_hundredths
widths_end small t = ap Some (and-true-right small)
