-- Laws of a line's numbers: an index or nothing, and how many bytes all of them have.
use mathlib.Core.Path.{◌≡◌, refl, ap, ◌∙◌}
use mathlib.Core.List.{[], ◌∷◌, ◌++◌}
use Prim.Native.Nat.{ℕ, zero, suc, ◌+◌}
use native.Mathlib.Omega.{arith}
use lib.IntN.{ℤ, pos, negsuc}
use lib.ListN.{length, length-append}
use Rattle.base_text.specs.Bytes.{Text, newline, comma}
use Rattle.base_text.specs.Numeral.{decimal}
use Rattle.spec_table.specs.Decimals.{width_text, curve_text, index_text}
use Rattle.spec_table.specs.RingLines.{numbers_text}

pub index-absent : (z : ℤ) → z ≡ negsuc 0 → [] ≡ index_text z
unfolding index_text
index-absent z e = rw e

pub index_present : (z : ℤ) → (z ≡ negsuc 0 → ⊥) → decimal z ≡ index_text z
unfolding index_text
index_present (pos n) h = refl
index_present (negsuc zero) h = absurd (h refl)
index_present (negsuc (suc n)) h = refl

pub numbers_length : (year width value index : ℤ) → length (numbers_text year width value index) ≡
    length (decimal year) + length (width_text width) + length (curve_text value) + length (index_text index) + 5
unfolding numbers_text
numbers_length year width value index =
    let t₁ : Text = index_text index ++ (newline ∷ []) in
    let t₂ : Text = curve_text value ++ (comma ∷ t₁) in
    let t₃ : Text = width_text width ++ (comma ∷ t₂) in
    omega (
      arith,
      length-append (decimal year) (comma ∷ t₃),
      length-append (width_text width) (comma ∷ t₂),
      length-append (curve_text value) (comma ∷ t₁),
      length-append (index_text index) (newline ∷ []),
    )
