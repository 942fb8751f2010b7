-- Years by how many are left after them up to the greatest: the year of a line some fields later, and how many fields it has
-- room for.
use mathlib.Core.Path.{◌≡◌, ap, ap₂, ◌∙◌}
use mathlib.Core.Logic.{◌⊎◌, inl, inr}
use mathlib.Core.Bool.{Bool, true, false, ◌&&◌, and-false}
use Prim.Native.Nat.{ℕ, ◌+◌, ◌-◌, ◌%◌, ◌<◌, ◌≤◌}
use native.Mathlib.Omega.{arith}
use lib.IntN.{ℤ, pos, negsuc, neg_ℤ, nat_abs, ◌+ℤ◌, ◌-ℤ◌}
use lib.Dec.{leb, T}
use lib.Signed.{le_z, lt_z, non_neg, yes_non_neg}
use borrow.Author.Tests.{leb-true}
use mir.Syntax.{w32, w64}
use mir.Val.{SFits, Fits}
use Rattle.base_exact.proofs.Decide.{le_or_lt, and-true}
use Rattle.base_exact.proofs.Integer.{up, dn, ext, bal_+, bal_neg, ≤_in, ≤_out, <_in}
use Rattle.base_exact.proofs.Word.{le_z_true, lt_z_true, lt_z_false, le_test, not_le_test, is_pos, sfits_abs}
use Rattle.base_outcome.specs.Tests.{between}
use Rattle.spec_tucson.specs.Line.{decade, year_in_decade}
use Rattle.spec_tucson.specs.Writing.{least_year, greatest_year}
use Rattle.tucson_series.specs.Sizes.{years_left, year_at, most_left, closing_fits}

pub year-balance : (y : ℤ) → up (greatest_year -ℤ y) + up y ≡ dn (greatest_year -ℤ y) + 9999 + dn y
year-balance y = omega (arith, bal_+ greatest_year (neg_ℤ y), (bal_neg y).0, (bal_neg y).1)

-- ---- the years that can be written

pub between_in : (y : ℤ) → up y ≤ dn y + 9999 → dn y ≤ up y + 999 → between least_year greatest_year y ≡ true
between_in y h k = ap₂ (λ (a b : Bool). a && b) (le_test (≤_in least_year y (omega arith))) (le_test (≤_in y greatest_year (omega arith)))

pub between_out : (y : ℤ) → between least_year greatest_year y ≡ true → (up y ≤ dn y + 9999) × (dn y ≤ up y + 999)
between_out y e =
    let both = and-true (le_z least_year y) (le_z y greatest_year) e in
    (omega (arith, ≤_out y greatest_year (le_z_true y greatest_year both.1)), omega (arith, ≤_out least_year y (le_z_true least_year y both.0)))

between_late : (y : ℤ) → dn y + 9999 < up y → between least_year greatest_year y ≡ false
between_late y h = ap (λ (b : Bool). le_z least_year y && b) (not_le_test (<_in greatest_year y (omega arith))) ∙ and-false (le_z least_year y)

-- ---- by how many are left

pub year-at : (left : ℕ) → left ≤ most_left → between least_year greatest_year (year_at left) ≡ true
year-at left h = let e = year-balance (pos left) in between_in (year_at left) (omega arith) (omega arith)

-- a year that can be written, by what is left
pub record Dated (y : ℤ) : Type 0 where
  pub few : years_left y ≤ most_left
  pub is : y ≡ year_at (years_left y)
  pub difference : greatest_year -ℤ y ≡ pos (years_left y)

pub year_dated : (y : ℤ) → between least_year greatest_year y ≡ true → Dated y
year_dated y e =
    let b = between_out y e in
    let q = year-balance y in
    let d : greatest_year -ℤ y ≡ pos (years_left y) = is_pos (greatest_year -ℤ y) (≤_in (pos 0) (greatest_year -ℤ y) (omega arith)) in
    let u : up (greatest_year -ℤ y) ≡ years_left y = ap up d in
    let v : dn (greatest_year -ℤ y) ≡ 0 = ap dn d in
    record { few = omega arith; is = ext y (year_at (years_left y)) (omega (arith, year-balance (pos (years_left y)))); difference = d }

-- some years later
pub years_later_at : (left k : ℕ) → k ≤ left → year_at left +ℤ pos k ≡ year_at (left - k)
years_later_at left k h =
    ext (year_at left +ℤ pos k) (year_at (left - k)) (omega (
      arith,
      bal_+ (year_at left) (pos k),
      year-balance (pos left),
      year-balance (pos (left - k)),
    ))

pub years_too_late : (left k : ℕ) → left < k → between least_year greatest_year (year_at left +ℤ pos k) ≡ false
years_too_late left k h = between_late (year_at left +ℤ pos k) (omega (arith, bal_+ (year_at left) (pos k), year-balance (pos left)))

-- ---- the room that is left in the decade

at_pos : (left : ℕ) → left ≤ 9999 → year_at left ≡ pos (9999 - left)
at_pos left h = ext (year_at left) (pos (9999 - left)) (omega (arith, year-balance (pos left)))

at_neg : (left : ℕ) → 10000 ≤ left → year_at left ≡ negsuc (left - 10000)
at_neg left h = ext (year_at left) (negsuc (left - 10000)) (omega (arith, year-balance (pos left)))

pub room_at : (left : ℕ) → decade - 1 - year_in_decade (year_at left) ≡ left % decade
unfolding year_in_decade
room_at left = go (le_or_lt left 9999)
  where
    go : (left ≤ 9999) ⊎ (9999 < left) → decade - 1 - year_in_decade (year_at left) ≡ left % decade
    go (inl h) = ap (λ (y : ℤ). decade - 1 - year_in_decade y) (at_pos left h) ∙ omega arith
    go (inr h) = ap (λ (y : ℤ). decade - 1 - year_in_decade y) (at_neg left h) ∙ omega arith

-- ---- the machine's numbers

module _ (y : ℤ) (e : between least_year greatest_year y ≡ true) where
  pub years_fit_word : SFits w32 (greatest_year -ℤ y)
  years_fit_word = let d = year_dated y e in sfits_abs (omega (arith, d.few))

  pub years_natural : T (non_neg (greatest_year -ℤ y)) × Fits w64 (nat_abs (greatest_year -ℤ y))
  years_natural =
      let d = year_dated y e in
      (yes_non_neg (≤_in (pos 0) (greatest_year -ℤ y) (omega (arith, ap up d.difference, ap dn d.difference))), record { fits = omega (arith, d.few) })

pub early_year : (y : ℤ) → lt_z y least_year ≡ true → between least_year greatest_year y ≡ false
early_year y e = ap (λ (b : Bool). b && le_z y greatest_year) (not_le_test (lt_z_true y least_year e))

pub late_year : (y : ℤ) → lt_z greatest_year y ≡ true → between least_year greatest_year y ≡ false
late_year y e = ap (λ (b : Bool). le_z least_year y && b) (not_le_test (lt_z_true greatest_year y e)) ∙ and-false (le_z least_year y)

pub year-within : (y : ℤ) → lt_z y least_year ≡ false → lt_z greatest_year y ≡ false → between least_year greatest_year y ≡ true
year-within y e f = ap₂ (λ (a b : Bool). a && b) (le_test (lt_z_false y least_year e)) (le_test (lt_z_false greatest_year y f))

-- ---- a first year and a count whose closing fits

pub record Closed (y : ℤ) (count : ℕ) : Type 0 where
  pub dated : between least_year greatest_year y ≡ true
  pub enough : count ≤ years_left y
  pub few : count ≤ most_left

pub closing-parts : (y : ℤ) (count : ℕ) → closing_fits y count ≡ true → Closed y count
unfolding closing_fits
closing-parts y count e =
    let both = and-true (between least_year greatest_year y) (leb count (years_left y)) e in
    let l = leb-true count (years_left y) both.1 in
    record { dated = both.0; enough = l; few = omega (arith, (year_dated y both.0).few) }

pub year_at_fits : (left : ℕ) → left ≤ most_left → SFits w32 (year_at left)
year_at_fits left h = sfits_abs (abs-below (year_at left) (year-at left h))
  where
    abs-below : (y : ℤ) → between least_year greatest_year y ≡ true → nat_abs y < 2147483648
    abs-below (pos n) e = omega (arith, (between_out (pos n) e).0)
    abs-below (negsuc n) e = omega (arith, (between_out (negsuc n) e).1)
