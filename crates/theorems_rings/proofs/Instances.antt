-- Indices with numbers: W1's space with the earlywood 100, 100, 200, 100. Ring 1 is 50 wide, the exact curve under it is 102400/3 and the value
-- 34134, so that the index is 374 and the exact one 375: one apart, as 125·50 < 8·100². With (s + p)/2 = 2 added to the value
-- and taken from it the index is 374 and 375. The latewood is -1 throughout, so that by it the call ends with 14, and its curve is legal.
use mathlib.Core.Path.{◌≡◌, refl, ap, ap₂, subst}
use mathlib.Core.Logic.{◌≢◌}
use mathlib.Core.Bool.{not}
use mathlib.Core.List.{List, [], ◌∷◌}
use Prim.Native.Nat.{ℕ, zero, suc, ◌<◌, ◌≤◌}
use native.Mathlib.Omega.{arith}
use lib.Dec.{T}
use lib.IntN.{ℤ, pos, negsuc, nat_abs, ◌-ℤ◌}
use lib.ListN.{length, get_or}
use lib.Signed.{◌≤ℤ◌}
use Rattle.base_exact.specs.Gcd.{gcd, gcd_f}
use Rattle.base_exact.specs.Rational.{mk, int, inv, ◌+ᵠ◌, ◌-ᵠ◌, ◌*ᵠ◌, ◌/ᵠ◌, -ᵠ◌, ◌//◌}
use Rattle.base_exact.specs.Order.{is_zero, ltᵠ}
use Rattle.base_exact.specs.Floor.{floor}
use Rattle.base_exact.specs.Tabulate.{tab}
use Rattle.base_exact.proofs.Integer.{≤_in, <_in}
use Rattle.base_exact.proofs.Order.{ltᵠ_true}
use Rattle.base_outcome.specs.Outcome.{answer, refusal, ◌then◌}
use Rattle.base_outcome.specs.Search.{first, last, how_many}
use Rattle.spec_spline.specs.Space.{first_column, conditions_before}
use Rattle.spec_spline.specs.Reading.{starts_at_discontinuity, starts_by, segment_at, Wood, earlywood, latewood, side_by_side, best}
use Rattle.spec_spline.specs.CurveCall.{bad_coefficient, values_after}
use Rattle.spec_spline.specs.Cases.{pair, space1}
use Rattle.spec_spline.specs.ExactCurve.{largest, most_weights, weighs_on, least_on}
use Rattle.spec_spline.proofs.Computing.{calling, exact_reading}
use Rattle.theorems_weights.proofs.Instances.{lent, lent_length}
use Rattle.theorems_values.proofs.Instances.{accepted1, inside1}
use Rattle.spec_calls.specs.Indices.{ring_positions, is_refused, bad_ring, index_of, ring_indices, rings_read, rings_indexed, indices_returned, indices_after, RingsCall, indices_end}
use Rattle.theorems_indices.specs.Rings.{value_cell, index_cell, CurveIsLegal, exact_under, error_under}
use Rattle.theorems_rings.specs.ExactIndices.{exact_index, lower_index, upper_index, least_under}
use Rattle.theorems_rings.proofs.ExactIndices.{exact-index_is_at_least, exact-index_is_at_most, index_is_within_one, fourteen_is_legal}

abbrev coefs : List ℤ
coefs = side_by_side (pair (pos 100) (negsuc 0) ∷ pair (pos 100) (negsuc 0) ∷ pair (pos 200) (negsuc 0) ∷ pair (pos 100) (negsuc 0) ∷ [])

abbrev call : Wood → RingsCall
call wood = record {
  wood = wood;
  space = space1;
  coefs = coefs;
  first_ring = pos 1;
  widths = pos 50 ∷ pos 0 ∷ [];
  num = lent;
  den = lent;
  values = pos 5 ∷ pos 6 ∷ pos 7 ∷ pos 8 ∷ [];
  indices = pos 6 ∷ pos 7 ∷ [];
}

unfoldable legal : (wood : Wood) → CurveIsLegal (call wood)
unfolding ring_positions tab first_column conditions_before side_by_side bad_coefficient
legal wood = record {
  accepted = accepted1;
  coefficient_count = refl;
  coefficients = within;
  position_count = omega arith;
  in_span = inside1;
  numerators = omega (arith, lent_length);
  denominators = omega (arith, lent_length);
  values = omega arith;
}
  where
    within : (i : ℕ) → i < 8 → T (not (bad_coefficient coefs i))
    within zero h = tt
    within (suc zero) h = tt
    within (suc (suc zero)) h = tt
    within (suc (suc (suc zero))) h = tt
    within (suc (suc (suc (suc zero)))) h = tt
    within (suc (suc (suc (suc (suc zero))))) h = tt
    within (suc (suc (suc (suc (suc (suc zero)))))) h = tt
    within (suc (suc (suc (suc (suc (suc (suc zero))))))) h = tt
    within (suc (suc (suc (suc (suc (suc (suc (suc i)))))))) h = absurd (omega arith)

-- ---- what the definitions give there

with_lent : {A : Type 0} (f : ℕ → ℕ → A) → f (length lent) (length lent) ≡ f 6000 6000
with_lent f = ap₂ f lent_length lent_length

answers : (indices_end (call earlywood)).answers ≡ answer 2
unfolding calling ring_positions is_refused bad_ring ring_indices rings_read rings_indexed
answers = with_lent (λ n d. indices_returned (rings_read space1 coefs (pos 1) (pos 50 ∷ pos 0 ∷ []) n d 4 2 then rings_indexed earlywood (pos 50 ∷ pos 0 ∷ [])))

index : index_cell (call earlywood) 0 ≡ pos 374
unfolding calling ring_positions is_refused bad_ring index_of ring_indices rings_read rings_indexed indices_after
index = with_lent (λ n d. get_or (indices_after (rings_read space1 coefs (pos 1) (pos 50 ∷ pos 0 ∷ []) n d 4 2 then rings_indexed earlywood (pos 50 ∷ pos 0 ∷ [])) (pos 6 ∷ pos 7 ∷ [])) 0 (pos 0))

value : value_cell (call earlywood) 0 ≡ pos 34134
unfolding calling ring_positions rings_read values_after
value = with_lent (λ n d. get_or (values_after (rings_read space1 coefs (pos 1) (pos 50 ∷ pos 0 ∷ []) n d 4 2) (pos 5 ∷ pos 6 ∷ pos 7 ∷ pos 8 ∷ [])) 0 (pos 0))

exact : exact_under (call earlywood) (legal earlywood) 0 ≡ pos 102400 // 2
unfolding legal accepted1 exact_reading
exact = refl

error : error_under (call earlywood) (legal earlywood) 0 ≡ int (pos 2)
unfolding legal accepted1 gcd gcd_f mk int inv ◌*ᵠ◌ ◌//◌ is_zero first_column last starts_at_discontinuity starts_by segment_at how_many largest most_weights
error = refl

least : least_under (call earlywood) (legal earlywood) 0 ≡ pos 100
unfolding legal accepted1 gcd gcd_f mk int ◌//◌ is_zero first_column last starts_at_discontinuity starts_by segment_at first best weighs_on least_on side_by_side
least = refl

exact-index : exact_index (call earlywood) (legal earlywood) 0 ≡ pos 375
unfolding gcd gcd_f mk int inv ◌*ᵠ◌ ◌//◌ is_zero floor
exact-index = ap (λ x. floor (int (pos 12800000) /ᵠ x)) exact

present : pos 50 ≢ pos 0
present e = let z : ◌≡◌ {A = ℕ} 50 0 = ap nat_abs e in omega arith

-- ---- what the theorems say there

one_apart : nat_abs (pos 374 -ℤ pos 375) ≤ 1
one_apart = subst (λ z. nat_abs (pos 374 -ℤ z) ≤ 1) exact-index (subst (λ z. nat_abs (z -ℤ exact_index (call earlywood) (legal earlywood) 0) ≤ 1) index
    (index_is_within_one (call earlywood) (legal earlywood) 2 answers 0 (omega arith) present (rw least (<_in (pos 0) (pos 100) (omega arith)))
    (rw least (<_in (pos 6250) (pos 80000) (omega arith)))))

lower : lower_index (call earlywood) (legal earlywood) 0 ≡ pos 374
unfolding gcd gcd_f mk int inv ◌+ᵠ◌ ◌*ᵠ◌ ◌//◌ is_zero floor
lower = ap₂ (λ v e. floor (int (pos 12800000) /ᵠ (int v +ᵠ e))) value error

upper : upper_index (call earlywood) (legal earlywood) 0 ≡ pos 375
unfolding gcd gcd_f mk int inv ◌+ᵠ◌ ◌*ᵠ◌ -ᵠ◌ ◌//◌ is_zero floor
upper = ap₂ (λ v e. floor (int (pos 12800000) /ᵠ (int v -ᵠ e))) value error

at-least : pos 374 ≤ℤ pos 375
unfolding gcd gcd_f mk int ◌//◌ ltᵠ
at-least = subst (λ z. z ≤ℤ pos 375) lower (subst (λ z. lower_index (call earlywood) (legal earlywood) 0 ≤ℤ z) exact-index
    (exact-index_is_at_least (call earlywood) (legal earlywood) (omega arith) 0 (omega arith) (≤_in (pos 0) (pos 50) (omega arith)) (rw exact (ltᵠ_true _ _ refl))))

at-most : pos 375 ≤ℤ pos 375
unfolding gcd gcd_f mk int ◌//◌ ltᵠ
at-most = subst (λ z. z ≤ℤ pos 375) exact-index (subst (λ z. exact_index (call earlywood) (legal earlywood) 0 ≤ℤ z) upper
    (exact-index_is_at_most (call earlywood) (legal earlywood) (omega arith) 0 (omega arith) (≤_in (pos 0) (pos 50) (omega arith)) (rw (error, value) (ltᵠ_true _ _ refl))))

-- ---- 14 by the latewood

fourteen : (indices_end (call latewood)).answers ≡ refusal 14 0
unfolding calling ring_positions is_refused bad_ring ring_indices rings_read rings_indexed
fourteen = with_lent (λ n d. indices_returned (rings_read space1 coefs (pos 1) (pos 50 ∷ pos 0 ∷ []) n d 4 2 then rings_indexed latewood (pos 50 ∷ pos 0 ∷ [])))

fourteen_legal : CurveIsLegal (call latewood) × (2 ≤ 2)
fourteen_legal = fourteen_is_legal (call latewood) 0 fourteen
