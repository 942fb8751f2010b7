-- Every value is near the exact curve: the closeness of § 7 with s at most three and p at most five.
use mathlib.Core.Path.{sym, subst}
use Prim.Native.Nat.{ℕ, zero, suc, ◌+◌, ◌*◌, ◌<◌, ◌≤◌}
use native.Mathlib.Omega.{arith}
use lib.IntN.{ℤ, pos}
use lib.ListN.{get_or}
use Rattle.base_exact.specs.Rational.{int, ◌*ᵠ◌, ◌/ᵠ◌}
use Rattle.base_exact.specs.Order.{◌≤ᵠ◌}
use Rattle.base_exact.proofs.Integer.{≤_in}
use Rattle.base_exact.proofs.Rational.{div_mul, int_mul, int_nonzero}
use Rattle.base_exact.proofs.Order.{≤_trans, +_mono, *_cancel, ≤-refl, int_mono, pos_int}
use Rattle.spec_spline.specs.Space.{Space, segments, degree, first_column}
use Rattle.spec_spline.specs.Piecewise.{Accepted}
use Rattle.spec_spline.specs.Reading.{segment_at}
use Rattle.spec_spline.specs.ExactCurve.{largest, most_weights}
use Rattle.spec_spline.proofs.Space.{segment-column}
use Rattle.theorems_values.specs.ValueLimits.{InSpan, closeness}
use Rattle.theorems_values.proofs.Segment.{accepted-checked, located}
use Rattle.theorems_values.proofs.Cells.{position-inside, cells_are_close}
use Rattle.theorems_acceptance.specs.WeightCount.{weight_limit, weight_count}
use Rattle.theorems_acceptance.specs.Values.{unit_limit, ValuesAreNear}
use Rattle.theorems_stages.proofs.Limits.{limits}
use Rattle.theorems_acceptance.proofs.WeightCount.{at_most_three_weights}

largest_at_most : (n b : ℕ) (f : ℕ → ℕ) → ((i : ℕ) → i < n → f i ≤ b) → largest n f ≤ b
unfolding largest
largest_at_most zero b f h = omega arith
largest_at_most (suc n) b f h = omega (arith, largest_at_most n b f (λ i l. h i (omega arith)), h n (omega arith))

-- s of a segment
pub most_weights_three : (s : Space) (a : Accepted s) (j : ℕ) → j < segments s → most_weights s a.table j ≤ weight_limit
unfolding most_weights
most_weights_three s a j h =
    largest_at_most (suc (degree s j)) weight_limit (λ u. weight_count a.table (first_column s j + u))
    (λ u l. at_most_three_weights s a (first_column s j + u) (segment-column s j u h (omega arith)))

-- half of a number that is at most twice another
half_at_most : (n m : ℕ) → n ≤ m * 2 → int (pos n) /ᵠ int (pos 2) ≤ᵠ int (pos m)
half_at_most n m h =
    *_cancel (pos_int 1) (subst (λ q. q ≤ᵠ int (pos m) *ᵠ int (pos 2)) (sym (div_mul (int (pos n)) (int (pos 2)) (int_nonzero 1)))
    (subst (λ q. int (pos n) ≤ᵠ q) (int_mul (pos m) (pos 2)) (int_mono (≤_in _ _ (omega arith)))))

-- (s + p)/2 of the position's segment
pub closeness_at_most_four : (s : Space) (a : Accepted s) (x : ℤ) → InSpan s x → closeness s a.table x ≤ᵠ int (pos unit_limit)
closeness_at_most_four s a x inside = let c = (accepted-checked s a).1 in let b = (located s c x inside).below in
    half_at_most (most_weights s a.table (segment_at s x) + degree s (segment_at s x)) unit_limit (omega (arith, most_weights_three s a (segment_at s x) b, (limits s c).low_degree (segment_at s x) b))

pub values_are_near : ValuesAreNear
values_are_near s coefs positions num_length den_length values_length l before k h part =
    let c = cells_are_close s coefs positions num_length den_length values_length l before k h part in
    let e = closeness_at_most_four s l.accepted (get_or positions k (pos 0)) (position-inside s positions k (l.in_span k h)) in
    record { exact_at_most = ≤_trans c.exact_at_most (+_mono (≤-refl _) e); at_most_exact = ≤_trans c.at_most_exact (+_mono (≤-refl _) e) }
