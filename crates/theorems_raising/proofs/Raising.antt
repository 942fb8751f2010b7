-- Raised coefficients lower no value, proved: the move by nothing at all.
use mathlib.Core.Path.{◌≡◌, sym, subst}
use native.Mathlib.Omega.{arith}
use lib.IntN.{ℤ, pos, ◌+ℤ◌}
use lib.ListN.{length}
use lib.Signed.{◌≤ℤ◌}
use Rattle.base_exact.proofs.Integer as Z
use Rattle.spec_spline.specs.Space.{Space}
use Rattle.spec_spline.specs.Piecewise.{Accepted}
use Rattle.spec_spline.specs.Reading.{segment_at, coefficient, value_at}
use Rattle.theorems_weights.proofs.Built.{built, row_count_lem}
use Rattle.theorems_values.proofs.Segment.{accepted-checked, located}
use Rattle.theorems_values.proofs.Cells.{cell-holds-value, position-inside}
use Rattle.theorems_raising.specs.Raising.{RaisedCoefficientsLowerNoValue, RaisedCells}
use Rattle.theorems_raising.proofs.Ordinates.{sum-raised}
use Rattle.theorems_raising.proofs.Values.{blended_moves}

-- by nothing more
plus-nothing : (x y : ℤ) → x ≤ℤ y → x ≤ℤ (y +ℤ pos 0)
plus-nothing x y h = subst (λ z. x ≤ℤ z) (sym (Z.+-zero y)) h

less-nothing : (x y : ℤ) → x ≤ℤ (y +ℤ pos 0) → x ≤ℤ y
less-nothing x y h = subst (λ z. x ≤ℤ z) (Z.+-zero y) h

pub raised_coefficients_lower_no_value : RaisedCoefficientsLowerNoValue
unfolding value_at
raised_coefficients_lower_no_value s a wood other coefs raised x inside h =
    less-nothing _ _
    (blended_moves s a x (segment_at s x) (located s (accepted-checked s a).1 x inside) (coefficient other raised) (coefficient wood coefs) (pos 0) (pos 0) (Z.≤-refl (pos 0))
    (λ i l w. plus-nothing _ _ (h i l w))
    (λ k l C off. plus-nothing _ _
    (sum-raised a.table _ C (coefficient wood coefs) (coefficient other raised) (length a.table) (λ i m w. less-nothing _ _ (off i m w)))))

-- an accepted space has one table
pub one_table : (s : Space) (a b : Accepted s) → a.table ≡ b.table
one_table s a b = let e = a.is in let h = b.is in cc

pub raised-cells : RaisedCells
raised-cells s coefs raised positions num_length den_length values_length l m held before wood other h k below =
    rw (cell-holds-value l held k below wood, cell-holds-value m before k below other)
    (subst (λ t. value_at s l.accepted.table wood coefs _ ≤ℤ value_at s t other raised _) (one_table s l.accepted m.accepted)
    (raised_coefficients_lower_no_value s l.accepted wood other coefs raised _ (position-inside s positions k (l.in_span k below))
    (λ i n w. h i (omega (arith, row_count_lem s l.accepted.table (built s l.accepted.table l.accepted.is))))))
