-- The two columns that meet at a join of order 0 or more have the same weights; so they have the same ordinate.
use mathlib.Core.Path.{◌≡◌, ◌∙◌, ap}
use Prim.Native.Nat.{ℕ, suc, ◌+◌, ◌<◌}
use native.Mathlib.Omega.{arith}
use lib.IntN.{ℤ}
use Rattle.spec_spline.specs.Space.{Space, segments, degree, first_column, condition_count}
use Rattle.spec_spline.specs.Table.{cell}
use Rattle.spec_spline.specs.Piecewise.{Accepted}
use Rattle.spec_spline.specs.Reading.{ordinate}
use Rattle.theorems_acceptance.proofs.ClosedForms.{join-ordinates-agree}
use Rattle.theorems_promises.proofs.PartOrdinates.{ordinate-same}

pub ordinates_meet : (s : Space) (a : Accepted s) (f : ℕ → ℤ) (j : ℕ) → suc j < segments s → 0 < condition_count s j
    → ordinate a.table f (first_column s j + degree s j) ≡ ordinate a.table f (first_column s (suc j) + 0)
ordinates_meet s a f j h l =
    ordinate-same a.table f _ _ (λ i. join-ordinates-agree s a j h l i
    ∙ ap (cell a.table i) (let z : first_column s (suc j) ≡ first_column s (suc j) + 0 = omega arith in z))
