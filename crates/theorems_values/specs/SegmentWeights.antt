-- An accepted space has weight on every segment, so that the least and the greatest coefficient with weight on a segment are
-- coefficients: the 0 that stands for none in `leastOn` and `greatestOn` never acts.
use Rattle.std.specs.Prelude.{◌≡◌, true, List, ℕ, ◌<◌, ℤ, length}
use Rattle.std.proofs.Math.Option.{some}
use Rattle.spec_spline.specs.Space.{Space, segments}
use Rattle.spec_spline.specs.Table.{Table}
use Rattle.spec_spline.specs.Piecewise.{Accepted}
use Rattle.spec_spline.specs.Reading.{Wood, coefficient, least, greatest}
use Rattle.spec_spline.specs.ExactCurve.{weighs_on, least_on, greatest_on}

-- A row with weight on segment j.
pub record WeightOn (s : Space) (w : Table) (j : ℕ) : Type 0 where
  pub row : ℕ
  pub below : row < length w
  pub weighs : weighs_on s w j row ≡ true

-- Every segment of an accepted space has one.
abbrev pub EverySegmentHasWeight : Type 0
EverySegmentHasWeight = (s : Space) (a : Accepted s) (j : ℕ) → j < segments s → WeightOn s a.table j

-- There is a least coefficient with weight on the segment.
abbrev pub LeastOnIsLeast : Type 0
LeastOnIsLeast = (s : Space) (a : Accepted s) (wood : Wood) (coefs : List ℤ) (j : ℕ) → j < segments s
    → least (length a.table) (weighs_on s a.table j) (coefficient wood coefs) ≡ some (least_on s a.table wood coefs j)

-- And a greatest.
abbrev pub GreatestOnIsGreatest : Type 0
GreatestOnIsGreatest = (s : Space) (a : Accepted s) (wood : Wood) (coefs : List ℤ) (j : ℕ) → j < segments s
    → greatest (length a.table) (weighs_on s a.table j) (coefficient wood coefs) ≡ some (greatest_on s a.table wood coefs j)
