-- Names for the definitions that an example of the published construction is computed with: under `unfolding publishing` all that
-- its weights are worked out with computes, and `refl` finds them.
use Rattle.base_outcome.specs.Search.{first, last}
use Rattle.spec_spline.specs.Space.{first_column}
use Rattle.spec_spline.specs.Table.{identity}
use Rattle.spec_spline.proofs.Computing.{fractions}
use Rattle.spec_published.specs.Published.{derivative_coefficient, left_constraint, right_constraint, constraint, constraints, diagonal, above_diagonal}
use Rattle.spec_published.specs.Published.{bidiagonal, nullspace, product, constrain, for, smooth, extraction}

-- a constraint of the published construction, and the whole of it
unfoldable pub constraining : Unit {0}
unfolding fractions first last first_column identity derivative_coefficient left_constraint right_constraint constraint constraints
constraining = tt

unfoldable pub publishing : Unit {0}
unfolding constraining diagonal above_diagonal bidiagonal nullspace product constrain for smooth extraction
publishing = tt
