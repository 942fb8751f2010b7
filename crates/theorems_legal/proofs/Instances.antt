-- With numbers: the space 0, 67, 70 with degrees 3, 5 and order 2, which 8 refuses. The combination of its rows with the multipliers 1 to 7 has the same second
-- derivative from both sides of its join, and it is one combination in one way.
use mathlib.Core.Path.{◌≡◌, refl}
use mathlib.Core.List.{List, [], ◌∷◌}
use native.Mathlib.Omega.{arith}
use lib.IntN.{pos}
use Rattle.base_exact.specs.Rational.{ℚ, int}
use Rattle.base_outcome.specs.Outcome.{answer, refusal}
use Rattle.spec_spline.specs.Space.{Space, checked, column_count}
use Rattle.spec_spline.specs.Table.{Row}
use Rattle.spec_spline.specs.Build.{weights}
use Rattle.spec_spline.specs.Piecewise.{combination}
use Rattle.spec_published.specs.Published.{extraction}
use Rattle.spec_spline.specs.Cases.{space}
use Rattle.spec_spline.proofs.Computing.{building, checking}
use Rattle.theorems_weights.specs.PublishedBasis.{OneCombination}
use Rattle.theorems_smoothness.specs.Smoothness.{left_derivative, right_derivative}
use Rattle.theorems_legal.proofs.Smoothness.{legal_combinations_are_smooth, legal_smooth_curves_are_combinations}

abbrev refused : Space
refused = space (0 ∷ 67 ∷ 70 ∷ []) (3 ∷ 5 ∷ []) (pos 2 ∷ [])

legal : checked refused ≡ answer refused
unfolding checking
legal = refl

eight : weights refused ≡ refusal 8 0
unfolding building
eight = refl

abbrev multipliers : List ℚ
multipliers = int (pos 1) ∷ int (pos 2) ∷ int (pos 3) ∷ int (pos 4) ∷ int (pos 5) ∷ int (pos 6) ∷ int (pos 7) ∷ []

abbrev curve : Row
curve = combination (column_count refused) multipliers (extraction refused)

second_derivatives : left_derivative refused curve 0 2 ≡ right_derivative refused curve 0 2
second_derivatives = (legal_combinations_are_smooth refused legal multipliers).agree 0 2 (omega arith) (omega arith)

one_way : OneCombination refused (extraction refused) curve
one_way = legal_smooth_curves_are_combinations refused legal curve (legal_combinations_are_smooth refused legal multipliers)
