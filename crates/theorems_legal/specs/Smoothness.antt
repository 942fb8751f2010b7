-- In every space whose lists are legal, whatever the size of its fractions, the combinations of the published construction's rows are
-- exactly the piecewise curves whose one-sided derivatives agree at every join up to its order, each in one way. Crate
-- theorems_smoothness has this of accepted spaces.
use Rattle.std.specs.Prelude.{List}
use Rattle.base_exact.specs.Rational.{ℚ}
use Rattle.spec_spline.specs.Space.{Space, column_count}
use Rattle.spec_spline.specs.Table.{Row}
use Rattle.spec_spline.specs.Piecewise.{combination}
use Rattle.spec_published.specs.Published.{extraction}
use Rattle.theorems_weights.specs.PublishedBasis.{OneCombination}
use Rattle.theorems_smoothness.specs.Smoothness.{Smooth}
use Rattle.theorems_basis.specs.Basis.{LegalLists}

abbrev pub LegalCombinationsAreSmooth : Type 0
LegalCombinationsAreSmooth = (s : Space) → LegalLists s → (multipliers : List ℚ)
    → Smooth s (combination (column_count s) multipliers (extraction s))

abbrev pub LegalSmoothCurvesAreCombinations : Type 0
LegalSmoothCurvesAreCombinations = (s : Space) → LegalLists s → (o : Row) → Smooth s o → OneCombination s (extraction s) o
