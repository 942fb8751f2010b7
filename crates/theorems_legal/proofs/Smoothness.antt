-- Smoothness in every legal space, proved: the published rows are a basis of what meets the join conditions, and these are smoothness.
use Rattle.theorems_smoothness.proofs.Smoothness.{conditions_are_smoothness}
use Rattle.theorems_basis.proofs.Basis.{published_is_a_basis}
use Rattle.theorems_legal.specs.Smoothness.{LegalCombinationsAreSmooth, LegalSmoothCurvesAreCombinations}

pub legal_combinations_are_smooth : LegalCombinationsAreSmooth
legal_combinations_are_smooth s e multipliers = let m = (published_is_a_basis s e).combinations_meet multipliers in
    record { columns = m.columns; agree = λ j k h l. (conditions_are_smoothness s e _ j k h l).0 (m.meets j k h l) }

pub legal_smooth_curves_are_combinations : LegalSmoothCurvesAreCombinations
legal_smooth_curves_are_combinations s e o m = (published_is_a_basis s e).one_combination o
    (record { columns = m.columns; meets = λ j k h l. (conditions_are_smoothness s e o j k h l).1 (m.agree j k h l) })
