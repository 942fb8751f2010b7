-- Exact ordinates with numbers: on W5's space, of order 2, the multipliers 4, 4, 2, 0, 0 give the ordinates 4, 4, 3, 2, 2, 1, 0, 0: 2 is not above 3.
use mathlib.Core.Path.{◌≡◌, refl, subst}
use mathlib.Core.List.{List, [], ◌∷◌}
use Prim.Native.Nat.{ℕ, zero, suc, ◌<◌}
use native.Mathlib.Omega.{arith}
use lib.IntN.{pos}
use Rattle.base_exact.specs.Gcd.{gcd, gcd_f}
use Rattle.base_exact.specs.Rational.{ℚ, mk, int, inv, ◌+ᵠ◌, ◌*ᵠ◌, -ᵠ◌, ◌//◌}
use Rattle.base_exact.specs.Order.{◌≤ᵠ◌, leᵠ}
use Rattle.base_exact.specs.Sum.{sum}
use Rattle.base_exact.specs.Tabulate.{tab}
use Rattle.base_exact.proofs.Order.{leᵠ_true}
use Rattle.spec_spline.specs.Space.{first_column, conditions_before}
use Rattle.spec_spline.specs.Table.{Row, entry}
use Rattle.spec_spline.specs.Piecewise.{combination}
use Rattle.spec_spline.specs.Cases.{space5}
use Rattle.theorems_weights.proofs.Instances.{q0, q1, table5, accepted5}
use Rattle.theorems_ordinates.specs.FallingOrdinates.{DoNotRise}
use Rattle.theorems_ordinates.proofs.FallingOrdinates.{exact-ordinates_fall}

abbrev listed : List ℚ
listed = int (pos 4) ∷ int (pos 4) ∷ int (pos 2) ∷ q0 ∷ q0 ∷ []

abbrev made : Row
made = int (pos 4) ∷ int (pos 4) ∷ int (pos 3) ∷ int (pos 2) ∷ int (pos 2) ∷ q1 ∷ q0 ∷ q0 ∷ []

ordinates : combination 8 listed table5 ≡ made
unfolding gcd gcd_f mk int ◌+ᵠ◌ ◌*ᵠ◌ ◌//◌ sum tab combination
ordinates = refl

falling : DoNotRise space5 listed
unfolding first_column conditions_before gcd gcd_f mk int inv ◌+ᵠ◌ ◌*ᵠ◌ -ᵠ◌ ◌//◌ leᵠ
falling zero h = leᵠ_true (int (pos 4)) (int (pos 4)) refl
falling (suc zero) h = leᵠ_true (int (pos 2)) (int (pos 4)) refl
falling (suc (suc zero)) h = leᵠ_true (int (pos 0)) (int (pos 2)) refl
falling (suc (suc (suc zero))) h = leᵠ_true (int (pos 0)) (int (pos 0)) refl
falling (suc (suc (suc (suc i)))) h = absurd (omega arith)

fall : int (pos 2) ≤ᵠ int (pos 3)
unfolding accepted5 first_column
fall = subst (λ o. entry o 3 ≤ᵠ entry o 2) ordinates (exact-ordinates_fall space5 accepted5 listed falling 2 (omega arith))
