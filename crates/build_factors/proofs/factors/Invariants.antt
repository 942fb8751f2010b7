-- At row i the sum is that of the jumps f to i - 1, and the array holds 1 and the factors of the rows f + 1 to i - 1.
use mathlib.Core.Path.{◌≡◌}
use mathlib.Core.List.{List, ◌∷◌}
use Prim.Native.Nat.{ℕ, ◌+◌, ◌-◌, ◌≤◌}
use lib.IntN.{pos}
use Rattle.base_exact.specs.Rational.{ℚ, int}
use Rattle.base_fraction.specs.Machine.{fraction, FractionFits}
use Rattle.base_fraction.specs.Fractions.{fractions}
use Rattle.base_fraction.specs.declared.Fraction.{Fraction}
use Rattle.base_fraction.specs.declared.arrays.Fractions.{Fractions}
use Rattle.base_outcome.specs.Outcome.{answer, collect}
use Rattle.spec_spline.specs.Step.{factor, partial_sum}
use Rattle.build_factors.proofs.factors.Given as goal

-- the factors of the rows f + 1 to i - 1, behind 1
pub record Collected (qs : List ℚ) (j f i : ℕ) (ws : Fractions) : Type 0 where
  pub done : List ℚ
  pub collects : collect (i - f - 1) (λ d. factor j qs f (f + 1 + d)) ≡ answer done
  pub ws_is : ws ≡ fractions (int (pos 1) ∷ done)

pub record Inv (js : Fractions) (f l : ℕ) (ws : Fractions) (sum : Fraction) (i : ℕ) : Type 0 where
  pub within : i - f - 1 ≤ l - f - 1
  pub fitted : FractionFits sum
  pub sum_is : (qs : List ℚ) → js ≡ fractions qs → sum ≡ fraction (partial_sum qs f (i - 1))
  pub rest : (qs : List ℚ) (j : ℕ) → js ≡ fractions qs → Collected qs j f i ws

abbrev pub invariant-loop-i : goal.invariant-loop-i
invariant-loop-i l = Inv l.js l.f l.l l.ws l.sum l.i
