-- Before the turn at i the sum is that of the rows before it.
use mathlib.Core.Path.{◌≡◌}
use mathlib.Core.List.{List}
use Prim.Native.Nat.{ℕ}
use Rattle.base_exact.specs.Rational.{ℚ}
use Rattle.base_fraction.specs.Machine.{fraction, value, FractionFits}
use Rattle.base_fraction.specs.Fractions.{fractions}
use Rattle.base_fraction.specs.declared.Fraction.{Fraction}
use Rattle.base_fraction.specs.declared.arrays.Fractions.{Fractions}
use Rattle.base_outcome.specs.Outcome.{answer}
use Rattle.spec_calls.specs.Recovery.{jump_sum}
use Rattle.recover_balance.proofs.balanced.Given as goal

pub record Inv (js cs : Fractions) (sum : Fraction) (i : ℕ) : Type 0 where
  pub fitted : FractionFits sum
  pub lowest : sum ≡ fraction (value sum)
  pub state : (j : ℕ) (qs ps : List ℚ) → js ≡ fractions qs → cs ≡ fractions ps → jump_sum j qs ps i ≡ answer (value sum)

abbrev pub invariant-loop-i : goal.invariant-loop-i
invariant-loop-i l = Inv l.js l.cs l.sum l.i
