-- Before the turn at i the rows from f up to i have their new coefficients.
use mathlib.Core.Path.{◌≡◌}
use mathlib.Core.List.{List}
use Prim.Native.Nat.{ℕ, ◌-◌, ◌≤◌}
use lib.ListN.{length}
use Rattle.base_exact.specs.Rational.{ℚ}
use Rattle.base_fraction.specs.Fractions.{fractions}
use Rattle.base_fraction.specs.declared.arrays.Fractions.{Fractions}
use Rattle.base_outcome.specs.Outcome.{answer}
use Rattle.build_factors.specs.Jumps.{AllFit}
use Rattle.spec_calls.specs.Recovery.{undone_rows}
use Rattle.recover_rows.proofs.Rows.{renewed}
use Rattle.recover_rows.proofs.undo_rows.Given as goal

-- the rows from f up to i are answered, and the arrays hold their coefficients among the old ones
pub record State (j : ℕ) (us ps : List ℚ) (f i : ℕ) (now : Fractions) : Type 0 where
  pub new : List ℚ
  pub answers : undone_rows j us ps f (i - f) ≡ answer new
  pub is : now ≡ fractions (renewed f ps new i)
  pub fit : AllFit ps → AllFit new

abbrev pub invariant-loop-i : goal.invariant-loop-i
invariant-loop-i l = (j : ℕ) (us ps : List ℚ) → l.ws ≡ fractions us → l.fn.cs ≡ fractions ps → l.l ≤ length ps
    → State j us ps l.f l.i l.now
