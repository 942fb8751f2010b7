-- At row i the array holds the jumps of the rows before it.
use mathlib.Core.Path.{◌≡◌}
use mathlib.Core.List.{List}
use Prim.Native.Nat.{ℕ}
use Rattle.base_exact.specs.Rational.{ℚ}
use Rattle.base_outcome.specs.Outcome.{Outcome, answer, collect}
use Rattle.spec_spline.specs.Space.{Space}
use Rattle.spec_spline.specs.Conditions.{conditions}
use Rattle.spec_spline.specs.Table.{Table, row}
use Rattle.spec_spline.specs.Step.{jump}
use Rattle.build_cells.specs.Held.{Holds}
use Rattle.build_conditions.specs.Sides.{JoinIs}
use Rattle.base_fraction.specs.Fractions.{fractions}
use Rattle.base_fraction.specs.declared.arrays.Fractions.{Fractions}
use Rattle.build_jumps.proofs.jumps.Given as goal

-- the jump of row n at join j of the space, by the conditions of order k
abbrev pub row_jump : Space → ℕ → ℕ → Table → ℕ → Outcome ℚ
row_jump s j k t n = jump j (conditions s j k) (row t n)

-- the jumps of the rows before i
pub record Collected (s : Space) (j k : ℕ) (t : Table) (js : Fractions) (i : ℕ) : Type 0 where
  pub done : List ℚ
  pub collects : collect i (row_jump s j k t) ≡ answer done
  pub js_is : js ≡ fractions done

abbrev pub invariant-loop-i : goal.invariant-loop-i
invariant-loop-i l = (s : Space) (j : ℕ) (t : Table) → JoinIs l.join s j → Holds l.num l.den t → Collected s j l.k t l.js l.i
