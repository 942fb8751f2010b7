-- At entry e the sum is that of the products before it: what is left of the jump goes on from there.
use mathlib.Core.Path.{◌≡◌}
use mathlib.Core.List.{List}
use Prim.Native.Nat.{ℕ}
use lib.IntN.{ℤ, pos}
use lib.ListN.{drop}
use Rattle.base_exact.specs.Rational.{int}
use Rattle.base_fraction.specs.Machine.{fraction, value, FractionFits}
use Rattle.base_fraction.specs.declared.Fraction.{Fraction}
use Rattle.spec_spline.specs.Space.{Space}
use Rattle.spec_spline.specs.Conditions.{conditions}
use Rattle.spec_spline.specs.Table.{Table, row}
use Rattle.spec_spline.specs.Step.{add_products}
use Rattle.build_cells.specs.Held.{Holds}
use Rattle.build_conditions.specs.Sides.{JoinIs}
use Rattle.build_conditions.specs.declared.Join.{Join}
use Rattle.build_jumps.proofs.jump.Given as goal

pub record Inv (num den : List ℤ) (at : ℕ) (join : Join) (k : ℕ) (sum : Fraction) (e : ℕ) : Type 0 where
  pub fitted : FractionFits sum
  pub lowest : sum ≡ fraction (value sum)
  pub rest : (s : Space) (j : ℕ) (t : Table) → JoinIs join s j → Holds num den t
      → add_products j (row t at) (int (pos 0)) (conditions s j k) ≡ add_products j (row t at) (value sum) (drop e (conditions s j k))

abbrev pub invariant-loop-e : goal.invariant-loop-e
invariant-loop-e l = Inv l.num l.den l.at l.join l.k l.sum l.e
