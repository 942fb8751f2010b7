-- Before the turn at i the rows from f up to i are new and the others old.
use mathlib.Core.Path.{◌≡◌}
use mathlib.Core.Bool.{true}
use mathlib.Core.List.{List}
use Prim.Native.Nat.{ℕ, suc, ◌+◌, ◌-◌}
use lib.IntN.{ℤ}
use Rattle.base_exact.specs.Rational.{ℚ}
use Rattle.base_fraction.specs.Size.{fits}
use Rattle.base_fraction.specs.Fractions.{fractions}
use Rattle.base_outcome.specs.Outcome.{Outcome, answer, collect}
use Rattle.spec_spline.specs.Table.{Row, Table, row, cell, entry, numerators, denominators}
use Rattle.spec_spline.specs.Step.{new_row}
use Rattle.build_cells.specs.Held.{Holds, Shaped}
use Rattle.build_cells.proofs.Tables.{renewed}
use Rattle.build_rows.proofs.mix_rows.Given as goal

-- the new row f + d
abbrev pub made : ℕ → List ℚ → Table → ℕ → ℕ → Outcome Row
made j qs t f d = new_row j (entry qs d) (entry qs (suc d)) (row t (f + d)) (row t (f + suc d))

-- the rows from f up to i are answered, and the buffers hold them among the old ones
pub record State (num₀ den₀ num dens : List ℤ) (f i : ℕ) (t : Table) (j : ℕ) (qs : List ℚ) : Type 0 where
  pub new : Table
  pub answers : collect (i - f) (made j qs t f) ≡ answer new
  pub num_is : num ≡ numerators (renewed f t new i) num₀
  pub den_is : dens ≡ denominators (renewed f t new i) den₀
  pub fit : (k c : ℕ) → fits (cell (renewed f t new i) k c) ≡ true

abbrev pub invariant-loop-i : goal.invariant-loop-i
invariant-loop-i l = (t : Table) (j : ℕ) (qs : List ℚ) → Holds l.fn.num l.fn.den t → Shaped t l.rows l.columns → l.ws ≡ fractions qs
    → State l.fn.num l.fn.den l.num l.den l.f l.i t j qs
