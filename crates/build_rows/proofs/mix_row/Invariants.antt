-- Before the turn at c the cells of row i up to column c hold their new entries, and every other cell what it held.
use mathlib.Core.Path.{◌≡◌}
use mathlib.Core.List.{List}
use Prim.Native.Nat.{ℕ, suc, ◌+◌, ◌*◌, ◌<◌}
use lib.IntN.{ℤ, pos}
use lib.ListN.{get_or}
use Rattle.base_exact.specs.Rational.{ℚ, den, int, ◌-ᵠ◌}
use Rattle.base_fraction.specs.Machine.{value}
use Rattle.base_fraction.specs.declared.Fraction.{Fraction}
use Rattle.base_outcome.specs.Outcome.{answer}
use Rattle.spec_spline.specs.Table.{Table, cell}
use Rattle.spec_spline.specs.Step.{new_entry}
use Rattle.build_cells.specs.Held.{Holds}
use Rattle.build_cells.proofs.Region.{Written}
use Rattle.build_entry.proofs.Mixing.{mixture}
use Rattle.build_rows.proofs.mix_row.Given as goal

-- the new entry of row i and column c
abbrev pub mixed : Fraction → ℚ → Table → ℕ → ℕ → ℚ
mixed w v t i c = mixture (value w) v (cell t i c) (cell t (suc i) c)

-- the entry of column c is answered, and its cell holds it
pub record Made (num dens : List ℤ) (i : ℕ) (w : Fraction) (t : Table) (j : ℕ) (v : ℚ) (c : ℕ) : Type 0 where
  pub answers : new_entry j (value w) v (cell t i c) (cell t (suc i) c) ≡ answer (mixed w v t i c)
  pub num_is : get_or num (72 * i + c) (pos 0) ≡ (mixed w v t i c).num
  pub den_is : get_or dens (72 * i + c) (pos 0) ≡ pos (den (mixed w v t i c))

pub record Inv (num₀ den₀ : List ℤ) (i : ℕ) (w u : Fraction) (num dens : List ℤ) (c : ℕ) : Type 0 where
  pub num_written : Written num₀ num (72 * i) (72 * i + c)
  pub den-written : Written den₀ dens (72 * i) (72 * i + c)
  pub made : (t : Table) (j : ℕ) (v : ℚ) → Holds num₀ den₀ t → value u ≡ int (pos 1) -ᵠ v → (d : ℕ) → d < c → Made num dens i w t j v d

abbrev pub invariant-loop-c : goal.invariant-loop-c
invariant-loop-c l = Inv l.fn.num l.fn.den l.i l.w l.u l.num l.den l.c
