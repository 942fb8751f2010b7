-- `year_at` meets its contract: 32 bits and a place below 2^62 stay far within 64 bits.
use borrow.Author.Rules.{rules}
use native.Mathlib.Omega.{arith}
use lib.IntN.{pos, ◌+ℤ◌}
use mir.Syntax.{w32, w64}
use mir.Val.{SFits}
use Rattle.base_exact.proofs.Word.{to_z-of_z, to_z_pos, sfits_widen, sfits_abs, sfits_nat, abs_sfits, abs-add}
use Rattle.table_lines.proofs.year_at.Statement.{statement}
use Rattle.table_lines.proofs.year_at.Tie as tie

module _ (c : tie.Start) where
  narrow : SFits w32 c.args.first
  narrow = c.ranges.first

  wide : SFits w64 c.args.first
  wide = sfits_widen narrow

  place : SFits w64 (pos c.args.j)
  place = sfits_nat c.args.j (omega (arith, c.requires))

  sum : SFits w64 (c.args.first +ℤ pos c.args.j)
  sum = sfits_abs (omega (arith, c.requires, abs_sfits narrow, abs-add c.args.first (pos c.args.j)))

cast-result : tie.Need-overflow_cast-result
cast-result c = let f = narrow c in simp to_z-of_z (wide c)

add-result : tie.Need-overflow_add-result
add-result c =
    let f = narrow c in
    let g = wide c in
    simp (to_z-of_z, to_z_pos w64 c.args.j (place c).sfits) (sum c)

returns : tie.Need-returns
returns c =
    let f = narrow c in
    let g = wide c in
    let h = sum c in
    simp (to_z-of_z, to_z_pos w64 c.args.j (place c).sfits)

pub year_at_spec : {M : Type 1} → statement M
year_at_spec = tie.close (tie.spec cast-result (λ c. search rules) add-result returns)
