-- `build_space::condition_count` meets its contract: a legal order is not below -1. Assumes nothing.
use borrow.Author.Rules.{rules}
use native.Mathlib.Omega.{arith}
use mathlib.Core.List.{[]}
use lib.IntN.{pos, ◌+ℤ◌}
use lib.ListN.{get_or}
use mir.Syntax.{w32}
use mir.Val.{SFits}
use Rattle.base_exact.proofs.Word.{to_z-of_z, sfits_abs}
use Rattle.build_space.specs.Machine.{space}
use Rattle.build_space.proofs.Bounds.{condition_count_is, condition_count-high}
use Rattle.build_space.proofs.condition_count.Statement.{statement}
use Rattle.build_space.proofs.condition_count.Tie as tie

order-fits : (c : tie.After-result-1) → SFits w32 (get_or c.before.args.orders.now c.before.args.i (pos 0))
order-fits c = record { sfits = c.result-1.given }

count_fits : (c : tie.Start) → SFits w32 (get_or c.args.orders.now c.args.i (pos 0) +ℤ pos 1)
count_fits c = sfits_abs (omega (arith, condition_count-high (space [] [] c.args.orders.now) c.requires.1 c.args.i c.requires.0))

cast-result : tie.Need-overflow_cast-result
cast-result c =
    let f = order-fits c in
    let g = count_fits c.before in
    let i = c.before.args.i in
    let s = space [] [] c.before.args.orders.now in
    simp to_z-of_z (rw (condition_count_is s c.before.requires.1 i c.before.requires.0) (tt, omega (arith, condition_count-high s c.before.requires.1 i c.before.requires.0)))

pub condition_count_spec : {M : Type 1} → statement M
condition_count_spec =
    tie.close (tie.spec (λ c. search rules) (λ c. search rules) (λ c. let f = order-fits c in simp to_z-of_z (count_fits c.before))
    cast-result (λ c. let f = order-fits c in let g = count_fits c.before in simp to_z-of_z))
