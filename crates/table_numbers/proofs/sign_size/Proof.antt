-- `sign_size` meets its contract: one byte below zero, none otherwise.
use native.Mathlib.Omega.{arith}
use mathlib.Core.Path.{ap}
use lib.ListN.{length}
use Rattle.base_exact.proofs.Word.{to_z-of_z, lt_z_true, lt_z_false}
use Rattle.table_numbers.proofs.Digits.{sign_below, sign-none}
use Rattle.table_numbers.proofs.sign_size.Statement.{statement}
use Rattle.table_numbers.proofs.sign_size.Tie as tie

returns : tie.Need-returns-then-z-lt0
returns c =
    let f = c.ranges.z in
    (ap length (sign_below c.args.z (lt_z_true _ _ (simp to_z-of_z at c.if-z-lt0.true))), omega arith)

returns-2 : tie.Need-returns
returns-2 c =
    let f = c.ranges.z in
    (ap length (sign-none c.args.z (lt_z_false _ _ (simp to_z-of_z at c.if-z-lt0.false))), omega arith)

pub sign_size_spec : {M : Type 1} → statement M
sign_size_spec = tie.close (tie.spec returns returns-2)
