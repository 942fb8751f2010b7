-- `put_sign` meets its contract: one store below zero, none otherwise.
use borrow.Author.Rules.{rules}
use native.Mathlib.Omega.{arith}
use mathlib.Core.Path.{◌≡◌, ap}
use mathlib.Core.List.{[], ◌∷◌}
use lib.ListN.{length}
use Rattle.base_exact.proofs.Word.{to_z-of_z, lt_z_true, lt_z_false}
use Rattle.base_text.specs.Bytes.{minus}
use Rattle.base_print.proofs.Buffer.{written_byte}
use Rattle.spec_table.specs.Decimals.{sign}
use Rattle.tucson_putting.proofs.Wrote.{wrote_none, wrote_as}
use Rattle.table_numbers.proofs.Digits.{sign_below, sign-none}
use Rattle.table_numbers.proofs.put_sign.Statement.{statement}
use Rattle.table_numbers.proofs.put_sign.Tie as tie

minus_is : (c : tie.Then-z-lt0) → minus ∷ [] ≡ sign c.args.z
minus_is c = let f = c.ranges.z in sign_below c.args.z (lt_z_true _ _ (simp to_z-of_z at c.if-z-lt0.true))

slice-write-out : tie.Need-bounds-out-at
slice-write-out c = omega (arith, ap length (minus_is c), c.requires)

returns : tie.Need-returns-then-z-lt0
returns c = wrote_as (minus_is c) (record { contents = written_byte _ _ _; behind = omega arith })

returns-2 : tie.Need-returns
returns-2 c =
    let f = c.ranges.z in
    wrote_as (sign-none c.args.z (lt_z_false _ _ (simp to_z-of_z at c.if-z-lt0.false))) (wrote_none _ _)

pub put_sign_spec : {M : Type 1} → statement M
put_sign_spec = tie.close (tie.spec slice-write-out (λ c. search rules) (λ c. search rules) returns returns-2)
