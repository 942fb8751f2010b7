-- `put_decimal` meets its contract: the digits of the size, behind a minus where the number is below zero.
use borrow.Author.Rules.{rules}
use native.Mathlib.Omega.{arith}
use mathlib.Core.Path.{◌≡◌, sym, ap, ◌∙◌}
use mathlib.Core.Bool.{true, false}
use lib.IntN.{pos, nat_abs}
use lib.Signed.{lt_z}
use mir.Syntax.{w64}
use mir.Val.{SFits}
use Rattle.base_exact.proofs.Word.{to_z-of_z, lt_z_true, lt_z_false}
use mathlib.Core.List.{◌∷◌}
use Rattle.base_text.specs.Bytes.{minus}
use Rattle.base_text.specs.Numeral.{digits}
use Rattle.base_text.proofs.Decimal.{decimal_negative, decimal_natural}
use Rattle.base_print.proofs.Buffer.{puts_then, puts_within, puts_as}
use Rattle.base_print.proofs.put_decimal.Statement.{statement}
use Rattle.base_print.proofs.put_decimal.Tie as tie

returns : tie.Need-returns-then-z-lt0
returns c =
    let d = c.before.before.before.before.before.before in
    let m = d.before.before.before in
    let s = m.before.before in
    let f : SFits w64 s.args.z = s.ranges.z in
    let below : lt_z s.args.z (pos 0) ≡ true = simp to_z-of_z at d.before.before.if-z-lt0.true in
    let size : m.magnitude-size.result ≡ nat_abs s.args.z = simp to_z-of_z at m.magnitude-size.ensures in
    puts_as (ap (λ k. minus ∷ digits k) size ∙ sym (decimal_negative s.args.z (lt_z_true _ _ below)))
    (puts_within (omega arith) (puts_then d.put-next.ensures c.before.before.put_digits.ensures))

returns-2 : tie.Need-returns
returns-2 c =
    let m = c.before.before.before.before.before in
    let s = m.before.before in
    let f : SFits w64 s.args.z = s.ranges.z in
    let natural : lt_z s.args.z (pos 0) ≡ false = simp to_z-of_z at c.before.before.before.before.if-z-lt0.false in
    let size : m.magnitude-size.result ≡ nat_abs s.args.z = simp to_z-of_z at m.magnitude-size.ensures in
    puts_as (ap digits size ∙ sym (decimal_natural s.args.z (lt_z_false _ _ natural))) (puts_within (omega arith) c.before.before.put_digits-2.ensures)

pub put_decimal_spec : {M : Type 1} → statement M
put_decimal_spec =
    tie.close (tie.spec (λ c κs. search rules) (λ c κs. search rules) (λ c κs. search rules) (λ c. search rules) returns
    (λ c κs. search rules) (λ c. search rules) returns-2)
