-- `decimal_length` meets its contract: the digits of the size, and a minus where the number is below zero.
use native.Mathlib.Omega.{arith}
use borrow.Author.Rules.{rules}
use mathlib.Core.Path.{◌≡◌, sym, ◌∙◌, ap}
use mathlib.Core.Bool.{true, false}
use lib.IntN.{pos, nat_abs}
use lib.ListN.{length}
use lib.Signed.{lt_z}
use mir.Syntax.{w64}
use mir.Val.{SFits}
use Rattle.base_exact.proofs.Word.{to_z-of_z, lt_z_true, lt_z_false}
use Rattle.base_text.specs.Numeral.{digits}
use Rattle.base_text.proofs.Decimal.{decimal_negative, decimal_natural}
use Rattle.tucson_putting.proofs.decimal_length.Statement.{statement}
use Rattle.tucson_putting.proofs.decimal_length.Tie as tie

returns : tie.Need-returns-then-z-lt0
returns c =
    let s = c in
    let f : SFits w64 s.args.z = s.ranges.z in
    let below : lt_z s.args.z (pos 0) ≡ true = simp to_z-of_z at c.if-z-lt0.true in
    let size : c.magnitude-size.result ≡ nat_abs s.args.z = simp to_z-of_z at c.magnitude-size.ensures in
    omega (arith, c.digit_count-count.ensures.0, ap (λ k. length (digits k)) size, ap length (decimal_negative s.args.z (lt_z_true _ _ below)))

returns-2 : tie.Need-returns
returns-2 c =
    let s = c in
    let f : SFits w64 s.args.z = s.ranges.z in
    let natural : lt_z s.args.z (pos 0) ≡ false = simp to_z-of_z at c.if-z-lt0.false in
    let size : c.magnitude-size.result ≡ nat_abs s.args.z = simp to_z-of_z at c.magnitude-size.ensures in
    c.digit_count-count.ensures.0 ∙ ap (λ k. length (digits k)) size ∙ sym (ap length (decimal_natural s.args.z (lt_z_false _ _ natural)))

pub decimal_length_spec : {M : Type 1} → statement M
decimal_length_spec = tie.close (tie.spec (λ c κs. search rules) (λ c κs. search rules) (λ c. search rules) returns returns-2)
