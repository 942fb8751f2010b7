-- `put_fraction` meets its contract: four texts, one behind the other.
use borrow.Author.Rules.{rules}
use native.Mathlib.Omega.{arith}
use mathlib.Core.Path.{◌≡◌, ap}
use lib.IntN.{nat_abs}
use mir.Syntax.{w64}
use mir.Val.{SFits}
use Rattle.base_exact.proofs.Word.{to_z-of_z}
use Rattle.base_text.specs.Numeral.{digits}
use Rattle.base_print.proofs.Buffer.{puts_then, puts_within, puts_as}
use Rattle.sheet_weights.proofs.put_fraction.Statement.{statement}
use Rattle.sheet_weights.proofs.put_fraction.Tie as tie

returns : tie.Need-returns
returns c =
    let e = c in
    let d = e in
    let b = d in
    let a = b in
    let s = a in
    let f : SFits w64 s.args.num = s.ranges.num in
    let g : SFits w64 s.args.den = s.ranges.den in
    let size : a.magnitude-size.result ≡ nat_abs s.args.den = simp to_z-of_z at a.magnitude-size.ensures in
    puts_within (omega arith)
    (puts_then (simp to_z-of_z at a.put_decimal-a.ensures)
    (puts_then b.put-b.ensures
    (puts_then (puts_as (ap digits size) d.put_digits-c.ensures)
    e.put.ensures)))

pub put_fraction_spec : {M : Type 1} → statement M
put_fraction_spec =
    tie.close (tie.spec (λ c κs. search rules) (λ c κs. search rules) (λ c κs. search rules) (λ c κs. search rules) (λ c κs. search rules)
    (λ c. search rules) returns)
