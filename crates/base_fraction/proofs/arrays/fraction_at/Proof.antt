-- The two parts are read at the index.
use borrow.Author.Rules.{rules}
use lib.IntN.{pos}
use lib.ListN.{get_or}
use mir.Syntax.{w64}
use mir.Val.{SFits}
use mir.ValLaws.{to_z-of_z}
use Rattle.base_fraction.proofs.Fractions.{fraction-at}
use Rattle.base_fraction.proofs.arrays.fraction_at.Statement.{statement}
use Rattle.base_fraction.proofs.arrays.fraction_at.Tie as tie

returns : tie.Need-returns
returns c of e =
    let s = c.before.before in
    let n : SFits w64 (get_or s.args.num.now s.args.i (pos 0)) = record { sfits = c.before.n-1.given } in
    let d : SFits w64 (get_or s.args.den.now s.args.i (pos 0)) = record { sfits = c.d-1.given } in
    simp to_z-of_z (fraction-at of _ e s.args.i s.requires)

pub fraction_at_spec : {M : Type 1} → statement M
fraction_at_spec = tie.close (tie.spec (λ c. search rules) (λ c. search rules) (λ c. search rules) (λ c. search rules) returns)
