-- The sides of join j are the segments j and j + 1. Assumes nothing.
use borrow.Author.Rules.{rules}
use mathlib.Core.Path.{subst}
use mathlib.Core.List.{[]}
use native.Mathlib.Numerals.{add-one}
use native.Mathlib.Omega.{arith}
use Rattle.build_space.specs.Machine.{space}
use Rattle.build_conditions.specs.Sides.{SideIs}
use Rattle.build_joins.proofs.join_at.Statement.{statement}
use Rattle.build_joins.proofs.join_at.Tie as tie

returns : tie.Need-returns
returns c =
    let s = c in
    record {
      left_is = c.side_at-left.ensures;
      right_is = subst (SideIs c.side_at-right.result (space s.args.breaks.now s.args.degrees.now [])) (add-one s.args.j) c.side_at-right.ensures;
    }

pub join_at_spec : {M : Type 1} → statement M
join_at_spec =
    tie.close (tie.spec (λ c κs. let p = c.requires in record { orders = p.orders; legal = p.legal; below = omega arith }) (λ c. search rules)
    (λ c κs. c.requires) returns)
