-- The ordinate as it stands in the list, scaled. Assumes nothing.
use borrow.Author.Rules.{rules}
use mir.Syntax.{w32}
use mir.Val.{SFits}
use mir.ValLaws.{to_z-of_z}
use lib.IntN.{pos}
use lib.ListN.{get_or}
use Rattle.curve_drawing.proofs.float_at.Statement.{statement}
use Rattle.curve_drawing.proofs.float_at.Tie as tie

o_fits : (c : tie.After-o-1) → SFits w32 (get_or c.args.ordinates.now c.args.i (pos 0))
o_fits c = record { sfits = c.o-1.given }

pub float_at_spec : {M : Type 1} → statement M
float_at_spec =
    tie.close (tie.spec (λ c. search rules) (λ c. search rules) (λ c κs. search rules)
    (λ c. let f = o_fits c.before in simp to_z-of_z at c.scaled.ensures))
