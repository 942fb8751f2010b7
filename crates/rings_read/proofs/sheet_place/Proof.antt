-- `sheet_place` meets its contract: 0 stays 0, any other place grows by one.
use borrow.Author.Rules.{rules}
use mathlib.Core.Path.{◌∙◌}
use Rattle.rings_read.proofs.Held.{first-place, later-place}
use Rattle.rings_read.proofs.sheet_place.Statement.{statement}
use Rattle.rings_read.proofs.sheet_place.Tie as tie

returns : tie.Need-returns-then-place-eq0
returns c = first-place c.args.place c.if-place-eq0.true

returns-2 : tie.Need-returns
returns-2 c = c.place.ensures ∙ later-place c.args.place c.if-place-eq0.false

pub sheet_place_spec : {M : Type 1} → statement M
sheet_place_spec = tie.close (tie.spec returns (λ c. search rules) (λ c κs. search rules) returns-2)
