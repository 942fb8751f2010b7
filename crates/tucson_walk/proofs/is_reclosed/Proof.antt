-- All three.
use borrow.Author.Rules.{rules}
use mathlib.Core.Bool.{Bool, ◌&&◌, not}
use mathlib.Core.Path.{◌≡◌, ◌∙◌, ap}
use lib.Dec.{eqb}
use mir.Syntax.{w32}
use mir.Val.{SFits}
use Rattle.base_exact.proofs.Word.{to_z-of_z}
use Rattle.spec_tucson.specs.Line.{same}
use Rattle.spec_tucson.specs.CleanSeries.{unknown_unit}
use Rattle.tucson_walk.proofs.is_reclosed.Statement.{statement}
use Rattle.tucson_walk.proofs.is_reclosed.Tie as tie

returns : tie.Need-returns
returns c =
    let a = c.args in
    let f : SFits w32 a.closing = c.ranges.closing in
    let z : c.same-unknown.result ≡ same a.closing unknown_unit = simp to_z-of_z at c.same-unknown.ensures in
    c.both-2.ensures ∙ ap (λ (b : Bool). a.last && b) (c.both.ensures ∙ ap (λ (b : Bool). b && not (eqb a.unit 0)) z)

pub is_reclosed_spec : {M : Type 1} → statement M
is_reclosed_spec = tie.close (tie.spec (λ c κs. search rules) (λ c κs. search rules) (λ c κs. search rules) returns)
