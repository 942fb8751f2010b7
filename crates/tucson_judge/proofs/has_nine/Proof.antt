-- Two tests.
use borrow.Author.Rules.{rules}
use mathlib.Core.Bool.{Bool, ◌&&◌, ◌||◌}
use mathlib.Core.Path.{◌≡◌, ◌∙◌, ap}
use Rattle.base_exact.proofs.Word.{to_z-of_z}
use Rattle.spec_tucson.specs.Line.{same}
use Rattle.spec_tucson.specs.Series.{hundredths}
use Rattle.tucson_judge.proofs.has_nine.Statement.{statement}
use Rattle.tucson_judge.proofs.has_nine.Tie as tie

returns : tie.Need-returns
returns c =
    let s = c in
    let f = s.ranges.last in
    let closes : c.same-closes.result ≡ same s.args.last hundredths = simp to_z-of_z at c.same-closes.ensures in
    c.either.ensures ∙ ap (λ (b : Bool). s.args.nine || b) (c.both.ensures ∙ ap (λ (b : Bool). s.args.goes && b) closes)

pub has_nine_spec : {M : Type 1} → statement M
has_nine_spec = tie.close (tie.spec (λ c κs. search rules) (λ c κs. search rules) (λ c κs. search rules) returns)
