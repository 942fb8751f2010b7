-- The first comparison decides where it fails, and the second where it holds.
use borrow.Author.Rules.{rules}
use mathlib.Core.Path.{sym, ◌∙◌, ap}
use mathlib.Core.Bool.{Bool, ◌&&◌}
use lib.IntN.{pos}
use Rattle.base_exact.specs.Rational.{int}
use Rattle.base_exact.specs.Order.{ltᵠ}
use Rattle.base_fraction.specs.Machine.{value}
use Rattle.build_factors.proofs.strictly_between.Statement.{statement}
use Rattle.build_factors.proofs.strictly_between.Tie as tie

returns : tie.Need-returns-then-is_positive
returns c = c.is_below_one.ensures ∙ ap (λ (b : Bool). b && ltᵠ (value c.args.w) (int (pos 1)))
    (sym (sym c.is_positive.ensures ∙ c.if-is_positive.true))

returns-2 : tie.Need-returns
returns-2 c = ap (λ (b : Bool). b && ltᵠ (value c.args.w) (int (pos 1))) (sym (sym c.is_positive.ensures ∙ c.if-is_positive.false))

pub strictly_between_spec : {M : Type 1} → statement M
strictly_between_spec = tie.close (tie.spec (λ c κs. search rules) (λ c κs. search rules) returns returns-2)
