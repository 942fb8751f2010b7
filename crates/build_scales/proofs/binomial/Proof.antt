-- The constant is the table of the definition's values, which antt computes.
use borrow.Author.Rules.{rules}
use native.Mathlib.Omega.{arith}
use mathlib.Core.Path.{◌∙◌}
use lib.IntN.{pos}
use mir.Syntax.{w64}
use mir.ValLaws.{to_z-of_z}
use Rattle.base_exact.specs.Tabulate.{tab}
use Rattle.base_exact.proofs.Tabulate.{tab_get_d_get_d}
use Rattle.spec_spline.specs.Conditions.{binomial}
use Rattle.build_scales.proofs.binomial.Statement.{statement}
use Rattle.build_scales.proofs.binomial.Tie as tie

returns : tie.Need-returns
unfolding tab binomial
returns c =
    to_z-of_z w64 _ (record { sfits = c.result-2-1.given })
    ∙ tab_get_d_get_d 3 3 (λ a b. pos (binomial a b)) c.before.args.k c.before.args.t (pos 0) (omega arith) (omega arith)

pub binomial_spec : {M : Type 1} → statement M
binomial_spec = tie.close (tie.spec (λ c. search rules) (λ c. search rules) (λ c. search rules) (λ c. search rules) returns)
