-- The constant is the table of the definition's values, which antt computes.
use borrow.Author.Rules.{rules}
use native.Mathlib.Omega.{arith}
use mathlib.Core.Path.{◌∙◌}
use lib.IntN.{pos}
use mir.Syntax.{w64}
use mir.ValLaws.{to_z-of_z}
use Rattle.base_exact.specs.Tabulate.{tab}
use Rattle.base_exact.proofs.Tabulate.{tab_get_d_get_d}
use Rattle.spec_spline.specs.Conditions.{falling}
use Rattle.build_scales.proofs.falling.Statement.{statement}
use Rattle.build_scales.proofs.falling.Tie as tie

returns : tie.Need-returns
unfolding tab falling
returns c =
    to_z-of_z w64 _ (record { sfits = c.result-2-1.given })
    ∙ tab_get_d_get_d 6 3 (λ a b. pos (falling a b)) c.before.args.p c.before.args.k (pos 0) (omega arith) (omega arith)

pub falling_spec : {M : Type 1} → statement M
falling_spec = tie.close (tie.spec (λ c. search rules) (λ c. search rules) (λ c. search rules) (λ c. search rules) returns)
