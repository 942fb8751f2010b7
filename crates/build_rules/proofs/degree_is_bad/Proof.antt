-- `build_rules::degree_is_bad` meets its contract. Assumes nothing.
use borrow.Author.Rules.{rules}
use lib.IntN.{pos}
use lib.ListN.{get_or}
use mir.Syntax.{w32}
use mir.Val.{SFits}
use mir.ValLaws.{to_z-of_z}
use Rattle.build_space.proofs.Tests.{bad-degree_low, degree-high}
use Rattle.build_rules.proofs.degree_is_bad.Statement.{statement}
use Rattle.build_rules.proofs.degree_is_bad.Tie as tie

p-fits : (c : tie.After-p-1) → SFits w32 (get_or c.before.args.degrees.now c.before.args.i (pos 0))
p-fits c = record { sfits = c.p-1.given }

returns-2 : tie.Need-returns
returns-2 c = let f = p-fits c.before in simp to_z-of_z (degree-high _ _ (simp to_z-of_z at c.if-p-lt1.false))

pub degree_is_bad_spec : {M : Type 1} → statement M
degree_is_bad_spec =
    tie.close (tie.spec (λ c. search rules) (λ c. search rules)
    (λ c. let f = p-fits c.before in bad-degree_low _ _ (simp to_z-of_z at c.if-p-lt1.true)) returns-2)
