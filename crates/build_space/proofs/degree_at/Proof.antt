-- `build_space::degree_at` meets its contract: a legal degree is above zero. Assumes nothing.
use borrow.Author.Rules.{rules}
use native.Mathlib.Omega.{arith}
use mathlib.Core.List.{[]}
use lib.IntN.{pos}
use lib.ListN.{get_or}
use lib.Signed.{yes_non_neg}
use mir.Syntax.{w32}
use mir.Val.{SFits}
use mir.ValLaws.{to_z-of_z}
use Rattle.base_exact.proofs.Integer.{≤_in, ≤_trans}
use Rattle.build_space.specs.Machine.{space}
use Rattle.build_space.proofs.Bounds.{degree-high}
use Rattle.build_space.proofs.degree_at.Statement.{statement}
use Rattle.build_space.proofs.degree_at.Tie as tie

fits : (c : tie.After-result-1) → SFits w32 (get_or c.before.args.degrees.now c.before.args.i (pos 0))
fits c = record { sfits = c.result-1.given }

cast-result : tie.Need-overflow_cast-result
cast-result c =
    let f = fits c in
    let d = c.before.args.degrees.now in
    let i = c.before.args.i in
    simp to_z-of_z (
      yes_non_neg (≤_trans _ (pos 1) _ (≤_in _ _ (omega arith)) (c.before.requires.1.low i c.before.requires.0)),
      omega (arith, degree-high (space [] d []) c.before.requires.1 i c.before.requires.0),
    )

pub degree_at_spec : {M : Type 1} → statement M
degree_at_spec = tie.close (tie.spec (λ c. search rules) (λ c. search rules) cast-result (λ c. search rules))
