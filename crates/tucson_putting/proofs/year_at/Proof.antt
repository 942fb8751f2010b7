-- `year_at` meets its contract: the year is a number of 32 bits.
use native.Mathlib.Omega.{arith}
use borrow.Author.Rules.{rules}
use mir.Syntax.{w32}
use Rattle.base_exact.proofs.Word.{to_z-of_z, to_z_pos}
use Rattle.tucson_series.specs.Sizes.{year_at}
use Rattle.tucson_series.proofs.Years.{year_at_fits}
use Rattle.tucson_putting.proofs.year_at.Statement.{statement}
use Rattle.tucson_putting.proofs.year_at.Tie as tie

returns : tie.Need-returns
returns c = rw (to_z_pos w32 c.args.left (omega arith)) (to_z-of_z w32 (year_at c.args.left) (year_at_fits c.args.left c.requires))

pub year_at_spec : {M : Type 1} → statement M
year_at_spec =
    tie.close (tie.spec (λ c. search rules) (λ c. rw (to_z_pos w32 c.args.left (omega arith)) (year_at_fits c.args.left c.requires))
    returns)
