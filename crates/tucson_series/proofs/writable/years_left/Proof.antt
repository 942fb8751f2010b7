-- `years_left` meets its contract: up to the greatest year there are at most 10,998.
use mir.Syntax.{w32}
use mir.Val.{SFits}
use Rattle.base_exact.proofs.Word.{to_z-of_z}
use Rattle.tucson_series.proofs.Years.{years_fit_word, years_natural}
use Rattle.tucson_series.proofs.writable.years_left.Statement.{statement}
use Rattle.tucson_series.proofs.writable.years_left.Tie as tie

sub-result : tie.Need-overflow_sub-result
sub-result c = let f : SFits w32 c.args.year = c.ranges.year in simp to_z-of_z (years_fit_word c.args.year c.requires)

cast-result : tie.Need-overflow_cast-result
cast-result c =
    let f : SFits w32 c.args.year = c.ranges.year in
    let g = years_fit_word c.args.year c.requires in
    simp to_z-of_z (years_natural c.args.year c.requires)

returns : tie.Need-returns
returns c = let f : SFits w32 c.args.year = c.ranges.year in let g = years_fit_word c.args.year c.requires in simp to_z-of_z

pub years_left_spec : {M : Type 1} → statement M
years_left_spec = tie.close (tie.spec sub-result cast-result returns)
