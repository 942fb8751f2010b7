-- `years_fit` meets its contract: the year is in its range, and the closing not after the greatest year.
use mathlib.Core.Path.{sym, ◌∙◌, ap}
use lib.Dec.{leb}
use mir.Syntax.{w32}
use mir.Val.{SFits}
use Rattle.base_exact.proofs.Word.{to_z-of_z}
use Rattle.tucson_series.specs.Sizes.{closing_fits}
use Rattle.tucson_series.proofs.Years.{early_year, late_year, year-within}
use Rattle.tucson_series.proofs.writable.years_fit.Statement.{statement}
use Rattle.tucson_series.proofs.writable.years_fit.Tie as tie

returns : tie.Need-returns-then-year-lt-LEAST_YEAR
unfolding closing_fits
returns c =
    let s = c in
    let f : SFits w32 s.args.year = s.ranges.year in
    sym (simp (early_year s.args.year (simp to_z-of_z at c.if-year-lt-LEAST_YEAR.true)))

returns-2 : tie.Need-returns-then-year-gt-GREATEST_YEAR
unfolding closing_fits
returns-2 c =
    let s = c in
    let f : SFits w32 s.args.year = s.ranges.year in
    sym (simp (late_year s.args.year (simp to_z-of_z at c.if-year-gt-GREATEST_YEAR.true)))

years-left-requires : tie.Need-years_left-requires
years-left-requires c κs =
    let s = c in
    let f : SFits w32 s.args.year = s.ranges.year in
    simp to_z-of_z (year-within s.args.year (simp to_z-of_z at c.if-year-lt-LEAST_YEAR.false) (simp to_z-of_z at c.if-year-gt-GREATEST_YEAR.false))

returns-3 : tie.Need-returns
unfolding closing_fits
returns-3 c =
    let s = c in
    let f : SFits w32 s.args.year = s.ranges.year in
    let within = year-within s.args.year (simp to_z-of_z at c.if-year-lt-LEAST_YEAR.false) (simp to_z-of_z at c.if-year-gt-GREATEST_YEAR.false) in
    ap (leb s.args.count) (simp to_z-of_z at c.years_left.ensures) ∙ sym (simp within)

pub years_fit_spec : {M : Type 1} → statement M
years_fit_spec = tie.close (tie.spec returns returns-2 years-left-requires returns-3)
