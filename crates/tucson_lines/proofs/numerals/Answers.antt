-- The year, the fields but the last and the last one are read; then come the decade's end and the last field's test.
use Rattle.std.proofs.Common.{arith, ◌||◌, ◌≡◌, sym, ◌∙◌}
use mir.Syntax.{w32}
use mir.Val.{SFits}
use Rattle.base_exact.proofs.Word.{to_z-of_z}
use Rattle.base_text.proofs.Numerals.{field-none, field_some}
use Rattle.spec_tucson.specs.Line.{is_width, same, thousandths, year_in_decade}
use Rattle.tucson_lines.proofs.LineNumerals.{year-below, numerals_no_year}
use Rattle.tucson_lines.proofs.LineNumerals.{numerals_no_widths, numerals_no_last, numerals_late, numerals_no_end, numerals-good}
use Rattle.tucson_lines.proofs.GoodLines.{columns-fit}
use Rattle.tucson_lines.proofs.numerals.Goals as goal

pub returns-in_err-year : goal.returns-in_err-year
returns-in_err-year c =
    c.from_residual.ensures ∙ sym (numerals_no_year c.requires (field-none _ (sym c.in_err-year.ensures)))

pub returns-in_err-small : goal.returns-in_err-small
returns-in_err-small c =
    let is_year = field_some _ c.in_ok-year.year (sym c.in_ok-year.ensures) in
    c.from_residual-in_err-small.ensures ∙ sym (numerals_no_widths c.requires is_year (sym c.in_err-small.ensures))

pub returns-in_err-last : goal.returns-in_err-last
returns-in_err-last c =
    let is_year = field_some _ c.in_ok-year.year (sym c.in_ok-year.ensures) in
    c.from_residual-in_err-last.ensures ∙ sym (numerals_no_last c.requires is_year (field-none _ (sym c.in_err-last.ensures)))

pub overflow_add-year_in_decade : goal.overflow_add-year_in_decade
overflow_add-year_in_decade c =
    let year-fits : SFits w32 c.in_ok-year.year = columns-fit _ _ (field_some _ _ (sym c.in_ok-year.ensures)) in
    let in-decade : c.year_in_decade.result ≡ year_in_decade c.in_ok-year.year = simp to_z-of_z at c.year_in_decade.ensures in
    omega (arith, year-below c.in_ok-year.year)

pub returns-then-year_in_decade-n-gt-DECADE : goal.returns-then-year_in_decade-n-gt-DECADE
returns-then-year_in_decade-n-gt-DECADE c =
    let is_year = field_some _ c.in_ok-year.year (sym c.in_ok-year.ensures) in
    let is_last = field_some _ c.in_ok-last.last (sym c.in_ok-last.ensures) in
    let year-fits : SFits w32 c.in_ok-year.year = columns-fit _ _ is_year in
    let in-decade : c.year_in_decade.result ≡ year_in_decade c.in_ok-year.year = simp to_z-of_z at c.year_in_decade.ensures in
    sym (numerals_late c.requires is_year (sym c.in_ok-small.ensures) is_last (omega arith))

pub returns-then-not-ends_series : goal.returns-then-not-ends_series
returns-then-not-ends_series c =
    let is_year = field_some _ c.in_ok-year.year (sym c.in_ok-year.ensures) in
    let is_last = field_some _ c.in_ok-last.last (sym c.in_ok-last.ensures) in
    let last-fits : SFits w32 c.in_ok-last.last = columns-fit _ _ is_last in
    let last = c.in_ok-last.last in
    let end_test : c.ends_series.result ≡ (is_width last || same last thousandths) = simp to_z-of_z at c.ends_series.ensures in
    sym (numerals_no_end c.requires is_year (sym c.in_ok-small.ensures) is_last (sym end_test ∙ c.if-not-ends_series.true))

pub returns : goal.returns
returns c =
    let is_year = field_some _ c.in_ok-year.year (sym c.in_ok-year.ensures) in
    let is_last = field_some _ c.in_ok-last.last (sym c.in_ok-last.ensures) in
    let year-fits : SFits w32 c.in_ok-year.year = columns-fit _ _ is_year in
    let last-fits : SFits w32 c.in_ok-last.last = columns-fit _ _ is_last in
    let in-decade : c.year_in_decade.result ≡ year_in_decade c.in_ok-year.year = simp to_z-of_z at c.year_in_decade.ensures in
    let last = c.in_ok-last.last in
    let end_test : c.ends_series.result ≡ (is_width last || same last thousandths) = simp to_z-of_z at c.ends_series.ensures in
    simp to_z-of_z
    (sym
    (numerals-good c.requires is_year (sym c.in_ok-small.ensures) is_last (omega arith) (sym end_test ∙ c.if-not-ends_series.false)))
