-- Names for the definitions that an example is computed with: under `unfolding reading` all that a text is read with computes, and `refl`
-- finds its series.
use Rattle.base_outcome.specs.Outcome.{capped}
use Rattle.base_text.specs.Bytes.{bytes, lines, cut, begins_with}
use Rattle.base_text.specs.Numeral.{all_digits, digits_value, is_natural, numeral, digits_up_to, digits, decimal}
use Rattle.spec_tucson.specs.Columns.{in_columns, columns}
use Rattle.spec_tucson.specs.Line.{lines_of, all_printable, all_blank, is_name, field_numerals, columns_fit, line_in_columns, line_of}
use Rattle.spec_tucson.specs.Line.{year_in_decade, within_decade, is_width, fields_allowed, good_line}
use Rattle.spec_tucson.specs.Series.{all_hundredths, from_hundredths, closed_by}
use Rattle.spec_tucson.specs.TextReading.{goes_on, year_follows, last_field, closing, line_step, read_line, read_lines, read_text}
use Rattle.spec_tucson.specs.Writing.{in_lines, lines_from, series_lines, fields_text, line_text, lines_text, written}

-- what a text is read with
unfoldable pub reading : Unit {0}
unfolding bytes lines cut begins_with all_digits digits_value is_natural numeral in_columns lines_of all_printable all_blank is_name field_numerals columns_fit
    line_in_columns line_of year_in_decade within_decade is_width fields_allowed good_line all_hundredths from_hundredths closed_by goes_on year_follows last_field
    closing line_step read_line read_lines read_text capped
reading = tt

-- what series are written with
unfoldable pub writing : Unit {0}
unfolding bytes lines digits_up_to digits decimal columns year_in_decade in_lines lines_from series_lines fields_text line_text lines_text written
writing = tt
