-- Blanks and tabs before a site name, and what `hasSite` asks of what stands behind a line's columns.
use Rattle.std.specs.Prelude.{Bool, ◌&&◌, not, ℕ, leb, drop}
use Rattle.base_text.specs.Bytes.{Text, index_where}
use Rattle.spec_tucson.specs.StrictLine.{blanks_before, is_site_name}
use Rattle.tucson_columns.specs.Machine.{is_gap}

-- How many blanks and tabs the text begins with.
abbrev pub gap_before : Text → ℕ
gap_before = index_where (λ c. not (is_gap c))

-- Blanks, one or more, and then a site name to the end.
abbrev pub site_behind : Text → Bool
site_behind t = leb 1 (blanks_before t) && is_site_name (drop (blanks_before t) t)
