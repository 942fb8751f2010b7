-- The lines of the table of indices: "A line of the table says of one ring its series, year, width, curve and index" (§ 17).
-- The program rings prints them too, "for each series in order the lines of its rings" (§ 18).
use Rattle.std.specs.Prelude.{Bool, false, cond, ◌||◌, List, [], ◌∷◌, ◌++◌, ℕ, ◌+◌, ◌*◌, eqb, ℤ, pos, ◌+ℤ◌, length, get_or}
use Rattle.base_exact.specs.Tabulate.{tab}
use Rattle.base_text.specs.Bytes.{Text, newline, comma}
use Rattle.base_text.specs.Numeral.{decimal}
use Rattle.spec_spline.specs.Reading.{Wood, wood_index}
use Rattle.spec_tucson.specs.Columns.{blank}
use Rattle.spec_tucson.specs.Shown.{trimmed}
use Rattle.spec_table.specs.Decimals.{width_text, curve_text, index_text}

-- ---- the name

abbrev pub quotation_mark : ℕ
quotation_mark = 34

-- The bytes without leading blanks.
unfoldable pub without_leading : Text → Text
without_leading [] = []
without_leading (c ∷ cs) = cond (eqb c blank) (without_leading cs) (c ∷ cs)

-- "the eight bytes of name without its outer blanks" (§ 17).
unfoldable pub bare_name : Text → Text
bare_name name = trimmed (without_leading name)

-- A comma or a quotation mark.
abbrev pub asks_quotes : ℕ → Bool
asks_quotes c = eqb c comma || eqb c quotation_mark

-- "it holds a comma or a quotation mark" (§ 17).
unfoldable pub holds_quoted : Text → Bool
holds_quoted [] = false
holds_quoted (c ∷ cs) = asks_quotes c || holds_quoted cs

-- "each of its own doubled" (§ 17), the quotation marks.
unfoldable pub doubled : Text → Text
doubled [] = []
doubled (c ∷ cs) = cond (eqb c quotation_mark) (c ∷ c ∷ doubled cs) (c ∷ doubled cs)

-- NAME: "where it holds a comma or a quotation mark it stands in quotation marks, each of its own doubled, and nowhere else" (§ 17).
unfoldable pub quoted_name : Text → Text
quoted_name t = cond (holds_quoted t) (quotation_mark ∷ (doubled t ++ (quotation_mark ∷ []))) t

-- The name as the table has it.
abbrev pub name_text : Text → Text
name_text name = quoted_name (bare_name name)

-- ---- a line

-- What a line says: the eight bytes of the series' name, the year, the width in thousandths of a millimetre, the value in
-- 256ths of a thousandth, and the index or -1.
pub record Ring : Type 0 where
  pub name : Text
  pub year : ℤ
  pub width : ℤ
  pub value : ℤ
  pub index : ℤ

-- YEAR, WIDTH, CURVE and INDEX of a line, with its commas and its end.
unfoldable pub numbers_text : ℤ → ℤ → ℤ → ℤ → Text
numbers_text year width value index =
    comma ∷ (decimal year ++ (comma ∷ (width_text width ++ (comma ∷ (curve_text value ++ (comma ∷ (index_text index ++ (newline ∷ []))))))))

-- "NAME,YEAR,WIDTH,CURVE,INDEX and byte 10" (§ 17).
unfoldable pub ring_line : Ring → Text
ring_line r = name_text r.name ++ numbers_text r.year r.width r.value r.index

-- The lines of these rings, one after another.
unfoldable pub lines_of_rings : List Ring → Text
lines_of_rings [] = []
lines_of_rings (r ∷ rs) = ring_line r ++ lines_of_rings rs

-- ---- the rings of a series

-- One series as the index call leaves it: name, first year, widths, both values of each ring, earlywood first, and indices.
pub record IndexedSeries : Type 0 where
  pub name : Text
  pub first_year : ℤ
  pub widths : List ℤ
  pub values : List ℤ
  pub indices : List ℤ

-- The ring at a place of the list: "YEAR is the first year plus the ring's place in the list" (§ 17), and "the value is that of the
-- wood" (§ 17).
abbrev pub ring_at : Wood → IndexedSeries → ℕ → Ring
ring_at wood s j = record {
  name = s.name;
  year = s.first_year +ℤ pos j;
  width = get_or s.widths j (pos 0);
  value = get_or s.values (2 * j + wood_index wood) (pos 0);
  index = get_or s.indices j (pos 0);
}

-- All rings of a series, in order.
abbrev pub rings_of : Wood → IndexedSeries → List Ring
rings_of wood s = tab (length s.widths) (ring_at wood s)

-- "the lines of all rings in order, of which the value is that of the wood" (§ 17).
unfoldable pub ring_lines : Wood → IndexedSeries → Text
ring_lines wood s = lines_of_rings (rings_of wood s)
