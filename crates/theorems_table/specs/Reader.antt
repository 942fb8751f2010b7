-- "A reader of tables, which cuts a text at byte 10 and a line at its commas, but not within quotation marks, and takes two quotation
-- marks there for one" (§ 17); and its numbers, read from the fields.
use Rattle.std.specs.Prelude.{Bool, cond, ◌&&◌, List, [], ◌∷◌, ◌++◌, map, ℕ, zero, suc, eqb, leb, ℤ, pos, negsuc, length}
use Rattle.std.proofs.Math.Option.{Option, some, none}
use Rattle.base_text.specs.Bytes.{Text, newline, comma, minus, Cut, cut}
use Rattle.base_text.specs.Numeral.{all_digits, digits_value}
use Rattle.spec_table.specs.Decimals.{point}
use Rattle.spec_table.specs.RingLines.{quotation_mark}

-- ---- lines and fields

-- A line's fields, and the lines of a text.
abbrev pub Lines : Type 0
Lines = List (List Text)

-- Outside of quotation marks, within them, and behind one within them, which ends them or is the first of two.
pub data Place : Type 0 where
  outside : Place
  within : Place
  behind : Place

-- One byte more in front of the first field.
abbrev pub byte_first : ℕ → Lines → Lines
byte_first c [] = ((c ∷ []) ∷ []) ∷ []
byte_first c ([] ∷ ls) = ((c ∷ []) ∷ []) ∷ ls
byte_first c ((f ∷ fs) ∷ ls) = ((c ∷ f) ∷ fs) ∷ ls

-- One field more in front, empty so far.
abbrev pub field_first : Lines → Lines
field_first [] = ([] ∷ [] ∷ []) ∷ []
field_first (l ∷ ls) = ([] ∷ l) ∷ ls

-- One line more in front, of one field that is empty so far.
abbrev pub line_first : Lines → Lines
line_first ls = ([] ∷ []) ∷ ls

-- What a byte outside of quotation marks does.
unfoldable pub cuts : ℕ → Lines → Lines
cuts c ls = cond (eqb c newline) (line_first ls) (cond (eqb c comma) (field_first ls) (cond (eqb c quotation_mark) ls (byte_first c ls)))

-- What a byte does to the lines that are read behind it.
abbrev pub takes : Place → ℕ → Lines → Lines
takes outside c ls = cuts c ls
takes within c ls = cond (eqb c quotation_mark) ls (byte_first c ls)
takes behind c ls = cond (eqb c quotation_mark) (byte_first c ls) (cuts c ls)

-- Where the byte behind it stands.
abbrev pub next : Place → ℕ → Place
next outside c = cond (eqb c quotation_mark) within outside
next within c = cond (eqb c quotation_mark) behind within
next behind c = cond (eqb c quotation_mark) within outside

-- The lines of a text, each with its fields.
unfoldable pub lines_from : Place → Text → Lines
lines_from p [] = []
lines_from p (c ∷ cs) = takes p c (lines_from (next p c) cs)

-- ---- numbers

-- The number of digits, one at least.
unfoldable pub natural_of : Text → Option ℕ
natural_of t = cond (leb 1 (length t) && all_digits t) (some (digits_value 0 t)) none

abbrev pub above : Option ℕ → Option ℤ
above none = none
above (some n) = some (pos n)

abbrev pub below : Option ℕ → Option ℤ
below none = none
below (some zero) = none
below (some (suc n)) = some (negsuc n)

-- A whole number of any size, with a minus or without a sign.
unfoldable pub whole_of : Text → Option ℤ
whole_of [] = none
whole_of (c ∷ cs) = cond (eqb c minus) (below (natural_of cs)) (above (natural_of (c ∷ cs)))

abbrev pub joined : ℕ → Option Cut → Option ℤ
joined places none = none
joined places (some c) = cond (eqb (length c.after) places) (whole_of (c.before ++ c.after)) none

-- A number with so many decimals, in the parts of which 10 to the so many-th make a whole.
unfoldable pub parts_of : ℕ → Text → Option ℤ
parts_of places t = joined places (cut point t)

-- An index, or -1 where nothing stands.
unfoldable pub index_in : Text → Option ℤ
index_in [] = some (negsuc 0)
index_in (c ∷ cs) = whole_of (c ∷ cs)

-- ---- rows

-- What a line says: a name, a year, a width in thousandths of a millimetre, the curve in millionths, and an index or -1.
pub record Row : Type 0 where
  pub name : Text
  pub year : ℤ
  pub width : ℤ
  pub curve : ℤ
  pub index : ℤ

-- What f makes of a thing, if it is there.
abbrev pub given : {A B : Type 0} → Option A → (A → Option B) → Option B
given none f = none
given (some a) f = f a

-- The row of a line of five fields, if the last four are such numbers.
abbrev pub row_of : List Text → Option Row
row_of [] = none
row_of (name ∷ []) = none
row_of (name ∷ year ∷ []) = none
row_of (name ∷ year ∷ width ∷ []) = none
row_of (name ∷ year ∷ width ∷ curve ∷ []) = none
row_of (name ∷ year ∷ width ∷ curve ∷ index ∷ []) =
    given (whole_of year) λ y. given (parts_of 3 width) λ w. given (parts_of 6 curve) λ c. given (index_in index) λ i.
    some (record { name = name; year = y; width = w; curve = c; index = i })
row_of (name ∷ year ∷ width ∷ curve ∷ index ∷ more ∷ rest) = none

-- The rows of a text.
abbrev pub rows_of : Text → List (Option Row)
rows_of t = map row_of (lines_from outside t)
