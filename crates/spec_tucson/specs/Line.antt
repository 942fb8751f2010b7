-- A line of a Tucson file: it "is ended by byte 10 and has a series name in columns 1 to 8 (bytes 32 to 126, not all blank), a year
-- in columns 9 to 12, then one to ten fields of six columns" (§ 14), and code 11's tests of one line.
use Rattle.std.specs.Prelude.{Bool, true, cond, ◌&&◌, ◌||◌, not, List, [], ◌∷◌, ℕ, zero, suc, ◌+◌, ◌*◌, ◌-◌, ◌/◌, ◌%◌, eqb, leb, ℤ, pos, negsuc, neg_ℤ, length, take, drop}
use Rattle.std.proofs.Math.Option.{Option, some, none}
use Rattle.std.specs.Int.Signed.{le_z}
use Rattle.base_outcome.specs.Tests.{between}
pub use Rattle.base_outcome.specs.Limits.{width_limit}
use Rattle.base_text.specs.Bytes.{Text, newline, Cut, cut, on_first}
use Rattle.spec_tucson.specs.Columns.{blank, in_columns}

-- A name has 8 columns.
abbrev pub name_columns : ℕ
name_columns = 8

-- A year has 4.
abbrev pub year_columns : ℕ
year_columns = 4

-- Both stand before the first field.
abbrev pub head_columns : ℕ
head_columns = name_columns + year_columns

-- A field has 6.
abbrev pub field_columns : ℕ
field_columns = 6

-- A decade: ten years, the first of which ends in 0 (§ 14).
abbrev pub decade : ℕ
decade = 10

-- The last printable byte of ASCII; the first is the blank.
abbrev pub last_printable : ℕ
last_printable = 126

-- "-9999 for thousandths" (§ 14): the field that closes a series of thousandths.
abbrev pub thousandths : ℤ
thousandths = neg_ℤ (pos 9999)

-- ---- a text's lines

-- The lines of a text, each with the byte 10 that ends it; the last may lack it.
unfoldable pub lines_of : Text → List Text
lines_of [] = []
lines_of (c ∷ cs) = cond (eqb c newline) ((c ∷ []) ∷ lines_of cs) (on_first c (lines_of cs))

-- What a well-formed line says.
pub record Line : Type 0 where
  pub name : Text
  pub year : ℤ
  pub fields : List ℤ

-- ---- columns and end

-- Every byte is printable ASCII.
unfoldable pub all_printable : Text → Bool
all_printable [] = true
all_printable (c ∷ cs) = leb blank c && leb c last_printable && all_printable cs

-- Every byte is a blank.
unfoldable pub all_blank : Text → Bool
all_blank [] = true
all_blank (c ∷ cs) = eqb c blank && all_blank cs

-- A series name: eight bytes, "bytes 32 to 126, not all blank" (§ 14).
unfoldable pub is_name : Text → Bool
is_name t = eqb (length t) name_columns && all_printable t && not (all_blank t)

-- One field more in front, if all of them are numbers.
abbrev pub with_field : Option ℤ → Option (List ℤ) → Option (List ℤ)
with_field none fs = none
with_field (some f) none = none
with_field (some f) (some fs) = some (f ∷ fs)

-- The numbers of so many fields, if each is one.
unfoldable pub field_numerals : ℕ → Text → Option (List ℤ)
field_numerals zero t = some []
field_numerals (suc n) t = with_field (in_columns (take field_columns t)) (field_numerals n (drop field_columns t))

-- How many fields there are after the name and the year.
abbrev pub field_count : Text → ℕ
field_count body = (length body - head_columns) / field_columns

-- "one to ten fields of six columns" (§ 14), and no column over.
unfoldable pub columns_fit : Text → Bool
columns_fit body = eqb (length body) (head_columns + field_count body * field_columns) && leb 1 (field_count body)
    && leb (field_count body) decade

-- The line with this name, if the year and the fields are numbers.
abbrev pub with_numerals : Text → Option ℤ → Option (List ℤ) → Option Line
with_numerals name none fs = none
with_numerals name (some y) none = none
with_numerals name (some y) (some fs) = some (record { name = name; year = y; fields = fs })

-- The line of these columns, the byte 10 left out.
unfoldable pub line_in_columns : Text → Option Line
line_in_columns body =
    cond (columns_fit body && is_name (take name_columns body))
    (with_numerals (take name_columns body)
    (in_columns (take year_columns (drop name_columns body)))
    (field_numerals (field_count body) (drop head_columns body)))
    none

-- The line of what stands before byte 10, if that byte is there.
abbrev pub of_cut : Option Cut → Option Line
of_cut none = none
of_cut (some c) = line_in_columns c.before

-- The line of these bytes, if its columns are well-formed and byte 10 ends it.
unfoldable pub line_of : Text → Option Line
line_of t = of_cut (cut newline t)

-- ---- the decade

-- The last digit of a year counted from its decade's beginning, also below 0: -1 is the last year of -10 to -1.
unfoldable pub year_in_decade : ℤ → ℕ
year_in_decade (pos n) = n % decade
year_in_decade (negsuc n) = decade - 1 - n % decade

-- "no line passes the end of its decade" (§ 14), the closing field counted.
unfoldable pub within_decade : Line → Bool
within_decade l = leb (year_in_decade l.year + length l.fields) decade

-- ---- the fields

-- The two numbers are equal: neither is above the other. (The library tests no integers for equality.)
abbrev pub same : ℤ → ℤ → Bool
same a b = le_z a b && le_z b a

-- "0 to 99,999 in thousandths" (§ 14).
unfoldable pub is_width : ℤ → Bool
is_width z = between (pos 0) (pos width_limit) z

-- Every field is a width; the last one of a series' last line may be the closing -9999. (The other closing is a width.)
unfoldable pub fields_allowed : Bool → List ℤ → Bool
fields_allowed last [] = true
fields_allowed last (f ∷ []) = is_width f || (last && same f thousandths)
fields_allowed last (f ∷ g ∷ fs) = is_width f && fields_allowed last (g ∷ fs)

-- ---- code 11

-- A well-formed line, if it ends within its decade and its fields are allowed.
abbrev pub if_allowed : Bool → Option Line → Option Line
if_allowed last none = none
if_allowed last (some l) = cond (within_decade l && fields_allowed last l.fields) (some l) none

-- The line of these bytes, its series' last or not, if none of code 11's tests refuses it.
unfoldable pub good_line : Bool → Text → Option Line
good_line last t = if_allowed last (line_of t)
