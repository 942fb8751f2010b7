-- The strict line of a raw line (§ 16, a strict line): as it is shown, the data bank's site name taken off, ? for what is not
-- ASCII in its name; or code 11 or 22.
use Rattle.std.specs.Prelude.{Bool, true, false, cond, ◌&&◌, ◌||◌, not, List, [], ◌∷◌, ◌++◌, map, ℕ, zero, suc, ◌+◌, ◌-◌, ◌*◌, eqb, leb, length, take, drop}
use Rattle.std.proofs.Math.Option.{Option, some, none}
use Rattle.base_outcome.specs.Codes as codes
use Rattle.base_outcome.specs.Outcome.{Outcome, answer, refuse, ◌then◌, with_answer}
use Rattle.base_text.specs.Bytes.{Text, newline, index_where}
use Rattle.base_text.specs.Numeral.{is_digit}
use Rattle.spec_tucson.specs.Columns.{blank}
use Rattle.spec_tucson.specs.Line.{Line, name_columns, head_columns, field_columns, decade, line_in_columns}
use Rattle.spec_tucson.specs.Shown.{trimmed, shown, has_tab}

-- ---- the data bank's site name

-- A letter, A to Z or a to z.
abbrev pub is_letter : ℕ → Bool
is_letter c = (leb 65 c && leb c 90) || (leb 97 c && leb c 122)

-- All bytes are letters.
unfoldable pub all_letters : Text → Bool
all_letters [] = true
all_letters (c ∷ cs) = is_letter c && all_letters cs

-- How many letters the text begins with.
abbrev pub letters_before : Text → ℕ
letters_before = index_where (λ c. not (is_letter c))

-- How many digits.
abbrev pub digits_before : Text → ℕ
digits_before = index_where (λ c. not (is_digit c))

-- How many blanks.
abbrev pub blanks_before : Text → ℕ
blanks_before = index_where (λ c. not (eqb c blank))

-- Three digits, and perhaps one letter more.
unfoldable pub is_site_number : Text → Bool
is_site_number t = eqb (digits_before t) 3 && (leb (length t) 4 && all_letters (drop 3 t))

-- A site name: two to four letters, three digits and perhaps one more letter.
unfoldable pub is_site_name : Text → Bool
is_site_name t = leb 2 (letters_before t) && (leb (letters_before t) 4 && is_site_number (drop (letters_before t) t))

-- The columns of a line with ten fields.
abbrev pub line_columns : ℕ
line_columns = head_columns + decade * field_columns

-- What stands behind these columns: blanks, one or more, and then a site name to the end.
unfoldable pub has_site : Text → Bool
has_site t = leb 1 (blanks_before (drop line_columns t)) && is_site_name (drop (blanks_before (drop line_columns t)) (drop line_columns t))

-- The line without a site name and the blanks before it.
unfoldable pub without_site : Text → Text
without_site t = cond (has_site t) (trimmed (take line_columns t)) t

-- ---- bytes over 127

-- A byte that is not ASCII.
abbrev pub is_high : ℕ → Bool
is_high c = leb 128 c

-- There is one.
unfoldable pub any_high : Text → Bool
any_high [] = false
any_high (c ∷ cs) = is_high c || any_high cs

-- What stands for a character that is not ASCII.
abbrev pub question_mark : ℕ
question_mark = 63

-- ? for each byte over 127.
unfoldable pub bytes_masked : Text → Text
bytes_masked t = map (λ c. cond (is_high c) question_mark c) t

-- The bytes that must follow the first byte of a character (RFC 3629): how many, and the range of the first of them.
pub record Follow : Type 0 where
  pub count : ℕ
  pub low : ℕ
  pub high : ℕ

abbrev pub follow : ℕ → ℕ → ℕ → Follow
follow n l h = record { count = n; low = l; high = h }

-- c lies from the one bound to the other.
abbrev pub in_range : ℕ → ℕ → ℕ → Bool
in_range low high c = leb low c && leb c high

-- What must follow this byte as the first one of a character of two, three or four bytes; none where none has it.
unfoldable pub follow_of : ℕ → Follow
follow_of c =
    cond (in_range 194 223 c) (follow 1 128 191)
    (cond (eqb c 224) (follow 2 160 191)
    (cond (eqb c 237) (follow 2 128 159)
    (cond (in_range 225 239 c) (follow 2 128 191)
    (cond (eqb c 240) (follow 3 144 191)
    (cond (in_range 241 243 c) (follow 3 128 191)
    (cond (eqb c 244) (follow 3 128 143)
    (follow 0 0 0)))))))

abbrev pub with_masked : ℕ → Option Text → Option Text
with_masked c none = none
with_masked c (some t) = some (c ∷ t)

-- ? for each character that is not ASCII, if the bytes are UTF-8; so many bytes of a character are still to come, the first of them in
-- this range.
unfoldable pub characters_from : ℕ → ℕ → ℕ → Text → Option Text
characters_from zero low high [] = some []
characters_from (suc n) low high [] = none
characters_from (suc n) low high (c ∷ cs) = cond (in_range low high c) (characters_from n 128 191 cs) none
characters_from zero low high (c ∷ cs) =
    cond (is_high c)
    (cond (eqb (follow_of c).count 0) none
    (with_masked question_mark (characters_from (follow_of c).count (follow_of c).low (follow_of c).high cs)))
    (with_masked c (characters_from zero low high cs))

-- ? for each character that is not ASCII, if the line is UTF-8.
abbrev pub characters_masked : Text → Option Text
characters_masked = characters_from 0 0 0

-- ---- the strict line

abbrev pub is_some : {A : Type 0} → Option A → Bool
is_some none = false
is_some (some a) = true

-- The columns are those of a strict line, its decade and the range of its fields not asked.
unfoldable pub is_strict : Text → Bool
is_strict t = is_some (line_in_columns t)

-- The second form, if it is a strict line.
abbrev pub if_strict : Option Text → Option Text
if_strict none = none
if_strict (some t) = cond (is_strict t) (some t) none

-- The one of the two forms that is a strict line; none where both or neither are.
abbrev pub only_one : Bool → Text → Option Text → Option Text
only_one true t none = some t
only_one true t (some u) = none
only_one false t other = other

-- The line with ? for what is not ASCII, if one form of it alone is a strict line.
unfoldable pub masked : Text → Option Text
masked t = only_one (is_strict (bytes_masked t)) (bytes_masked t) (if_strict (characters_masked t))

abbrev pub or_refused : ℕ → Option Text → Outcome Text
or_refused place none = refuse codes.file_bytes place
or_refused place (some t) = answer t

-- The strict line that these shown bytes are, the site name taken off; there was a tab in them or not.
unfoldable pub strict_bytes : ℕ → Bool → Text → Outcome Text
strict_bytes place tabbed t =
    cond (any_high t) (cond tabbed (refuse codes.file_bytes place) (or_refused place (masked t)))
    (cond (is_strict t) (answer t) (refuse codes.tucson_line place))

-- What is shown of a raw line, without a site name.
unfoldable pub shown_fields : Text → Text
shown_fields raw = without_site (shown raw)

-- The strict line of a raw line, or the refusal at this place.
unfoldable pub strict_line : ℕ → Text → Outcome Text
strict_line place raw = strict_bytes place (has_tab raw) (shown_fields raw)

-- A line of the file and what it becomes.
pub record Kept : Type 0 where
  pub line : ℕ
  pub raw : Text
  pub text : Text

-- The bytes of the file that are shown in the columns of the name. What stands behind these columns is the same in the file.
unfoldable pub name_bytes : Kept → Text
name_bytes k = take (length (shown_fields k.raw) + name_columns - length k.text) (shown_fields k.raw)

-- The name, eight bytes.
abbrev pub name_of : Text → Text
name_of t = take name_columns t
