-- The lines of a file that are left (§ 16, the header and the other lines): the header, taken out, and the strict lines of all others that
-- are not blank.
use Rattle.std.specs.Prelude.{Bool, true, false, cond, ◌&&◌, ◌||◌, not, List, [], ◌∷◌, ◌++◌, ℕ, zero, suc, ◌+◌, ◌-◌, eqb, leb, ltb, length, take, drop}
use Rattle.std.proofs.Math.Option.{Option, some, none}
use Rattle.base_outcome.specs.Codes as codes
use Rattle.base_outcome.specs.Outcome.{Outcome, answer, refusal, refuse, ◌then◌, with_answer}
use Rattle.base_text.specs.Bytes.{Text, newline, digit_zero}
use Rattle.base_text.specs.Numeral.{is_digit}
use Rattle.spec_tucson.specs.Columns.{blank}
use Rattle.spec_tucson.specs.Line.{name_columns}
use Rattle.spec_tucson.specs.Shown.{shown, is_blank_line}
use Rattle.spec_tucson.specs.StrictLine.{is_letter, is_high, strict_line, Kept, name_bytes, name_of}

-- The two texts are the same bytes.
unfoldable pub same_text : Text → Text → Bool
same_text [] [] = true
same_text [] (d ∷ ds) = false
same_text (c ∷ cs) [] = false
same_text (c ∷ cs) (d ∷ ds) = eqb c d && same_text cs ds

-- The byte in this column, from 1; 0 where the line is shorter.
unfoldable pub column : ℕ → Text → ℕ
column n [] = 0
column zero (c ∷ cs) = 0
column (suc zero) (c ∷ cs) = c
column (suc (suc n)) (c ∷ cs) = column (suc n) cs

-- ---- the header

-- There is a letter or a byte over 127.
unfoldable pub any_word : Text → Bool
any_word [] = false
any_word (c ∷ cs) = (is_letter c || is_high c) || any_word cs

-- A header line's columns 9 and on: nothing, or a blank, then words, and no digit where numbers of a data line end.
unfoldable pub is_caption : Text → Bool
is_caption t = eqb (length t) name_columns
    || (eqb (column 9 t) blank && (any_word (drop 9 t)
    && (not (is_digit (column 12 t)) && (not (is_digit (column 18 t)) && not (is_digit (column 24 t))))))

-- The shown line is line k of a header whose first one is the other.
unfoldable pub is_header_line : Text → ℕ → Text → Bool
is_header_line first k t = same_text (take 6 first) (take 6 t)
    && (eqb (column 7 t) blank && (eqb (column 8 t) (digit_zero + k) && is_caption t))

-- A raw line, and its number in the file.
pub record Numbered : Type 0 where
  pub line : ℕ
  pub raw : Text

abbrev pub numbered : ℕ → Text → Numbered
numbered i r = record { line = i; raw = r }

-- The lines that are not blank; the first of all has this number.
unfoldable pub unblank : ℕ → List Text → List Numbered
unblank i [] = []
unblank i (r ∷ rs) = cond (is_blank_line r) (unblank (suc i) rs) (numbered i r ∷ unblank (suc i) rs)

abbrev pub is_answer : {A : Type 0} → Outcome A → Bool
is_answer (answer a) = true
is_answer (refusal code place) = false

-- The raw line can be read as a strict line.
unfoldable pub reads_strictly : Text → Bool
reads_strictly raw = is_answer (strict_line 0 raw)

-- The raw line is line k of a header whose first raw line is the other, and can't be read as a strict line.
unfoldable pub captions : Text → ℕ → Text → Bool
captions first k raw = is_header_line (shown first) k (shown raw) && not (reads_strictly raw)

-- The number of the last line of a header that nobody named: the third line that is left, or 0 where there is none.
unfoldable pub guessed_header : List Numbered → ℕ
guessed_header [] = 0
guessed_header (a ∷ []) = 0
guessed_header (a ∷ b ∷ []) = 0
guessed_header (a ∷ b ∷ c ∷ []) = 0
guessed_header (a ∷ b ∷ c ∷ d ∷ more) =
    cond (captions a.raw 1 a.raw && (captions a.raw 2 b.raw && captions a.raw 3 c.raw)) c.line 0

-- The first of the lines up to this number that can be read as a strict line.
unfoldable pub strict_in_header : ℕ → List Numbered → Option ℕ
strict_in_header h [] = none
strict_in_header h (n ∷ ns) = cond (leb n.line h) (cond (reads_strictly n.raw) (some n.line) (strict_in_header h ns)) none

abbrev pub unless_strict : ℕ → Option ℕ → Outcome ℕ
unless_strict h none = answer h
unless_strict h (some line) = refuse codes.file_header line

-- The header that the caller names by its count of lines.
unfoldable pub named_header : ℕ → List Text → Outcome ℕ
named_header h raws = cond (ltb (length raws) h) (refuse codes.file_header 0) (unless_strict h (strict_in_header h (unblank 1 raws)))

-- The greatest count of lines that can be named; one more stands for none that is named.
abbrev pub header_limit : ℕ
header_limit = 99

abbrev pub no_header_named : ℕ
no_header_named = 100

-- The number of the header's last line, 0 where there is no header.
unfoldable pub header_of : ℕ → List Text → Outcome ℕ
header_of header raws = cond (leb header header_limit) (named_header header raws) (answer (guessed_header (unblank 1 raws)))

-- ---- the other lines

-- Code 22 for a name: it is now that of the line before, and was not the same bytes.
abbrev pub is_misnamed : Option Kept → Kept → Bool
is_misnamed none k = false
is_misnamed (some b) k = same_text (name_of b.text) (name_of k.text) && not (same_text (name_bytes b) (name_bytes k))

-- The raw line is a line of data: not blank, and below the header.
unfoldable pub is_data : ℕ → ℕ → Text → Bool
is_data h i raw = not (is_blank_line raw) && ltb h i

-- The line in front of the later ones, unless its name is at fault.
abbrev pub kept_then : Option Kept → Kept → (Option Kept → Outcome (List Kept)) → Outcome (List Kept)
kept_then before k later = cond (is_misnamed before k) (refuse codes.file_bytes k.line) (with_answer (λ ks. k ∷ ks) (later (some k)))

-- The strict lines of these raw lines, the first of which has this number; below a header that ends with line h, behind this line.
unfoldable pub kept_lines : ℕ → ℕ → Option Kept → List Text → Outcome (List Kept)
kept_lines h i before [] = answer []
kept_lines h i before (r ∷ rs) =
    cond (is_data h i r)
    (strict_line i r then λ t. kept_then before (record { line = i; raw = r; text = t }) (λ b. kept_lines h (suc i) b rs))
    (kept_lines h (suc i) before rs)
