-- One line: its text has no byte 10 but the last, is as long as its columns, and reads back to the line.
use mathlib.Core.Path.{◌≡◌, refl, sym, ◌∙◌, ap, ap₂}
use mathlib.Core.Bool.{Bool, true, false, ◌&&◌, not}
use mathlib.Core.List.{List, [], ◌∷◌, ◌++◌, append_assoc}
use mathlib.Core.Option.{Option, some, none}
use Prim.Native.Nat.{ℕ, ◌+◌, ◌*◌, ◌≤◌}
use native.Mathlib.Omega.{arith}
use borrow.Author.Tests.{eq-eqb, le-leb, eqb-true, not-true}
use lib.Dec.{eqb}
use lib.IntN.{ℤ}
use lib.ListN.{length, take, drop, length-append}
use lib.Seq.{take_at, drop_at, drop-drop}
use Rattle.base_exact.proofs.Decide.{and-true, cond_true}
use Rattle.base_text.specs.Bytes.{Text, newline, cut, on_first}
use Rattle.base_text.proofs.Lacking.{lacks, byte, lacks_append, lacks-first, cut-first}
use Rattle.spec_tucson.specs.Columns.{in_columns, columns}
use Rattle.spec_tucson.specs.Line.{Line, name_columns, year_columns, head_columns, field_columns, decade, lines_of, all_printable, all_blank, is_name, with_field}
use Rattle.spec_tucson.specs.Line.{field_numerals, field_count, columns_fit, with_numerals, line_in_columns, of_cut, line_of}
use Rattle.spec_tucson.specs.Writing.{fields_text, line_text}
use Rattle.spec_tucson.proofs.Lines.{printable_lacks}
use Rattle.theorems_tucson.proofs.Columns.{FitsColumns, fits_length, fits-small, columns-read, columns_length, columns-lack}

-- The bytes of a line with so many fields, byte 10 too.
abbrev pub line_bytes : ℕ → ℕ
line_bytes n = head_columns + n * field_columns + 1

-- ---- a text cut into lines

pub lines-first : (s rest : Text) → lacks (byte newline) s ≡ true → lines_of (s ++ (newline ∷ rest)) ≡ (s ++ (newline ∷ [])) ∷ lines_of rest
unfolding lines_of
lines-first [] rest h = refl
lines-first (c ∷ s) rest h = let parts = lacks-first (byte newline) c s h in rw parts.0 (ap (on_first c) (lines-first s rest parts.1))

-- ---- names

pub name-parts : (t : Text) → is_name t ≡ true → (length t ≡ name_columns) × (all_printable t ≡ true) × (all_blank t ≡ false)
unfolding is_name
name-parts t e =
    let outer = and-true (eqb (length t) name_columns && all_printable t) (not (all_blank t)) e in
    let inner = and-true (eqb (length t) name_columns) (all_printable t) outer.0 in
    (eqb-true (length t) name_columns inner.0, inner.1, not-true (all_blank t) outer.1)

-- ---- fields

-- every field has room in its columns
abbrev pub FieldsHeld : List ℤ → Type 0
FieldsHeld [] = Unit {0}
FieldsHeld (f ∷ fs) = FitsColumns 5 f × FieldsHeld fs

field_length : (f : ℤ) → FitsColumns 5 f → length (columns field_columns f) ≡ field_columns
field_length f h = columns_length field_columns f (fits_length 4 f h)

pub fields_length : (fs : List ℤ) → FieldsHeld fs → length (fields_text fs) ≡ length fs * field_columns
unfolding fields_text
fields_length [] h = refl
fields_length (f ∷ fs) h = length-append (columns field_columns f) (fields_text fs) ∙ omega (arith, field_length f h.0, fields_length fs h.1)

fields-lack : (fs : List ℤ) → lacks (byte newline) (fields_text fs) ≡ true
unfolding fields_text
fields-lack [] = refl
fields-lack (f ∷ fs) = lacks_append (byte newline) (columns field_columns f) (fields_text fs) (columns-lack field_columns f) (fields-lack fs)

fields_read : (fs : List ℤ) → FieldsHeld fs → field_numerals (length fs) (fields_text fs) ≡ some fs
unfolding fields_text field_numerals
fields_read [] h = refl
fields_read (f ∷ fs) h =
    let whole = field_length f h.0 in
    ap₂ with_field
    (ap in_columns (take_at (columns field_columns f) (fields_text fs) field_columns whole) ∙ columns-read field_columns f (fits-small 5 f (omega arith) h.0))
    (ap (field_numerals (length fs)) (drop_at (columns field_columns f) (fields_text fs) field_columns whole) ∙ fields_read fs h.1)

-- ---- lines

-- a line that its columns hold
pub record LineHeld (l : Line) : Type 0 where
  pub named : is_name l.name ≡ true
  pub dated : FitsColumns 3 l.year
  pub any : 1 ≤ length l.fields
  pub few : length l.fields ≤ decade
  pub small : FieldsHeld l.fields

-- the line's bytes before byte 10
abbrev body_text : Line → Text
body_text l = l.name ++ (columns year_columns l.year ++ fields_text l.fields)

body_is : (l : Line) → line_text l ≡ body_text l ++ (newline ∷ [])
unfolding line_text
body_is l = simp append_assoc

pub columns_are : (body : Text) (n : ℕ) → length body ≡ head_columns + n * field_columns → field_count body ≡ n
columns_are body n e = omega (arith, e)

columns_fit_yes : (body : Text) (n : ℕ) → length body ≡ head_columns + n * field_columns → 1 ≤ n → n ≤ decade → columns_fit body ≡ true
unfolding columns_fit
columns_fit_yes body n e h k =
    rw (columns_are body n e) (rw (eq-eqb (length body) (head_columns + n * field_columns) e, le-leb 1 n h, le-leb n decade k))

module _ (l : Line) (f : LineHeld l) where
  name_length : length l.name ≡ name_columns
  name_length = (name-parts l.name f.named).0

  year_length : length (columns year_columns l.year) ≡ year_columns
  year_length = columns_length year_columns l.year (fits_length 2 l.year f.dated)

  body_length : length (body_text l) ≡ head_columns + length l.fields * field_columns
  body_length =
      length-append l.name (columns year_columns l.year ++ fields_text l.fields)
      ∙ omega (arith, length-append (columns year_columns l.year) (fields_text l.fields), name_length, year_length, fields_length l.fields f.small)

  body-lacks : lacks (byte newline) (body_text l) ≡ true
  body-lacks =
      lacks_append (byte newline) l.name (columns year_columns l.year ++ fields_text l.fields)
      (printable_lacks l.name (name-parts l.name f.named).1)
      (lacks_append (byte newline) (columns year_columns l.year) (fields_text l.fields) (columns-lack year_columns l.year) (fields-lack l.fields))

  pub line_length : length (line_text l) ≡ line_bytes (length l.fields)
  line_length = ap length (body_is l) ∙ length-append (body_text l) (newline ∷ []) ∙ omega (arith, body_length)

  name-taken : take name_columns (body_text l) ≡ l.name
  name-taken = take_at l.name (columns year_columns l.year ++ fields_text l.fields) name_columns name_length

  rest-dropped : drop name_columns (body_text l) ≡ columns year_columns l.year ++ fields_text l.fields
  rest-dropped = drop_at l.name (columns year_columns l.year ++ fields_text l.fields) name_columns name_length

  year-read : in_columns (take year_columns (drop name_columns (body_text l))) ≡ some l.year
  year-read =
      ap (λ (t : Text). in_columns (take year_columns t)) rest-dropped
      ∙ ap in_columns (take_at (columns year_columns l.year) (fields_text l.fields) year_columns year_length)
      ∙ columns-read year_columns l.year (fits-small 3 l.year (omega arith) f.dated)

  fields-dropped : drop head_columns (body_text l) ≡ fields_text l.fields
  fields-dropped =
      sym (drop-drop year_columns name_columns (body_text l))
      ∙ ap (drop year_columns) rest-dropped
      ∙ drop_at (columns year_columns l.year) (fields_text l.fields) year_columns year_length

  body_reads : line_in_columns (body_text l) ≡ some l
  unfolding line_in_columns
  body_reads =
      cond_true _ none (ap₂ (λ (a b : Bool). a && b) (columns_fit_yes (body_text l) (length l.fields) body_length f.any f.few) (ap is_name name-taken ∙ f.named))
      ∙ ap₂ (λ (y : Option ℤ) (fs : Option (List ℤ)). with_numerals (take name_columns (body_text l)) y fs) year-read
      (ap₂ field_numerals (columns_are (body_text l) (length l.fields) body_length) fields-dropped ∙ fields_read l.fields f.small)
      ∙ ap (λ (t : Text). with_numerals t (some l.year) (some l.fields)) name-taken

  -- the line reads back
  pub line_reads : line_of (line_text l) ≡ some l
  unfolding line_of
  line_reads =
      ap (λ (t : Text). of_cut (cut newline t)) (body_is l)
      ∙ ap of_cut (cut-first newline (body_text l) [] body-lacks)
      ∙ body_reads

  -- and is the first line of a text that begins with it
  pub line_first : (rest : Text) → lines_of (line_text l ++ rest) ≡ line_text l ∷ lines_of rest
  line_first rest =
      ap (λ (t : Text). lines_of (t ++ rest)) (body_is l)
      ∙ ap lines_of (append_assoc (body_text l) (newline ∷ []) rest)
      ∙ lines-first (body_text l) rest body-lacks
      ∙ ap (λ (t : Text). t ∷ lines_of rest) (sym (body_is l))

  -- its first eight bytes are the name
  pub line-named : take name_columns (line_text l) ≡ l.name
  unfolding line_text
  line-named = take_at l.name (columns year_columns l.year ++ (fields_text l.fields ++ (newline ∷ []))) name_columns name_length
