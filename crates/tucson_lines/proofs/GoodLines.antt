-- What a good line is, for a caller that goes on with it: where it ends, where its name and fields stand, how large its year
-- is, and what changes where it is not its series' last.
use mathlib.Core.Path.{◌≡◌, refl, sym, ◌∙◌, ap, ap₂, subst}
use mathlib.Core.Bool.{Bool, true, false, cond, ◌&&◌, ◌||◌, not, and_assoc, and-false}
use mathlib.Core.List.{List, [], ◌∷◌}
use mathlib.Core.Logic.{◌⊎◌, inl, inr}
use mathlib.Core.Option.{Option, some, none}
use Prim.Native.Nat.{ℕ, zero, suc, ◌+◌, ◌*◌, ◌-◌, ◌<◌, ◌≤◌}
use native.Mathlib.Omega.{arith}
use borrow.Author.Tests.{leb-true, eqb-true}
use Rattle.std.specs.Prelude.{Some, None}
use lib.Dec.{eqb, leb}
use lib.IntN.{ℤ, pos, negsuc, nat_abs}
use lib.ListN.{length, take, drop}
use lib.Seq.{slice, length-slice}
use mir.Syntax.{w32}
use mir.Val.{SFits}
use Rattle.base_exact.proofs.Word.{sfits_abs}
use Rattle.base_exact.proofs.Decide.{and-true, le_or_lt, clash}
use Rattle.base_text.specs.Bytes.{Text, minus, newline, Cut, cut}
use Rattle.base_text.specs.Numeral.{numeral, is_natural, digits_value, negated, numeral_limit}
use Rattle.base_text.proofs.Digits.{natural_small}
use Rattle.base_text.proofs.Slice.{take_slice, drop-slice}
use Rattle.spec_tucson.specs.Columns.{blank, in_columns}
use Rattle.spec_tucson.specs.Line.{Line, name_columns, year_columns, head_columns, field_columns, decade, thousandths, field_numerals, field_count, columns_fit}
use Rattle.spec_tucson.specs.Line.{all_printable, all_blank, is_name, is_width, same, with_numerals, line_in_columns, of_cut, line_of, within_decade}
use Rattle.spec_tucson.specs.Line.{fields_allowed, if_allowed, good_line}
use Rattle.spec_tucson.specs.TextReading.{last_field}
use Rattle.tucson_lines.specs.Machine.{line_told, LineEnd}
use Rattle.tucson_lines.specs.declared.LineNumbers.{LineNumbers}
use Rattle.tucson_lines.proofs.Lines.{end_within, good-unended, good-columns}
use Rattle.tucson_lines.proofs.LineNumerals.{fields-count, fields-last}

-- ---- the size of a number in columns
negated-small : (b : Bool) (n : ℕ) (z : ℤ) → negated b n ≡ some z → (b ≡ true → n < numeral_limit) → nat_abs z < numeral_limit
negated-small true zero z e h = clash cc
negated-small true (suc n) z e h = let x : negsuc n ≡ z = cc in rw (sym x) (h refl)
negated-small false n z e h = clash cc

pub numeral-small : (t : Text) (z : ℤ) → numeral t ≡ some z → nat_abs z < numeral_limit
unfolding numeral
numeral-small [] z e = clash cc
numeral-small (c ∷ cs) z e = go (eqb c minus) (is_natural (c ∷ cs)) refl e
  where
    go : (m b : Bool) → is_natural (c ∷ cs) ≡ b
        → cond m (negated (is_natural cs) (digits_value 0 cs)) (cond b (some (pos (digits_value 0 (c ∷ cs)))) none) ≡ some z → nat_abs z < numeral_limit
    go true b k e = negated-small (is_natural cs) (digits_value 0 cs) z e (λ h. natural_small cs h)
    go false true k e = let x : pos (digits_value 0 (c ∷ cs)) ≡ z = cc in rw (sym x) (natural_small (c ∷ cs) k)
    go false false k e = clash cc

pub columns-small : (t : Text) (z : ℤ) → in_columns t ≡ some z → nat_abs z < numeral_limit
unfolding in_columns
columns-small [] z e = clash cc
columns-small (c ∷ cs) z e = go (eqb c blank) e (columns-small cs z)
  where
    go : (b : Bool) → cond b (in_columns cs) (numeral (c ∷ cs)) ≡ some z → (in_columns cs ≡ some z → nat_abs z < numeral_limit) → nat_abs z < numeral_limit
    go true e ih = ih e
    go false e ih = numeral-small (c ∷ cs) z e

-- and so in a word of the machine
pub columns-fit : (t : Text) (z : ℤ) → in_columns t ≡ some z → SFits w32 z
columns-fit t z e = sfits_abs {w = w32} (omega (arith, columns-small t z e))

-- ---- a line that is not its series' last
allowed_more : (fs : List ℤ) → fields_allowed false fs ≡ (fields_allowed true fs && is_width (last_field fs))
unfolding fields_allowed last_field is_width
allowed_more [] = refl
allowed_more (f ∷ []) = go (is_width f) (same f thousandths)
  where
    go : (w s : Bool) → (w || false) ≡ ((w || s) && w)
    go true s = refl
    go false s = sym (and-false s)
allowed_more (f ∷ g ∷ fs) =
    ap (λ (b : Bool). is_width f && b) (allowed_more (g ∷ fs))
    ∙ sym (and_assoc (is_width f) (fields_allowed true (g ∷ fs)) (is_width (last_field (g ∷ fs))))

-- The line, if its last field is a width.
abbrev pub if_width : Option Line → Option Line
if_width none = none
if_width (some l) = cond (is_width (last_field l.fields)) (some l) none

pub good_more : (t : Text) → good_line false t ≡ if_width (good_line true t)
unfolding good_line
good_more t = go (line_of t)
  where
    split : (l : Line) (d a w : Bool) → w ≡ is_width (last_field l.fields) → cond (d && (a && w)) (some l) none ≡ if_width (cond (d && a) (some l) none)
    split l true true w e = ap (λ (b : Bool). cond b (some l) none) e
    split l true false w e = refl
    split l false a w e = refl

    go : (o : Option Line) → if_allowed false o ≡ if_width (if_allowed true o)
    go none = refl
    go (some l) = ap (λ (b : Bool). cond (within_decade l && b) (some l) none) (allowed_more l.fields)
        ∙ split l (within_decade l) (fields_allowed true l.fields) _ refl

-- ---- a line that passes the tests

-- What the tests say of the line between two indices of a text.
pub record GoodLine (text : Text) (from end : ℕ) (l : Line) : Type 0 where
  pub ended : end < length text
  pub size : end ≡ from + 12 + length l.fields * field_columns
  pub some_field : 1 ≤ length l.fields
  pub few : length l.fields ≤ decade
  pub named : is_name (slice from (from + name_columns) text) ≡ true
  pub name : l.name ≡ slice from (from + name_columns) text
  pub numerals : field_numerals (length l.fields) (slice (from + 12) end text) ≡ some l.fields
  pub year-small : nat_abs l.year < numeral_limit
  pub last-small : nat_abs (last_field l.fields) < numeral_limit
  pub allowed : fields_allowed true l.fields ≡ true

-- the parts of a line in columns
pub record Columns (body : Text) (l : Line) : Type 0 where
  pub fits : columns_fit body ≡ true
  pub named : is_name (take name_columns body) ≡ true
  pub name : l.name ≡ take name_columns body
  pub year : in_columns (take year_columns (drop name_columns body)) ≡ some l.year
  pub fields : field_numerals (field_count body) (drop head_columns body) ≡ some l.fields

with_some : (name : Text) (y : Option ℤ) (fs : Option (List ℤ)) (l : Line) → with_numerals name y fs ≡ some l
    → (l.name ≡ name) × ((y ≡ some l.year) × (fs ≡ some l.fields))
with_some name none fs l e = clash cc
with_some name (some y) none l e = clash cc
with_some name (some y) (some fs) l e =
    let same_line : record { name = name; year = y; fields = fs } ≡ l = cc in
    (sym (ap (λ m. m.name) same_line), (ap (λ m. some m.year) same_line, ap (λ m. some m.fields) same_line))

pub columns-parts : (body : Text) (l : Line) → line_in_columns body ≡ some l → Columns body l
unfolding line_in_columns
columns-parts body l e = go (columns_fit body && is_name (take name_columns body)) refl e
  where
    go : (b : Bool) → (columns_fit body && is_name (take name_columns body)) ≡ b →
        cond b (with_numerals (take name_columns body) (in_columns (take year_columns (drop name_columns body)))
        (field_numerals (field_count body) (drop head_columns body))) none ≡ some l → Columns body l
    go true k e =
        let both = and-true (columns_fit body) (is_name (take name_columns body)) k in
        let made =
        with_some (take name_columns body) (in_columns (take year_columns (drop name_columns body)))
        (field_numerals (field_count body) (drop head_columns body)) l e in
        record { fits = both.0; named = both.1; name = made.0; year = made.1.0; fields = made.1.1 }
    go false k e = clash cc

allowed_parts : (o : Option Line) (l : Line) → if_allowed true o ≡ some l → (o ≡ some l) × ((within_decade l ≡ true) × (fields_allowed true l.fields ≡ true))
allowed_parts none l e = clash cc
allowed_parts (some m) l e = go (within_decade m && fields_allowed true m.fields) refl e
  where
    go : (b : Bool) → (within_decade m && fields_allowed true m.fields) ≡ b → cond b (some m) none ≡ some l
        → (some m ≡ some l) × ((within_decade l ≡ true) × (fields_allowed true l.fields ≡ true))
    go true k e =
        let same_line : m ≡ l = cc in
        (e, and-true (within_decade l) (fields_allowed true l.fields) (subst (λ x. (within_decade x && fields_allowed true x.fields) ≡ true) same_line k))
    go false k e = clash cc

pub fits-parts : (body : Text) → columns_fit body ≡ true → (length body ≡ 12 + field_count body * field_columns) × ((1 ≤ field_count body) × (field_count body ≤ decade))
unfolding columns_fit
fits-parts body e =
    let n = field_count body in
    let outer = and-true (eqb (length body) (12 + n * field_columns) && leb 1 n) (leb n decade) e in
    let inner = and-true (eqb (length body) (12 + n * field_columns)) (leb 1 n) outer.0 in
    (eqb-true _ _ inner.0, (leb-true 1 n inner.1, leb-true n decade outer.1))

pub good-line : (text : Text) (from end : ℕ) → LineEnd text from end → (l : Line) → good_line true (slice from (end + 1) text) ≡ some l
    → GoodLine text from end l
good-line text from end at l e = go (le_or_lt (length text) end)
  where
    within : (from ≤ end) × (end ≤ length text)
    within = end_within text from end at

    parts : end < length text → GoodLine text from end l
    parts ended =
        let body : Text = slice from end text in
        let allowed = allowed_parts (line_in_columns body) l (sym (good-columns text from end at true ended) ∙ e) in
        let p = columns-parts body l allowed.0 in
        let q = fits-parts body p.fits in
        let count : length l.fields ≡ field_count body = fields-count (field_count body) (drop head_columns body) l.fields p.fields in
        let size : length body ≡ end - from = length-slice from end text within.1 in
        let name_at : take name_columns body ≡ slice from (from + name_columns) text = take_slice name_columns from end text (omega arith) in
        record {
          ended = ended;
          size = omega arith;
          some_field = omega arith;
          few = omega arith;
          named = rw name_at at p.named;
          name = p.name ∙ name_at;
          numerals = ap₂ field_numerals count (sym (drop-slice head_columns from end text)) ∙ p.fields;
          year-small = columns-small _ l.year p.year;
          last-small = columns-small _ _ (fields-last (field_count body) (drop head_columns body) l.fields q.1.0 p.fields);
          allowed = allowed.1.1;
        }

    go : (length text ≤ end) ⊎ (end < length text) → GoodLine text from end l
    go (inl h) = clash (let z = good-unended text from end at true (omega (arith, within.1)) in cc)
    go (inr h) = parts h

-- ---- what the answer for a line says of it
pub line-none : (o : Option Line) → line_told o ≡ None → o ≡ none
unfolding line_told
line-none none e = refl
line-none (some l) e = clash cc

-- The line is this one, told so.
pub record IsLine (o : Option Line) (r : LineNumbers) : Type 0 where
  pub line : Line
  pub is : o ≡ some line
  pub told : line_told (some line) ≡ Some r

pub line_some : (o : Option Line) (r : LineNumbers) → line_told o ≡ Some r → IsLine o r
unfolding line_told
line_some none r e = clash cc
line_some (some l) r e = record { line = l; is = refl; told = e }

-- ---- a good line's name is one
pub good-name : (t : Text) (l : Line) → good_line true t ≡ some l → is_name l.name ≡ true
unfolding good_line line_of
good-name t l e = go (cut newline t) (allowed_parts (line_of t) l e).0
  where
    go : (o : Option Cut) → of_cut o ≡ some l → is_name l.name ≡ true
    go none e = clash cc
    go (some c) e = let p = columns-parts c.before l e in ap is_name p.name ∙ p.named

pub name_length : (t : Text) → is_name t ≡ true → length t ≡ name_columns
unfolding is_name
name_length t e =
    eqb-true (length t) name_columns
    (and-true (eqb (length t) name_columns) (all_printable t) (and-true (eqb (length t) name_columns && all_printable t) (not (all_blank t)) e).0).0
