-- The fields of a strict line: how many there are, and where the first, the last and the one before it stand.
use mathlib.Core.Path.{◌≡◌, refl, sym, ◌∙◌, ap}
use mathlib.Core.Bool.{Bool, true, false, cond, ◌&&◌}
use mathlib.Core.List.{List, [], ◌∷◌, ◌++◌, drop_last}
use mathlib.Core.Option.{Option, some, none}
use Prim.Native.Nat.{ℕ, zero, suc, ◌+◌, ◌*◌, ◌-◌, ◌/◌, ◌<◌, ◌≤◌}
use native.Mathlib.Omega.{arith}
use borrow.Author.Tests.{leb-true, eqb-true}
use lib.Dec.{eqb, leb}
use lib.IntN.{ℤ, pos}
use lib.ListN.{length, take, drop, get_or}
use lib.Seq.{slice, drop-drop, length-take-le}
use Rattle.base_exact.proofs.Decide.{clash, and-true}
use Rattle.base_text.specs.Bytes.{Text}
use Rattle.base_text.proofs.Slice.{take_slice}
use Rattle.spec_tucson.specs.Columns.{in_columns}
use Rattle.spec_tucson.specs.Line.{name_columns, year_columns, head_columns, field_columns, decade, with_field, field_numerals, field_count, columns_fit, is_name, with_numerals, line_in_columns}
use Rattle.spec_tucson.specs.TextReading.{last_field}
use Rattle.spec_tucson.specs.StrictLine.{is_some, is_strict}
use Rattle.spec_tucson.specs.CleanSeries.{fields_in, fields_of}
use Rattle.spec_tucson.proofs.Lines.{fields-count}
use Rattle.tucson_lines.proofs.LineNumerals.{behind, fields-behind, last-behind, fields-front}
use Rattle.tucson_notes.specs.Machine.{number_in}

-- ---- the columns of a strict line

pub record StrictParts (t : Text) : Type 0 where
  pub columns-fit : columns_fit t ≡ true
  pub named : is_name (take name_columns t) ≡ true
  pub numerals : field_numerals (field_count t) (drop head_columns t) ≡ some (fields_of t)

pub strict_parts : (t : Text) → is_strict t ≡ true → StrictParts t
unfolding is_strict line_in_columns fields_of
strict_parts t e = go (columns_fit t && is_name (take name_columns t)) refl e
  where
    year : Option ℤ
    year = in_columns (take year_columns (drop name_columns t))

    all : Option (List ℤ)
    all = field_numerals (field_count t) (drop head_columns t)

    inside : (y : Option ℤ) (fs : Option (List ℤ)) → is_some (with_numerals (take name_columns t) y fs) ≡ true
        → fs ≡ some (fields_in (with_numerals (take name_columns t) y fs))
    inside none fs e = clash cc
    inside (some y) none e = clash cc
    inside (some y) (some fs) e = refl

    go : (b : Bool) → (columns_fit t && is_name (take name_columns t)) ≡ b → is_some (cond b (with_numerals (take name_columns t) year all) none) ≡ true → StrictParts t
    go true h e =
        let both = and-true (columns_fit t) (is_name (take name_columns t)) h in
        record { columns-fit = both.0; named = both.1; numerals = inside year all e ∙ ap (λ (b : Bool). some (fields_in (cond b (with_numerals (take name_columns t) year all) none))) (sym h) }
    go false h e = clash cc

pub record StrictSize (t : Text) : Type 0 where
  pub size : length t ≡ 12 + field_count t * field_columns
  pub some_field : 1 ≤ field_count t
  pub few : field_count t ≤ decade

pub strict_size : (t : Text) → is_strict t ≡ true → StrictSize t
unfolding columns_fit
strict_size t e =
    let p = strict_parts t e in
    let a = and-true (eqb (length t) (12 + field_count t * field_columns) && leb 1 (field_count t)) (leb (field_count t) decade) p.columns-fit in
    let b = and-true (eqb (length t) (12 + field_count t * field_columns)) (leb 1 (field_count t)) a.0 in
    record { size = eqb-true _ _ b.0; some_field = leb-true _ _ b.1; few = leb-true _ _ a.1 }

-- ---- the first and the last of so many fields

number-first : (o : Option ℤ) (p : Option (List ℤ)) (fs : List ℤ) → with_field o p ≡ some fs → get_or fs 0 (pos 0) ≡ number_in o
unfolding number_in
number-first none p fs e = clash cc
number-first (some z) none fs e = clash cc
number-first (some z) (some gs) fs e = let is : z ∷ gs ≡ fs = cc in ap (λ (l : List ℤ). get_or l 0 (pos 0)) (sym is)

pub first_field : (n : ℕ) (t : Text) (fs : List ℤ) → 1 ≤ n → field_numerals n t ≡ some fs → get_or fs 0 (pos 0) ≡ number_in (in_columns (take field_columns t))
unfolding field_numerals
first_field zero t fs h e = absurd (omega arith)
first_field (suc n) t fs h e = number-first (in_columns (take field_columns t)) (field_numerals n (drop field_columns t)) fs e

number-last : (p : Option (List ℤ)) (o : Option ℤ) (fs : List ℤ) → behind p o ≡ some fs → last_field fs ≡ number_in o
unfolding number_in
number-last none o fs e = clash cc
number-last (some ws) none fs e = clash cc
number-last (some ws) (some f) fs e = let is : ws ++ (f ∷ []) ≡ fs = cc in ap last_field (sym is) ∙ last-behind ws f

pub last-field : (n : ℕ) (t : Text) (fs : List ℤ) → 1 ≤ n → field_numerals n t ≡ some fs
    → last_field fs ≡ number_in (in_columns (take field_columns (drop ((n - 1) * field_columns) t)))
last-field zero t fs h e = absurd (omega arith)
last-field (suc n) t fs h e =
    let k : n ≡ suc n - 1 = omega arith in
    number-last (field_numerals n t) _ fs (sym (fields-behind n t) ∙ e) ∙ ap (λ (m : ℕ). number_in (in_columns (take field_columns (drop (m * field_columns) t)))) k

-- ---- in a line of n bytes at the front of an array
module _ (line : Text) (n : ℕ) (within : n ≤ length line) (strict : is_strict (take n line) ≡ true) where
  abbrev pub text : Text
  text = take n line

  abbrev pub count : ℕ
  count = field_count text

  abbrev parts : StrictParts text
  parts = strict_parts text strict

  pub size_is : n ≡ 12 + count * field_columns
  size_is = sym (length-take-le n line within) ∙ (strict_size text strict).size

  pub count_is : count ≡ (n - 12) / field_columns
  count_is = ap (λ (k : ℕ). (k - 12) / field_columns) (length-take-le n line within)

  pub count-fields : length (fields_of text) ≡ count
  count-fields = fields-count count (drop 12 text) (fields_of text) parts.numerals

  -- a field of the line from this index on
  field_at : (k : ℕ) → 12 + k + field_columns ≤ n → take field_columns (drop k (drop 12 text)) ≡ slice (12 + k) (12 + k + field_columns) line
  field_at k h = ap (take field_columns) (drop-drop k 12 text) ∙ take_slice field_columns (12 + k) n line h

  pub first_is : get_or (fields_of text) 0 (pos 0) ≡ number_in (in_columns (slice 12 (12 + field_columns) line))
  first_is =
      first_field count (drop 12 text) (fields_of text) (strict_size text strict).some_field parts.numerals
      ∙ ap (λ (t : Text). number_in (in_columns t)) (field_at 0 (omega (arith, size_is, (strict_size text strict).some_field)))

  pub last_is : last_field (fields_of text) ≡ number_in (in_columns (slice (n - field_columns) (n - field_columns + field_columns) line))
  last_is =
      let h = (strict_size text strict).some_field in
      let e : 12 + (count - 1) * field_columns ≡ n - field_columns = omega (arith, size_is, h) in
      last-field count (drop 12 text) (fields_of text) h parts.numerals
      ∙ ap (λ (t : Text). number_in (in_columns t)) (field_at ((count - 1) * field_columns) (omega (arith, size_is, h))
      ∙ ap (λ (k : ℕ). slice k (k + field_columns) line) e)

  pub before_is : 2 ≤ count
      → last_field (drop_last (fields_of text)) ≡ number_in (in_columns (slice (n - 2 * field_columns) (n - 2 * field_columns + field_columns) line))
  before_is h =
      let e : 12 + (count - 1 - 1) * field_columns ≡ n - 2 * field_columns = omega (arith, size_is, h) in
      last-field (count - 1) (drop 12 text) (drop_last (fields_of text)) (omega arith)
      (fields-front count (drop 12 text) (fields_of text) (omega arith) parts.numerals)
      ∙ ap (λ (t : Text). number_in (in_columns t)) (field_at ((count - 1 - 1) * field_columns) (omega (arith, size_is, h))
      ∙ ap (λ (k : ℕ). slice k (k + field_columns) line) e)

  pub before-none : count < 2 → last_field (drop_last (fields_of text)) ≡ pos 0
  unfolding last_field
  before-none h = go (fields_of text) (omega (arith, count-fields, h))
    where
      go : (fs : List ℤ) → length fs < 2 → last_field (drop_last fs) ≡ pos 0
      go [] h = refl
      go (f ∷ []) h = refl
      go (f ∷ g ∷ fs) h = absurd (omega arith)
