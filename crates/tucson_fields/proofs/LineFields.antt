-- A strict line's numbers: what each field adds to what is kept of those before it, and where they stand in the line.
use mathlib.Core.Path.{◌≡◌, refl, sym, ◌∙◌, ap}
use mathlib.Core.Bool.{Bool, true, false, ◌&&◌, ◌||◌, and_assoc, and-true as and-true-right, or_assoc, or-false as or-none}
use mathlib.Core.List.{List, [], ◌∷◌, ◌++◌, drop_last}
use mathlib.Core.Option.{Option, some, none}
use Prim.Native.Nat.{ℕ, suc, ◌+◌, ◌*◌, ◌-◌, ◌<◌, ◌≤◌}
use native.Mathlib.Omega.{arith}
use lib.IntN.{ℤ, pos, nat_abs}
use lib.ListN.{length, take, drop}
use lib.Seq.{slice, drop-drop}
use lib.Signed.{le_z}
use Rattle.base_exact.proofs.Decide.{clash}
use Rattle.base_text.specs.Bytes.{Text}
use Rattle.base_text.specs.Numeral.{numeral_limit}
use Rattle.base_text.proofs.Slice.{slice_take, slice_all}
use Rattle.spec_tucson.specs.Columns.{in_columns}
use Rattle.spec_tucson.specs.Line.{Line, name_columns, year_columns, field_columns, decade, with_field, field_numerals, field_count, is_width, same, line_in_columns}
use Rattle.spec_tucson.specs.Series.{hundredths, hundredths_limit, all_hundredths}
use Rattle.spec_tucson.specs.TextReading.{last_field}
use Rattle.spec_tucson.specs.Writing.{all_widths}
use Rattle.spec_tucson.specs.StrictLine.{is_some, is_strict}
use Rattle.spec_tucson.specs.CleanSeries.{any999}
use Rattle.tucson_lines.proofs.Fields.{fields-first}
use Rattle.tucson_lines.proofs.GoodLines.{columns-parts, fits-parts, columns-small}
use Rattle.tucson_lines.proofs.LineNumerals.{behind, fields-behind, last-behind, front-behind, fields-count}

-- ---- the fields one after another

-- What is kept before the fields from an index on, of all fields.
pub record Rest (t : Text) (at left : ℕ) (ws : List ℤ) (widths small nine : Bool) : Type 0 where
  pub later : List ℤ
  pub are : field_numerals left (slice at (length t) t) ≡ some later
  pub widths_are : all_widths ws ≡ (widths && all_widths later)
  pub small_are : all_hundredths ws ≡ (small && all_hundredths later)
  pub nine_is : any999 ws ≡ (nine || any999 later)

-- The fields that a first one and others make up.
record Made (o : Option ℤ) (r : Option (List ℤ)) (ws : List ℤ) : Type 0 where
  first : ℤ
  later : List ℤ
  first_is : o ≡ some first
  later_are : r ≡ some later
  all : first ∷ later ≡ ws

made : (o : Option ℤ) (r : Option (List ℤ)) (ws : List ℤ) → with_field o r ≡ some ws → Made o r ws
made none r ws e = clash cc
made (some z) none ws e = clash cc
made (some z) (some vs) ws e = record { first = z; later = vs; first_is = refl; later_are = refl; all = cc }

module _ (t : Text) (at left : ℕ) (ws : List ℤ) (widths small nine : Bool) (rest : Rest t at left ws widths small nine)
    (more : 1 ≤ left) (within : at + field_columns ≤ length t) where
  here : Made (in_columns (slice at (at + field_columns) t)) (field_numerals (left - 1) (slice (at + field_columns) (length t) t)) rest.later
  here = made _ _ rest.later (sym (fields-first left t at (length t) more within) ∙ rest.are)

  pub no_field : in_columns (slice at (at + field_columns) t) ≡ none → ⊥
  no_field e = let h = here.first_is in let z : ◌≡◌ {A = ℕ} 0 1 = cc in omega arith

  pub next_field : (z : ℤ) → in_columns (slice at (at + field_columns) t) ≡ some z
      → Rest t (at + field_columns) (left - 1) ws (widths && is_width z) (small && le_z z (pos hundredths_limit)) (nine || same z hundredths)
  unfolding all_widths all_hundredths any999
  next_field z e =
      let m = here in
      let same_first : m.first ≡ z = let h = m.first_is in cc in
      let all : z ∷ m.later ≡ rest.later = ap (λ (f : ℤ). f ∷ m.later) (sym same_first) ∙ m.all in
      record {
        later = m.later;
        are = m.later_are;
        widths_are =
            rest.widths_are ∙ ap (λ (fs : List ℤ). widths && all_widths fs) (sym all) ∙ sym (and_assoc widths (is_width z) (all_widths m.later));
        small_are =
            rest.small_are ∙ ap (λ (fs : List ℤ). small && all_hundredths fs) (sym all)
            ∙ sym (and_assoc small (le_z z (pos hundredths_limit)) (all_hundredths m.later));
        nine_is = rest.nine_is ∙ ap (λ (fs : List ℤ). nine || any999 fs) (sym all) ∙ sym (or_assoc nine (same z hundredths) (any999 m.later));
      }

pub same_rest : {t : Text} {at left : ℕ} {ws : List ℤ} {widths small nine v r n : Bool} → v ≡ widths → r ≡ small → n ≡ nine
    → Rest t at left ws widths small nine → Rest t at left ws v r n
same_rest {t} {at} {left} {ws} e f g h = rw (e, f, g) h

pub rest_all : (t : Text) (n : ℕ) (ws : List ℤ) → field_numerals n (slice 12 (length t) t) ≡ some ws → Rest t 12 n ws true true false
rest_all t n ws e = record { later = ws; are = e; widths_are = refl; small_are = refl; nine_is = refl }

pub rest_over : (t : Text) (at : ℕ) (ws : List ℤ) (widths small nine : Bool) → Rest t at 0 ws widths small nine
    → (all_widths ws ≡ widths) × ((all_hundredths ws ≡ small) × (any999 ws ≡ nine))
unfolding field_numerals all_widths all_hundredths any999
rest_over t at ws widths small nine r =
    let e : [] ≡ r.later = let h = r.are in cc in (
      r.widths_are ∙ ap (λ (fs : List ℤ). widths && all_widths fs) (sym e) ∙ and-true-right widths,
      (
        r.small_are ∙ ap (λ (fs : List ℤ). small && all_hundredths fs) (sym e) ∙ and-true-right small,
        r.nine_is ∙ ap (λ (fs : List ℤ). nine || any999 fs) (sym e) ∙ or-none nine,
      ),
    )

-- ---- a strict line

-- Where the numbers of a strict line stand.
pub record Stands (t : Text) : Type 0 where
  pub line : Line
  pub is : line_in_columns t ≡ some line
  pub size : length t ≡ 12 + length line.fields * field_columns
  pub count : field_count t ≡ length line.fields
  pub some_field : 1 ≤ length line.fields
  pub few : length line.fields ≤ decade
  pub year : in_columns (slice name_columns 12 t) ≡ some line.year
  pub year-small : nat_abs line.year < numeral_limit
  pub front : field_numerals (length line.fields - 1) (slice 12 (length t) t) ≡ some (drop_last line.fields)
  pub last : in_columns (slice (length t - field_columns) (length t) t) ≡ some (last_field line.fields)

behind-parts : (x : Option (List ℤ)) (o : Option ℤ) (fs : List ℤ) → behind x o ≡ some fs → (x ≡ some (drop_last fs)) × (o ≡ some (last_field fs))
behind-parts none o fs e = clash cc
behind-parts (some ws) none fs e = clash cc
behind-parts (some ws) (some f) fs e =
    let is : ws ++ (f ∷ []) ≡ fs = cc in
    (ap some (sym (front-behind ws f) ∙ ap drop_last is), ap some (sym (last-behind ws f) ∙ ap last_field is))

pub stands_line : (t : Text) (l : Line) → line_in_columns t ≡ some l → Stands t
stands_line t l e =
    let p = columns-parts t l e in
    let q = fits-parts t p.fits in
    let n = field_count t in
    let count : n ≡ length l.fields = sym (fields-count n (drop 12 t) l.fields p.fields) in
    let k : n ≡ suc (length l.fields - 1) = omega arith in
    let whole : slice 12 (length t) t ≡ drop 12 t = slice_all 12 t in
    let at : 12 + (length l.fields - 1) * field_columns ≡ length t - field_columns = omega arith in
    let to : length t - field_columns + field_columns ≡ length t = omega arith in
    let last_at : take field_columns (drop ((length l.fields - 1) * field_columns) (drop 12 t)) ≡ slice (length t - field_columns) (length t) t =
    ap (take field_columns) (drop-drop ((length l.fields - 1) * field_columns) 12 t ∙ ap (λ (i : ℕ). drop i t) at)
    ∙ sym (slice_take (length t - field_columns) field_columns t) ∙ ap (λ (i : ℕ). slice (length t - field_columns) i t) to in
    let parts = behind-parts _ _ l.fields
    (sym (fields-behind (length l.fields - 1) (drop 12 t)) ∙ ap (λ (m : ℕ). field_numerals m (drop 12 t)) (sym k) ∙ p.fields) in
    record {
      line = l;
      is = e;
      size = omega arith;
      count = count;
      some_field = omega arith;
      few = omega arith;
      year = ap in_columns (slice_take name_columns year_columns t) ∙ p.year;
      year-small = columns-small _ l.year p.year;
      front = ap (field_numerals (length l.fields - 1)) whole ∙ parts.0;
      last = ap in_columns (sym last_at) ∙ parts.1;
    }

pub stands : (t : Text) → is_strict t ≡ true → Stands t
unfolding is_strict
stands t e = go (line_in_columns t) refl e
  where
    go : (o : Option Line) → line_in_columns t ≡ o → is_some o ≡ true → Stands t
    go none f e = clash cc
    go (some l) f e = stands_line t l f
