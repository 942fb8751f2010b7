-- The year and the fields of a line: what is told of them, from the fields but the last and from the last, and what a line
-- that passes the tests is.
use mathlib.Core.Path.{◌≡◌, refl, sym, ◌∙◌, ap, ap₂}
use mathlib.Core.Bool.{Bool, true, false, cond, ◌&&◌, ◌||◌, and_assoc, and-false}
use mathlib.Core.Bool.{and-true as and-true-right}
use mathlib.Core.List.{List, [], ◌∷◌, ◌++◌, drop_last}
use mathlib.Core.Option.{Option, some, none}
use Prim.Native.Nat.{ℕ, zero, suc, ◌+◌, ◌*◌, ◌-◌, ◌/◌, ◌<◌, ◌≤◌}
use native.Mathlib.Omega.{arith}
use borrow.Author.Tests.{eq-eqb, ne_eqb, le-leb, lt-leb}
use lib.Dec.{eqb, leb}
use Rattle.std.specs.Prelude.{Some, None}
use Rattle.std.specs.Prelude as machine
use lib.IntN.{ℤ}
use lib.ListN.{length, take, drop, length-append}
use lib.Seq.{slice, drop-drop, length-slice}
use Rattle.base_exact.proofs.Decide.{clash}
use Rattle.base_text.specs.Bytes.{Text}
use Rattle.base_text.proofs.Slice.{take_slice, drop-slice}
use Rattle.spec_tucson.specs.Columns.{in_columns}
use Rattle.spec_tucson.specs.Line.{Line, name_columns, year_columns, head_columns, field_columns, decade, thousandths, with_field, field_numerals, field_count}
use Rattle.spec_tucson.specs.Line.{columns_fit, is_name, is_width, same, with_numerals, line_in_columns, year_in_decade, within_decade}
use Rattle.spec_tucson.specs.Line.{fields_allowed, if_allowed, good_line}
use Rattle.spec_tucson.specs.Series.{all_hundredths}
use Rattle.spec_tucson.specs.TextReading.{last_field}
use Rattle.spec_tucson.specs.Writing.{all_widths}
pub use Rattle.spec_tucson.proofs.Lines.{fields-count, year-below}
use Rattle.tucson_lines.specs.Machine.{widths_told, line_told, numbers, numerals_told, LineEnd, ColumnsOf}
use Rattle.tucson_lines.specs.declared.LineNumbers.{LineNumbers}
use Rattle.tucson_lines.proofs.Lines.{end_within, good-columns}

-- ---- the last field behind the others
abbrev pub behind : Option (List ℤ) → Option ℤ → Option (List ℤ)
behind none o = none
behind (some ws) none = none
behind (some ws) (some f) = some (ws ++ (f ∷ []))

behind_with : (a : Option ℤ) (x : Option (List ℤ)) (b : Option ℤ) → with_field a (behind x b) ≡ behind (with_field a x) b
behind_with none x b = refl
behind_with (some z) none b = refl
behind_with (some z) (some ws) none = refl
behind_with (some z) (some ws) (some f) = refl

behind-none : (a : Option ℤ) → with_field a (some []) ≡ behind (some []) a
behind-none none = refl
behind-none (some z) = refl

pub fields-behind : (n : ℕ) (t : Text) → field_numerals (suc n) t ≡ behind (field_numerals n t) (in_columns (take field_columns (drop (n * field_columns) t)))
unfolding field_numerals
fields-behind zero t = behind-none (in_columns (take field_columns t))
fields-behind (suc n) t =
    let e : field_columns + n * field_columns ≡ suc n * field_columns = omega arith in
    ap (with_field (in_columns (take field_columns t))) (fields-behind n (drop field_columns t))
    ∙ behind_with (in_columns (take field_columns t)) (field_numerals n (drop field_columns t)) _
    ∙ ap (λ (u : Text). behind (field_numerals (suc n) t) (in_columns (take field_columns u))) (drop-drop (n * field_columns) field_columns t
    ∙ ap (λ (k : ℕ). drop k t) e)

-- ---- a list and its last field
pub allowed_behind : (ws : List ℤ) (f : ℤ) → fields_allowed true (ws ++ (f ∷ [])) ≡ (all_widths ws && (is_width f || same f thousandths))
unfolding fields_allowed all_widths
allowed_behind [] f = refl
allowed_behind (w ∷ []) f = ap (λ (b : Bool). b && (is_width f || same f thousandths)) (sym (and-true-right (is_width w)))
allowed_behind (w ∷ v ∷ vs) f = ap (λ (b : Bool). is_width w && b) (allowed_behind (v ∷ vs) f) ∙ sym (and_assoc (is_width w) (all_widths (v ∷ vs)) _)

pub last-behind : (ws : List ℤ) (f : ℤ) → last_field (ws ++ (f ∷ [])) ≡ f
unfolding last_field
last-behind [] f = refl
last-behind (w ∷ []) f = refl
last-behind (w ∷ v ∷ vs) f = last-behind (v ∷ vs) f

pub front-behind : (ws : List ℤ) (f : ℤ) → drop_last (ws ++ (f ∷ [])) ≡ ws
front-behind [] f = refl
front-behind (w ∷ []) f = refl
front-behind (w ∷ v ∷ vs) f = ap (λ (l : List ℤ). w ∷ l) (front-behind (v ∷ vs) f)

-- the fields but the last
behind-front : (x : Option (List ℤ)) (o : Option ℤ) (fs : List ℤ) → behind x o ≡ some fs → x ≡ some (drop_last fs)
behind-front none o fs e = clash cc
behind-front (some ws) none fs e = clash cc
behind-front (some ws) (some f) fs e = let is : ws ++ (f ∷ []) ≡ fs = cc in ap some (sym (front-behind ws f) ∙ ap drop_last is)

pub fields-front : (n : ℕ) (t : Text) (fs : List ℤ) → 1 ≤ n → field_numerals n t ≡ some fs → field_numerals (n - 1) t ≡ some (drop_last fs)
fields-front n t fs h e =
    let k : n ≡ suc (n - 1) = omega arith in
    behind-front (field_numerals (n - 1) t) _ fs (sym (fields-behind (n - 1) t) ∙ ap (λ (m : ℕ). field_numerals m t) (sym k) ∙ e)

-- the last field
behind-last : (x : Option (List ℤ)) (o : Option ℤ) (fs : List ℤ) → behind x o ≡ some fs → o ≡ some (last_field fs)
behind-last none o fs e = clash cc
behind-last (some ws) none fs e = clash cc
behind-last (some ws) (some f) fs e = let is : ws ++ (f ∷ []) ≡ fs = cc in ap some (sym (last-behind ws f) ∙ ap last_field is)

pub fields-last : (n : ℕ) (t : Text) (fs : List ℤ) → 1 ≤ n → field_numerals n t ≡ some fs
    → in_columns (take field_columns (drop ((n - 1) * field_columns) t)) ≡ some (last_field fs)
fields-last n t fs h e =
    let k : n ≡ suc (n - 1) = omega arith in
    behind-last (field_numerals (n - 1) t) _ fs (sym (fields-behind (n - 1) t) ∙ ap (λ (m : ℕ). field_numerals m t) (sym k) ∙ e)

-- ---- what is told of a year, the fields but the last, and the last
abbrev told : Text → Option ℤ → Option (List ℤ) → Option ℤ → machine.Option LineNumbers
told name y front last = line_told (if_allowed true (with_numerals name y (behind front last)))

told_no_year : (name : Text) (front : Option (List ℤ)) (last : Option ℤ) → told name none front last ≡ None
unfolding line_told
told_no_year name front last = refl

told_no_last : (name : Text) (y : ℤ) (front : Option (List ℤ)) → told name (some y) front none ≡ None
unfolding line_told
told_no_last name y none = refl
told_no_last name y (some ws) = refl

-- the line that these make up passes the tests, or not
module _ (name : Text) (y : ℤ) (ws : List ℤ) (f : ℤ) where
  abbrev made : Line
  made = record { name = name; year = y; fields = ws ++ (f ∷ []) }

  tested : (b : Bool) → (within_decade made && fields_allowed true made.fields) ≡ b
      → told name (some y) (some ws) (some f) ≡ line_told (cond b (some made) none)
  tested b e = ap (λ (t : Bool). line_told (cond t (some made) none)) e

  count-made : year_in_decade y + length (ws ++ (f ∷ [])) ≡ year_in_decade y + (length ws + 1)
  count-made = ap (λ (n : ℕ). year_in_decade y + n) (length-append ws (f ∷ []))

  told_late : decade < year_in_decade y + (length ws + 1) → told name (some y) (some ws) (some f) ≡ None
  unfolding line_told within_decade
  told_late h =
      tested false
      (ap (λ (b : Bool). b && fields_allowed true made.fields) (lt-leb (year_in_decade y + length made.fields) decade (rw count-made h)))

  told_no_width : all_widths ws ≡ false → told name (some y) (some ws) (some f) ≡ None
  unfolding line_told
  told_no_width h =
      tested false (ap (λ (b : Bool). within_decade made && b) (allowed_behind ws f ∙ ap (λ (b : Bool). b && (is_width f || same f thousandths)) h)
      ∙ and-false (within_decade made))

  told_no_end : (is_width f || same f thousandths) ≡ false → told name (some y) (some ws) (some f) ≡ None
  unfolding line_told
  told_no_end h =
      tested false (ap (λ (b : Bool). within_decade made && b) (allowed_behind ws f ∙ ap (λ (b : Bool). all_widths ws && b) h
      ∙ and-false (all_widths ws)) ∙ and-false (within_decade made))

  told_good : year_in_decade y + (length ws + 1) ≤ decade → all_widths ws ≡ true → (is_width f || same f thousandths) ≡ true
      → told name (some y) (some ws) (some f) ≡ Some (numbers y (length ws + 1) (all_hundredths ws) f)
  unfolding line_told within_decade
  told_good h k e =
      tested true (ap₂ ◌&&◌ (le-leb (year_in_decade y + length made.fields) decade (rw count-made h)) (allowed_behind ws f ∙ ap₂ ◌&&◌ k e))
      ∙ rw (length-append ws (f ∷ []), front-behind ws f, last-behind ws f)

-- fields that are no widths
told_bad_widths : (name : Text) (y : ℤ) (front : Option (List ℤ)) (last : Option ℤ) → widths_told true front ≡ None
    → told name (some y) front last ≡ None
unfolding widths_told line_told
told_bad_widths name y none last e = refl
told_bad_widths name y (some ws) none e = refl
told_bad_widths name y (some ws) (some f) e = go (all_widths ws) refl e
  where
    go : (b : Bool) → all_widths ws ≡ b → cond b (Some (all_hundredths ws)) None ≡ None
        → told name (some y) (some ws) (some f) ≡ None
    go true k e = clash cc
    go false k e = told_no_width name y ws f k

-- fields that are widths
pub record AreWidths (front : Option (List ℤ)) (small : Bool) : Type 0 where
  pub list : List ℤ
  pub is : front ≡ some list
  pub all : all_widths list ≡ true
  pub below : all_hundredths list ≡ small

are_widths : (front : Option (List ℤ)) (small : Bool) → widths_told true front ≡ Some small → AreWidths front small
unfolding widths_told
are_widths none small e = clash cc
are_widths (some ws) small e = go (all_widths ws) refl e
  where
    go : (b : Bool) → all_widths ws ≡ b → cond b (Some (all_hundredths ws)) None ≡ Some small → AreWidths (some ws) small
    go true k e = record { list = ws; is = refl; all = k; below = cc }
    go false k e = clash cc

-- ---- the numbers of a line between two indices
module _ {text : Text} {from end n : ℕ} (columns : ColumnsOf text from end n) where
  abbrev told_here : machine.Option LineNumbers
  told_here = numerals_told (slice from end text) n

  abbrev name-text : Text
  name-text = take name_columns (slice from end text)

  abbrev pub year-numeral : Option ℤ
  year-numeral = in_columns (slice (from + name_columns) (from + 12) text)

  abbrev pub front-numerals : Option (List ℤ)
  front-numerals = field_numerals (n - 1) (slice (from + 12) end text)

  abbrev pub last-numeral : Option ℤ
  last-numeral = in_columns (slice (end - field_columns) end text)

  year-at : in_columns (take year_columns (drop name_columns (slice from end text))) ≡ year-numeral
  year-at =
      let e : from + name_columns + year_columns ≡ from + 12 = omega arith in
      ap (λ (t : Text). in_columns (take year_columns t)) (drop-slice name_columns from end text)
      ∙ ap in_columns (take_slice year_columns (from + name_columns) end text (omega arith) ∙ ap (λ (k : ℕ). slice (from + name_columns) k text) e)

  last_at : take field_columns (drop ((n - 1) * field_columns) (slice (from + 12) end text)) ≡ slice (end - field_columns) end text
  last_at =
      let e : from + 12 + (n - 1) * field_columns ≡ end - field_columns = omega arith in
      let f : end - field_columns + field_columns ≡ end = omega arith in
      ap (take field_columns) (drop-slice ((n - 1) * field_columns) (from + 12) end text ∙ ap (λ (k : ℕ). slice k end text) e)
      ∙ take_slice field_columns (end - field_columns) end text (omega arith) ∙ ap (λ (k : ℕ). slice (end - field_columns) k text) f

  fields_at : field_numerals n (drop head_columns (slice from end text)) ≡ behind front-numerals last-numeral
  fields_at =
      let e : n ≡ suc (n - 1) = omega arith in
      ap₂ field_numerals e (drop-slice head_columns from end text)
      ∙ fields-behind (n - 1) (slice (from + 12) end text)
      ∙ ap (λ (t : Text). behind front-numerals (in_columns t)) last_at

  parts : told_here ≡ told name-text year-numeral front-numerals last-numeral
  parts = ap₂ (λ (y : Option ℤ) (fs : Option (List ℤ)). line_told (if_allowed true (with_numerals name-text y fs))) year-at fields_at

  pub numerals_no_year : year-numeral ≡ none → told_here ≡ None
  numerals_no_year e = parts ∙ ap (λ (y : Option ℤ). told name-text y front-numerals last-numeral) e ∙ told_no_year name-text front-numerals last-numeral

  module _ {y : ℤ} (is_year : year-numeral ≡ some y) where
    with_year : told_here ≡ told name-text (some y) front-numerals last-numeral
    with_year = parts ∙ ap (λ (o : Option ℤ). told name-text o front-numerals last-numeral) is_year

    pub numerals_no_widths : widths_told true front-numerals ≡ None → told_here ≡ None
    numerals_no_widths e = with_year ∙ told_bad_widths name-text y front-numerals last-numeral e

    pub numerals_no_last : last-numeral ≡ none → told_here ≡ None
    numerals_no_last e = with_year ∙ ap (told name-text (some y) front-numerals) e ∙ told_no_last name-text y front-numerals

    module _ {small : Bool} (are : widths_told true front-numerals ≡ Some small) {f : ℤ} (is_last : last-numeral ≡ some f) where
      abbrev widths : AreWidths front-numerals small
      widths = are_widths front-numerals small are

      front-count : length widths.list + 1 ≡ n
      front-count = omega (arith, fields-count (n - 1) (slice (from + 12) end text) widths.list widths.is)

      with_all : told_here ≡ told name-text (some y) (some widths.list) (some f)
      with_all = with_year ∙ ap₂ (told name-text (some y)) widths.is is_last

      pub numerals_late : decade < year_in_decade y + n → told_here ≡ None
      numerals_late h = with_all ∙ told_late name-text y widths.list f (rw front-count h)

      pub numerals_no_end : (is_width f || same f thousandths) ≡ false → told_here ≡ None
      numerals_no_end h = with_all ∙ told_no_end name-text y widths.list f h

      pub numerals-good : year_in_decade y + n ≤ decade → (is_width f || same f thousandths) ≡ true → told_here ≡ Some (numbers y n small f)
      numerals-good h k =
          with_all ∙ told_good name-text y widths.list f (rw front-count h) widths.all k
          ∙ ap₂ (λ (m : ℕ) (s : Bool). Some (numbers y m s f)) front-count widths.below

-- ---- the columns of a line between two indices
module _ (text : Text) (from end : ℕ) (at : LineEnd text from end) (ended : end < length text) where
  abbrev pub body : Text
  body = slice from end text

  body_length : length body ≡ end - from
  body_length = length-slice from end text (end_within text from end at).1

  pub count_is : field_count body ≡ (end - from - 12) / field_columns
  count_is = ap (λ (k : ℕ). (k - 12) / field_columns) body_length

  abbrev column-line : Option Line
  column-line =
      with_numerals (take name_columns body) (in_columns (take year_columns (drop name_columns body)))
      (field_numerals (field_count body) (drop head_columns body))

  good_is : good_line true (slice from (end + 1) text) ≡ if_allowed true (line_in_columns body)
  good_is = good-columns text from end at true ended

  pub good_misfits : (columns_fit body && is_name (take name_columns body)) ≡ false → good_line true (slice from (end + 1) text) ≡ none
  unfolding line_in_columns
  good_misfits e = good_is ∙ ap (λ (b : Bool). if_allowed true (cond b column-line none)) e

  pub good-fits : (columns_fit body && is_name (take name_columns body)) ≡ true
      → line_told (good_line true (slice from (end + 1) text)) ≡ numerals_told body (field_count body)
  unfolding line_in_columns
  good-fits e = ap line_told (good_is ∙ ap (λ (b : Bool). if_allowed true (cond b column-line none)) e)

  -- too short, columns over, too many fields
  pub misfit_short : end - from < 18 → columns_fit body ≡ false
  unfolding columns_fit
  misfit_short h = rw (lt-leb 1 (field_count body) (rw count_is (omega arith)), and-false (eqb (length body) (12 + field_count body * field_columns)))

  module _ (n : ℕ) (is : n ≡ (end - from - 12) / field_columns) where
    count_n : field_count body ≡ n
    count_n = count_is ∙ sym is

    pub misfit_over : (end - from ≡ 12 + n * field_columns → ⊥) → columns_fit body ≡ false
    unfolding columns_fit
    misfit_over h = rw (count_n, ne_eqb (length body) (12 + n * field_columns) (λ e. h (sym body_length ∙ e)))

    pub misfit_many : decade < n → columns_fit body ≡ false
    unfolding columns_fit
    misfit_many h = rw (count_n, lt-leb n decade h, and-false (eqb (length body) (12 + n * field_columns) && leb 1 n))

    pub fit : end - from ≡ 12 + n * field_columns → 1 ≤ n → n ≤ decade → columns_fit body ≡ true
    unfolding columns_fit
    fit h k l = rw (count_n, eq-eqb (length body) (12 + n * field_columns) (body_length ∙ h), le-leb 1 n k, le-leb n decade l)
