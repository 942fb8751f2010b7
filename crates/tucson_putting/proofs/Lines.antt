-- The text of lines: one line by its parts, and the lines of a series one after another.
use mathlib.Core.Path.{◌≡◌, refl, sym, ap, ap₂, ◌∙◌}
use mathlib.Core.Bool.{true}
use mathlib.Core.List.{List, [], ◌∷◌, ◌++◌, append_assoc, append-nil}
use Prim.Native.Nat.{ℕ, zero, suc, ◌+◌, ◌*◌, ◌-◌, ◌%◌, ◌<◌, ◌≤◌}
use native.Mathlib.Omega.{arith}
use lib.IntN.{ℤ}
use lib.ListN.{length, take, drop, length-append, length-drop}
use lib.Seq.{slice, drop-drop, length-take-le}
use Rattle.base_outcome.specs.Tests.{between}
use Rattle.base_text.specs.Bytes.{Text, newline}
use Rattle.base_text.specs.Numeral.{decimal}
use Rattle.base_text.proofs.Slice.{slice_take}
use Rattle.spec_tucson.specs.Columns.{columns}
use Rattle.spec_tucson.specs.Line.{year_columns, head_columns, field_columns, decade, thousandths, is_name, year_in_decade}
use Rattle.spec_tucson.specs.Writing.{least_year, greatest_year, onto_first, in_lines, lines_from, series_lines, fields_text, line_text, lines_text, all_widths}
use Rattle.spec_tucson.proofs.Lines.{no_lines}
use Rattle.theorems_tucson.proofs.Columns.{year-fits, fits_length, columns_length}
use Rattle.theorems_tucson.proofs.Lines.{name-parts}
use Rattle.theorems_tucson.proofs.InDecades.{widths_parts}
use Rattle.tucson_series.specs.Sizes.{series, years_left, year_at, most_left, line_bytes}
use Rattle.tucson_putting.specs.Putting.{line, begun, LineFits}
use Rattle.tucson_series.proofs.Years.{year-at, year_dated, years_later_at, room_at}
use Rattle.tucson_putting.proofs.Fields.{fields_append, fields_one, widths_take, widths-length}

-- ---- one line

pub year_length : (y : ℤ) → between least_year greatest_year y ≡ true → length (decimal y) ≤ year_columns
year_length y e = fits_length 2 y (year-fits y e)

pub closing_length : length (decimal thousandths) ≤ field_columns
closing_length = fits_length 4 thousandths (omega arith)

pub begun_length : (name : Text) (y : ℤ) (ws : List ℤ) → is_name name ≡ true → between least_year greatest_year y ≡ true → all_widths ws ≡ true
    → length (begun name y ws) ≡ head_columns + length ws * field_columns
begun_length name y ws n e a =
    length-append name (columns year_columns y ++ fields_text ws)
    ∙ omega (
      arith,
      (name-parts name n).0,
      length-append (columns year_columns y) (fields_text ws),
      columns_length year_columns y (year_length y e),
      widths-length ws a,
    )

-- the same of a line that fits
pub begun-size : {name : Text} {y : ℤ} {ws : List ℤ} {bytes at room : ℕ} → LineFits name y ws bytes at room
    → length (begun name y ws) ≡ head_columns + length ws * field_columns
begun-size {name} {y} {ws} f = begun_length name y ws f.named f.dated f.allowed

pub line-ends : (name : Text) (y : ℤ) (ws : List ℤ) → begun name y ws ++ (newline ∷ []) ≡ line_text (line name y ws)
unfolding line_text
line-ends name y ws = simp append_assoc

pub line_closes : (name : Text) (y : ℤ) (ws : List ℤ) → begun name y ws ++ (columns field_columns thousandths ++ (newline ∷ []))
    ≡ line_text (line name y (ws ++ (thousandths ∷ [])))
unfolding line_text
line_closes name y ws = rw (fields_append ws (thousandths ∷ []), fields_one thousandths) (simp append_assoc)

module _ (name : Text) (y : ℤ) (ws : List ℤ) (n : is_name name ≡ true) (e : between least_year greatest_year y ≡ true) (a : all_widths ws ≡ true) where
  pub line_length : length (line_text (line name y ws)) ≡ line_bytes + length ws * field_columns
  line_length = ap length (sym (line-ends name y ws)) ∙ length-append (begun name y ws) (newline ∷ []) ∙ omega (arith, begun_length name y ws n e a)

  pub last_length : length (line_text (line name y (ws ++ (thousandths ∷ [])))) ≡ line_bytes + field_columns + length ws * field_columns
  last_length =
      ap length (sym (line_closes name y ws))
      ∙ length-append (begun name y ws) (columns field_columns thousandths ++ (newline ∷ []))
      ∙ omega (
        arith,
        begun_length name y ws n e a,
        length-append (columns field_columns thousandths) (newline ∷ []),
        columns_length field_columns thousandths closing_length,
      )

-- ---- parts of allowed widths

pub widths_drop : (n : ℕ) (ws : List ℤ) → all_widths ws ≡ true → all_widths (drop n ws) ≡ true
widths_drop zero ws h = h
widths_drop (suc n) [] h = h
widths_drop (suc n) (w ∷ ws) h = widths_drop n ws (widths_parts w ws h).1

pub widths_slice : (from to : ℕ) (ws : List ℤ) → all_widths ws ≡ true → all_widths (slice from to ws) ≡ true
widths_slice from to ws h = widths_drop from (take to ws) (widths_take to ws h)

-- ---- the first line of those to come

-- a full line
lines-full : (c : ℤ) (room : ℕ) (vs : List ℤ) → room < length vs
    → in_lines room (vs ++ (c ∷ [])) ≡ take (suc room) vs ∷ in_lines (decade - 1) (drop (suc room) vs ++ (c ∷ []))
unfolding in_lines
lines-full c zero [] h = absurd (omega arith)
lines-full c zero (v ∷ vs) h = refl
lines-full c (suc room) [] h = absurd (omega arith)
lines-full c (suc room) (v ∷ vs) h = ap (onto_first v) (lines-full c room vs (omega arith))

-- the last line
lines-last : (c : ℤ) (room : ℕ) (vs : List ℤ) → length vs ≤ room → in_lines room (vs ++ (c ∷ [])) ≡ (vs ++ (c ∷ [])) ∷ []
unfolding in_lines
lines-last c zero [] h = refl
lines-last c zero (v ∷ vs) h = absurd (omega arith)
lines-last c (suc room) [] h = ap (onto_first c) (no_lines room)
lines-last c (suc room) (v ∷ vs) h = ap (onto_first v) (lines-last c room vs (omega arith))

-- ---- the lines of a series

module _ (name : Text) (ws : List ℤ) where
  -- The text of the lines from the width at this index on, with so many years left after it.
  abbrev pub rest : ℕ → ℕ → Text
  rest left from = lines_text (lines_from name (year_at left) (in_lines (left % decade) (drop from ws ++ (thousandths ∷ []))))

  pub rest-begins : (y : ℤ) → between least_year greatest_year y ≡ true → rest (years_left y) 0 ≡ lines_text (series_lines (series name y ws))
  unfolding series_lines
  rest-begins y e =
      let d = year_dated y e in
      ap₂ (λ (x : ℤ) (room : ℕ). lines_text (lines_from name x (in_lines room (ws ++ (thousandths ∷ []))))) (sym d.is)
      (sym (room_at (years_left y)) ∙ ap (λ (x : ℤ). decade - 1 - year_in_decade x) (sym d.is))

  module _ (left from : ℕ) (within : from ≤ length ws) where
    abbrev to : ℕ
    to = from + left % decade + 1

    fields_are : take (suc (left % decade)) (drop from ws) ≡ slice from to ws
    fields_are =
        sym (slice_take from (suc (left % decade)) ws)
        ∙ ap (λ (n : ℕ). slice from n ws) (let e : from + suc (left % decade) ≡ to = omega arith in e)

    pub slice_length : left % decade < length ws - from → length (slice from to ws) ≡ left % decade + 1
    slice_length h = ap length (sym fields_are) ∙ length-take-le (suc (left % decade)) (drop from ws) (omega (arith, length-drop from ws)) ∙ omega arith

    after_are : drop (suc (left % decade)) (drop from ws) ≡ drop to ws
    after_are = drop-drop (suc (left % decade)) from ws ∙ ap (λ (n : ℕ). drop n ws) (let e : from + suc (left % decade) ≡ to = omega arith in e)

    pub rest-full : left % decade < length ws - from → length ws - from ≤ left
        → rest left from ≡ line_text (line name (year_at left) (slice from to ws)) ++ rest (left - (to - from)) to
    unfolding lines_text lines_from
    rest-full h enough =
        let fs = slice from to ws in
        let first = line name (year_at left) fs in
        let later : left - length fs ≡ left - (to - from) = omega (arith, slice_length h) in
        ap (λ (ls : List (List ℤ)). lines_text (lines_from name (year_at left) ls))
        (lines-full thousandths (left % decade) (drop from ws) (omega (arith, length-drop from ws))
        ∙ ap₂ (λ (fs vs : List ℤ). fs ∷ in_lines (decade - 1) (vs ++ (thousandths ∷ []))) fields_are after_are)
        ∙ ap₂ (λ (x : ℤ) (room : ℕ). line_text first ++ lines_text (lines_from name x (in_lines room (drop to ws ++ (thousandths ∷ [])))))
        (years_later_at left (length fs) (omega (arith, slice_length h)) ∙ ap year_at later)
        (let e : decade - 1 ≡ (left - (to - from)) % decade = omega arith in e)

    pub rest-last : length ws - from ≤ left % decade → rest left from ≡ line_text (line name (year_at left) (drop from ws ++ (thousandths ∷ [])))
    unfolding lines_text lines_from
    rest-last h =
        ap (λ (ls : List (List ℤ)). lines_text (lines_from name (year_at left) ls))
        (lines-last thousandths (left % decade) (drop from ws) (omega (arith, length-drop from ws)))
        ∙ append-nil (line_text (line name (year_at left) (drop from ws ++ (thousandths ∷ []))))

  -- their bytes
  module _ (left from : ℕ) (within : from ≤ length ws) (named : is_name name ≡ true) (allowed : all_widths ws ≡ true) (few : left ≤ most_left) where
    abbrev line_end : ℕ
    line_end = to left from within

    pub full-bytes : left % decade < length ws - from → length ws - from ≤ left
        → length (rest left from) ≡ line_bytes + length (slice from line_end ws) * field_columns + length (rest (left - (line_end - from)) line_end)
    full-bytes h enough =
        let fs = slice from line_end ws in
        ap length (rest-full left from within h enough)
        ∙ length-append (line_text (line name (year_at left) fs)) (rest (left - (line_end - from)) line_end)
        ∙ omega (arith, line_length name (year_at left) fs named (year-at left few) (widths_slice from line_end ws allowed))

    pub last-bytes : length ws - from ≤ left % decade → length (rest left from) ≡ line_bytes + field_columns + length (drop from ws) * field_columns
    last-bytes h =
        ap length (rest-last left from within h) ∙ last_length name (year_at left) (drop from ws) named (year-at left few)
        (widths_drop from ws allowed)
