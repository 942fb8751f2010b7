-- The years and bytes of a series' lines are those of specs/Sizes.
use mathlib.Core.Path.{◌≡◌, refl, sym, ap, ◌∙◌}
use mathlib.Core.Logic.{◌⊎◌, inl, inr}
use mathlib.Core.Bool.{Bool, true, false, ◌&&◌}
use mathlib.Core.List.{List, [], ◌∷◌, ◌++◌}
use Prim.Native.Nat.{ℕ, ◌+◌, ◌*◌, ◌-◌, ◌/◌, ◌%◌, ◌<◌, ◌≤◌}
use native.Mathlib.Omega.{arith}
use borrow.Author.Tests.{le-leb, lt-leb}
use lib.Dec.{leb}
use lib.IntN.{ℤ, pos, ◌+ℤ◌}
use lib.ListN.{length, length-append}
use Rattle.base_exact.proofs.Decide.{le_or_lt, and-true}
use Rattle.base_outcome.specs.Tests.{between}
use Rattle.base_text.specs.Bytes.{Text}
use Rattle.spec_tucson.specs.Line.{Line, decade, thousandths, is_name, year_in_decade}
use Rattle.spec_tucson.specs.Writing.{least_year, greatest_year, in_lines, lines_from, series_lines, lines_text, years_fit, all_widths}
use Rattle.theorems_tucson.proofs.InDecades.{InDecades, ends, goes, lines_in_decades, sizes, bytes_of}
use Rattle.theorems_tucson.proofs.Rescaled.{lines-length}
use Rattle.tucson_series.specs.Sizes.{series, years_left, year_at, most_left, line_room, closing_fits, series_bytes}
use Rattle.tucson_series.proofs.Years.{year-at, year_dated, years_later_at, years_too_late, room_at}

-- ---- years

-- lines whose first year can't be written
first_late : (name : Text) (y : ℤ) {c : ℤ} {room : ℕ} {lines : List (List ℤ)} {ws : List ℤ} → InDecades c room lines ws
    → between least_year greatest_year y ≡ false → years_fit (lines_from name y lines) ≡ false
unfolding lines_from years_fit
first_late name y {c} (ends {ws = ws} l k) e = ap (λ (b : Bool). b && years_fit (lines_from name (y +ℤ pos (length (ws ++ (c ∷ [])))) [])) e
first_late name y (goes {fs = fs} {more = more} l k d) e = ap (λ (b : Bool). b && years_fit (lines_from name (y +ℤ pos (length fs)) more)) e

-- two orders of numbers that hold together
same-order : (a b m n : ℕ) → (a ≤ b → m ≤ n) → (m ≤ n → a ≤ b) → leb a b ≡ leb m n
same-order a b m n f g = go (le_or_lt a b)
  where
    go : (a ≤ b) ⊎ (b < a) → leb a b ≡ leb m n
    go (inl h) = le-leb a b h ∙ sym (le-leb m n (f h))
    go (inr h) = lt-leb a b h ∙ sym (lt-leb m n (other (le_or_lt m n)))
      where
        other : (m ≤ n) ⊎ (n < m) → n < m
        other (inl l) = absurd (omega (arith, g l))
        other (inr l) = l

-- a full line and the lines after it
full_years : (name : Text) {c : ℤ} {room : ℕ} {more : List (List ℤ)} {ws : List ℤ} (fs : List ℤ) → InDecades c room more ws → (left : ℕ) →
    (length fs ≤ left → years_fit (lines_from name (year_at (left - length fs)) more) ≡ leb (length ws) (left - length fs)) →
    years_fit (lines_from name (year_at left +ℤ pos (length fs)) more) ≡ leb (length (fs ++ ws)) left
full_years name {more} {ws} fs d left later = go (le_or_lt (length fs) left)
  where
    go : (length fs ≤ left) ⊎ (left < length fs) → years_fit (lines_from name (year_at left +ℤ pos (length fs)) more) ≡ leb (length (fs ++ ws)) left
    go (inl m) =
        ap (λ (y : ℤ). years_fit (lines_from name y more)) (years_later_at left (length fs) m)
        ∙ later m
        ∙ same-order (length ws) (left - length fs) (length (fs ++ ws)) left (λ z. omega (arith, length-append fs ws)) (λ z. omega (arith, length-append fs ws))
    go (inr m) =
        first_late name (year_at left +ℤ pos (length fs)) d (years_too_late left (length fs) m)
        ∙ sym (lt-leb (length (fs ++ ws)) left (omega (arith, length-append fs ws)))

lines_years : (name : Text) {c : ℤ} {room : ℕ} {lines : List (List ℤ)} {ws : List ℤ} → InDecades c room lines ws → (left : ℕ) → left ≤ most_left
    → left % decade ≡ room → years_fit (lines_from name (year_at left) lines) ≡ leb (length ws) left
unfolding lines_from years_fit
lines_years name (ends {ws = ws} l k) left h e = ap (λ (b : Bool). b && true) (year-at left h) ∙ sym (le-leb (length ws) left (omega arith))
lines_years name (goes {room = room} {fs = fs} {more = more} {ws = ws} l k d) left h e =
    ap (λ (b : Bool). b && years_fit (lines_from name (year_at left +ℤ pos (length fs)) more)) (year-at left h)
    ∙ full_years name fs d left (λ m. lines_years name d (left - length fs) (omega arith) (omega arith))

-- ---- the lines of a series

module _ (name : Text) (y : ℤ) (ws : List ℤ) (allowed : all_widths ws ≡ true) where
  abbrev cut : List (List ℤ)
  cut = in_lines (decade - 1 - year_in_decade y) (ws ++ (thousandths ∷ []))

  cut_lies : InDecades thousandths (decade - 1 - year_in_decade y) cut ws
  cut_lies = lines_in_decades thousandths (decade - 1 - year_in_decade y) ws allowed

  lines_are : series_lines (series name y ws) ≡ lines_from name y cut
  unfolding series_lines
  lines_are = refl

  room_is : between least_year greatest_year y ≡ true → decade - 1 - year_in_decade y ≡ line_room y
  room_is e = let d = year_dated y e in ap (λ (x : ℤ). decade - 1 - year_in_decade x) d.is ∙ room_at (years_left y)

  pub series_years : years_fit (series_lines (series name y ws)) ≡ closing_fits y (length ws)
  unfolding closing_fits
  series_years = ap years_fit lines_are ∙ go (between least_year greatest_year y) refl
    where
      go : (b : Bool) → between least_year greatest_year y ≡ b → years_fit (lines_from name y cut) ≡ (b && leb (length ws) (years_left y))
      go true e =
          let d = year_dated y e in
          ap (λ (x : ℤ). years_fit (lines_from name x cut)) d.is
          ∙ lines_years name cut_lies (years_left y) d.few (sym (room_is e))
      go false e = first_late name y cut_lies e

-- ---- bytes

pub bytes_in_decades : {c : ℤ} {room : ℕ} {lines : List (List ℤ)} {ws : List ℤ} → room < decade → InDecades c room lines ws
    → bytes_of (sizes lines) ≡ (length ws + 1) * 6 + ((9 - room + length ws) / 10 + 1) * 13
bytes_in_decades {c} h (ends {ws = ws} l k) = omega (arith, length-append ws (c ∷ []))
bytes_in_decades h (goes {fs = fs} {ws = ws} l k d) = omega (arith, length-append fs ws, bytes_in_decades (omega arith) d)

module _ (name : Text) (named : is_name name ≡ true) (y : ℤ) (ws : List ℤ) (allowed : all_widths ws ≡ true) (dated : closing_fits y (length ws) ≡ true) where
  pub series_dated : between least_year greatest_year y ≡ true
  unfolding closing_fits
  series_dated = (and-true (between least_year greatest_year y) (leb (length ws) (years_left y)) dated).0

  pub series_length : length (lines_text (series_lines (series name y ws))) ≡ series_bytes y (length ws)
  unfolding series_bytes
  series_length =
      let r = room_is name y ws allowed series_dated in
      ap (λ (ls : List Line). length (lines_text ls)) (lines_are name y ws allowed)
      ∙ lines-length name named y (omega arith) (cut_lies name y ws allowed) (ap years_fit (sym (lines_are name y ws allowed))
      ∙ series_years name y ws allowed ∙ dated)
      ∙ bytes_in_decades (omega arith) (cut_lies name y ws allowed)
      ∙ ap (λ (n : ℕ). (length ws + 1) * 6 + ((9 - n + length ws) / 10 + 1) * 13) r
