-- What a good line leaves, from what is told of it: each of the tests 11, 12 and 13, and the series that goes on or is whole.
use mathlib.Core.Path.{◌≡◌, refl, sym, ◌∙◌, ap, ap₂}
use mathlib.Core.Bool.{Bool, true, false, cond, ◌&&◌, ◌||◌, not, and_assoc}
use mathlib.Core.Bool.{and-true as and-true-right}
use mathlib.Core.List.{List, [], ◌∷◌, ◌++◌, drop_last}
use mathlib.Core.Logic.{◌⊎◌, inl, inr}
use mathlib.Core.Option.{Option, some, none}
use Prim.Native.Nat.{ℕ, ◌+◌, ◌-◌, ◌<◌, ◌≤◌}
use native.Mathlib.Omega.{arith}
use Rattle.std.proofs.lemmas.Option.{same_Some}
use Rattle.tucson_lines.specs.declared.LineNumbers.{LineNumbers}
use Rattle.std.specs.Prelude.{Result, Ok, Err, Some}
use lib.Dec.{eqb}
use lib.IntN.{ℤ, pos, ◌+ℤ◌}
use lib.ListN.{length, drop, length-append, length-map, drop_of_length-le}
use lib.Signed.{le_z}
use Rattle.base_exact.proofs.Decide.{and-true, le_or_lt, true_not_false}
use Rattle.base_exact.proofs.Integer.{ext, bal_+}
use Rattle.base_outcome.specs.Outcome.{answer, refuse}
use Rattle.base_text.specs.Bytes.{Text}
use Rattle.spec_tucson.specs.Line.{Line, lines_of, thousandths, is_width, same, year_in_decade, good_line}
use Rattle.spec_tucson.specs.Series.{hundredths, hundredths_limit, all_hundredths, from_hundredths, closed_by}
use Rattle.spec_tucson.specs.TextReading.{Begun, goes_on, begun_by, next_year, year_follows, opened, extended, last_field, whole_series, closing}
use Rattle.spec_tucson.specs.TextReading.{line_step, if_good, read_line}
pub use Rattle.spec_tucson.proofs.Lines.{same_is}
use Rattle.tucson_lines.specs.Machine.{numbers, line_told}
use Rattle.tucson_lines.proofs.GoodLines.{if_width, good_more, IsLine, line_some}
use Rattle.tucson_scan.specs.Scan.{so_far, leaves, Tracks, Told, Within, Advances}
use Rattle.tucson_scan.specs.declared.Passed.{Passed}

-- ---- numbers and lists
pub add_more : (z : ℤ) (m n : ℕ) → z +ℤ pos (m + n) ≡ z +ℤ pos m +ℤ pos n
add_more z m n = ext _ _ (omega (arith, bal_+ z (pos (m + n)), bal_+ z (pos m), bal_+ (z +ℤ pos m) (pos n)))

pub hundredths_append : (ws vs : List ℤ) → all_hundredths (ws ++ vs) ≡ (all_hundredths ws && all_hundredths vs)
unfolding all_hundredths
hundredths_append [] vs = refl
hundredths_append (w ∷ ws) vs = ap (λ (b : Bool). le_z w (pos hundredths_limit) && b) (hundredths_append ws vs)
    ∙ sym (and_assoc (le_z w (pos hundredths_limit)) (all_hundredths ws) (all_hundredths vs))

hundredths-last : (fs : List ℤ) → 1 ≤ length fs → all_hundredths fs ≡ (all_hundredths (drop_last fs) && le_z (last_field fs) (pos hundredths_limit))
unfolding all_hundredths last_field
hundredths-last [] h = absurd (omega arith)
hundredths-last (f ∷ []) h = and-true-right (le_z f (pos hundredths_limit))
hundredths-last (f ∷ g ∷ fs) h = ap (λ (b : Bool). le_z f (pos hundredths_limit) && b) (hundredths-last (g ∷ fs) (omega arith))
    ∙ sym (and_assoc (le_z f (pos hundredths_limit)) (all_hundredths (drop_last (g ∷ fs))) (le_z (last_field (g ∷ fs)) (pos hundredths_limit)))

pub front_length : (fs : List ℤ) → length (drop_last fs) ≡ length fs - 1
front_length [] = refl
front_length (f ∷ []) = refl
front_length (f ∷ g ∷ fs) = omega (arith, front_length (g ∷ fs))

-- ---- the series that is begun
pub begun_widths : (b : Option Begun) (l : Line) → (begun_by b l).widths ≡ so_far b
begun_widths none l = refl
begun_widths (some c) l = refl

-- what is told of the line
pub record Says (l : Line) (year : ℤ) (n : ℕ) (front : Bool) (last : ℤ) : Type 0 where
  pub year_is : l.year ≡ year
  pub count_is : length l.fields ≡ n
  pub front_is : all_hundredths (drop_last l.fields) ≡ front
  pub last_is : last_field l.fields ≡ last

-- the numbers of a line
abbrev line_numbers : Line → LineNumbers
line_numbers l = numbers l.year (length l.fields) (all_hundredths (drop_last l.fields)) (last_field l.fields)

pub says : {l : Line} {year : ℤ} {n : ℕ} {front : Bool} {last : ℤ}
    → line_told (some l) ≡ Some (numbers year n front last) → Says l year n front last
unfolding line_told
says {l} {year} {n} {front} {last} e =
    let is : line_numbers l ≡ numbers year n front last = same_Some _ _ e in
    record {
      year_is = ap (λ r. r.year) is;
      count_is = ap (λ r. r.count) is;
      front_is = ap (λ r. r.small) is;
      last_is = ap (λ r. r.last) is;
    }

follows_is : (b : Option Begun) (begun : Bool) (next : ℤ) (small : Bool) (l : Line) (year : ℤ) → Tracks b begun next small → l.year ≡ year →
    year_follows b l ≡ (not begun || (same year next && eqb (year_in_decade year) 0))
unfolding year_follows
follows_is none begun next small l year t e = rw t.0
follows_is (some c) begun next small l year t e = rw (t.is_begun, sym t.next-year, sym e)

tracks_small : (b : Option Begun) (begun : Bool) (next : ℤ) (small : Bool) → Tracks b begun next small → all_hundredths (so_far b) ≡ small
unfolding all_hundredths
tracks_small none begun next small t = sym t.1
tracks_small (some c) begun next small t = t.all_small

-- the year after a line that follows what is begun
next-after : (b : Option Begun) (begun : Bool) (next : ℤ) (small : Bool) (l : Line) (year : ℤ) → Tracks b begun next small → l.year ≡ year →
    (not begun || (same year next && eqb (year_in_decade year) 0)) ≡ true → next_year (extended (begun_by b l) l) ≡ year +ℤ pos (length l.fields)
next-after none begun next small l year t e f = ap (λ (z : ℤ). z +ℤ pos (length l.fields)) e
next-after (some c) begun next small l year t e f =
    let g : (same year next && eqb (year_in_decade year) 0) ≡ true = rw t.is_begun at f in
    let is : next ≡ year = sym (same_is year next (and-true (same year next) (eqb (year_in_decade year) 0) g).0) in
    ap (λ (k : ℕ). c.first_year +ℤ pos k) (length-append c.widths l.fields)
    ∙ add_more c.first_year (length c.widths) (length l.fields)
    ∙ ap (λ (z : ℤ). z +ℤ pos (length l.fields)) (t.next-year ∙ is)

module _ (place : ℕ) (b : Option Begun) (t : Text) (begun : Bool) (next : ℤ) (small : Bool) (tracks : Tracks b begun next small)
    {year : ℤ} {n : ℕ} {front : Bool} {last : ℤ} (told : line_told (good_line true t) ≡ Some (numbers year n front last)) where
  abbrev is_line : IsLine (good_line true t) (numbers year n front last)
  is_line = line_some (good_line true t) _ told

  abbrev l : Line
  l = is_line.line

  said : Says l year n front last
  said = says is_line.told

  abbrev follows : Bool
  follows = not begun || (same year next && eqb (year_in_decade year) 0)

  year-follows : year_follows b l ≡ follows
  year-follows = follows_is b begun next small l year tracks said.year_is

  -- ---- its series goes on
  more_line : good_line false t ≡ cond (is_width last) (some l) none
  more_line = good_more t ∙ ap if_width is_line.is ∙ ap (λ (z : ℤ). cond (is_width z) (some l) none) said.last_is

  pub extend_malformed : is_width last ≡ false → Told place b (read_line place b true t) (Err 11)
  unfolding read_line
  extend_malformed e = rw (more_line, e) (refl, refl)

  more_step : is_width last ≡ true → read_line place b true t ≡ cond follows (answer (opened (extended (begun_by b l) l))) (refuse 12 place)
  unfolding read_line line_step
  more_step e =
      ap (if_good place b true) (more_line ∙ ap (λ (w : Bool). cond w (some l) none) e)
      ∙ ap (λ (f : Bool). cond f (answer (opened (extended (begun_by b l) l))) (refuse 12 place)) year-follows

  pub extend_not_next : is_width last ≡ true → follows ≡ false → Told place b (read_line place b true t) (Err 12)
  extend_not_next e f = rw (more_step e, f) (refl, refl)

  pub extend_on : 1 ≤ n → is_width last ≡ true → follows ≡ true
      → Told place b (read_line place b true t) (Ok (leaves true n (year +ℤ pos n) (small && front && le_z last (pos hundredths_limit))))
  extend_on h e f =
      rw (more_step e, f) (
        record {
          is_begun = refl;
          next-year = next-after b begun next small l year tracks said.year_is f ∙ ap (λ (k : ℕ). year +ℤ pos k) said.count_is;
          all_small =
              ap (λ (ws : List ℤ). all_hundredths (ws ++ l.fields)) (begun_widths b l)
              ∙ hundredths_append (so_far b) l.fields
              ∙ ap₂ ◌&&◌ (tracks_small b begun next small tracks) (hundredths-last l.fields (omega (arith, said.count_is))
              ∙ ap₂ (λ (a : Bool) (z : ℤ). a && le_z z (pos hundredths_limit)) said.front_is said.last_is)
              ∙ sym (and_assoc small front (le_z last (pos hundredths_limit)));
        },
        length-append (begun_by b l).widths l.fields ∙ ap₂ (λ (ws : List ℤ) (k : ℕ). length ws + k) (begun_widths b l) said.count_is,
      )

  -- ---- it is its series' last
  abbrev ws : List ℤ
  ws = so_far b ++ drop_last l.fields

  last_step : read_line place b false t ≡ cond follows (whole_series place l.name (begun_by b l).first_year (closed_by last ws)) (refuse 12 place)
  unfolding read_line line_step closing
  last_step =
      ap (if_good place b false) is_line.is
      ∙ ap (λ (f : Bool). cond f (closing place (begun_by b l) l) (refuse 12 place)) year-follows
      ∙ ap₂ (λ (z : ℤ) (vs : List ℤ). cond follows (whole_series place l.name (begun_by b l).first_year (closed_by z (vs ++ drop_last l.fields)))
      (refuse 12 place)) said.last_is (begun_widths b l)

  ws_length : length ws ≡ length (so_far b) + (n - 1)
  ws_length =
      length-append (so_far b) (drop_last l.fields)
      ∙ ap (λ (k : ℕ). length (so_far b) + k) (front_length l.fields ∙ ap (λ (k : ℕ). k - 1) said.count_is)

  ws_small : all_hundredths ws ≡ (small && front)
  ws_small = hundredths_append (so_far b) (drop_last l.fields) ∙ ap₂ ◌&&◌ (tracks_small b begun next small tracks) said.front_is

  pub close_not_next : follows ≡ false → Told place b (read_line place b false t) (Err 12)
  close_not_next f = rw (last_step, f) (refl, refl)

  pub close_thousandths : follows ≡ true → same last thousandths ≡ true
      → Told place b (read_line place b false t) (Ok (leaves false (n - 1) (pos 0) true))
  unfolding closed_by
  close_thousandths f e = rw (last_step, f, e) (record { over = refl; none_large = refl; count = ws_length })

  module _ (f : follows ≡ true) (not-thousandths : same last thousandths ≡ false) where
    pub close_hundredths : (same last hundredths && (small && front)) ≡ true
        → Told place b (read_line place b false t) (Ok (leaves false (n - 1) (pos 0) true))
    unfolding closed_by from_hundredths
    close_hundredths e = rw (last_step, f, not-thousandths, ws_small, e) (record { over = refl; none_large = refl; count = length-map ws _ ∙ ws_length })

    pub close_unclosed : (same last hundredths && (small && front)) ≡ false → Told place b (read_line place b false t) (Err 13)
    unfolding closed_by
    close_unclosed e = rw (last_step, f, not-thousandths, ws_small, e) (refl, refl)

-- ---- a line that is refused for its columns, its year's place or its fields
pub line_refused : (place : ℕ) (b : Option Begun) (more : Bool) (t : Text) → good_line true t ≡ none
    → Told place b (read_line place b more t) (Err 11)
unfolding read_line
line_refused place b true t e = rw (good_more t ∙ ap if_width e) (refl, refl)
line_refused place b false t e = rw e (refl, refl)

-- ---- going ahead

-- a series goes on only where a line follows
pub followed_by : (text t : Text) (next : ℕ) → goes_on t (lines_of (drop next text)) ≡ true → next < length text
unfolding goes_on lines_of
followed_by text t next e = go (le_or_lt (length text) next)
  where
    none-follows : length text ≤ next → goes_on t (lines_of (drop next text)) ≡ false
    none-follows h = ap (λ (u : Text). goes_on t (lines_of u)) (drop_of_length-le text h)

    go : (length text ≤ next) ⊎ (next < length text) → next < length text
    go (inl h) = absurd (true_not_false e (none-follows h))
    go (inr h) = h

pub advances : (text : Text) (from end : ℕ) (goes : Bool) (n : ℕ) (r : Result Passed ℕ) → Within goes n r → end < length text → from + n ≤ end
    → (goes ≡ true → end + 1 < length text) → Advances text from end r
advances text from end goes n (Ok p) w ended longer followed =
    record { ended = ended; longer = omega (arith, w.1); followed = λ e. followed (sym w.0 ∙ e) }
advances text from end goes n (Err code) w ended longer followed = tt
