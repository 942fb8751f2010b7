-- The second pass between two lines: what is still to be written makes the buffers what they are to be, and the widths of the
-- series that is begun stand behind those of the whole ones.
use mathlib.Core.Path.{◌≡◌, refl, sym, ◌∙◌, ap, ap₂}
use mathlib.Core.Bool.{Bool, true, false, cond}
use mathlib.Core.List.{List, [], ◌∷◌, ◌++◌, drop_last}
use mathlib.Core.Option.{Option, some, none}
use Prim.Native.Nat.{ℕ, suc, ◌+◌, ◌*◌, ◌-◌, ◌<◌, ◌≤◌}
use native.Mathlib.Numerals.{add-one}
use native.Mathlib.Omega.{arith}
use lib.IntN.{ℤ, pos, nat_abs, ◌+ℤ◌}
use lib.ListN.{length, drop, set, length-append, length-set, drop_of_length-le}
use lib.Seq.{slice, sets, length-sets, length-slice, slice_empty}
use Rattle.std.specs.Prelude.{Some}
use Rattle.base_exact.proofs.Decide.{and-true, true_not_false, clash}
use Rattle.base_exact.proofs.Integer.{bal_+, abs-parts}
use Rattle.base_outcome.specs.Outcome.{Outcome, answer, ◌then◌}
use Rattle.base_outcome.proofs.Outcome.{answer_unique, then_inverts, with_inverts}
use Rattle.base_text.specs.Bytes.{Text}
use Rattle.base_text.specs.Numeral.{numeral_limit}
use Rattle.spec_tucson.specs.Line.{Line, name_columns, decade, lines_of, field_numerals, good_line, same}
use Rattle.spec_tucson.specs.Series.{Series}
use Rattle.spec_tucson.specs.TextReading.{Begun, begun_by, goes_on, next_year, year_follows, Step, opened, extended, last_field}
use Rattle.spec_tucson.specs.TextReading.{read_line, after, read_lines, read_text}
use Rattle.spec_tucson.specs.ReadCall.{names_of, years_of, counts_of, widths_of}
use Rattle.spec_tucson.specs.Writing.{all_widths}
use Rattle.tucson_lines.specs.Machine.{LineEnd, numbers, line_told}
use Rattle.tucson_lines.proofs.Lines.{end_within, lines_step}
use Rattle.tucson_lines.proofs.GoodLines.{GoodLine, good-line}
use Rattle.tucson_lines.proofs.LineNumerals.{fields-front}
use Rattle.tucson_scan.specs.Scan.{so_far}
use Rattle.tucson_read.specs.Write.{numerals_of, series_in, in_thousandths, FieldsAt, WidthsAt, EntryAsks, WriteAsks, Entered}
use Rattle.tucson_scan.proofs.Passing.{Says, says, same_is, begun_widths, front_length, followed_by}
use Rattle.tucson_read.proofs.Sets.{sets_append, sets_over, slice-sets}
use Rattle.tucson_read.proofs.Inverting.{stepped, good_as_last, opens, closes, closed_widths, thousandths_length}
use Rattle.tucson_read.proofs.Inverting.{all-widths, front_widths, widths_append, good_allowed}

-- ---- the first line of lines that read well
follows_some : (t : Text) (us : List Text) → goes_on t us ≡ true → 1 ≤ length us
unfolding goes_on
follows_some t [] e = absurd (true_not_false e refl)
follows_some t (u ∷ us) e = omega arith

-- It goes on in the next.
pub record More (place : ℕ) (b : Option Begun) (t : Text) (ts : List Text) (rest : List Series) : Type 0 where
  pub line : Line
  pub good : good_line true t ≡ some line
  pub all : all_widths line.fields ≡ true
  pub follows : year_follows b line ≡ true
  pub reads : read_lines (suc place) (some (extended (begun_by b line) line)) ts ≡ answer rest

-- It is its series' last.
pub record Last (place : ℕ) (b : Option Begun) (t : Text) (ts : List Text) (rest : List Series) : Type 0 where
  pub line : Line
  pub good : good_line true t ≡ some line
  pub follows : year_follows b line ≡ true
  pub series : Series
  pub name : series.name ≡ line.name
  pub first : series.first_year ≡ (begun_by b line).first_year
  pub widths : series.widths ≡ in_thousandths (last_field line.fields) (so_far b ++ drop_last line.fields)
  pub later : List Series
  pub is : rest ≡ series ∷ later
  pub reads : read_lines (suc place) none ts ≡ answer later

module _ (place : ℕ) (b : Option Begun) (t : Text) (ts : List Text) (rest : List Series)
    (e : read_lines place b (t ∷ ts) ≡ answer rest) where
  abbrev next : Step → Outcome (List Series)
  next = after (λ c. read_lines (suc place) c ts)

  step-reads : (m : Bool) → goes_on t ts ≡ m → (read_line place b m t then next) ≡ answer rest
  unfolding read_lines
  step-reads m k = ap (λ (x : Bool). read_line place b x t then next) (sym k) ∙ e

  pub turn_more : goes_on t ts ≡ true → More place b t ts rest
  turn_more k =
      let ch = then_inverts (read_line place b true t) next (step-reads true k) in
      let p = stepped place b true t ch.middle ch.before in
      let is : ch.middle ≡ opened (extended (begun_by b p.line) p.line) = opens p.leaves in
      record {
        line = p.line;
        good = good_as_last true t p.line p.good;
        all = all-widths p.line.fields (good_allowed false t p.line p.good);
        follows = p.follows;
        reads = ap next (sym is) ∙ ch.after;
      }

  pub turn_last : goes_on t ts ≡ false → Last place b t ts rest
  turn_last k =
      let ch = then_inverts (read_line place b false t) next (step-reads false k) in
      let p = stepped place b false t ch.middle ch.before in
      let c = closes place b p.line ch.middle p.leaves in
      let r = with_inverts (λ ss. c.series ∷ ss) (read_lines (suc place) none ts) (ap next (sym c.is) ∙ ch.after) in
      record {
        line = p.line;
        good = p.good;
        follows = p.follows;
        series = c.series;
        name = c.name;
        first = c.first;
        widths = closed_widths (last_field p.line.fields) (so_far b ++ drop_last p.line.fields) c.series.widths c.widths;
        later = r.before;
        is = sym r.changed;
        reads = r.answers;
      }

-- ---- the widths of a series that is begun come to be among those read
abbrev Covered : List Series → Begun → Type 0
Covered rest c = length c.widths ≤ length (widths_of rest)

more_covered : (place : ℕ) (c : Begun) (t : Text) (ts : List Text) (rest : List Series)
    → ((d : Begun) → 1 ≤ length ts → read_lines (suc place) (some d) ts ≡ answer rest → Covered rest d)
    → read_lines place (some c) (t ∷ ts) ≡ answer rest → (m : Bool) → goes_on t ts ≡ m → Covered rest c
unfolding widths_of
more_covered place c t ts rest ih e true k =
    let m = turn_more place (some c) t ts rest e k in
    omega (arith, ih _ (follows_some t ts k) m.reads, length-append c.widths m.line.fields)
more_covered place c t ts rest ih e false k =
    let m = turn_last place (some c) t ts rest e k in
    let ws = c.widths ++ drop_last m.line.fields in
    omega (
      arith,
      ap (λ ss. length (widths_of ss)) m.is,
      length-append m.series.widths (widths_of m.later),
      ap length m.widths,
      thousandths_length (last_field m.line.fields) ws,
      length-append c.widths (drop_last m.line.fields),
    )

pub begun-covered : (place : ℕ) (c : Begun) (ts : List Text) (rest : List Series) → 1 ≤ length ts
    → read_lines place (some c) ts ≡ answer rest → Covered rest c
begun-covered place c [] rest h e = absurd (omega arith)
begun-covered place c (t ∷ ts) rest h e = more_covered place c t ts rest (λ d k f. begun-covered (suc place) d ts rest k f) e (goes_on t ts) refl

-- ---- what holds before a line
abbrev pub Begins : Option Begun → Bool → ℤ → Type 0
Begins none begun first = begun ≡ false
Begins (some c) begun first = (begun ≡ true) × ((c.first_year ≡ first) × (nat_abs c.first_year < numeral_limit))

pub record Writes (text names-end : List ℕ) (years-end : List ℤ) (counts_end : List ℕ) (widths_end : List ℤ)
    (names : List ℕ) (years : List ℤ) (counts : List ℕ) (widths : List ℤ) (from series start at : ℕ) (begun : Bool) (first : ℤ) : Type 0 where
  pub within : from ≤ length text
  pub place : ℕ
  pub series-begun : Option Begun
  pub rest : List Series
  pub reads : read_lines place series-begun (lines_of (drop from text)) ≡ answer rest
  pub begins : Begins series-begun begun first
  pub alive : begun ≡ true → from < length text
  pub at_is : at ≡ start + length (so_far series-begun)
  pub so-far : slice start at widths ≡ so_far series-begun
  pub all_so_far : all_widths (so_far series-begun) ≡ true
  pub names-left : names-end ≡ sets names (series * name_columns) (names_of rest)
  pub years-left : years-end ≡ sets years series (years_of rest)
  pub counts-left : counts_end ≡ sets counts series (counts_of rest)
  pub widths_left : widths_end ≡ sets widths start (widths_of rest)
  pub names-room : series * name_columns + length (names_of rest) ≤ length names
  pub years_room : series + length rest ≤ length years
  pub counts-room : series + length rest ≤ length counts
  pub widths_room : start + length (widths_of rest) ≤ length widths

-- All that is to be written is.
pub record Ended (names-end : List ℕ) (years-end : List ℤ) (counts_end : List ℕ) (widths_end : List ℤ)
    (names : List ℕ) (years : List ℤ) (counts : List ℕ) (widths : List ℤ) : Type 0 where
  pub names_are : names ≡ names-end
  pub years_are : years ≡ years-end
  pub counts_are : counts ≡ counts_end
  pub widths_are : widths ≡ widths_end

-- at the beginning all series are still to be written
pub writes_start : {text names : Text} {years : List ℤ} {counts : List ℕ} {widths : List ℤ} (first : ℤ)
    → WriteAsks text names years counts widths → (let ss = series_in (read_text text) in
    Writes text (sets names 0 (names_of ss)) (sets years 0 (years_of ss)) (sets counts 0 (counts_of ss)) (sets widths 0 (widths_of ss))
    names years counts widths 0 0 0 0 false first)
unfolding read_text all_widths
writes_start {text} {names} {years} {counts} {widths} first asks = record {
  within = omega arith;
  place = 1;
  series-begun = none;
  rest = series_in (read_text text);
  reads = asks.good;
  begins = refl;
  alive = λ k. absurd (true_not_false k refl);
  at_is = refl;
  so-far = slice_empty 0 widths;
  all_so_far = refl;
  names-left = refl;
  years-left = refl;
  counts-left = refl;
  widths_left = refl;
  names-room = omega (arith, asks.names_fit);
  years_room = omega (arith, asks.years-fit);
  counts-room = omega (arith, asks.counts_fit);
  widths_room = omega (arith, asks.widths_fit);
}

-- ---- numbers
run_length : (x : ℤ) (m : ℕ) → m ≤ nat_abs x + nat_abs (x +ℤ pos m)
run_length x m = omega (arith, bal_+ x (pos m), abs-parts x, abs-parts (x +ℤ pos m))

run_small : (b : Option Begun) (begun : Bool) (first : ℤ) (l : Line) → Begins b begun first → year_follows b l ≡ true
    → nat_abs l.year < numeral_limit → length (so_far b) < 20000000
unfolding year_follows
run_small none begun first l h e k = omega arith
run_small (some c) begun first l h e k =
    let is : l.year ≡ next_year c = same_is l.year (next_year c) (and-true (same l.year (next_year c)) _ e).0 in
    omega (arith, run_length c.first_year (length c.widths), ap nat_abs is, h.1.1)

first_is : (b : Option Begun) (begun : Bool) (first : ℤ) (l : Line) (year : ℤ) → Begins b begun first → l.year ≡ year
    → (begun_by b l).first_year ≡ cond begun first year
first_is none begun first l year h e = e ∙ sym (ap (λ (x : Bool). cond x first year) h)
first_is (some c) begun first l year h e = h.1.0 ∙ sym (ap (λ (x : Bool). cond x first year) h.0)

first_small : (b : Option Begun) (begun : Bool) (first : ℤ) (l : Line) → Begins b begun first → nat_abs l.year < numeral_limit
    → nat_abs (begun_by b l).first_year < numeral_limit
first_small none begun first l h k = k
first_small (some c) begun first l h k = h.1.1

module _ {text names-end : List ℕ} {years-end : List ℤ} {counts_end : List ℕ} {widths_end : List ℤ}
    {names : List ℕ} {years : List ℤ} {counts : List ℕ} {widths : List ℤ} {from series start at : ℕ} {begun : Bool} {first : ℤ}
    (now : Writes text names-end years-end counts_end widths_end names years counts widths from series start at begun first) where
  abbrev b : Option Begun
  b = now.series-begun

  -- ---- at the end
  pub writes_end : length text ≤ from → Ended names-end years-end counts_end widths_end names years counts widths
  unfolding read_lines lines_of names_of years_of counts_of widths_of
  writes_end h =
      let no_lines = ap (λ (u : Text). read_lines now.place b (lines_of u)) (drop_of_length-le text h) in
      let none_left : now.rest ≡ [] = sym (answer_unique {o = read_lines now.place b (lines_of (drop from text))} no_lines now.reads) in
      record {
        names_are = sym (now.names-left ∙ ap (λ ss. sets names (series * name_columns) (names_of ss)) none_left);
        years_are = sym (now.years-left ∙ ap (λ ss. sets years series (years_of ss)) none_left);
        counts_are = sym (now.counts-left ∙ ap (λ ss. sets counts series (counts_of ss)) none_left);
        widths_are = sym (now.widths_left ∙ ap (λ ss. sets widths start (widths_of ss)) none_left);
      }

  -- ---- at a line
  module _ {end : ℕ} (line_at_lem : LineEnd text from end) (more-text : from < length text) where
    abbrev t : Text
    t = slice from (end + 1) text

    abbrev later-lines : List Text
    later-lines = lines_of (drop (end + 1) text)

    lines-read : read_lines now.place b (t ∷ later-lines) ≡ answer now.rest
    lines-read = ap (read_lines now.place b) (sym (lines_step text from end line_at_lem more-text)) ∙ now.reads

    -- no line is refused
    pub never_bad : good_line true t ≡ none → ⊥
    never_bad e = go (goes_on t later-lines) refl
      where
        go : (m : Bool) → goes_on t later-lines ≡ m → ⊥
        go true k = clash (cc (turn_more now.place b t later-lines now.rest lines-read k).good)
        go false k = clash (cc (turn_last now.place b t later-lines now.rest lines-read k).good)

    module _ {year : ℤ} {n : ℕ} {front : Bool} {last : ℤ} (told : line_told (good_line true t) ≡ Some (numbers year n front last)) where
      abbrev fields-text : Text
      fields-text = slice (from + 12) end text

      said : (l : Line) → good_line true t ≡ some l → Says l year n front last
      said l e = says (ap line_told (sym e) ∙ told)

      -- ---- its series goes on
      module _ (k : goes_on t later-lines ≡ true) where
        abbrev m : More now.place b t later-lines now.rest
        m = turn_more now.place b t later-lines now.rest lines-read k

        g : GoodLine text from end m.line
        g = good-line text from end line_at_lem m.line m.good

        count : length m.line.fields ≡ n
        count = (said m.line m.good).count_is

        numerals_are : field_numerals n fields-text ≡ some m.line.fields
        numerals_are = ap (λ (j : ℕ). field_numerals j fields-text) (sym count) ∙ g.numerals

        room : at + n ≤ start + length (widths_of now.rest)
        room =
            let c = extended (begun_by b m.line) m.line in
            omega (
              arith,
              now.at_is,
              count,
              begun-covered (suc now.place) c later-lines now.rest (follows_some t later-lines k) m.reads,
              length-append (begun_by b m.line).widths m.line.fields,
              ap length (begun_widths b m.line),
            )

        pub more_ready : FieldsAt text (from + 12) end n at (length widths)
        more_ready = record {
          within = (end_within text from end line_at_lem).1;
          longer = omega (arith, g.size, count);
          numerals = numerals_are ∙ ap some (sym (ap numerals_of numerals_are));
          fits = omega (arith, room, now.widths_room);
        }

        module _ {new-widths : List ℤ} (filled : new-widths ≡ sets widths at (numerals_of (field_numerals n fields-text))) where
          is : new-widths ≡ sets widths at m.line.fields
          is = filled ∙ ap (λ o. sets widths at (numerals_of o)) numerals_are

          kept : length new-widths ≡ length widths
          kept = ap length is ∙ length-sets widths at m.line.fields

          pub writes_more : {since : ℤ} → since ≡ cond begun first year
              → Writes text names-end years-end counts_end widths_end names years counts new-widths (end + 1) series start (at + n) true since
          writes_more e = record {
            within = omega (arith, g.ended);
            place = suc now.place;
            series-begun = some (extended (begun_by b m.line) m.line);
            rest = now.rest;
            reads = m.reads;
            begins = (
              refl,
              (
                first_is b begun first m.line year now.begins (said m.line m.good).year_is ∙ sym e,
                first_small b begun first m.line now.begins g.year-small,
              ),
            );
            alive = λ _. followed_by text t (end + 1) k;
            at_is = omega (arith, now.at_is, count, length-append (begun_by b m.line).widths m.line.fields, ap length (begun_widths b m.line));
            so-far =
                ap₂ (λ (j : ℕ) (w : List ℤ). slice start (at + j) w) (sym count) is
                ∙ slice-sets widths start at m.line.fields (omega (arith, now.at_is)) (omega (arith, room, now.widths_room, count))
                ∙ ap (λ (ws : List ℤ). ws ++ m.line.fields) (now.so-far ∙ sym (begun_widths b m.line));
            all_so_far = widths_append (begun_by b m.line).widths m.line.fields (rw (begun_widths b m.line) now.all_so_far) m.all;
            names-left = now.names-left;
            years-left = now.years-left;
            counts-left = now.counts-left;
            widths_left =
                now.widths_left
                ∙ sym (ap (λ w. sets w start (widths_of now.rest)) is
                ∙ sets_over widths start at (widths_of now.rest) m.line.fields (omega (arith, now.at_is)) (omega (arith, room, count))
                now.widths_room);
            names-room = now.names-room;
            years_room = now.years_room;
            counts-room = now.counts-room;
            widths_room = omega (arith, kept, now.widths_room);
          }

      -- ---- it is its series' last
      module _ (k : goes_on t later-lines ≡ false) where
        abbrev z : Last now.place b t later-lines now.rest
        z = turn_last now.place b t later-lines now.rest lines-read k

        abbrev fs : List ℤ
        fs = z.line.fields

        abbrev ws : List ℤ
        ws = so_far b ++ drop_last fs

        last-good : GoodLine text from end z.line
        last-good = good-line text from end line_at_lem z.line z.good

        last_said : Says z.line year n front last
        last_said = said z.line z.good

        front_are : field_numerals (n - 1) fields-text ≡ some (drop_last fs)
        front_are =
            fields-front n fields-text fs (omega (arith, last-good.some_field, last_said.count_is))
            (ap (λ (j : ℕ). field_numerals j fields-text) (sym last_said.count_is) ∙ last-good.numerals)

        front-count : length (drop_last fs) ≡ n - 1
        front-count = front_length fs ∙ ap (λ (j : ℕ). j - 1) last_said.count_is

        ws_length : length ws ≡ length (so_far b) + (n - 1)
        ws_length = length-append (so_far b) (drop_last fs) ∙ ap (λ (j : ℕ). length (so_far b) + j) front-count

        series_widths : z.series.widths ≡ in_thousandths last ws
        series_widths = z.widths ∙ ap (λ y. in_thousandths y ws) last_said.last_is

        series_length : length z.series.widths ≡ length ws
        series_length = ap length series_widths ∙ thousandths_length last ws

        rest_widths : widths_of now.rest ≡ z.series.widths ++ widths_of z.later
        unfolding widths_of
        rest_widths = ap widths_of z.is

        rest_length : length (widths_of now.rest) ≡ length ws + length (widths_of z.later)
        rest_length = ap length rest_widths ∙ length-append z.series.widths (widths_of z.later)
            ∙ ap (λ (j : ℕ). j + length (widths_of z.later)) series_length

        pub last-ready : FieldsAt text (from + 12) end (n - 1) at (length widths)
        last-ready = record {
          within = (end_within text from end line_at_lem).1;
          longer = omega (arith, last-good.size, last_said.count_is);
          numerals = front_are ∙ ap some (sym (ap numerals_of front_are));
          fits = omega (arith, now.at_is, ws_length, rest_length, now.widths_room);
        }

        module _ {filled-widths : List ℤ} (filled : filled-widths ≡ sets widths at (numerals_of (field_numerals (n - 1) fields-text))) where
          filled_is : filled-widths ≡ sets widths at (drop_last fs)
          filled_is = filled ∙ ap (λ o. sets widths at (numerals_of o)) front_are

          filled-kept : length filled-widths ≡ length widths
          filled-kept = ap length filled_is ∙ length-sets widths at (drop_last fs)

          part_is : slice start (at + (n - 1)) filled-widths ≡ ws
          part_is =
              ap₂ (λ (j : ℕ) (w : List ℤ). slice start (at + j) w) (sym front-count) filled_is
              ∙ slice-sets widths start at (drop_last fs) (omega (arith, now.at_is)) (omega (arith, last-ready.fits, front-count))
              ∙ ap (λ (vs : List ℤ). vs ++ drop_last fs) now.so-far

          pub convert-ready : WidthsAt filled-widths start (at + (n - 1))
          convert-ready = record {
            rising = omega (arith, now.at_is);
            within = omega (arith, last-ready.fits, filled-kept);
            all = ap all_widths part_is ∙ widths_append (so_far b) (drop_last fs) now.all_so_far (front_widths fs last-good.allowed);
          }

          rest-names : names_of now.rest ≡ slice from (from + name_columns) text ++ names_of z.later
          unfolding names_of
          rest-names = ap names_of z.is ∙ ap (λ (nm : Text). nm ++ names_of z.later) (z.name ∙ last-good.name)

          name_length : length (slice from (from + name_columns) text) ≡ name_columns
          name_length = length-slice from (from + name_columns) text (omega (arith, last-good.size, last-good.ended)) ∙ omega arith

          rest-names_length : length (names_of now.rest) ≡ name_columns + length (names_of z.later)
          rest-names_length = ap length rest-names ∙ length-append (slice from (from + name_columns) text) (names_of z.later)
              ∙ ap (λ (j : ℕ). j + length (names_of z.later)) name_length

          rest-count : length now.rest ≡ suc (length z.later)
          rest-count = ap length z.is

          pub enter-ready : EntryAsks text from (at + (n - 1) - start) names years counts series
          enter-ready =
              let small : length (so_far b) < 20000000 = run_small b begun first z.line now.begins z.follows last-good.year-small in
              let few : n ≤ decade = omega (arith, last-good.few, last_said.count_is) in
              record {
                name = record {
                  within = omega (arith, last-good.size, last-good.ended);
                  fits = omega (arith, rest-names_length, now.names-room);
                };
                year-fits = omega (arith, rest-count, now.years_room);
                count_fits = omega (arith, rest-count, now.counts-room);
                count_small = omega (arith, now.at_is, small, few);
              }

          module _ {new-widths : List ℤ}
              (converted : new-widths ≡ sets filled-widths start (in_thousandths last (slice start (at + (n - 1)) filled-widths)))
              {since : ℤ} (since-is : since ≡ cond begun first year) {new-names : Text} {new-years : List ℤ} {new-counts : List ℕ}
              (entered : Entered text from since (at + (n - 1) - start) series names years counts new-names new-years new-counts) where
            new_is : new-widths ≡ sets filled-widths start z.series.widths
            new_is =
                converted ∙ ap (λ (vs : List ℤ). sets filled-widths start (in_thousandths last vs)) part_is
                ∙ ap (sets filled-widths start) (sym series_widths)

            new_kept : length new-widths ≡ length widths
            new_kept = ap length new_is ∙ length-sets filled-widths start z.series.widths ∙ filled-kept

            after-names : series * name_columns + length (slice from (from + name_columns) text) ≡ (series + 1) * name_columns
            after-names = omega (arith, name_length)

            after_widths : start + length z.series.widths ≡ at + (n - 1)
            after_widths = omega (arith, series_length, ws_length, now.at_is)

            pub writes-last : (any : ℤ) → Writes text names-end years-end counts_end widths_end new-names new-years new-counts new-widths
                (end + 1) (series + 1) (at + (n - 1)) (at + (n - 1)) false any
            unfolding years_of counts_of all_widths
            writes-last any = record {
              within = omega (arith, last-good.ended);
              place = suc now.place;
              series-begun = none;
              rest = z.later;
              reads = z.reads;
              begins = refl;
              alive = λ h. absurd (true_not_false h refl);
              at_is = omega arith;
              so-far = slice_empty (at + (n - 1)) new-widths;
              all_so_far = refl;
              names-left =
                  now.names-left ∙ ap (sets names (series * name_columns)) rest-names
                  ∙ sets_append names (series * name_columns) (slice from (from + name_columns) text) (names_of z.later)
                  ∙ ap₂ (λ (l : List ℕ) (j : ℕ). sets l j (names_of z.later)) (sym entered.name-put) after-names;
              years-left =
                  now.years-left ∙ ap (λ ss. sets years series (years_of ss)) z.is
                  ∙ ap (λ (y : ℤ). sets (set years series y) (suc series) (years_of z.later))
                  (z.first ∙ first_is b begun first z.line year now.begins last_said.year_is ∙ sym since-is)
                  ∙ ap₂ (λ (l : List ℤ) (j : ℕ). sets l j (years_of z.later)) (sym entered.year-put) (sym (add-one series));
              counts-left =
                  now.counts-left ∙ ap (λ ss. sets counts series (counts_of ss)) z.is
                  ∙ ap (λ (c : ℕ). sets (set counts series c) (suc series) (counts_of z.later)) (omega (arith, after_widths))
                  ∙ ap₂ (λ (l : List ℕ) (j : ℕ). sets l j (counts_of z.later)) (sym entered.count-put) (sym (add-one series));
              widths_left =
                  now.widths_left
                  ∙ sym (ap (λ w. sets w start (widths_of now.rest)) filled_is
                  ∙ sets_over widths start at (widths_of now.rest) (drop_last fs) (omega (arith, now.at_is))
                  (omega (arith, now.at_is, front-count, rest_length, ws_length)) now.widths_room)
                  ∙ ap (sets filled-widths start) rest_widths
                  ∙ sets_append filled-widths start z.series.widths (widths_of z.later)
                  ∙ ap₂ (λ (l : List ℤ) (j : ℕ). sets l j (widths_of z.later)) (sym new_is) after_widths;
              names-room =
                  omega (
                    arith,
                    ap length entered.name-put,
                    length-sets names (series * name_columns) (slice from (from + name_columns) text),
                    rest-names_length,
                    now.names-room,
                  );
              years_room = omega (arith, ap length entered.year-put, length-set years series since, rest-count, now.years_room);
              counts-room = omega (arith, ap length entered.count-put, length-set counts series (at + (n - 1) - start), rest-count, now.counts-room);
              widths_room = omega (arith, new_kept, rest_length, after_widths, series_length, now.widths_room);
            }
