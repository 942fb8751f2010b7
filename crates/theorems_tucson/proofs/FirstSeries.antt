-- The first series of lines that reading accepts: it lies in decades as writing cuts one, so what is written for it has the same
-- years and bytes. A line that goes on puts its fields before those of the next; the last line begins with what is known of the
-- lines after the series.
use mathlib.Core.Path.{◌≡◌, refl, sym, ◌∙◌, ap, ap₂, subst}
use mathlib.Core.Bool.{Bool, true, false, cond, ◌&&◌, not}
use mathlib.Core.List.{List, [], ◌∷◌, ◌++◌, drop_last, append_assoc}
use mathlib.Core.Option.{Option, some, none}
use Prim.Native.Nat.{ℕ, suc, ◌+◌, ◌-◌, ◌%◌}
use native.Mathlib.Omega.{arith}
use borrow.Author.Tests.{eqb-true}
use lib.Dec.{eqb}
use lib.IntN.{ℤ, pos, ◌+ℤ◌, +ℤ_idr}
use lib.ListN.{length, take, length-append}
use lib.Seq.{take_all}
use Rattle.base_exact.proofs.Decide.{and-true, true_not_false}
use Rattle.base_outcome.specs.Outcome.{Outcome, answer, refuse, ◌then◌}
use Rattle.base_outcome.proofs.Outcome.{answer_unique, answer_not_refusal, Chained, then_inverts, with_inverts}
use Rattle.base_text.specs.Bytes.{Text, begins_with}
use Rattle.base_text.proofs.Beginning.{begins-taken, begins-front}
use Rattle.spec_tucson.specs.Line.{Line, name_columns, decade, thousandths, is_name, year_in_decade, same, good_line}
use Rattle.spec_tucson.specs.Series.{Series, closed_by}
use Rattle.spec_tucson.specs.TextReading.{goes_on, Begun, begun_by, next_year, year_follows, Step, opened, closed, extended, last_field, whole_series, closing, line_step, if_good, read_line, after, read_lines}
use Rattle.spec_tucson.specs.Writing.{lines_from, series_lines, lines_text, written, years_fit, all_widths, is_writable, first_unwritable}
use Rattle.spec_tucson.proofs.Lines.{same_is, all-widths, year-below, front_widths_of}
use Rattle.theorems_tucson.specs.Refusals.{NextYearByLine}
use Rattle.theorems_tucson.proofs.Columns.{fits-year}
use Rattle.theorems_tucson.proofs.Decade.{years_later}
use Rattle.theorems_tucson.proofs.Lines.{name-parts}
use Rattle.theorems_tucson.proofs.InDecades.{InDecades, ends, goes, sizes, same_sizes, bytes_of, same_years}
use Rattle.theorems_tucson.proofs.GoodLines.{at_end_only, AllAtEndOnly, bytes_in, Good, good_inverted, front_and_last}
use Rattle.theorems_tucson.proofs.ReadsBack.{start, start_is, next-extended, room_of, cut_of, cut_in_decades}
use Rattle.theorems_tucson.proofs.Rescaled.{widths-length, closed_widths, decades_widths, lines-length}

-- ---- what one line leaves

-- A line that reading accepts: good, at its year, and what comes of it.
record Accepted (place : ℕ) (b : Option Begun) (more : Bool) (t : Text) (step : Step) : Type 0 where
  line : Line
  good : good_line (not more) t ≡ some line
  follows : year_follows b line ≡ true
  leaves : cond more (answer (opened (extended (begun_by b line) line))) (closing place (begun_by b line) line) ≡ answer step

line-accepted : (place : ℕ) (b : Option Begun) (more : Bool) (t : Text) (step : Step) → read_line place b more t ≡ answer step → Accepted place b more t step
unfolding read_line line_step
line-accepted place b more t step e = go (good_line (not more) t) refl e
  where
    at : (l : Line) → good_line (not more) t ≡ some l → (f : Bool) → year_follows b l ≡ f
        → cond f (cond more (answer (opened (extended (begun_by b l) l))) (closing place (begun_by b l) l)) (refuse 12 place) ≡ answer step → Accepted place b more t step
    at l g true f e = record { line = l; good = g; follows = f; leaves = e }
    at l g false f e = absurd (answer_not_refusal e refl)

    go : (o : Option Line) → good_line (not more) t ≡ o → if_good place b more o ≡ answer step → Accepted place b more t step
    go none g e = absurd (answer_not_refusal e refl)
    go (some l) g e = at l g (year_follows b l) refl e

-- The series that a last line closes.
record Closes (b : Begun) (l : Line) (step : Step) : Type 0 where
  widths : List ℤ
  scaled : closed_by (last_field l.fields) (b.widths ++ drop_last l.fields) ≡ some widths
  leaves : step ≡ closed (record { name = l.name; first_year = b.first_year; widths = widths })

closing_closes : (place : ℕ) (b : Begun) (l : Line) (step : Step) → closing place b l ≡ answer step → Closes b l step
unfolding closing
closing_closes place b l step e = go (closed_by (last_field l.fields) (b.widths ++ drop_last l.fields)) refl e
  where
    go : (o : Option (List ℤ)) → closed_by (last_field l.fields) (b.widths ++ drop_last l.fields) ≡ o → whole_series place l.name b.first_year o ≡ answer step → Closes b l step
    go none w e = absurd (answer_not_refusal e refl)
    go (some vs) w e = record { widths = vs; scaled = w; leaves = answer_unique e refl }

-- ---- the series at the front of the lines

-- The year of a line after what is begun.
abbrev pub Due : Option Begun → ℤ → Type 0
Due none year = Unit {0}
Due (some b) year = (year ≡ next_year b) × (year_in_decade year ≡ 0)

follows-due : (b : Option Begun) (l : Line) → year_follows b l ≡ true → Due b l.year
unfolding year_follows
follows-due none l e = tt
follows-due (some b) l e =
    let both = and-true (same l.year (next_year b)) (eqb (year_in_decade l.year) 0) e in
    (same_is l.year (next_year b) both.0, eqb-true (year_in_decade l.year) 0 both.1)

-- The first series of lines that read to ss, the rest of it where part is begun, and what is known of the series after it.
pub record FirstSeries (t : Text) (ts : List Text) (b : Option Begun) (ss : List Series) : Type 0 where
  pub name : Text
  pub year : ℤ
  pub room : ℕ
  pub lines : List (List ℤ)
  pub ws : List ℤ
  pub unit : ℤ
  pub vs : List ℤ
  pub later : List Series
  pub named : is_name name ≡ true
  pub titled : take name_columns t ≡ name
  pub roomy : year_in_decade year + room ≡ decade - 1
  pub cut : InDecades unit room lines ws
  pub dated : years_fit (lines_from name year lines) ≡ true
  pub due : Due b year
  pub scaled : closed_by unit ((start b year).widths ++ ws) ≡ some vs
  pub first : ss ≡ record { name = name; first_year = (start b year).first_year; widths = vs } ∷ later
  pub writable : (place : ℕ) → first_unwritable place name later ≡ none
  pub bytes : bytes_in (t ∷ ts) ≡ bytes_of (sizes lines) + length (written later)

-- ---- from there to what is written

module _ {t : Text} {ts : List Text} {ss : List Series} (f : FirstSeries t ts none ss) where
  abbrev series : Series
  series = record { name = f.name; first_year = f.year; widths = f.vs }

  measured : all_widths f.vs ≡ true
  measured = closed_widths f.unit f.ws f.vs (decades_widths f.cut) f.scaled

  room_is : f.room ≡ room_of series
  room_is = omega (arith, f.roomy)

  sizes_are : sizes f.lines ≡ sizes (cut_of series)
  sizes_are =
      same_sizes f.cut (subst (λ (r : ℕ). InDecades thousandths r (cut_of series) f.vs) (sym room_is) (cut_in_decades series measured))
      (sym (widths-length f.unit f.ws f.vs f.scaled))

  dated_again : years_fit (series_lines series) ≡ true
  unfolding series_lines
  dated_again = sym (same_years f.name f.name f.year f.lines (cut_of series) sizes_are) ∙ f.dated

  series_writable : (before : Text) → begins_with f.name before ≡ false → is_writable before series ≡ true
  unfolding is_writable
  series_writable before h = rw (f.named, dated_again, measured, h)

  pub all_writable : (before : Text) → begins_with f.name before ≡ false → (place : ℕ) → first_unwritable place before ss ≡ none
  unfolding first_unwritable
  all_writable before h place =
      ap (first_unwritable place before) f.first
      ∙ ap (λ (b : Bool). cond b (first_unwritable (suc place) f.name f.later) (some place)) (series_writable before h)
      ∙ f.writable (suc place)

  pub all_bytes : length (written ss) ≡ bytes_in (t ∷ ts)
  unfolding written series_lines
  all_bytes =
      ap (λ (us : List Series). length (written us)) f.first
      ∙ length-append (lines_text (series_lines series)) (written f.later)
      ∙ ap (λ (n : ℕ). n + length (written f.later))
      (lines-length f.name f.named f.year (omega (arith, year-below f.year)) (cut_in_decades series measured) dated_again ∙ ap bytes_of (sym sizes_are))
      ∙ sym f.bytes

-- ---- the lines after a series

-- What is known of the series of the lines after one of this name.
pub record Later (name : Text) (ts : List Text) (later : List Series) : Type 0 where
  pub writable : (place : ℕ) → first_unwritable place name later ≡ none
  pub bytes : length (written later) ≡ bytes_in ts

pub none-later : (name : Text) (later : List Series) (place : ℕ) → read_lines place none [] ≡ answer later → Later name [] later
unfolding read_lines first_unwritable written
none-later name later place e =
    let empty : [] ≡ later = answer_unique refl e in
    record { writable = λ p. ap (first_unwritable p name) (sym empty); bytes = ap (λ (ss : List Series). length (written ss)) (sym empty) }

-- a series that the next lines do not go on with has another name than theirs
other_name : (name other t next : Text) (ts : List Text) → is_name name ≡ true → is_name other ≡ true → take name_columns t ≡ name → take name_columns next ≡ other
    → goes_on t (next ∷ ts) ≡ false → begins_with other name ≡ false
unfolding goes_on
other_name name other t next ts n m h k e = go (begins_with other name) refl
  where
    go : (b : Bool) → begins_with other name ≡ b → b ≡ false
    go false w = refl
    go true w =
        let same : name ≡ other = sym (take_all (length other) name (omega (arith, (name-parts name n).0, (name-parts other m).0))) ∙ begins-front other name w in
        absurd (true_not_false (begins-taken name_columns next) (ap (λ (x : Text). begins_with x next) (k ∙ sym same ∙ sym h) ∙ e))

some_later : (name t next : Text) (ts : List Text) (later : List Series) → is_name name ≡ true → take name_columns t ≡ name → goes_on t (next ∷ ts) ≡ false
    → FirstSeries next ts none later → Later name (next ∷ ts) later
some_later name t next ts later n h e f = record {
  writable = all_writable f name (other_name name f.name t next ts n f.named h f.titled e);
  bytes = all_bytes f;
}

-- ---- reading, a line at a time

module _ (t : Text) (ts : List Text) (place : ℕ) (b : Option Begun) (ss : List Series) where
  abbrev rest : Option Begun → Outcome (List Series)
  rest b' = read_lines (suc place) b' ts

  -- the series that the last line of one leaves
  abbrev whole_of : Line → List ℤ → Series
  whole_of l vs = record { name = l.name; first_year = (begun_by b l).first_year; widths = vs }

  last-first : (l : Line) → Good true t l → year_follows b l ≡ true → (vs : List ℤ) → closed_by (last_field l.fields) ((begun_by b l).widths ++ drop_last l.fields) ≡ some vs
      → (later : List Series) → whole_of l vs ∷ later ≡ ss → Later l.name ts later → FirstSeries t ts b ss
  unfolding lines_from years_fit
  last-first l g follows vs scaled later first known =
      let front = drop_last l.fields in
      let split : front ++ (last_field l.fields ∷ []) ≡ l.fields = front_and_last l.fields g.any in
      let count : length front + 1 ≡ length l.fields = sym (length-append front (last_field l.fields ∷ [])) ∙ ap length split in
      let size : length (front ++ (last_field l.fields ∷ [])) ≡ length l.fields = ap length split in
      record {
        name = l.name;
        year = l.year;
        room = decade - 1 - year_in_decade l.year;
        lines = (front ++ (last_field l.fields ∷ [])) ∷ [];
        ws = front;
        unit = last_field l.fields;
        vs = vs;
        later = later;
        named = g.named;
        titled = g.titled;
        roomy = omega (arith, year-below l.year);
        cut = ends {room = decade - 1 - year_in_decade l.year} {ws = front} (omega (arith, g.within)) (front_widths_of true l.fields g.allowed);
        dated = ap (λ (d : Bool). d && true) (fits-year l.year g.dated);
        due = follows-due b l follows;
        scaled = ap (λ (c : Begun). closed_by (last_field l.fields) (c.widths ++ front)) (sym (start_is b l)) ∙ scaled;
        first = sym first ∙ ap (λ (c : Begun). record { name = l.name; first_year = c.first_year; widths = vs } ∷ later) (start_is b l);
        writable = known.writable;
        bytes = omega (arith, g.size, known.bytes);
      }

  -- the last line of a series
  last_line : at_end_only t ≡ true → (read_line place b false t then after rest) ≡ answer ss
      → ((name : Text) (later : List Series) → is_name name ≡ true → take name_columns t ≡ name → rest none ≡ answer later → Later name ts later) → FirstSeries t ts b ss
  last_line once e known = go (then_inverts (read_line place b false t) (after rest) e)
    where
      closes : (l : Line) → Good true t l → year_follows b l ≡ true → (step : Step) → Closes (begun_by b l) l step → after rest step ≡ answer ss → FirstSeries t ts b ss
      closes l g follows step k e =
          let w = with_inverts (λ us. whole_of l k.widths ∷ us) (rest none) (ap (after rest) (sym k.leaves) ∙ e) in
          last-first l g follows k.widths k.scaled w.before w.changed (known l.name w.before g.named g.titled w.answers)

      accepted : (step : Step) → Accepted place b false t step → after rest step ≡ answer ss → FirstSeries t ts b ss
      accepted step a e = closes a.line (good_inverted true t a.line once a.good) a.follows step (closing_closes place (begun_by b a.line) a.line step a.leaves) e

      go : Chained (read_line place b false t) (after rest) ss → FirstSeries t ts b ss
      go c = accepted c.middle (line-accepted place b false t c.middle c.before) c.after

due-next : (b : Option Begun) (l : Line) → Due b l.year → next_year (begun_by b l) ≡ l.year
due-next none l d = +ℤ_idr l.year
due-next (some b) l d = sym d.0

-- the year that is due after a line that goes on
pub next-year_by_line : NextYearByLine
next-year_by_line place b t c e =
    let a = line-accepted place b true t (opened c) e in
    let l = a.line in
    let leaves : ◌≡◌ {A = Outcome Step} (answer (opened (extended (begun_by b l) l))) (answer (opened c)) = a.leaves in
    (l, a.good, next c (extended (begun_by b l) l) leaves ∙ next-extended (begun_by b l) l (due-next b l (follows-due b l a.follows)))
  where
    next : (c d : Begun) → ◌≡◌ {A = Outcome Step} (answer (opened d)) (answer (opened c)) → next_year c ≡ next_year d
    next c d e = ap next_year (let same : c ≡ d = cc in same)

module _ (t next : Text) (ts : List Text) (b : Option Begun) (ss : List Series) where
  -- what the line leaves begun
  abbrev with_line : Line → Begun
  with_line l = extended (begun_by b l) l

  -- the next line's name is this one's
  next_titled : (name other : Text) → is_name name ≡ true → take name_columns t ≡ name → take name_columns next ≡ other → goes_on t (next ∷ ts) ≡ true → take name_columns t ≡ other
  unfolding goes_on
  next_titled name other n h k e =
      let size : length (take name_columns t) ≡ name_columns = ap length h ∙ (name-parts name n).0 in
      sym (ap (λ (m : ℕ). take m next) (sym size) ∙ begins-front (take name_columns t) next e) ∙ k

  going-first : goes_on t (next ∷ ts) ≡ true → (l : Line) → Good false t l → year_follows b l ≡ true → FirstSeries next ts (some (with_line l)) ss → FirstSeries t (next ∷ ts) b ss
  unfolding lines_from years_fit
  going-first more l g follows f =
      let due = follows-due b l follows in
      let fs = l.fields in
      let years : f.year ≡ l.year +ℤ pos (length fs) = f.due.0 ∙ next-extended (begun_by b l) l (due-next b l due) in
      let begins : (year_in_decade l.year + length fs) % decade ≡ 0 = sym (years_later l.year (length fs)) ∙ ap year_in_decade (sym years) ∙ f.due.1 in
      let full : length fs ≡ suc (decade - 1 - year_in_decade l.year) = omega (arith, g.within, g.any, year-below l.year) in
      let rest : f.room ≡ decade - 1 = omega (arith, f.roomy, f.due.1) in
      record {
        name = f.name;
        year = l.year;
        room = decade - 1 - year_in_decade l.year;
        lines = fs ∷ f.lines;
        ws = fs ++ f.ws;
        unit = f.unit;
        vs = f.vs;
        later = f.later;
        named = f.named;
        titled = next_titled l.name f.name g.named g.titled f.titled more;
        roomy = omega (arith, year-below l.year);
        cut =
            goes {room = decade - 1 - year_in_decade l.year} {fs = fs} {more = f.lines} {ws = f.ws} full (all-widths fs g.allowed)
            (subst (λ (r : ℕ). InDecades f.unit r f.lines f.ws) rest f.cut);
        dated = ap₂ (λ (x y : Bool). x && y) (fits-year l.year g.dated) (ap (λ (y : ℤ). years_fit (lines_from f.name y f.lines)) (sym years) ∙ f.dated);
        due = due;
        scaled =
            ap (λ (c : Begun). closed_by f.unit (c.widths ++ (fs ++ f.ws))) (sym (start_is b l))
            ∙ ap (closed_by f.unit) (sym (append_assoc (begun_by b l).widths fs f.ws))
            ∙ f.scaled;
        first = f.first ∙ ap (λ (c : Begun). record { name = f.name; first_year = c.first_year; widths = f.vs } ∷ f.later) (start_is b l);
        writable = f.writable;
        bytes = omega (arith, g.size, f.bytes);
      }

  -- a line that goes on
  going-line : (place : ℕ) → at_end_only t ≡ true → goes_on t (next ∷ ts) ≡ true
      → (read_line place b true t then after (λ b'. read_lines (suc place) b' (next ∷ ts))) ≡ answer ss
      → ((c : Begun) → read_lines (suc place) (some c) (next ∷ ts) ≡ answer ss → FirstSeries next ts (some c) ss) → FirstSeries t (next ∷ ts) b ss
  going-line place once more e known = go (then_inverts (read_line place b true t) (after (λ b'. read_lines (suc place) b' (next ∷ ts))) e)
    where
      accepted : (step : Step) → Accepted place b true t step → after (λ b'. read_lines (suc place) b' (next ∷ ts)) step ≡ answer ss → FirstSeries t (next ∷ ts) b ss
      accepted step a e =
          going-first more a.line (good_inverted false t a.line once a.good) a.follows
          (known (with_line a.line) (ap (after (λ b'. read_lines (suc place) b' (next ∷ ts))) (answer_unique refl a.leaves) ∙ e))

      go : Chained (read_line place b true t) (after (λ b'. read_lines (suc place) b' (next ∷ ts))) ss → FirstSeries t (next ∷ ts) b ss
      go c = accepted c.middle (line-accepted place b true t c.middle c.before) c.after

pub first-series : (ts : List Text) (t : Text) (place : ℕ) (b : Option Begun) (ss : List Series) → AllAtEndOnly (t ∷ ts) → read_lines place b (t ∷ ts) ≡ answer ss → FirstSeries t ts b ss
unfolding read_lines goes_on
first-series [] t place b ss once e = last_line t [] place b ss once.0 e (λ name later n h r. none-later name later (suc place) r)
first-series (next ∷ ts) t place b ss once e = go (goes_on t (next ∷ ts)) refl e (λ p c us r. first-series ts next p c us once.1 r)
  where
    go : (more : Bool) → goes_on t (next ∷ ts) ≡ more → (read_line place b more t then after (λ b'. read_lines (suc place) b' (next ∷ ts))) ≡ answer ss
        → ((p : ℕ) (c : Option Begun) (us : List Series) → read_lines p c (next ∷ ts) ≡ answer us → FirstSeries next ts c us) → FirstSeries t (next ∷ ts) b ss
    go true w e ih = going-line t next ts b ss place once.0 w e (λ c r. ih (suc place) (some c) ss r)
    go false w e ih = last_line t (next ∷ ts) place b ss once.0 e (λ name later n h r. some_later name t next ts later n h w (ih (suc place) none later r))
