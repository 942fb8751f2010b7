-- What is written reads back: each line is good, goes on in the next of its series or closes it, and the closing's widths are
-- those of the series.
use mathlib.Core.Path.{◌≡◌, refl, sym, ◌∙◌, ap, ap₂}
use mathlib.Core.Bool.{Bool, true, false, cond, ◌&&◌, ◌||◌, not}
use mathlib.Core.List.{List, [], ◌∷◌, ◌++◌, map, drop_last, append_assoc}
use mathlib.Core.Option.{Option, some, none}
use Prim.Native.Nat.{ℕ, suc, ◌+◌, ◌-◌, ◌<◌, ◌≤◌}
use native.Mathlib.Omega.{arith}
use borrow.Author.Tests.{eq-eqb, le-leb, not-true}
use lib.IntN.{ℤ, pos, negsuc, ◌+ℤ◌, +ℤ_idr, +ℤ_assoc, pos-+ℤ-pos}
use lib.ListN.{length, length-append}
use lib.Signed.{le_z, ≤ℤ_refl}
use Rattle.base_exact.proofs.Decide.{and-true, cond_true, true_not_false, clash}
use Rattle.base_exact.proofs.Integer.{≤_out}
use Rattle.base_exact.proofs.Word.{le_z_true, le_test}
use Rattle.base_outcome.specs.Outcome.{Outcome, answer, refuse, ◌then◌, with_answer}
use Rattle.base_outcome.specs.Tests.{between}
use Rattle.base_text.specs.Bytes.{Text, begins_with}
use Rattle.base_text.proofs.Beginning.{begins_self, begins_other}
use Rattle.spec_tucson.specs.Line.{Line, decade, thousandths, width_limit, lines_of, is_name, year_in_decade, within_decade, same, is_width, fields_allowed, if_allowed, good_line}
use Rattle.spec_tucson.specs.Series.{Series, closed_by}
use Rattle.spec_tucson.specs.TextReading.{goes_on, Begun, begun_by, next_year, year_follows, Step, opened, closed, extended, last_field, whole_series, closing}
use Rattle.spec_tucson.specs.TextReading.{line_step, if_good, read_line, after, read_lines, read_text}
use Rattle.spec_tucson.specs.Writing.{in_lines, lines_from, series_lines, line_text, lines_text, written, years_fit, all_widths, is_writable, first_unwritable, least_year, greatest_year}
use Rattle.spec_tucson.proofs.Lines.{year-below}
use Rattle.theorems_tucson.specs.RoundTrip.{WrittenReadsBack}
use Rattle.theorems_tucson.proofs.Columns.{FitsColumns, year-fits}
use Rattle.theorems_tucson.proofs.Decade.{years_later}
use Rattle.theorems_tucson.proofs.Lines.{name-parts, FieldsHeld, LineHeld, line_reads, line_first, line-named}
use Rattle.theorems_tucson.proofs.InDecades.{InDecades, ends, goes, widths_parts, lines_in_decades}

-- ---- fields of widths, and of widths and a closing

pub width_fits : (w : ℤ) → is_width w ≡ true → FitsColumns 5 w
unfolding is_width
width_fits (pos n) e = omega (arith, ≤_out (pos n) (pos width_limit) (le_z_true (pos n) (pos width_limit) (and-true (le_z (pos 0) (pos n)) _ e).1))
width_fits (negsuc n) e = absurd (true_not_false e refl)

pub widths_fit : (ws : List ℤ) → all_widths ws ≡ true → FieldsHeld ws
widths_fit [] h = tt
widths_fit (w ∷ ws) h = let parts = widths_parts w ws h in (width_fits w parts.0, widths_fit ws parts.1)

closed_fit : (ws : List ℤ) → all_widths ws ≡ true → FieldsHeld (ws ++ (thousandths ∷ []))
closed_fit [] h = (omega arith, tt)
closed_fit (w ∷ ws) h = let parts = widths_parts w ws h in (width_fits w parts.0, closed_fit ws parts.1)

widths_allowed : (last : Bool) (ws : List ℤ) → all_widths ws ≡ true → fields_allowed last ws ≡ true
unfolding fields_allowed
widths_allowed last [] h = refl
widths_allowed last (w ∷ []) h = ap (λ (b : Bool). b || (last && same w thousandths)) (widths_parts w [] h).0
widths_allowed last (w ∷ v ∷ ws) h = let parts = widths_parts w (v ∷ ws) h in ap₂ (λ (a b : Bool). a && b) parts.0 (widths_allowed last (v ∷ ws) parts.1)

closed_allowed : (ws : List ℤ) → all_widths ws ≡ true → fields_allowed true (ws ++ (thousandths ∷ [])) ≡ true
unfolding fields_allowed is_width
closed_allowed [] h = refl
closed_allowed (w ∷ []) h = let parts = widths_parts w [] h in ap (λ (a : Bool). a && true) parts.0
closed_allowed (w ∷ v ∷ ws) h = let parts = widths_parts w (v ∷ ws) h in ap₂ (λ (a b : Bool). a && b) parts.0 (closed_allowed (v ∷ ws) parts.1)

last-closing : (c : ℤ) (ws : List ℤ) → last_field (ws ++ (c ∷ [])) ≡ c
unfolding last_field
last-closing c [] = refl
last-closing c (w ∷ []) = refl
last-closing c (w ∷ v ∷ ws) = last-closing c (v ∷ ws)

front_widths : (c : ℤ) (ws : List ℤ) → drop_last (ws ++ (c ∷ [])) ≡ ws
front_widths c [] = refl
front_widths c (w ∷ []) = refl
front_widths c (w ∷ v ∷ ws) = ap (λ (vs : List ℤ). w ∷ vs) (front_widths c (v ∷ ws))

thousandths_close : (ws : List ℤ) → closed_by thousandths ws ≡ some ws
unfolding closed_by
thousandths_close ws = refl

-- ---- one line

-- a line of widths fits its columns
pub full_fit : (name : Text) → is_name name ≡ true → (year : ℤ) (fs : List ℤ) → 1 ≤ length fs → length fs ≤ decade → between least_year greatest_year year ≡ true
    → all_widths fs ≡ true → LineHeld (record { name = name; year = year; fields = fs })
full_fit name named year fs h k e w = record { named = named; dated = year-fits year e; any = h; few = k; small = widths_fit fs w }

-- and one of widths and the closing
pub closing_fit : (name : Text) → is_name name ≡ true → (year : ℤ) (ws : List ℤ) → length ws < decade → between least_year greatest_year year ≡ true → all_widths ws ≡ true
    → LineHeld (record { name = name; year = year; fields = ws ++ (thousandths ∷ []) })
closing_fit name named year ws h e w =
    let size : length (ws ++ (thousandths ∷ [])) ≡ length ws + 1 = length-append ws (thousandths ∷ []) in
    record { named = named; dated = year-fits year e; any = omega arith; few = omega arith; small = closed_fit ws w }

-- what is begun where a line of this year stands
abbrev pub start : Option Begun → ℤ → Begun
start none year = record { first_year = year; widths = [] }
start (some b) year = b

pub start_is : (b : Option Begun) (l : Line) → begun_by b l ≡ start b l.year
start_is none l = refl
start_is (some b) l = refl

module _ (l : Line) (f : LineHeld l) (fills : year_in_decade l.year + length l.fields ≤ decade) where
  good-line : (last : Bool) → fields_allowed last l.fields ≡ true → good_line last (line_text l) ≡ some l
  unfolding good_line within_decade
  good-line last h =
      ap (if_allowed last) (line_reads l f)
      ∙ cond_true (some l) none (ap₂ (λ (a b : Bool). a && b) (le-leb (year_in_decade l.year + length l.fields) decade fills) h)

  module _ (place : ℕ) (b : Option Begun) (follows : year_follows b l ≡ true) where
    opening-line : fields_allowed false l.fields ≡ true → read_line place b true (line_text l) ≡ answer (opened (extended (start b l.year) l))
    unfolding read_line line_step
    opening-line h =
        ap (if_good place b true) (good-line false h)
        ∙ cond_true _ (refuse 12 place) follows
        ∙ ap (λ (c : Begun). answer (opened (extended c l))) (start_is b l)

    closing-line : (ws : List ℤ) → l.fields ≡ ws ++ (thousandths ∷ []) → fields_allowed true l.fields ≡ true →
        read_line place b false (line_text l) ≡ answer (closed (record { name = l.name; first_year = (start b l.year).first_year; widths = (start b l.year).widths ++ ws }))
    unfolding read_line line_step closing
    closing-line ws e h =
        ap (if_good place b false) (good-line true h)
        ∙ cond_true _ (refuse 12 place) follows
        ∙ ap (λ (c : Begun). closing place c l) (start_is b l)
        ∙ ap₂ (λ (c : ℤ) (us : List ℤ). whole_series place l.name (start b l.year).first_year (closed_by c ((start b l.year).widths ++ us)))
        (ap last_field e ∙ last-closing thousandths ws) (ap drop_last e ∙ front_widths thousandths ws)
        ∙ ap (whole_series place l.name (start b l.year).first_year) (thousandths_close ((start b l.year).widths ++ ws))

-- ---- the year that is due

same_yes : (a b : ℤ) → a ≡ b → same a b ≡ true
same_yes a b e = ap (λ (x : ℤ). same x b) e ∙ ap₂ (λ (x y : Bool). x && y) (le_test (≤ℤ_refl b)) (le_test (≤ℤ_refl b))

pub next-extended : (b : Begun) (l : Line) → next_year b ≡ l.year → next_year (extended b l) ≡ l.year +ℤ pos (length l.fields)
next-extended b l e =
    ap (λ (n : ℕ). b.first_year +ℤ pos n) (length-append b.widths l.fields)
    ∙ ap (λ (z : ℤ). b.first_year +ℤ z) (sym (pos-+ℤ-pos (length b.widths) (length l.fields)))
    ∙ sym (+ℤ_assoc b.first_year (pos (length b.widths)) (pos (length l.fields)))
    ∙ ap (λ (z : ℤ). z +ℤ pos (length l.fields)) e

year-follows : (b : Begun) (l : Line) (year : ℤ) → l.year ≡ year → next_year b ≡ year → year_in_decade year ≡ 0 → year_follows (some b) l ≡ true
unfolding year_follows
year-follows b l year e due begins =
    ap₂ (λ (x y : Bool). x && y) (same_yes l.year (next_year b) (e ∙ sym due)) (eq-eqb (year_in_decade l.year) 0 (ap year_in_decade e ∙ begins))

-- ---- names of neighbours

-- the text of a line begins with its name
begins-line : (l : Line) → begins_with l.name (line_text l) ≡ true
unfolding line_text
begins-line l = begins_self l.name _

-- ---- the lines of a series

module _ (name : Text) (named : is_name name ≡ true) where
  abbrev texts : ℤ → List (List ℤ) → List Text
  texts year lines = map line_text (lines_from name year lines)

  abbrev line_at : ℤ → List ℤ → Line
  line_at year fs = record { name = name; year = year; fields = fs }

  -- a line goes on where more lines of its series come
  followed : {c : ℤ} {room : ℕ} {lines : List (List ℤ)} {ws : List ℤ} (l : Line) (f : LineHeld l) → l.name ≡ name → (year : ℤ) (rest : List Text) → InDecades c room lines ws
      → goes_on (line_text l) (texts year lines ++ rest) ≡ true
  unfolding goes_on lines_from
  followed {c} l f e year rest (ends {ws = ws} h k) = ap (λ (t : Text). begins_with t (line_text (line_at year (ws ++ (c ∷ []))))) (line-named l f ∙ e) ∙ begins-line (line_at year (ws ++ (c ∷ [])))
  followed l f e year rest (goes {fs = fs} h k d) = ap (λ (t : Text). begins_with t (line_text (line_at year fs))) (line-named l f ∙ e) ∙ begins-line (line_at year fs)

  module _ (rest : List Text) (later : List Series) (apart : (l : Line) → LineHeld l → l.name ≡ name → goes_on (line_text l) rest ≡ false)
      (reads : (place : ℕ) → read_lines place none rest ≡ answer later) where
    -- the first year of what is begun, and all widths
    abbrev whole : Option Begun → ℤ → List ℤ → Series
    whole b year ws = record { name = name; first_year = (start b year).first_year; widths = (start b year).widths ++ ws }

    lines-read-back : {room : ℕ} {lines : List (List ℤ)} {ws : List ℤ} (place : ℕ) (b : Option Begun) (year : ℤ) → year_in_decade year + room ≡ decade - 1
        → next_year (start b year) ≡ year → ((l : Line) → l.year ≡ year → year_follows b l ≡ true)
        → InDecades thousandths room lines ws → years_fit (lines_from name year lines) ≡ true
        → read_lines place b (texts year lines ++ rest) ≡ answer (whole b year ws ∷ later)
    unfolding read_lines lines_from years_fit
    lines-read-back place b year r next follows (ends {room = room} {ws = ws} h k) years =
        let l = line_at year (ws ++ (thousandths ∷ [])) in
        let size : length (ws ++ (thousandths ∷ [])) ≡ length ws + 1 = length-append ws (thousandths ∷ []) in
        let f = closing_fit name named year ws (omega arith) (and-true (between least_year greatest_year year) true years).0 k in
        ap (λ (more : Bool). read_line place b more (line_text l) then after (λ b'. read_lines (suc place) b' rest)) (apart l f refl)
        ∙ ap (λ (o : Outcome Step). o then after (λ b'. read_lines (suc place) b' rest)) (closing-line l f (omega arith) place b (follows l refl) ws refl (closed_allowed ws k))
        ∙ ap (λ (o : Outcome (List Series)). with_answer (λ ss. whole b year ws ∷ ss) o) (reads (suc place))
    lines-read-back place b year r next follows (goes {room = room} {fs = fs} {more = more} {ws = ws} h k d) years =
        let l = line_at year fs in
        let both = and-true (between least_year greatest_year year) (years_fit (lines_from name (year +ℤ pos (length fs)) more)) years in
        let f = full_fit name named year fs (omega arith) (omega arith) both.0 k in
        let c = extended (start b year) l in
        let new_year = year +ℤ pos (length fs) in
        let begins : year_in_decade new_year ≡ 0 = years_later year (length fs) ∙ omega arith in
        let due : next_year c ≡ new_year = next-extended (start b year) l next in
        ap (λ (m : Bool). read_line place b m (line_text l) then after (λ b'. read_lines (suc place) b' (texts new_year more ++ rest))) (followed l f refl new_year rest d)
        ∙ ap (λ (o : Outcome Step). o then after (λ b'. read_lines (suc place) b' (texts new_year more ++ rest))) (opening-line l f (omega arith) place b (follows l refl) (widths_allowed false fs k))
        ∙ lines-read-back (suc place) (some c) new_year (omega arith) due (λ m e. year-follows c m new_year e due begins) d both.1
        ∙ ap (λ (us : List ℤ). answer (record { name = name; first_year = (start b year).first_year; widths = us } ∷ later)) (append_assoc (start b year).widths fs ws)

-- ---- all series

-- the lines of a series, cut from the text
module _ (name : Text) (named : is_name name ≡ true) where
  lines_cut : (year : ℤ) {room : ℕ} {lines : List (List ℤ)} {ws : List ℤ} → room ≤ decade - 1 → InDecades thousandths room lines ws
      → years_fit (lines_from name year lines) ≡ true → (rest : Text)
      → lines_of (lines_text (lines_from name year lines) ++ rest) ≡ map line_text (lines_from name year lines) ++ lines_of rest
  unfolding lines_from lines_text years_fit
  lines_cut year r (ends {ws = ws} h k) years rest =
      let l : Line = record { name = name; year = year; fields = ws ++ (thousandths ∷ []) } in
      let f = closing_fit name named year ws (omega arith) (and-true (between least_year greatest_year year) true years).0 k in
      ap lines_of (append_assoc (line_text l) [] rest) ∙ line_first l f rest
  lines_cut year r (goes {fs = fs} {more = more} h k d) years rest =
      let l : Line = record { name = name; year = year; fields = fs } in
      let both = and-true (between least_year greatest_year year) (years_fit (lines_from name (year +ℤ pos (length fs)) more)) years in
      let f = full_fit name named year fs (omega arith) (omega arith) both.0 k in
      let others = lines_text (lines_from name (year +ℤ pos (length fs)) more) in
      ap lines_of (append_assoc (line_text l) others rest)
      ∙ line_first l f (others ++ rest)
      ∙ ap (λ (ts : List Text). line_text l ∷ ts) (lines_cut (year +ℤ pos (length fs)) (omega arith) d both.1 rest)

-- a line does not go on where those of another name come
parted : (name other : Text) → is_name name ≡ true → is_name other ≡ true → begins_with other name ≡ false
    → (year : ℤ) {c : ℤ} {room : ℕ} {lines : List (List ℤ)} {ws : List ℤ} (rest : List Text) → InDecades c room lines ws
    → (l : Line) → LineHeld l → l.name ≡ name → goes_on (line_text l) (map line_text (lines_from other year lines) ++ rest) ≡ false
unfolding goes_on lines_from line_text
parted name other n m h year {c} rest (ends {ws = ws} a b) l f e =
    ap (λ (t : Text). begins_with t (line_text (record { name = other; year = year; fields = ws ++ (c ∷ []) }))) (line-named l f ∙ e)
    ∙ begins_other name other _ ((name-parts name n).0 ∙ sym (name-parts other m).0) h
parted name other n m h year rest (goes {fs = fs} a b d) l f e =
    ap (λ (t : Text). begins_with t (line_text (record { name = other; year = year; fields = fs }))) (line-named l f ∙ e)
    ∙ begins_other name other _ ((name-parts name n).0 ∙ sym (name-parts other m).0) h

-- what a series that can be written is
pub record CanBeWritten (before : Text) (s : Series) : Type 0 where
  pub named : is_name s.name ≡ true
  pub dated : years_fit (series_lines s) ≡ true
  pub measured : all_widths s.widths ≡ true
  pub apart : begins_with s.name before ≡ false

pub writable_parts : (before : Text) (s : Series) → is_writable before s ≡ true → CanBeWritten before s
unfolding is_writable
writable_parts before s e =
    let third = and-true (is_name s.name && years_fit (series_lines s) && all_widths s.widths) (not (begins_with s.name before)) e in
    let second = and-true (is_name s.name && years_fit (series_lines s)) (all_widths s.widths) third.0 in
    let first = and-true (is_name s.name) (years_fit (series_lines s)) second.0 in
    record { named = first.0; dated = first.1; measured = second.1; apart = not-true (begins_with s.name before) third.1 }

pub first-parts : (place : ℕ) (before : Text) (s : Series) (ss : List Series) → first_unwritable place before (s ∷ ss) ≡ none → CanBeWritten before s × (first_unwritable (suc place) s.name ss ≡ none)
unfolding first_unwritable
first-parts place before s ss e = go (is_writable before s) refl e
  where
    go : (b : Bool) → is_writable before s ≡ b → cond b (first_unwritable (suc place) s.name ss) (some place) ≡ none → CanBeWritten before s × (first_unwritable (suc place) s.name ss ≡ none)
    go true w e = (writable_parts before s w, e)
    go false w e = clash cc

-- the room of a series' first line
abbrev pub room_of : Series → ℕ
room_of s = decade - 1 - year_in_decade s.first_year

-- its lines
abbrev pub cut_of : Series → List (List ℤ)
cut_of s = in_lines (room_of s) (s.widths ++ (thousandths ∷ []))

pub cut_in_decades : (s : Series) → all_widths s.widths ≡ true → InDecades thousandths (room_of s) (cut_of s) s.widths
cut_in_decades s h = lines_in_decades thousandths (room_of s) s.widths h

series-cut : (before : Text) (s : Series) → CanBeWritten before s → (rest : Text) → lines_of (lines_text (series_lines s) ++ rest) ≡ map line_text (series_lines s) ++ lines_of rest
unfolding series_lines
series-cut before s w rest = lines_cut s.name w.named s.first_year (omega (arith, year-below s.first_year)) (cut_in_decades s w.measured) w.dated rest

-- the last line of a series does not go on in those of the next
apart_from_next : (before : Text) (s : Series) (ss : List Series) (place : ℕ) → CanBeWritten before s → first_unwritable place s.name ss ≡ none → (l : Line) → LineHeld l
    → l.name ≡ s.name → goes_on (line_text l) (lines_of (written ss)) ≡ false
unfolding written lines_of goes_on series_lines
apart_from_next before s [] place w e l f n = refl
apart_from_next before s (next ∷ ss) place w e l f n =
    let parts = first-parts place s.name next ss e in
    ap (goes_on (line_text l)) (series-cut s.name next parts.0 (written ss))
    ∙ parted s.name next.name w.named parts.0.named parts.0.apart next.first_year (lines_of (written ss)) (cut_in_decades next parts.0.measured) l f n

any_year-follows : (l : Line) → year_follows none l ≡ true
unfolding year_follows
any_year-follows l = refl

all_read-back : (ss : List Series) (place : ℕ) (before : Text) → first_unwritable place before ss ≡ none → (from : ℕ) → read_lines from none (lines_of (written ss)) ≡ answer ss
unfolding written lines_of read_lines series_lines
all_read-back [] place before e from = refl
all_read-back (s ∷ ss) place before e from =
    let parts = first-parts place before s ss e in
    ap (read_lines from none) (series-cut before s parts.0 (written ss))
    ∙ lines-read-back s.name parts.0.named (lines_of (written ss)) ss (apart_from_next before s ss (suc place) parts.0 parts.1) (all_read-back ss (suc place) s.name parts.1)
    from none s.first_year (omega (arith, year-below s.first_year)) (+ℤ_idr s.first_year) (λ l e. any_year-follows l) (cut_in_decades s parts.0.measured) parts.0.dated

pub written-reads-back : WrittenReadsBack
unfolding read_text
written-reads-back ss e = all_read-back ss 0 [] e 1
