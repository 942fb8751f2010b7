-- Every width of a series that the strict reader finds stands in a field of a line of the text, in its year.
use mathlib.Core.Path.{◌≡◌, refl, sym, ◌∙◌, ap, subst}
use mathlib.Core.Bool.{Bool, true, false, cond, ◌&&◌}
use mathlib.Core.List.{List, [], ◌∷◌, ◌++◌, map, drop_last, append_assoc}
use mathlib.Core.Option.{Option, some, none, some-injective}
use Prim.Native.Nat.{ℕ, suc, ◌+◌, ◌≤◌}
use native.Mathlib.Omega.{arith}
use lib.Dec.{eqb}
use lib.IntN.{ℤ, pos, ◌+ℤ◌, ◌*ℤ◌, +ℤ_idr, +ℤ_assoc, pos-+ℤ-pos}
use lib.ListN.{length, take, drop}
use lib.Seq.{take-append-le, length-take-le}
use Rattle.base_exact.proofs.Decide.{clash, and-true}
use Rattle.base_outcome.specs.Outcome.{answer}
use Rattle.base_outcome.proofs.Outcome.{Chained, then_inverts, with_inverts, answer_unique}
use Rattle.base_text.specs.Bytes.{Text, newline}
use Rattle.base_text.proofs.Beginning.{begins-front}
use Rattle.spec_tucson.specs.Line.{Line, name_columns, thousandths, same, lines_of, field_count, line_in_columns, year_in_decade}
use Rattle.spec_tucson.specs.Series.{Series, hundredths, all_hundredths, from_hundredths, closed_by}
use Rattle.spec_tucson.specs.TextReading.{goes_on, Begun, begun_by, next_year, year_follows, Step, extended, last_field, read_line, after, read_lines, read_text}
use Rattle.spec_tucson.proofs.Lines.{same_is, fields-count}
use Rattle.tucson_lines.proofs.GoodLines.{columns-parts}
use Rattle.tucson_strict.proofs.Strict.{strict_size, fitting}
use Rattle.theorems_tucson.proofs.GoodLines.{AllAtEndOnly, lines_end, front_and_last}
use Rattle.theorems_clean.specs.Places.{At, here, later}
use Rattle.theorems_widths.specs.Widths.{InField, Scaled, in_thousandths, in_hundredths, SeriesStands, WidthsStand}
use Rattle.theorems_clean.proofs.StrictLines.{line_strict}
use Rattle.theorems_clean.proofs.Headers.{at_below, Where, at_where, first, other}
use Rattle.theorems_clean.proofs.ReadLines.{LineRead, line_read, goes_on_lem, closes}

-- ---- places in lists

-- an element of two lists: of the first, or of the second so many places later
data Side {A : Type 0} (x : A) (n : ℕ) (xs ys : List A) : Type 0 where
  left : At x n xs → Side x n xs ys
  right : (k : ℕ) → n ≡ length xs + k → At x k ys → Side x n xs ys

at_side : {A : Type 0} (x : A) (xs ys : List A) (n : ℕ) → At x n (xs ++ ys) → Side x n xs ys
at_side x [] ys n at = right n (omega arith) at
at_side x (y ∷ xs) ys n at = go (at_where x y n (xs ++ ys) at) (λ k. at_side x xs ys k)
  where
    go : Where x y n (xs ++ ys) → ((k : ℕ) → At x k (xs ++ ys) → Side x k xs ys) → Side x n (y ∷ xs) ys
    go (first e z) ih = left (subst (λ (m : ℕ). At x m (y ∷ xs)) (sym z) (subst (λ (a : _). At x 0 (a ∷ xs)) e here))
    go (other k z at') ih = shift (ih k at')
      where
        shift : Side x k xs ys → Side x n (y ∷ xs) ys
        shift (left a) = left (subst (λ (m : ℕ). At x m (y ∷ xs)) (sym z) (later a))
        shift (right m w a) = right m (omega arith) a

at_left : {A : Type 0} {x : A} {n : ℕ} {xs : List A} (ys : List A) → At x n xs → At x n (xs ++ ys)
at_left ys here = here
at_left ys (later a) = later (at_left ys a)

at_end : {A : Type 0} (x : A) (xs : List A) → At x (length xs) (xs ++ (x ∷ []))
at_end x [] = here
at_end x (y ∷ xs) = later (at_end x xs)

-- ---- numbers of a series so far

-- Each stands in a field, in its year.
abbrev Standing : List Text → Text → ℤ → List ℤ → Type 0
Standing all name year ws = (j : ℕ) (number : ℤ) → At number j ws → InField all name (year +ℤ pos j) number

-- What was begun before these lines stands, with the name of the first of them.
abbrev BegunStands : List Text → Option Begun → List Text → Type 0
BegunStands all none ts = Unit {0}
BegunStands all (some b) [] = Unit {0}
BegunStands all (some b) (t ∷ ts) = Standing all (take name_columns t) b.first_year b.widths

year-due : (b : Option Begun) (l : Line) → year_follows b l ≡ true → l.year ≡ next_year (begun_by b l)
unfolding year_follows
year-due none l e = sym (+ℤ_idr l.year)
year-due (some b) l e = same_is l.year (next_year b) (and-true (same l.year (next_year b)) (eqb (year_in_decade l.year) 0) e).0

later-year : (begin year : ℤ) (n k : ℕ) → year ≡ begin +ℤ pos n → year +ℤ pos k ≡ begin +ℤ pos (n + k)
later-year begin year n k e =
    ap (λ (z : ℤ). z +ℤ pos k) e ∙ +ℤ_assoc begin (pos n) (pos k) ∙ ap (λ (z : ℤ). begin +ℤ z) (pos-+ℤ-pos n k)

module _ (all : List Text) (index : ℕ) (place : ℕ) (b : Option Begun) (more : Bool) (t : Text) (ts : List Text) (s : Step)
    (at : At t index all) (r : LineRead place b more t s) where
  -- the name in the line's first eight bytes
  line-named : r.line.name ≡ take name_columns t
  line-named =
      let p = columns-parts r.body r.line r.reads in
      let long = strict_size r.body (line_strict r.body r.line r.reads) in
      p.name ∙ sym (take-append-le name_columns r.body (newline ∷ []) (omega arith)) ∙ ap (take name_columns) (sym r.is)

  name_length : length (take name_columns t) ≡ name_columns
  name_length =
      let long = strict_size r.body (line_strict r.body r.line r.reads) in
      ap length (ap (take name_columns) r.is ∙ take-append-le name_columns r.body (newline ∷ []) (omega arith)) ∙ length-take-le name_columns r.body (omega arith)

  -- the numbers before the line and its fields stand
  stand_with : year_follows b r.line ≡ true → BegunStands all b (t ∷ ts)
      → Standing all (take name_columns t) (begun_by b r.line).first_year ((begun_by b r.line).widths ++ r.line.fields)
  stand_with follows known j number a = go b refl follows known (at_side number (begun_by b r.line).widths r.line.fields j a)
    where
      in_line : (c : Begun) → r.line.year ≡ next_year c → (k : ℕ) → j ≡ length c.widths + k → At number k r.line.fields
          → InField all (take name_columns t) (c.first_year +ℤ pos j) number
      in_line c due k z f = record {
        index = index;
        body = r.body;
        at = subst (λ (u : Text). At u index all) r.is at;
        line = r.line;
        reads = r.reads;
        named = line-named;
        place = k;
        field = f;
        dated = later-year c.first_year r.line.year (length c.widths) k due ∙ ap (λ (n : ℕ). c.first_year +ℤ pos n) (sym z);
      }

      go : (o : Option Begun) → b ≡ o → year_follows o r.line ≡ true → BegunStands all o (t ∷ ts) → Side number j (begun_by o r.line).widths r.line.fields
          → InField all (take name_columns t) ((begun_by o r.line).first_year +ℤ pos j) number
      go none w follows known (left f) = absurd (omega (arith, at_below f))
      go none w follows known (right k z f) = in_line (begun_by none r.line) (year-due none r.line follows) k z f
      go (some c) w follows known (left f) = known j number f
      go (some c) w follows known (right k z f) = in_line c (year-due (some c) r.line follows) k z f

-- ---- the closing

closing-scaled : (c : ℤ) (ns ws : List ℤ) → closed_by c ns ≡ some ws → Scaled c ns ws
unfolding closed_by from_hundredths
closing-scaled c ns ws e = go (same c thousandths) refl (same c hundredths) refl (all_hundredths ns) e
  where
    go : (a : Bool) → same c thousandths ≡ a → (h : Bool) → same c hundredths ≡ h → (small : Bool)
        → cond a (some ns) (cond (h && small) (some (map (λ n. n *ℤ pos 10) ns)) none) ≡ some ws → Scaled c ns ws
    go true w h v small e = subst (Scaled c ns) (some-injective ns ws e) (in_thousandths (same_is c thousandths w))
    go false w true v true e = subst (Scaled c ns) (some-injective (map (λ n. n *ℤ pos 10) ns) ws e) (in_hundredths (same_is c hundredths v))
    go false w true v false e = clash cc
    go false w false v small e = clash cc

-- a line has a field
some_fields : (body : Text) (l : Line) → line_in_columns body ≡ some l → 1 ≤ length l.fields
some_fields body l e =
    let p = columns-parts body l e in
    let f = fitting body p.fits in
    omega (arith, f.some_field, fields-count (field_count body) (drop 12 body) l.fields p.fields)

-- ---- all series

abbrev EachStands : List Text → List Series → Type 0
EachStands all [] = Unit {0}
EachStands all (s ∷ ss) = SeriesStands all s × EachStands all ss

-- the next line has the name of one that goes on
next-named : (t next : Text) (ts : List Text) → length (take name_columns t) ≡ name_columns → goes_on t (next ∷ ts) ≡ true → take name_columns t ≡ take name_columns next
unfolding goes_on
next-named t next ts size e = sym (begins-front (take name_columns t) next e) ∙ ap (λ (n : ℕ). take n next) size

reads_stand : (ts all : List Text) (from : ℕ) → ((k : ℕ) (t : Text) → At t k ts → At t (from + k) all) → (place : ℕ) (b : Option Begun) (ss : List Series) → AllAtEndOnly ts
    → BegunStands all b ts → read_lines place b ts ≡ answer ss → EachStands all ss
unfolding read_lines
reads_stand [] all from among place b ss once known e = subst (EachStands all) (answer_unique refl e) tt
reads_stand (t ∷ ts) all from among place b ss once known e =
    go (goes_on t ts) refl (then_inverts (read_line place b (goes_on t ts) t) (after (λ b'. read_lines (suc place) b' ts)) e)
    (λ b' us. reads_stand ts all (suc from) (λ k u a. subst (λ (n : ℕ). At u n all) (let z : from + suc k ≡ suc from + k = omega arith in z) (among (suc k) u (later a))) (suc place) b' us once.1)
  where
    here_at : At t from all
    here_at = subst (λ (n : ℕ). At t n all) (let z : from + 0 ≡ from = omega arith in z) (among 0 t here)

    opens : (ts' : List Text) (l : Line) → goes_on t ts' ≡ true → length (take name_columns t) ≡ name_columns
        → Standing all (take name_columns t) (begun_by b l).first_year ((begun_by b l).widths ++ l.fields) → BegunStands all (some (extended (begun_by b l) l)) ts'
    opens [] l g size stands = tt
    opens (next ∷ us) l g size stands = subst (λ (name : Text). Standing all name (begun_by b l).first_year ((begun_by b l).widths ++ l.fields)) (next-named t next us size g) stands

    go : (more : Bool) → goes_on t ts ≡ more → Chained (read_line place b more t) (after (λ b'. read_lines (suc place) b' ts)) ss
        → ((b' : Option Begun) (us : List Series) → BegunStands all b' ts → read_lines (suc place) b' ts ≡ answer us → EachStands all us) → EachStands all ss
    go true g c ih =
        let r = line_read place b true t c.middle once.0 c.before in
        let step = goes_on_lem place b r.line c.middle r.leaves in
        let stands = stand_with all from place b true t ts c.middle here_at r step.0 known in
        ih (some (extended (begun_by b r.line) r.line)) ss (opens ts r.line g (name_length all from place b true t ts c.middle here_at r) stands)
        (ap (after (λ b'. read_lines (suc place) b' ts)) (sym step.1) ∙ c.after)
    go false g c ih =
        let r = line_read place b false t c.middle once.0 c.before in
        let step = closes place b r.line c.middle r.leaves in
        let d = step.1 in
        let l = r.line in
        let series : Series = record { name = l.name; first_year = (begun_by b l).first_year; widths = d.widths } in
        let w = with_inverts (λ us. series ∷ us) (read_lines (suc place) none ts) (ap (after (λ b'. read_lines (suc place) b' ts)) (sym d.leaves) ∙ c.after) in
        let ns = (begun_by b l).widths ++ drop_last l.fields in
        let whole : ns ++ (last_field l.fields ∷ []) ≡ (begun_by b l).widths ++ l.fields =
        append_assoc (begun_by b l).widths (drop_last l.fields) (last_field l.fields ∷ [])
        ∙ ap (λ (fs : List ℤ). (begun_by b l).widths ++ fs) (front_and_last l.fields (some_fields r.body l r.reads)) in
        let stands : Standing all l.name (begun_by b l).first_year (ns ++ (last_field l.fields ∷ [])) =
        subst (Standing all l.name (begun_by b l).first_year) (sym whole)
        (subst (λ (name : Text). Standing all name (begun_by b l).first_year ((begun_by b l).widths ++ l.fields)) (sym (line-named all from place b false t ts c.middle here_at r))
        (stand_with all from place b false t ts c.middle here_at r step.0 known)) in
        subst (EachStands all) w.changed (
          record {
            numbers = ns;
            stand = λ j number a. stands j number (at_left (last_field l.fields ∷ []) a);
            closing = last_field l.fields;
            closes = stands (length ns) (last_field l.fields) (at_end (last_field l.fields) ns);
            scaled = closing-scaled (last_field l.fields) ns d.widths d.closed-by;
          },
          ih none w.before tt w.answers,
        )

each_at : (all : List Text) (ss : List Series) → EachStands all ss → (n : ℕ) (s : Series) → At s n ss → SeriesStands all s
each_at all [] h n s at = absurd (omega (arith, at_below at))
each_at all (u ∷ us) h n s at = go (at_where s u n us at) (λ k. each_at all us h.1 k s)
  where
    go : Where s u n us → ((k : ℕ) → At s k us → SeriesStands all s) → SeriesStands all s
    go (first e z) ih = subst (SeriesStands all) (sym e) h.0
    go (other k z a) ih = ih k a

pub widths_stand : WidthsStand
unfolding read_text
widths_stand t ss e n s at =
    each_at (lines_of t) ss (reads_stand (lines_of t) (lines_of t) 0 (λ k u a. subst (λ (m : ℕ). At u m (lines_of t)) (let z : k ≡ 0 + k = omega arith in z) a) 1 none ss (lines_end t) tt e) n s at
