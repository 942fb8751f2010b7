-- Which refusals the two calls give, and that these leave the buffers: reading refuses at the line that it has come to, writing at
-- a series of its lists.
use mathlib.Core.Path.{◌≡◌, refl, ap, subst}
use mathlib.Core.Bool.{Bool, true, false, cond}
use mathlib.Core.List.{List, [], ◌∷◌}
use mathlib.Core.Option.{Option, some, none, some-injective}
use Prim.Native.Nat.{ℕ, suc, ◌+◌, ◌<◌, ◌≤◌}
use native.Mathlib.Omega.{arith}
use lib.IntN.{ℤ}
use lib.Dec.{leb}
use lib.ListN.{length, drop}
use Rattle.base_exact.proofs.Decide.{clash}
use Rattle.base_outcome.specs.Outcome.{Outcome, answer, refusal, capped, refuse, with_answer}
use Rattle.base_outcome.specs.Tests.{refuse_first}
use Rattle.base_outcome.proofs.Outcome.{answer_not_refusal, Broken, first-refuses, second-refuses, then_breaks, with_refuses}
use Rattle.base_text.specs.Bytes.{Text}
use Rattle.spec_tucson.specs.Line.{Line, name_columns, lines_of, good_line}
use Rattle.spec_tucson.specs.Series.{Series, closed_by}
use Rattle.spec_tucson.specs.TextReading.{goes_on, Begun, begun_by, year_follows, Step, opened, closed, extended, whole_series, closing, line_step, if_good, read_line, after, read_lines, read_text}
use Rattle.spec_tucson.specs.ReadCall.{names_of, years_of, counts_of, widths_of, room_for, read_outcome, filled, ReadEnd, read_end}
use Rattle.spec_tucson.specs.Writing.{written, is_writable, first_unwritable, unwritable}
use Rattle.spec_tucson.specs.WriteCall.{lists_fit, series_of, series_outcome, write_outcome, text_after, WriteEnd, write_end}
use Rattle.theorems_tucson.specs.Refusals.{ReadRefusal, at_line, short_buffers, ReadRefuses, WriteRefusal, unfitting, at_series, short_buffer, WriteRefuses}

-- An outcome that is a refusal by its code and place.
refusal-code : {A : Type 0} {o : Outcome A} {m n p q : ℕ} → o ≡ refusal m p → o ≡ refusal n q → m ≡ n
refusal-code e f = cc

refusal-place : {A : Type 0} {o : Outcome A} {m n p q : ℕ} → o ≡ refusal m p → o ≡ refusal n q → p ≡ q
refusal-place e f = cc

-- ---- reading

-- A refusal of the line at this place.
record OfLine (line code place : ℕ) : Type 0 where
  least : 11 ≤ code
  most : code ≤ 13
  is : capped line ≡ place

refused_with : {A : Type 0} {o : Outcome A} {code place : ℕ} (n line : ℕ) → 11 ≤ n → n ≤ 13 → o ≡ refuse n line → o ≡ refusal code place → OfLine line code place
refused_with n line l m e f = let same = refusal-code e f in record { least = omega arith; most = omega arith; is = refusal-place e f }

module _ (line : ℕ) (b : Option Begun) (more : Bool) (code place : ℕ) where
  closing-refuses : (c : Begun) (l : Line) → closing line c l ≡ refusal code place → OfLine line code place
  unfolding closing
  closing-refuses c l e = go (closed_by _ _) e
    where
      go : (o : Option (List ℤ)) → whole_series line l.name c.first_year o ≡ refusal code place → OfLine line code place
      go none e = refused_with 13 line (omega arith) (omega arith) refl e
      go (some ws) e = absurd (answer_not_refusal refl e)

  step-refuses : (l : Line) → line_step line b more l ≡ refusal code place → OfLine line code place
  unfolding line_step
  step-refuses l e = go (year_follows b l) more e
    where
      go : (f m : Bool) → cond f (cond m (answer (opened (extended (begun_by b l) l))) (closing line (begun_by b l) l)) (refuse 12 line) ≡ refusal code place → OfLine line code place
      go true true e = absurd (answer_not_refusal refl e)
      go true false e = closing-refuses (begun_by b l) l e
      go false m e = refused_with 12 line (omega arith) (omega arith) refl e

  line-refuses : (t : Text) → read_line line b more t ≡ refusal code place → OfLine line code place
  unfolding read_line
  line-refuses t e = go (good_line _ t) e
    where
      go : (o : Option Line) → if_good line b more o ≡ refusal code place → OfLine line code place
      go none e = refused_with 11 line (omega arith) (omega arith) refl e
      go (some l) e = step-refuses l e

-- A refusal of one of so many lines from this place on.
record OfLines (from count code place : ℕ) : Type 0 where
  line : ℕ
  refuses : OfLine line code place
  reached : from ≤ line
  before_end : line < from + count

lines-refuse : (ts : List Text) (from : ℕ) (b : Option Begun) (code place : ℕ) → read_lines from b ts ≡ refusal code place → OfLines from (length ts) code place
unfolding read_lines
lines-refuse [] from b code place e = absurd (answer_not_refusal refl e)
lines-refuse (t ∷ ts) from b code place e = go (then_breaks (read_line from b (goes_on t ts) t) (after (λ b'. read_lines (suc from) b' ts)) e) (λ c f. lines-refuse ts (suc from) c code place f)
  where
    later : OfLines (suc from) (length ts) code place → OfLines from (suc (length ts)) code place
    later r = record { line = r.line; refuses = r.refuses; reached = omega (arith, r.reached); before_end = omega (arith, r.before_end) }

    leaves : (step : Step) → after (λ b'. read_lines (suc from) b' ts) step ≡ refusal code place
        → ((c : Option Begun) → read_lines (suc from) c ts ≡ refusal code place → OfLines (suc from) (length ts) code place) → OfLines from (suc (length ts)) code place
    leaves (opened c) e ih = later (ih (some c) e)
    leaves (closed s) e ih = later (ih none (with_refuses (λ ss. s ∷ ss) (read_lines (suc from) none ts) e))

    go : Broken (read_line from b (goes_on t ts) t) (after (λ b'. read_lines (suc from) b' ts)) code place
        → ((c : Option Begun) → read_lines (suc from) c ts ≡ refusal code place → OfLines (suc from) (length ts) code place) → OfLines from (suc (length ts)) code place
    go (first-refuses e) ih = record { line = from; refuses = line-refuses from b (goes_on t ts) code place t e; reached = omega arith; before_end = omega arith }
    go (second-refuses step p q) ih = leaves step q ih

text-refuses : (t : Text) (code place : ℕ) → read_text t ≡ refusal code place → ReadRefusal t code place
unfolding read_text
text-refuses t code place e =
    let r = lines-refuse (lines_of t) 1 none code place e in
    subst (λ (p : ℕ). ReadRefusal t code p) r.refuses.is (at_line r.line r.refuses.least r.refuses.most r.reached (omega (arith, r.before_end)))

-- the read call: the text's refusal, or a buffer too short
module _ (t names : Text) (years : List ℤ) (counts : List ℕ) (widths : List ℤ) (code place : ℕ) where
  abbrev outcome : Outcome (List Series)
  outcome = read_outcome t (length names) (length years) (length counts) (length widths)

  read-outcome-refuses : outcome ≡ refusal code place → ReadRefusal t code place
  unfolding read_outcome capped
  read-outcome-refuses e = go (then_breaks (read_text t) (λ ss. cond (room_for ss (length names) (length years) (length counts) (length widths)) (answer ss) (refuse 1 0)) e)
    where
      room : (ss : List Series) (b : Bool) → cond b (answer ss) (refuse 1 0) ≡ refusal code place → ReadRefusal t code place
      room ss true e = absurd (answer_not_refusal refl e)
      room ss false e = subst (λ (n : ℕ). ReadRefusal t n place) (refusal-code refl e) (subst (λ (p : ℕ). ReadRefusal t 1 p) (refusal-place refl e) short_buffers)

      go : Broken (read_text t) (λ ss. cond (room_for ss (length names) (length years) (length counts) (length widths)) (answer ss) (refuse 1 0)) code place → ReadRefusal t code place
      go (first-refuses e) = text-refuses t code place e
      go (second-refuses ss p q) = room ss (room_for ss (length names) (length years) (length counts) (length widths)) q

  end_of : Outcome (List Series) → ReadEnd
  end_of o = record { answers = with_answer length o; names = filled names_of o names; years = filled years_of o years; counts = filled counts_of o counts; widths = filled widths_of o widths }

  unchanged : outcome ≡ refusal code place → read_end t names years counts widths ≡ record { answers = refusal code place; names = names; years = years; counts = counts; widths = widths }
  unfolding end_of filled
  unchanged e = ap end_of e

pub read-refuses : ReadRefuses
read-refuses t names years counts widths code place e =
    let refuses = with_refuses length (read_outcome t (length names) (length years) (length counts) (length widths)) e in
    (read-outcome-refuses t names years counts widths code place refuses, unchanged t names years counts widths code place refuses)

-- ---- writing

first_below : (ss : List Series) (from : ℕ) (before : Text) (i : ℕ) → first_unwritable from before ss ≡ some i → i < from + length ss
unfolding first_unwritable
first_below [] from before i e = clash cc
first_below (s ∷ ss) from before i e = go (is_writable before s) e (first_below ss (suc from) s.name i)
  where
    go : (b : Bool) → cond b (first_unwritable (suc from) s.name ss) (some from) ≡ some i → (first_unwritable (suc from) s.name ss ≡ some i → i < suc from + length ss) → i < from + suc (length ss)
    go true e ih = omega (arith, ih e)
    go false e ih = let same = some-injective from i e in omega arith

series_at_most : (years : List ℤ) (names : Text) (counts : List ℕ) (widths : List ℤ) → length (series_of names years counts widths) ≤ length years
unfolding series_of
series_at_most [] names counts widths = omega arith
series_at_most (y ∷ years) names [] widths = omega arith
series_at_most (y ∷ years) names (n ∷ counts) widths = omega (arith, series_at_most years (drop name_columns names) counts (drop n widths))

module _ (names : Text) (years : List ℤ) (counts : List ℕ) (widths : List ℤ) (text : Text) (code place : ℕ) where
  abbrev listed : List Series
  listed = series_of names years counts widths

  abbrev text_outcome : Outcome Text
  text_outcome = write_outcome names years counts widths (length text)

  -- the refusal with this code at this place
  refused_as : (n p : ℕ) → ◌≡◌ {A = Outcome Text} (refusal n p) (refusal code place) → WriteRefusal years n p → WriteRefusal years code place
  refused_as n p e r = subst (λ (m : ℕ). WriteRefusal years m place) (refusal-code refl e) (subst (λ (q : ℕ). WriteRefusal years n q) (refusal-place refl e) r)

  write-outcome-refuses : text_outcome ≡ refusal code place → WriteRefusal years code place
  unfolding write_outcome series_outcome capped
  write-outcome-refuses e = fits (lists_fit names years counts widths) e
    where
      short : (b : Bool) → cond b (answer (written listed)) (refuse 1 0) ≡ refusal code place → WriteRefusal years code place
      short true e = absurd (answer_not_refusal refl e)
      short false e = refused_as 1 0 e short_buffer

      allowed : (o : Option ℕ) → unwritable listed ≡ o
          → refuse_first 11 o (cond (leb (length (written listed)) (length text)) (answer (written listed)) (refuse 1 0)) ≡ refusal code place
          → WriteRefusal years code place
      allowed none w e = short (leb (length (written listed)) (length text)) e
      allowed (some i) w e = refused_as 11 (capped i) e (at_series i (omega (arith, first_below listed 0 [] i w, series_at_most years names counts widths)))

      fits : (b : Bool) → cond b (series_outcome listed (length text)) (refuse 2 0) ≡ refusal code place → WriteRefusal years code place
      fits true e = allowed (unwritable listed) refl e
      fits false e = refused_as 2 0 e unfitting

  text_end : Outcome Text → WriteEnd
  text_end o = record { answers = with_answer length o; text = text_after o text }

  text_unchanged : text_outcome ≡ refusal code place → write_end names years counts widths text ≡ record { answers = refusal code place; text = text }
  unfolding text_end text_after
  text_unchanged e = ap text_end e

pub write-refuses : WriteRefuses
write-refuses names years counts widths text code place e =
    let refuses = with_refuses length (write_outcome names years counts widths (length text)) e in
    (write-outcome-refuses names years counts widths text code place refuses, text_unchanged names years counts widths text code place refuses)
