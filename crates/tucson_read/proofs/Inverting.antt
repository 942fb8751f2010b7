-- A text that reads well, line by line: what an answer says of the first line, of the series that it opens or closes, and of
-- the lines behind it.
use mathlib.Core.Path.{◌≡◌, refl, sym, ◌∙◌, ap, subst}
use mathlib.Core.Bool.{Bool, true, false, cond, ◌&&◌, not}
use mathlib.Core.List.{List, ◌++◌, drop_last}
use mathlib.Core.Option.{Option, some, none}
use Prim.Native.Nat.{ℕ}
use lib.IntN.{ℤ, pos}
use lib.ListN.{length, length-map}
use Rattle.base_exact.proofs.Decide.{and-true, clash}
use Rattle.base_outcome.specs.Outcome.{Outcome, answer, refuse}
use Rattle.base_outcome.proofs.Outcome.{answer_unique, answer_not_refusal}
use Rattle.base_text.specs.Bytes.{Text}
use Rattle.spec_tucson.specs.Line.{Line, thousandths, is_width, same, within_decade, fields_allowed, line_of, if_allowed, good_line}
use Rattle.spec_tucson.specs.Series.{Series, hundredths, all_hundredths, from_hundredths, closed_by}
use Rattle.spec_tucson.specs.TextReading.{Begun, begun_by, year_follows, Step, opened, closed, extended, last_field}
use Rattle.spec_tucson.specs.TextReading.{whole_series, closing, line_step, if_good, read_line}
use Rattle.spec_tucson.specs.Writing.{all_widths}
use Rattle.spec_tucson.proofs.Lines.{front_widths_of}
pub use Rattle.spec_tucson.proofs.Lines.{all-widths, widths_append}
use Rattle.tucson_lines.proofs.GoodLines.{if_width, good_more}
use Rattle.tucson_scan.specs.Scan.{so_far}
use Rattle.tucson_read.specs.Write.{in_thousandths}
use Rattle.tucson_scan.proofs.Passing.{same_is, begun_widths}

-- ---- one line

-- A line that reads well: it is a good one, its year follows, and it leaves this.
pub record Stepped (place : ℕ) (b : Option Begun) (more : Bool) (t : Text) (st : Step) : Type 0 where
  pub line : Line
  pub good : good_line (not more) t ≡ some line
  pub follows : year_follows b line ≡ true
  pub leaves : cond more (answer (opened (extended (begun_by b line) line))) (closing place (begun_by b line) line) ≡ answer st

pub stepped : (place : ℕ) (b : Option Begun) (more : Bool) (t : Text) (st : Step) → read_line place b more t ≡ answer st → Stepped place b more t st
unfolding read_line line_step
stepped place b more t st e = go (good_line (not more) t) refl e
  where
    test : (l : Line) → good_line (not more) t ≡ some l → (f : Bool) → year_follows b l ≡ f →
        cond f (cond more (answer (opened (extended (begun_by b l) l))) (closing place (begun_by b l) l)) (refuse 12 place) ≡ answer st
        → Stepped place b more t st
    test l g true k e = record { line = l; good = g; follows = k; leaves = e }
    test l g false k e = absurd (answer_not_refusal e refl)

    go : (o : Option Line) → good_line (not more) t ≡ o → if_good place b more o ≡ answer st → Stepped place b more t st
    go none g e = absurd (answer_not_refusal e refl)
    go (some l) g e = test l g (year_follows b l) refl e

-- it is good as a last line too
pub good_as_last : (more : Bool) (t : Text) (l : Line) → good_line (not more) t ≡ some l → good_line true t ≡ some l
good_as_last false t l e = e
good_as_last true t l e = go (good_line true t) (sym (good_more t) ∙ e)
  where
    test : (m : Line) (w : Bool) → cond w (some m) none ≡ some l → some m ≡ some l
    test m true e = e
    test m false e = clash cc

    go : (o : Option Line) → if_width o ≡ some l → o ≡ some l
    go none e = clash cc
    go (some m) e = test m (is_width (last_field m.fields)) e

-- ---- a line that opens
pub opens : {st : Step} {c : Begun} → ◌≡◌ {A = Outcome Step} (answer (opened c)) (answer st) → st ≡ opened c
opens {st} {c} e = sym (answer_unique {o = answer (opened c)} refl e)

-- ---- a line that closes
pub record Closes (b : Option Begun) (l : Line) (st : Step) : Type 0 where
  pub series : Series
  pub is : st ≡ closed series
  pub name : series.name ≡ l.name
  pub first : series.first_year ≡ (begun_by b l).first_year
  pub widths : closed_by (last_field l.fields) (so_far b ++ drop_last l.fields) ≡ some series.widths

pub closes : (place : ℕ) (b : Option Begun) (l : Line) (st : Step) → closing place (begun_by b l) l ≡ answer st → Closes b l st
unfolding closing
closes place b l st e = go (closed_by (last_field l.fields) ((begun_by b l).widths ++ drop_last l.fields)) refl e
  where
    go : (o : Option (List ℤ)) → closed_by (last_field l.fields) ((begun_by b l).widths ++ drop_last l.fields) ≡ o
        → whole_series place l.name (begun_by b l).first_year o ≡ answer st → Closes b l st
    go none k e = absurd (answer_not_refusal e refl)
    go (some ws) k e = record {
      series = record { name = l.name; first_year = (begun_by b l).first_year; widths = ws };
      is = sym (answer_unique {o = answer (closed (record { name = l.name; first_year = (begun_by b l).first_year; widths = ws }))} refl e);
      name = refl;
      first = refl;
      widths = ap (λ (vs : List ℤ). closed_by (last_field l.fields) (vs ++ drop_last l.fields)) (sym (begun_widths b l)) ∙ k;
    }

-- the closing says the unit
pub closed_widths : (z : ℤ) (ws vs : List ℤ) → closed_by z ws ≡ some vs → vs ≡ in_thousandths z ws
unfolding closed_by in_thousandths
closed_widths z ws vs e = go (same z thousandths) (same z hundredths) (all_hundredths ws) refl refl e
  where
    go : (t h a : Bool) → same z thousandths ≡ t → same z hundredths ≡ h → cond t (some ws) (cond (h && a) (some (from_hundredths ws)) none) ≡ some vs
        → vs ≡ cond h (from_hundredths ws) ws
    go true true a k m e = clash (let x : pos 999 ≡ thousandths = sym (same_is z hundredths m) ∙ same_is z thousandths k in cc)
    go true false a k m e = cc
    go false true true k m e = cc
    go false true false k m e = clash cc
    go false false a k m e = clash cc

pub thousandths_length : (z : ℤ) (ws : List ℤ) → length (in_thousandths z ws) ≡ length ws
unfolding in_thousandths from_hundredths
thousandths_length z ws = go (same z hundredths)
  where
    go : (b : Bool) → length (cond b (from_hundredths ws) ws) ≡ length ws
    go true = length-map ws _
    go false = refl

-- ---- the fields are widths
pub front_widths : (fs : List ℤ) → fields_allowed true fs ≡ true → all_widths (drop_last fs) ≡ true
front_widths = front_widths_of true

-- ---- code 11's test of the fields
pub good_allowed : (last : Bool) (t : Text) (l : Line) → good_line last t ≡ some l → fields_allowed last l.fields ≡ true
unfolding good_line
good_allowed last t l e = go (line_of t) e
  where
    test : (m : Line) (b : Bool) → (within_decade m && fields_allowed last m.fields) ≡ b → cond b (some m) none ≡ some l
        → fields_allowed last l.fields ≡ true
    test m true k e =
        let is : m ≡ l = cc in
        subst (λ x. fields_allowed last x.fields ≡ true) is (and-true (within_decade m) (fields_allowed last m.fields) k).1
    test m false k e = clash cc

    go : (o : Option Line) → if_allowed last o ≡ some l → fields_allowed last l.fields ≡ true
    go none e = clash cc
    go (some m) e = test m (within_decade m && fields_allowed last m.fields) refl e
