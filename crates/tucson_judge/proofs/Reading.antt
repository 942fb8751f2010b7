-- The reader's step: a line by its numbers, and what the reader ends with behind it.
use mathlib.Core.Path.{◌≡◌, refl, ◌∙◌, ap, ap₂}
use mathlib.Core.Bool.{Bool, true, false, cond, ◌&&◌, ◌||◌}
use mathlib.Core.List.{List, [], ◌∷◌, ◌++◌, drop_last}
use mathlib.Core.Option.{Option, some, none}
use Prim.Native.Nat.{ℕ, ◌+◌, ◌≤◌}
use native.Mathlib.Omega.{arith}
use Rattle.std.specs.Prelude.{Ok, Err, Some}
use lib.Dec.{leb}
use lib.IntN.{ℤ}
use lib.ListN.{length}
use Rattle.base_outcome.specs.Outcome.{Outcome, answer, refusal, ◌then◌, with_answer}
use Rattle.base_outcome.specs.Machine.{passed}
use Rattle.base_text.specs.Bytes.{Text}
use Rattle.spec_tucson.specs.Line.{Line, decade, thousandths, line_of, line_in_columns, year_in_decade, within_decade, same, is_width, fields_allowed, if_allowed, good_line}
use Rattle.spec_tucson.specs.Series.{Series, all_hundredths}
use Rattle.spec_tucson.specs.TextReading.{Begun, Step, opened, closed, after, last_field, read_line}
use Rattle.spec_tucson.specs.Writing.{all_widths}
use Rattle.spec_tucson.specs.StrictLine.{Kept}
use Rattle.spec_tucson.specs.CleanSeries.{continues, reclosed, closed_lines, with_end, read_kept}
use Rattle.tucson_lines.specs.Machine.{numbers, line_told}
use Rattle.tucson_lines.proofs.LineNumerals.{allowed_behind}
use Rattle.tucson_scan.specs.Scan.{Told}
use Rattle.tucson_scan.specs.declared.Passed.{Passed}
use Rattle.tucson_judge.specs.Judging.{Verdict, last_after, ReadsAs, reader_told, ReaderBehind}
use Rattle.tucson_judge.specs.declared.Reader.{Reader}
use Rattle.tucson_fields.specs.Machine.{NumbersOf}
use Rattle.tucson_fields.specs.declared.Facts.{Facts}
use Rattle.tucson_judge.proofs.Reclosing.{reclosed-line, reclosed-name, closed-continues}
use Rattle.tucson_judge.proofs.StrictColumns.{line_with_end}

-- ---- a line by its numbers
from_front : (fs : List ℤ) → 1 ≤ length fs → fs ≡ drop_last fs ++ (last_field fs ∷ [])
unfolding last_field
from_front [] h = absurd (omega arith)
from_front (f ∷ []) h = refl
from_front (f ∷ g ∷ fs) h = ap (λ (l : List ℤ). f ∷ l) (from_front (g ∷ fs) (omega arith))

allowed_last : (fs : List ℤ) → 1 ≤ length fs
    → fields_allowed true fs ≡ (all_widths (drop_last fs) && (is_width (last_field fs) || same (last_field fs) thousandths))
allowed_last fs h = ap (fields_allowed true) (from_front fs h) ∙ allowed_behind (drop_last fs) (last_field fs)

module _ (t : Text) (l : Line) (f : Facts) (last : ℤ) (is : line_of t ≡ some l) (r : ReadsAs l f last) (some_field : 1 ≤ f.count) where
  abbrev test : Bool
  test = leb (year_in_decade f.year + f.count) decade && (f.widths && (is_width last || same last thousandths))

  good_by_test : good_line true t ≡ cond test (some l) none
  unfolding good_line within_decade
  good_by_test =
      ap (if_allowed true) is
      ∙ ap₂ (λ (x y : Bool). cond (x && y) (some l) none)
      (ap₂ (λ (z : ℤ) (n : ℕ). leb (year_in_decade z + n) decade) r.year_is r.count_is)
      (allowed_last l.fields (omega (arith, r.count_is)) ∙ ap₂ (λ (x : Bool) (z : ℤ). x && (is_width z || same z thousandths)) r.widths_are r.last_is)

  pub bad-line : test ≡ false → good_line true t ≡ none
  bad-line e = good_by_test ∙ ap (λ (b : Bool). cond b (some l) none) e

  pub good-line : test ≡ true → line_told (good_line true t) ≡ Some (numbers f.year f.count f.small last)
  unfolding line_told
  good-line e =
      ap line_told (good_by_test ∙ ap (λ (b : Bool). cond b (some l) none) e)
      ∙ ap₂ (λ (z : ℤ) (n : ℕ). Some (numbers z n (all_hundredths (drop_last l.fields)) (last_field l.fields))) r.year_is r.count_is
      ∙ ap₂ (λ (x : Bool) (z : ℤ). Some (numbers f.year f.count x z)) r.small_are r.last_is

-- the line with the closing that the unit gives
pub record Reads (t : Text) (f : Facts) (last : ℤ) : Type 0 where
  pub line : Line
  pub is : line_of t ≡ some line
  pub numbers : ReadsAs line f last

pub reads-reclosed : (unit : ℕ) (goes : Bool) (t : Text) (l : Line) (f : Facts) → line_in_columns t ≡ some l → NumbersOf l f
    → Reads (with_end (reclosed unit goes t)) f (last_after unit goes f.last)
reads-reclosed unit goes t l f e n =
    let r = reclosed-line unit goes t l e in
    record {
      line = r.line;
      is = line_with_end (reclosed unit goes t) r.line r.is;
      numbers = record {
        year_is = r.year_is ∙ n.year_is;
        count_is = r.count_is ∙ n.count_is;
        widths_are = ap all_widths r.front_is ∙ n.widths_are;
        small_are = ap all_hundredths r.front_is ∙ n.small_are;
        last_is = r.last_is ∙ ap (last_after unit goes) n.last_is;
      };
    }

-- ---- the step
legal_series : (s : Series) (o : Outcome (List Series)) → passed (with_answer (λ ss. s ∷ ss) o) ≡ passed o
unfolding passed
legal_series s (answer ss) = refl
legal_series s (refusal code place) = refl

module _ (unit : ℕ) (goes : Bool) (k : Kept) (b : Option Begun) (r : Reader) where
  abbrev step : Outcome Step
  step = read_line k.line b goes (with_end (reclosed unit goes k.text))

  abbrev ends : Outcome Step → List Kept → Verdict
  ends o ks = passed (o then after (λ c. read_kept c (closed_lines unit ks)))

  by_step : (ks : List Kept) → continues k ks ≡ goes → reader_told (Ok r) b (closed_lines unit (k ∷ ks)) ≡ ends step ks
  unfolding reader_told read_kept closed_lines
  by_step ks e =
      ap (λ (m : Bool). ends (read_line k.line b m (with_end (reclosed unit (continues k ks) k.text))) ks)
      (closed-continues unit k ks (reclosed unit (continues k ks) k.text) (reclosed-name unit (continues k ks) k.text))
      ∙ ap (λ (m : Bool). ends (read_line k.line b m (with_end (reclosed unit m k.text))) ks) e

  pub reader_on : (p : Passed) → Told k.line b step (Ok p)
      → ReaderBehind unit goes k b (Ok r) (Ok (record { begun = p.more; next = p.next; small = p.small }))
  unfolding reader_told
  reader_on p told = go step refl told
    where
      go : (o : Outcome Step) → step ≡ o → Told k.line b o (Ok p)
          → ReaderBehind unit goes k b (Ok r) (Ok (record { begun = p.more; next = p.next; small = p.small }))
      go (answer (opened c)) e h = record {
        begun-behind = some c;
        tracks = h.0;
        same_end = λ ks g. by_step ks g ∙ ap (λ (o : Outcome Step). ends o ks) e;
      }
      go (answer (closed s)) e h = record {
        begun-behind = none;
        tracks = (h.over, h.none_large);
        same_end = λ ks g. by_step ks g ∙ ap (λ (o : Outcome Step). ends o ks) e ∙ legal_series s (read_kept none (closed_lines unit ks));
      }
      go (refusal code place) e h = absurd h

  pub reader_refused : (code : ℕ) → Told k.line b step (Err code)
      → ReaderBehind unit goes k b (Ok r) (Err (record { code = code; line = k.line }))
  unfolding reader_told passed
  reader_refused code told = go step refl told
    where
      go : (o : Outcome Step) → step ≡ o → Told k.line b o (Err code)
          → ReaderBehind unit goes k b (Ok r) (Err (record { code = code; line = k.line }))
      go (answer (opened c)) e h = absurd h
      go (answer (closed s)) e h = absurd h
      go (refusal found at) e h = record {
        begun-behind = none;
        tracks = tt;
        same_end = λ ks g. by_step ks g ∙ ap (λ (o : Outcome Step). ends o ks) e ∙ ap₂ refusal h.0 h.1;
      }
