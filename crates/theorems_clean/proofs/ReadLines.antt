-- A line that the strict reader reads: its bytes before byte 10, the line that they are, and what it leaves.
use mathlib.Core.Path.{◌≡◌, refl, sym, ◌∙◌, ap}
use mathlib.Core.Bool.{Bool, true, false, cond, ◌&&◌, not}
use mathlib.Core.List.{List, [], ◌∷◌, ◌++◌, drop_last}
use mathlib.Core.Option.{Option, some, none}
use Prim.Native.Nat.{ℕ}
use lib.IntN.{ℤ}
use Rattle.base_exact.proofs.Decide.{clash}
use Rattle.base_outcome.specs.Outcome.{answer, refuse}
use Rattle.base_outcome.proofs.Outcome.{answer_unique, answer_not_refusal}
use Rattle.base_text.specs.Bytes.{Text, newline, Cut, cut}
use Rattle.base_text.proofs.Cutting.{cut-joins}
use Rattle.spec_tucson.specs.Line.{Line, line_in_columns, of_cut, line_of, within_decade, fields_allowed, if_allowed, good_line}
use Rattle.spec_tucson.specs.Series.{closed_by}
use Rattle.spec_tucson.specs.TextReading.{Begun, begun_by, year_follows, Step, opened, closed, extended, last_field, whole_series, closing, line_step, if_good, read_line}
use Rattle.spec_tucson.specs.CleanSeries.{with_end}
use Rattle.theorems_tucson.proofs.GoodLines.{at_end_only, nothing-after}

allowed_line : (last : Bool) (o : Option Line) (l : Line) → if_allowed last o ≡ some l → o ≡ some l
allowed_line last none l e = clash cc
allowed_line last (some m) l e = go (within_decade m && fields_allowed last m.fields) e
  where
    go : (b : Bool) → cond b (some m) none ≡ some l → some m ≡ some l
    go true e = e
    go false e = clash cc

pub record LineRead (place : ℕ) (b : Option Begun) (more : Bool) (t : Text) (s : Step) : Type 0 where
  pub body : Text
  pub is : t ≡ with_end body
  pub line : Line
  pub reads : line_in_columns body ≡ some line
  pub leaves : line_step place b more line ≡ answer s

pub line_read : (place : ℕ) (b : Option Begun) (more : Bool) (t : Text) (s : Step) → at_end_only t ≡ true → read_line place b more t ≡ answer s → LineRead place b more t s
unfolding read_line good_line line_of
line_read place b more t s once e = go (if_allowed (not more) (of_cut (cut newline t))) refl e
  where
    of_cut_lem : (l : Line) → line_step place b more l ≡ answer s → (o : Option Cut) → cut newline t ≡ o → of_cut o ≡ some l → LineRead place b more t s
    of_cut_lem l r none w e = clash cc
    of_cut_lem l r (some c) w e =
        let whole = cut-joins newline t c w in
        let end : c.after ≡ [] = nothing-after c.before c.after (ap at_end_only (sym whole) ∙ once) in
        record { body = c.before; is = whole ∙ ap (λ (s : Text). c.before ++ (newline ∷ s)) end; line = l; reads = e; leaves = r }

    go : (o : Option Line) → if_allowed (not more) (of_cut (cut newline t)) ≡ o → if_good place b more o ≡ answer s → LineRead place b more t s
    go none w e = absurd (answer_not_refusal e refl)
    go (some l) w e = of_cut_lem l e (cut newline t) refl (allowed_line (not more) (of_cut (cut newline t)) l w)

-- ---- what a line leaves

-- a line whose series goes on
pub goes_on_lem : (place : ℕ) (b : Option Begun) (l : Line) (s : Step) → line_step place b true l ≡ answer s → (year_follows b l ≡ true) × (s ≡ opened (extended (begun_by b l) l))
unfolding line_step
goes_on_lem place b l s e = go (year_follows b l) refl e
  where
    go : (y : Bool) → year_follows b l ≡ y → cond y (answer (opened (extended (begun_by b l) l))) (refuse 12 place) ≡ answer s
        → (year_follows b l ≡ true) × (s ≡ opened (extended (begun_by b l) l))
    go true w e = (w, answer_unique e refl)
    go false w e = absurd (answer_not_refusal e refl)

-- a series' last line
pub record Closing (b : Begun) (l : Line) (s : Step) : Type 0 where
  pub widths : List ℤ
  pub closed-by : closed_by (last_field l.fields) (b.widths ++ drop_last l.fields) ≡ some widths
  pub leaves : s ≡ closed (record { name = l.name; first_year = b.first_year; widths = widths })

pub closes : (place : ℕ) (b : Option Begun) (l : Line) (s : Step) → line_step place b false l ≡ answer s → (year_follows b l ≡ true) × Closing (begun_by b l) l s
unfolding line_step closing
closes place b l s e = go (year_follows b l) refl (closed_by (last_field l.fields) ((begun_by b l).widths ++ drop_last l.fields)) refl e
  where
    go : (y : Bool) → year_follows b l ≡ y → (o : Option (List ℤ)) → closed_by (last_field l.fields) ((begun_by b l).widths ++ drop_last l.fields) ≡ o
        → cond y (whole_series place l.name (begun_by b l).first_year o) (refuse 12 place) ≡ answer s → (year_follows b l ≡ true) × Closing (begun_by b l) l s
    go false w o c e = absurd (answer_not_refusal e refl)
    go true w none c e = absurd (answer_not_refusal e refl)
    go true w (some ws) c e = (w, record { widths = ws; closed-by = c; leaves = answer_unique e refl })
