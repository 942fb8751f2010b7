-- The strict reader accepts what is answered: it finds the same series in the text as in the lines that are kept.
use mathlib.Core.Path.{◌≡◌, refl, ◌∙◌, ap}
use mathlib.Core.Bool.{Bool, true, false, cond, not}
use mathlib.Core.List.{List, [], ◌∷◌, ◌++◌, drop_last}
use mathlib.Core.Option.{Option, some, none}
use Prim.Native.Nat.{ℕ, suc}
use lib.IntN.{ℤ}
use Rattle.base_outcome.specs.Outcome.{Outcome, answer, refuse, ◌then◌, with_answer}
use Rattle.base_outcome.proofs.Outcome.{answer_not_refusal, Chained, then_answers, then_inverts, with_inverts}
use Rattle.base_text.specs.Bytes.{Text}
use Rattle.spec_tucson.specs.Line.{Line, good_line}
use Rattle.spec_tucson.specs.Series.{Series, closed_by}
use Rattle.spec_tucson.specs.TextReading.{goes_on, Begun, begun_by, year_follows, Step, opened, closed, extended, last_field, whole_series, closing, line_step, if_good, read_line, after, read_lines, read_text}
use Rattle.spec_tucson.specs.StrictLine.{Kept}
use Rattle.spec_tucson.specs.CleanSeries.{continues, with_end, strict_text, read_kept}
use Rattle.theorems_clean.proofs.StrictLines.{AllStrict, with_ends, strict_lines, strict_goes}

-- ---- a line that is read at one place is read at any

whole_anywhere : (p q : ℕ) (name : Text) (year : ℤ) (o : Option (List ℤ)) (s : Step) → whole_series p name year o ≡ answer s → whole_series q name year o ≡ answer s
whole_anywhere p q name year none s e = absurd (answer_not_refusal e refl)
whole_anywhere p q name year (some ws) s e = e

step_anywhere : (p q : ℕ) (b : Option Begun) (more : Bool) (l : Line) (s : Step) → line_step p b more l ≡ answer s → line_step q b more l ≡ answer s
unfolding line_step closing
step_anywhere p q b more l s e = go (year_follows b l) more e
  where
    go : (y m : Bool) → cond y (cond m (answer (opened (extended (begun_by b l) l))) (closing p (begun_by b l) l)) (refuse 12 p) ≡ answer s
        → cond y (cond m (answer (opened (extended (begun_by b l) l))) (closing q (begun_by b l) l)) (refuse 12 q) ≡ answer s
    go true true e = e
    go true false e = whole_anywhere p q l.name (begun_by b l).first_year (closed_by (last_field l.fields) ((begun_by b l).widths ++ drop_last l.fields)) s e
    go false m e = absurd (answer_not_refusal e refl)

pub line_anywhere : (p q : ℕ) (b : Option Begun) (more : Bool) (t : Text) (s : Step) → read_line p b more t ≡ answer s → read_line q b more t ≡ answer s
unfolding read_line
line_anywhere p q b more t s e = go (good_line (not more) t) e
  where
    go : (o : Option Line) → if_good p b more o ≡ answer s → if_good q b more o ≡ answer s
    go none e = absurd (answer_not_refusal e refl)
    go (some l) e = step_anywhere p q b more l s e

-- ---- all lines

pub reads_lines : (ks : List Kept) (b : Option Begun) (place : ℕ) (ss : List Series) → AllStrict ks → read_kept b ks ≡ answer ss → read_lines place b (with_ends ks) ≡ answer ss
unfolding read_kept read_lines
reads_lines [] b place ss h e = e
reads_lines (k ∷ ks) b place ss h e =
    go (then_inverts (read_line k.line b (continues k ks) (with_end k.text)) (after (λ b'. read_kept b' ks)) e) (λ b' us. reads_lines ks b' (suc place) us h.1)
  where
    later : (s : Step) → after (λ b'. read_kept b' ks) s ≡ answer ss
        → ((b' : Option Begun) (us : List Series) → read_kept b' ks ≡ answer us → read_lines (suc place) b' (with_ends ks) ≡ answer us)
        → after (λ b'. read_lines (suc place) b' (with_ends ks)) s ≡ answer ss
    later (opened c) e ih = ih (some c) ss e
    later (closed s) e ih =
        let w = with_inverts (λ us. s ∷ us) (read_kept none ks) e in
        ap (λ (o : Outcome (List Series)). with_answer (λ us. s ∷ us) o) (ih none w.before w.answers) ∙ ap answer w.changed

    go : Chained (read_line k.line b (continues k ks) (with_end k.text)) (after (λ b'. read_kept b' ks)) ss
        → ((b' : Option Begun) (us : List Series) → read_kept b' ks ≡ answer us → read_lines (suc place) b' (with_ends ks) ≡ answer us)
        → (read_line place b (goes_on (with_end k.text) (with_ends ks)) (with_end k.text) then after (λ b'. read_lines (suc place) b' (with_ends ks))) ≡ answer ss
    go c ih =
        ap (λ (m : Bool). read_line place b m (with_end k.text) then after (λ b'. read_lines (suc place) b' (with_ends ks))) (strict_goes k ks h)
        ∙ then_answers (after (λ b'. read_lines (suc place) b' (with_ends ks))) (line_anywhere k.line place b (continues k ks) (with_end k.text) c.middle c.before)
        ∙ later c.middle c.after ih

pub text-reads : (ks : List Kept) (ss : List Series) → AllStrict ks → read_kept none ks ≡ answer ss → read_text (strict_text ks) ≡ answer ss
unfolding read_text
text-reads ks ss h e = ap (read_lines 1 none) (strict_lines ks h) ∙ reads_lines ks none 1 ss h e
