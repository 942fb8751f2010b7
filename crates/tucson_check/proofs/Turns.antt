-- The check between two raw lines: what is held, with the lines to come, ends as the whole text does.
use mathlib.Core.Path.{◌≡◌, refl, sym, ◌∙◌, ap}
use mathlib.Core.Bool.{Bool, true, false, cond}
use mathlib.Core.List.{List, []}
use mathlib.Core.Option.{Option, some, none}
use Prim.Native.Nat.{ℕ, ◌+◌, ◌<◌, ◌≤◌}
use native.Mathlib.Numerals.{add-one}
use native.Mathlib.Omega.{arith}
use lib.ListN.{length, take, drop, drop_of_length-le}
use lib.Seq.{slice}
use Rattle.base_outcome.specs.Outcome.{Outcome, answer, refusal, ◌then◌}
use Rattle.base_outcome.specs.Tests.{refuse_first}
use Rattle.base_outcome.specs.Machine.{passed}
use Rattle.base_text.specs.Bytes.{Text}
use Rattle.spec_tucson.specs.Line.{lines_of}
use Rattle.spec_tucson.specs.Series.{Series}
use Rattle.spec_tucson.specs.StrictLine.{Kept}
use Rattle.spec_tucson.specs.KeptLines.{is_data, kept_lines}
use Rattle.spec_tucson.specs.CleanSeries.{year_fault, Fault, series_fault, refuse_fault, closed_lines, read_kept}
use Rattle.spec_tucson.specs.CleanCall.{checked_lines}
use Rattle.tucson_lines.specs.Machine.{LineEnd, line_found}
use Rattle.tucson_lines.proofs.Lines.{end_within, lines_step}
use Rattle.tucson_judge.specs.Judging.{Verdict, mark_found, reader_told, pick, verdict}
use Rattle.tucson_check.specs.Holding.{unheld, judging, Holds, HeldBytes, taking}
use Rattle.tucson_check.specs.declared.Held.{Held}
use Rattle.tucson_check.proofs.HeldLines.{holds_same}

-- What the whole text ends with.
abbrev pub ending : ℕ → ℕ → Text → Verdict
ending header unit body = passed (kept_lines header 1 none (lines_of body) then checked_lines unit)

-- What holds before a raw line.
pub record Checks (body : Text) (header unit : ℕ) (shown text : Text) (h : Held) (from number : ℕ) : Type 0 where
  pub within : from ≤ length body + 1
  pub numbered : 1 ≤ number
  pub few : number ≤ from + 1
  pub held : HeldBytes unit h shown text (ending header unit body) (λ before. kept_lines header number before (lines_of (drop from body)))

-- ---- at the start
legal_lines : (o : Outcome (List Series)) (ks : List Kept) → passed (o then λ ss. answer ks) ≡ passed o
unfolding passed
legal_lines (answer ss) ks = refl
legal_lines (refusal code place) ks = refl

checked-verdict : (unit : ℕ) (ks : List Kept) → passed (checked_lines unit ks) ≡ verdict unit unheld.judged none none ks
unfolding checked_lines verdict line_found mark_found reader_told passed
checked-verdict unit ks = go (year_fault none ks) (series_fault unit none ks)
  where
    go : (y : Option ℕ) (f : Option Fault) → passed (refuse_first 23 y
        (refuse_fault f (read_kept none (closed_lines unit ks) then λ ss. answer (closed_lines unit ks)))) ≡ pick y f (passed (read_kept none (closed_lines unit ks)))
    go (some line) f = refl
    go none (some f) = refl
    go none none = legal_lines (read_kept none (closed_lines unit ks)) (closed_lines unit ks)

by_verdict : (unit : ℕ) (o : Outcome (List Kept)) → passed (o then checked_lines unit) ≡ judging (verdict unit unheld.judged none none) o
unfolding passed
by_verdict unit (answer ks) = checked-verdict unit ks
by_verdict unit (refusal code place) = refl

pub checks-start : (body : Text) (header unit : ℕ) (shown text : Text) → Checks body header unit shown text unheld 0 1
checks-start body header unit shown text = record {
  within = omega arith;
  numbered = omega arith;
  few = omega arith;
  held = record {
    shown-fits = omega arith;
    text-fits = omega arith;
    holds = record { tracks = (refl, refl); ends = by_verdict unit (kept_lines header 1 none (lines_of body)) };
  };
}

-- ---- at a raw line
module _ {body : Text} {header unit : ℕ} {shown text : Text} {h : Held} {from number end : ℕ} (now : Checks body header unit shown text h from number)
    (at : LineEnd body from end) (more-text : from < length body) where
  abbrev raw : Text
  raw = slice from (end + 1) body

  abbrev later : Option Kept → Outcome (List Kept)
  later before = kept_lines header (number + 1) before (lines_of (drop (end + 1) body))

  lines-here : (before : Option Kept) → kept_lines header number before (lines_of (drop from body))
      ≡ cond (is_data header number raw) (taking number raw later before) (later before)
  unfolding kept_lines
  lines-here before =
      ap (kept_lines header number before) (lines_step body from end at more-text)
      ∙ ap (λ (k : ℕ). cond (is_data header number raw)
      (taking number raw (λ b. kept_lines header k b (lines_of (drop (end + 1) body))) before) (kept_lines header k before (lines_of (drop (end + 1) body)))) (sym (add-one number))

  pub data_held : is_data header number raw ≡ true → HeldBytes unit h shown text (ending header unit body) (taking number raw later)
  data_held e = record {
    shown-fits = now.held.shown-fits;
    text-fits = now.held.text-fits;
    holds = holds_same unit h _ _ _ _ (taking number raw later) h.some now.held.holds
        (λ before. lines-here before ∙ ap (λ (b : Bool). cond b (taking number raw later before) (later before)) e);
  }

  sizes : (from ≤ end) × (end ≤ length body)
  sizes = end_within body from end at

  pub checks-next : (s t : Text) (g : Held) → HeldBytes unit g s t (ending header unit body) later → Checks body header unit s t g (end + 1) (number + 1)
  checks-next s t g held = record {
    within = omega (arith, sizes);
    numbered = omega arith;
    few = omega (arith, sizes, now.few);
    held = held;
  }

  pub checks-skip : is_data header number raw ≡ false → Checks body header unit shown text h (end + 1) (number + 1)
  checks-skip e = checks-next shown text h (record {
    shown-fits = now.held.shown-fits;
    text-fits = now.held.text-fits;
    holds = holds_same unit h _ _ _ _ later h.some now.held.holds
        (λ before. lines-here before ∙ ap (λ (b : Bool). cond b (taking number raw later before) (later before)) e);
  })

-- ---- at the end
pub checks_end : {body : Text} {header unit : ℕ} {shown text : Text} {h : Held} {from number : ℕ} → Checks body header unit shown text h from number
    → length body ≤ from → Holds unit h (take h.shown shown) (take h.size text) (ending header unit body) (λ before. answer [])
unfolding kept_lines lines_of
checks_end {body} {header} {unit} {shown} {text} {h} {from} {number} now over =
    holds_same unit h _ _ _ _ (λ before. answer []) h.some now.held.holds
    (λ before. ap (λ (t : Text). kept_lines header number before (lines_of t)) (drop_of_length-le body over))
