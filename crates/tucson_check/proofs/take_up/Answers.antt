-- A line that is no strict line or whose name is at fault is refused; any other is held.
use Rattle.std.proofs.Common.{arith, ◌≡◌, sym, ◌∙◌, ap, subst, ℕ, ◌≤◌, length, take, List, Result, Some, None}
use Rattle.std.proofs.Common as machine
use Rattle.std.proofs.lemmas.Result.{err_from_is_err_and}
use Rattle.std.specs.Option as words
use mathlib.Core.Option.{Option}
use Rattle.base_outcome.specs.Outcome.{Outcome, ◌then◌}
use Rattle.base_text.specs.Bytes.{Text}
use Rattle.spec_tucson.specs.StrictLine.{Kept}
use Rattle.spec_tucson.specs.KeptLines.{kept_then}
use Rattle.tucson_shown.specs.Machine.{StrictTold, LineTold}
use Rattle.tucson_shown.specs.declared.StrictLine.{StrictLine}
use Rattle.tucson_judge.specs.Judging.{Verdict}
use Rattle.tucson_check.specs.Holding.{NextTold, TakenTold, taking}
use Rattle.tucson_check.specs.declared.Held.{Held}
use Rattle.tucson_check.proofs.HeldLines.{holds_same, holds_refused, held_bytes}
use Rattle.tucson_check.proofs.take_up.Goals as goal

pub returns-in_err-l : goal.returns-in_err-l
returns-in_err-l c end raw later told held =
    let a = c.args in
    let bad = subst (λ (s : Result StrictLine ℕ). StrictTold raw s a.shown a.line) c.in_err-l.was told in
    let p = err_from_is_err_and c.from_residual.result c.from_residual.ensures.1 in
    rw (p.1, p.2)
    (holds_refused a.unit a.held _ _ end (taking a.number raw later) a.held.some c.in_err-l.field-0.0 a.number held.holds
    (λ before. ap (λ (o : Outcome Text). o then λ t. kept_then before (record { line = a.number; raw = raw; text = t }) later)
    (bad a.number)))

-- the fronts of two arrays held, or a name refused
taken : (unit : ℕ) (shown text : Text) (m n : ℕ) → m ≤ length shown → n ≤ length text → (end : Verdict)
    (later : Option Kept → Outcome (List Kept)) (number : ℕ) (r : machine.Option Held) → NextTold unit (take m shown) (take n text) end later number r
    → TakenTold unit shown text end later number (words.ok_or r 22)
taken unit shown text m n f g end later number (Some h) t = held_bytes shown text m n f g t
taken unit shown text m n f g end later number None t = t

pub returns : goal.returns
returns c end raw later told held =
    let a = c.args in
    let l = c.in_ok-l.l in
    let t : LineTold raw l.shown l.size l.site a.shown a.line =
    subst (λ (s : Result StrictLine ℕ). StrictTold raw s a.shown a.line) c.in_ok-l.was told in
    let holds = holds_same a.unit a.held _ _ end (taking a.number raw later)
    (λ before. kept_then before (record { line = a.number; raw = raw; text = take l.size a.line }) later) a.held.some held.holds
    (λ before. ap (λ (o : Outcome Text). o then λ t. kept_then before (record { line = a.number; raw = raw; text = t }) later)
    (t.is_line a.number)) in
    rw c.ok_or.ensures.value
    (taken a.unit a.shown a.line l.shown l.size t.shown-fits t.line-fits end later a.number c.follow.result
    (c.follow.ensures end raw later (sym t.is_shown) holds))
