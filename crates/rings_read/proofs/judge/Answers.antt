-- The tests in their order, each part a slice of the input.
use Rattle.std.proofs.Common.{◌≡◌, ◌∙◌, ◌-◌, rules, ap, subst, take, drop, Result, Err}
use Rattle.std.specs.Prelude.{ok_or}
use Rattle.std.proofs.lemmas.Result.{err_from_is_err_and}
use Rattle.base_outcome.specs.declared.Refusal.{Refusal}
use Rattle.base_outcome.specs.Machine.{refused}
use Rattle.rings_input.specs.declared.Heading.{Heading}
use Rattle.rings_input.specs.Machine.{HeadedAs}
use Rattle.spec_rings.specs.Parts.{headed}
use Rattle.spec_rings.specs.Ready.{sheet_read}
use Rattle.rings_read.specs.Machine.{SheetHeld}
use Rattle.rings_read.proofs.Held.{mapped_ok, mapped_err}
use Rattle.rings_read.proofs.Judging.{judged_long, judged_other, judged_sheet, judged_file, judged_ready}
use Rattle.rings_read.proofs.judge.Goals as goal

pub returns-then-input-gt-TEXT_LIMIT : goal.returns-then-input-gt-TEXT_LIMIT
returns-then-input-gt-TEXT_LIMIT c = judged_long _ _ _ _ _ _ _ _ _ c.if-input-gt-TEXT_LIMIT.true

pub returns-in_err-heading : goal.returns-in_err-heading
returns-in_err-heading c =
    let t = c.args.input.now in
    let p = err_from_is_err_and c.from_residual.result c.from_residual.ensures.1 in
    let other = c.in_err-heading.ensures.ok_part in
    let value : ◌≡◌ {A = Result Heading Refusal} (Err c.in_err-heading.field-0.0) (Err (refused 10 1)) =
    c.in_err-heading.ensures.value ∙ ap (λ o. ok_or o (refused 10 1)) other in
    let is : c.in_err-heading.field-0.0 ≡ refused 10 1 = cc in
    rw (p.1, p.2, is)
    (judged_other _ _ _ _ _ _ _ _ _ c.if-input-gt-TEXT_LIMIT.false (subst (HeadedAs t (headed t)) other c.first_line.ensures))

pub returns-in_err-lists : goal.returns-in_err-lists
returns-in_err-lists c =
    let t = c.args.input.now in
    let n = c.read_sheet-sheet.new in
    let from = c.in_ok-heading.heading.next in
    let to = c.lines_end-to.result in
    let line = subst (HeadedAs t (headed t)) c.in_ok-heading.ensures.ok_part c.first_line.ensures in
    let p = err_from_is_err_and c.from_residual-in_err-lists.result c.from_residual-in_err-lists.ensures.1 in
    let m = mapped_err _ c.read_sheet-sheet.result c.map_err.ensures.cases c.in_err-lists.was in
    let is : c.in_err-lists.field-0.0 ≡ refused 10 m.0 = let z = m.2 in search rules in
    let held = subst (λ r. SheetHeld (sheet_read (take (to - from) (drop from t))) r n.breaks n.degrees n.orders n.coefs) m.1
    c.read_sheet-sheet.ensures in
    rw (p.1, p.2, is)
    (judged_sheet _ _ _ _ _ _ _ _ _ c.if-input-gt-TEXT_LIMIT.false c.in_ok-heading.heading to line c.lines_end-to.ensures.value m.0 held)

pub returns-in_err-series : goal.returns-in_err-series
returns-in_err-series c =
    let t = c.args.input.now in
    let n = c.read_sheet-sheet.new in
    let from = c.in_ok-heading.heading.next in
    let to = c.lines_end-to.result in
    let line = subst (HeadedAs t (headed t)) c.in_ok-heading.ensures.ok_part c.first_line.ensures in
    let p = err_from_is_err_and c.from_residual-in_err-series.result c.from_residual-in_err-series.ensures.1 in
    let held = subst (λ r. SheetHeld (sheet_read (take (to - from) (drop from t))) r n.breaks n.degrees n.orders n.coefs)
    (mapped_ok _ c.read_sheet-sheet.result c.map_err.ensures.cases c.in_ok-lists.was) c.read_sheet-sheet.ensures in
    rw (p.1, p.2)
    (judged_file _ _ _ _ _ _ _ _ _ c.if-input-gt-TEXT_LIMIT.false c.in_ok-heading.heading to line c.lines_end-to.ensures.value
    c.in_ok-lists.lists held _ c.in_err-series.ensures)

pub returns : goal.returns
returns c =
    let t = c.args.input.now in
    let n = c.read_sheet-sheet.new in
    let from = c.in_ok-heading.heading.next in
    let to = c.lines_end-to.result in
    let line = subst (HeadedAs t (headed t)) c.in_ok-heading.ensures.ok_part c.first_line.ensures in
    let held = subst (λ r. SheetHeld (sheet_read (take (to - from) (drop from t))) r n.breaks n.degrees n.orders n.coefs)
    (mapped_ok _ c.read_sheet-sheet.result c.map_err.ensures.cases c.in_ok-lists.was) c.read_sheet-sheet.ensures in
    judged_ready _ _ _ _ _ _ _ _ _ c.if-input-gt-TEXT_LIMIT.false c.in_ok-heading.heading to line c.lines_end-to.ensures.value
    c.in_ok-lists.lists held _ c.in_ok-series.ensures
