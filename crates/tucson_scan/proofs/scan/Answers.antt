-- Each line that is not refused leads to the next, and the first that is refused to its code and place.
use Rattle.std.proofs.Common.{arith, sym, ◌∙◌, ap, subst, ℕ, ◌+◌, Err}
use mir.Syntax.{w32}
use mir.Val.{SFits}
use Rattle.base_exact.proofs.Word.{to_z-of_z}
use Rattle.base_outcome.specs.Machine.{refused}
use Rattle.tucson_lines.specs.Machine.{LineEnd}
use Rattle.tucson_scan.proofs.Counts.{Scans, scans-start, scans_end, scans_refused, scans-next}
use Rattle.tucson_scan.proofs.scan.Goals as goal

pub loop-from-init : goal.loop-from-init
loop-from-init c = scans-start c.args.text.now _

pub returns-in-Err : goal.returns-in-Err
returns-in-Err c =
    let before = c.loop-from.invariant in
    let line_end : LineEnd c.args.text.now c.loop-from.from c.find-end.result =
    record { within = before.within; is = c.find-end.ensures } in
    let told = c.in-Err.ensures.told c.loop-from.lines before.series-begun before.tracks in
    ap (λ (n : ℕ). Err (refused c.in-Err.code n)) c.place.ensures ∙ scans_refused before line_end c.loop-from-test.true told

pub loop-from-preserved : goal.loop-from-preserved
loop-from-preserved c =
    let before = c.loop-from.invariant in
    let p = c.in-Ok.line in
    let end = c.find-end.result in
    let fits : SFits w32 p.next = let t = rw c.in-Ok.is at c.pass.type_inv in record { sfits = omega arith } in
    let line_end : LineEnd c.args.text.now c.loop-from.from end = record { within = before.within; is = c.find-end.ensures } in
    let told = c.in-Ok.ensures.told c.loop-from.lines before.series-begun before.tracks in
    let lines = c.loop-from.lines + 1 in
    let widths = c.loop-from.widths + p.count in
    simp to_z-of_z
    (subst (λ (n : ℕ). Scans c.args.text.now (end + 1) lines (c.loop-from.series + n) widths p.more p.next p.small)
    (sym c.whole-series.ensures)
    (scans-next before line_end c.loop-from-test.true told c.in-Ok.ensures.advances))

pub returns : goal.returns
returns c = scans_end c.loop-from.invariant c.loop-from-test.false
