-- A blank or a tab at the end leaves the answer to the bytes before it.
use Rattle.std.proofs.Common.{◌≡◌, ◌+◌, ◌-◌, [], sym, ◌∙◌, ap, arith}
use Rattle.std.proofs.Math.Seq.{slice, slice_empty}
use Rattle.spec_tucson.specs.Shown.{expanded, trimmed}
use Rattle.tucson_columns.proofs.Shown.{shown-gap, shown_no_gap, expanded-none, trimmed-none}
use Rattle.tucson_columns.proofs.shown_end.Goals as goal

pub returns-then-not-is_gap : goal.returns-then-not-is_gap
returns-then-not-is_gap c =
    let s = c.args in
    let i = c.loop-i.i in
    let e : i - 1 + 1 ≡ i = omega arith in
    let no_gap = sym c.is_gap.ensures ∙ c.if-not-is_gap.true in
    let shown = shown_no_gap s.text.now s.from i (omega arith) (omega (arith, c.requires)) 0 no_gap in
    rw e record { after = c.loop-i.invariant.0; before = omega arith; is = c.loop-i.invariant.1 ∙ shown }

pub loop-i-preserved : goal.loop-i-preserved
loop-i-preserved c =
    let s = c.args in
    let gap = sym c.is_gap.ensures ∙ c.if-not-is_gap.false in
    let shown = shown-gap s.text.now s.from c.loop-i.i (omega arith) (omega (arith, c.requires)) 0 gap in
    (omega arith, c.loop-i.invariant.1 ∙ shown)

pub returns : goal.returns
returns c =
    let s = c.args in
    let e : c.loop-i.i ≡ s.from = omega arith in
    let none : expanded 0 (slice s.from s.from s.text.now) ≡ [] = ap (expanded 0) (slice_empty s.from s.text.now) ∙ expanded-none 0 in
    let is = rw e at c.loop-i.invariant.1 in
    record { after = omega arith; before = omega arith; is = is ∙ ap trimmed none ∙ trimmed-none ∙ sym none }
