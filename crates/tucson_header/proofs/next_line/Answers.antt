-- Blank lines are passed over.
use Rattle.std.proofs.Common.{arith, sym, ◌∙◌}
use Rattle.tucson_lines.specs.Machine.{LineEnd}
use Rattle.tucson_lines.proofs.Lines.{end_within}
use Rattle.tucson_header.proofs.HeaderLines.{blank-passed, line-left, lines-over}
use Rattle.tucson_header.proofs.next_line.Goals as goal

pub returns-then-not-is_blank_line : goal.returns-then-not-is_blank_line
returns-then-not-is_blank_line c =
    let l = c.loop-from in
    let end = c.find-end.result in
    let at : LineEnd c.args.body.now l.from end = record { within = omega arith; is = c.find-end.ensures } in
    record {
      at = at;
      more = c.loop-from-test.true;
      few = l.invariant.few;
      lines =
          l.invariant.lines ∙ line-left c.args.body.now l.from end at c.loop-from-test.true l.number
          (sym c.is_blank_line.ensures ∙ c.if-not-is_blank_line.true);
    }

pub overflow_add-from : goal.overflow_add-from
overflow_add-from c =
    let at : LineEnd c.args.body.now c.loop-from.from c.find-end.result = record { within = omega arith; is = c.find-end.ensures } in
    omega (arith, end_within c.args.body.now c.loop-from.from c.find-end.result at, c.well_formed)

pub loop-from-preserved : goal.loop-from-preserved
loop-from-preserved c =
    let l = c.loop-from in
    let end = c.find-end.result in
    let at : LineEnd c.args.body.now l.from end = record { within = omega arith; is = c.find-end.ensures } in
    let sizes = end_within c.args.body.now l.from end at in
    record {
      within = omega (arith, sizes);
      few = omega (arith, sizes, l.invariant.few);
      lines =
          l.invariant.lines ∙ blank-passed c.args.body.now l.from end at c.loop-from-test.true l.number
          (sym c.is_blank_line.ensures ∙ c.if-not-is_blank_line.false);
    }

pub returns : goal.returns
returns c = c.loop-from.invariant.lines ∙ lines-over c.args.body.now c.loop-from.from c.loop-from.number c.loop-from-test.false
