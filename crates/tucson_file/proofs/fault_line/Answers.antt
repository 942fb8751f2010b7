-- A byte that is at fault answers with its line, one that is not leaves the answer to those behind it, and at the end there is none.
use Rattle.std.proofs.Common.{get_or, arith, sym, ◌∙◌}
use borrow.Author.Tests.{eq-eqb, ne_eqb}
use Rattle.base_outcome.specs.Machine.{found}
use Rattle.tucson_file.proofs.Faults.{fault-ended, fault-behind, fault-here, fault-later, fault-none, line_near}
use Rattle.tucson_file.proofs.fault_line.Goals as goal

pub returns-then-all_padding : goal.returns-then-all_padding
unfolding found
returns-then-all_padding c =
    let l = c.loop-i in
    let t = c.args.text.now in
    let ends = eq-eqb (get_or t l.i 0) 26 c.if-byte-eq-SUBSTITUTE.true in
    rw (l.invariant.rest, fault-ended t l.i l.line (omega arith) ends (sym c.if-all_padding.ensures))

pub returns-then-byte-eq-SUBSTITUTE : goal.returns-then-byte-eq-SUBSTITUTE
unfolding found
returns-then-byte-eq-SUBSTITUTE c =
    let l = c.loop-i in
    let t = c.args.text.now in
    let ends = eq-eqb (get_or t l.i 0) 26 c.if-byte-eq-SUBSTITUTE.true in
    rw (l.invariant.rest, fault-behind t l.i l.line (omega arith) ends (sym c.if-all_padding.ensures))

pub returns-then-is_fault : goal.returns-then-is_fault
unfolding found
returns-then-is_fault c =
    let l = c.loop-i in
    let t = c.args.text.now in
    let goes_on = ne_eqb (get_or t l.i 0) 26 c.if-byte-eq-SUBSTITUTE.false in
    rw (l.invariant.rest, fault-here t l.i l.line (omega arith) goes_on (sym c.if-is_fault.ensures))

pub loop-i-preserved : goal.loop-i-preserved
loop-i-preserved c =
    let l = c.loop-i in
    let t = c.args.text.now in
    let goes_on = ne_eqb (get_or t l.i 0) 26 c.if-byte-eq-SUBSTITUTE.false in
    rw c.line_after-line.ensures record {
      near = line_near (get_or t l.i 0) l.line l.i l.invariant.near;
      rest = l.invariant.rest ∙ fault-later t l.i l.line (omega arith) goes_on (sym c.if-is_fault.ensures);
    }

pub returns : goal.returns
unfolding found
returns c =
    let l = c.loop-i in
    rw (l.invariant.rest, fault-none c.args.text.now l.i l.line (omega arith))
