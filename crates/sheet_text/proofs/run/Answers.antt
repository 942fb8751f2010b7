-- The call's answer is the definition's: a refusal is printed as it is, and an answer from the buffers that the call has filled.
use Rattle.std.proofs.Common.{sym, ◌*◌, ◌≤◌, ℤ, List, length, rules, arith}
use Rattle.std.proofs.Math.Seq.{length-take-le}
use Rattle.base_print.proofs.Buffer.{prints_as, puts_whole}
use Rattle.spec_sheet.specs.Sheet.{Arguments, called}
use Rattle.sheet_text.proofs.Whole.{refused_prints, answered_filled, answered_prints, values_enough, count_positions}
use Rattle.sheet_text.proofs.run.Goals as goal

-- the five lists
abbrev call : List ℤ → List ℤ → List ℤ → List ℤ → List ℤ → Arguments
call b d o c p = record { breaks = b; degrees = d; orders = o; coefs = c; positions = p }

pub overflow_mul-values : goal.overflow_mul-values
unfolding called
overflow_mul-values c =
    let a = c.args in
    let l = call a.breaks.now a.degrees.now a.orders.now a.coefs.now a.positions.now in
    let few : length a.positions.now ≤ 4096 = c.requires in
    omega (arith, few, count_positions l c.in-Ok.n c.in-Ok.ensures.0)

pub slice_bounds-values-end : goal.slice_bounds-values-end
unfolding called
slice_bounds-values-end c =
    let a = c.args in
    let l = call a.breaks.now a.degrees.now a.orders.now a.coefs.now a.positions.now in
    let few : length a.positions.now ≤ 4096 = c.requires in
    omega (arith, few, count_positions l c.in-Ok.n c.in-Ok.ensures.0)

pub slice_bounds-put_answer-end-in-Ok-2 : goal.slice_bounds-put_answer-end-in-Ok-2
unfolding called
slice_bounds-put_answer-end-in-Ok-2 c =
    let a = c.args in
    let l = call a.breaks.now a.degrees.now a.orders.now a.coefs.now a.positions.now in
    let few : length a.positions.now ≤ 4096 = c.requires in
    sym (length-take-le (2 * c.in-Ok.n) c.curve-answer.new.values (omega (arith, few, count_positions l c.in-Ok.n c.in-Ok.ensures.0)))

pub put_answer-requires : goal.put_answer-requires
unfolding called
put_answer-requires c =
    let a = c.args in
    let l = call a.breaks.now a.degrees.now a.orders.now a.coefs.now a.positions.now in
    let n = c.in-Ok.n in
    let e = c.in-Ok.ensures in
    record {
      filled = answered_filled l n e.0 _ _ (search rules) (search rules) e.1.0 e.1.1.0;
      few = c.requires;
      valued = rw e.1.1.1 (values_enough l n e.0 _);
    }

pub returns-in-Ok : goal.returns-in-Ok
unfolding called
returns-in-Ok c =
    let a = c.args in
    let l = call a.breaks.now a.degrees.now a.orders.now a.coefs.now a.positions.now in
    let e = c.in-Ok.ensures in
    puts_whole (answered_prints l c.in-Ok.n e.0 _ e.1.1.1) c.put_answer.ensures

pub returns-in-Err : goal.returns-in-Err
unfolding called
returns-in-Err c =
    let a = c.args in
    let l = call a.breaks.now a.degrees.now a.orders.now a.coefs.now a.positions.now in
    let p = c.refusal.ensures in
    prints_as (refused_prints l c.in-Err.ensures.0) (omega (arith, p.few)) p
