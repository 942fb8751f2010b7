-- The tests in their order, then the parts of the beam.
use Rattle.std.proofs.Common.{refl, arith}
use Rattle.base_outcome.proofs.Machine.{passed_refuses}
use Rattle.theorems_values.proofs.LegalCall.{curve_checks}
use Rattle.build_space.specs.Machine.{space}
use Rattle.build_space.proofs.Legal.{legal_column-count-high}
use Rattle.curve_parts.specs.Parts.{Lent, TableRoom, lent}
use Rattle.curve_start.specs.Machine.{Call, call}
use Rattle.curve_start.proofs.Call.{checked_of, first_short, second_short, third_short, call_refused, lists_legal, coefficients_good}
use Rattle.curve_start.proofs.Leaves.{leaves_unchanged, leaves_built}
use Rattle.curve_start.proofs.build_curves.Goals as goal

pub returns-then-num-lt-TABLE_CELLS : goal.returns-then-num-lt-TABLE_CELLS
returns-then-num-lt-TABLE_CELLS c =
    let a = c.args in
    let q : Call = call (space a.breaks.now a.degrees.now a.orders.now) a.coefs.now a.positions.now a.room in
    let l : Lent = lent a.num.now a.den.now a.early.now a.late.now in
    leaves_unchanged q l (first_short q l c.if-num-lt-TABLE_CELLS.true) refl

pub returns-then-den-lt-TABLE_CELLS : goal.returns-then-den-lt-TABLE_CELLS
returns-then-den-lt-TABLE_CELLS c =
    let a = c.args in
    let q : Call = call (space a.breaks.now a.degrees.now a.orders.now) a.coefs.now a.positions.now a.room in
    let l : Lent = lent a.num.now a.den.now a.early.now a.late.now in
    leaves_unchanged q l (second_short q l c.if-num-lt-TABLE_CELLS.false c.if-den-lt-TABLE_CELLS.true) refl

pub returns-then-room-positions : goal.returns-then-room-positions
returns-then-room-positions c =
    let a = c.args in
    let q : Call = call (space a.breaks.now a.degrees.now a.orders.now) a.coefs.now a.positions.now a.room in
    let l : Lent = lent a.num.now a.den.now a.early.now a.late.now in
    let room : TableRoom l = record { num_long = c.if-num-lt-TABLE_CELLS.false; den_long = c.if-den-lt-TABLE_CELLS.false } in
    leaves_unchanged q l (third_short q l room c.if-room-positions.true) refl

pub returns-in-Err : goal.returns-in-Err
returns-in-Err c =
    let a = c.args in
    let q : Call = call (space a.breaks.now a.degrees.now a.orders.now) a.coefs.now a.positions.now a.room in
    let l : Lent = lent a.num.now a.den.now a.early.now a.late.now in
    let room : TableRoom l = record { num_long = c.if-num-lt-TABLE_CELLS.false; den_long = c.if-den-lt-TABLE_CELLS.false } in
    let r = passed_refuses (checked_of q) c.in-Err.ensures in
    leaves_unchanged q l (call_refused q l room c.if-room-positions.false r) (curve_checks q.lists _ _ r)

pub build_parts-requires : goal.build_parts-requires
build_parts-requires c =
    let a = c.args in
    let q : Call = call (space a.breaks.now a.degrees.now a.orders.now) a.coefs.now a.positions.now a.room in
    let legal = lists_legal q c.in_default.ensures in
    let few = legal_column-count-high _ _ _ legal in
    record {
      legal = legal;
      coefficients = coefficients_good q c.in_default.ensures;
      room = record { num_long = c.if-num-lt-TABLE_CELLS.false; den_long = c.if-den-lt-TABLE_CELLS.false };
      early_long = omega (arith, few, c.requires.early_long);
      late_long = omega (arith, few, c.requires.late_long);
    }

pub returns : goal.returns
returns c =
    let a = c.args in
    let q : Call = call (space a.breaks.now a.degrees.now a.orders.now) a.coefs.now a.positions.now a.room in
    let l : Lent = lent a.num.now a.den.now a.early.now a.late.now in
    let room : TableRoom l = record { num_long = c.if-num-lt-TABLE_CELLS.false; den_long = c.if-den-lt-TABLE_CELLS.false } in
    leaves_built q l room c.if-room-positions.false c.in_default.ensures c.build_parts.result c.build_parts.ensures
