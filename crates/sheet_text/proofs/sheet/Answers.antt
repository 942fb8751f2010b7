-- The fronts of the buffers up to the counts are the lists that were read, and the call on them is the sheet's.
use Rattle.std.proofs.Common.{sym, arith}
use Rattle.std.proofs.Math.Seq.{length-take-le}
use Rattle.base_print.proofs.Buffer.{prints_as}
use Rattle.sheet_text.proofs.Parts.{lists_front, malformed_prints}
use Rattle.sheet_text.proofs.sheet.Goals as goal

pub slice_bounds-breaks-end : goal.slice_bounds-breaks-end
slice_bounds-breaks-end c = (lists_front _ _ _ _ _ _ c.in-Ok.ensures).breaks_fit

pub slice_bounds-run-end : goal.slice_bounds-run-end
slice_bounds-run-end c = sym (length-take-le c.in-Ok.n.breaks _ (lists_front _ _ _ _ _ _ c.in-Ok.ensures).breaks_fit)

pub slice_bounds-degrees-end : goal.slice_bounds-degrees-end
slice_bounds-degrees-end c = (lists_front _ _ _ _ _ _ c.in-Ok.ensures).degrees_fit

pub slice_bounds-run-end-in-Ok : goal.slice_bounds-run-end-in-Ok
slice_bounds-run-end-in-Ok c = sym (length-take-le c.in-Ok.n.degrees _ (lists_front _ _ _ _ _ _ c.in-Ok.ensures).degrees_fit)

pub slice_bounds-orders-end : goal.slice_bounds-orders-end
slice_bounds-orders-end c = (lists_front _ _ _ _ _ _ c.in-Ok.ensures).orders_fit

pub slice_bounds-run-end-in-Ok-2 : goal.slice_bounds-run-end-in-Ok-2
slice_bounds-run-end-in-Ok-2 c = sym (length-take-le c.in-Ok.n.orders _ (lists_front _ _ _ _ _ _ c.in-Ok.ensures).orders_fit)

pub slice_bounds-coefs-end : goal.slice_bounds-coefs-end
slice_bounds-coefs-end c = (lists_front _ _ _ _ _ _ c.in-Ok.ensures).coefs_fit

pub slice_bounds-run-end-in-Ok-3 : goal.slice_bounds-run-end-in-Ok-3
slice_bounds-run-end-in-Ok-3 c = sym (length-take-le c.in-Ok.n.coefs _ (lists_front _ _ _ _ _ _ c.in-Ok.ensures).coefs_fit)

pub slice_bounds-positions-end : goal.slice_bounds-positions-end
slice_bounds-positions-end c = (lists_front _ _ _ _ _ _ c.in-Ok.ensures).positions_fit

pub slice_bounds-run-end-in-Ok-4 : goal.slice_bounds-run-end-in-Ok-4
slice_bounds-run-end-in-Ok-4 c = sym (length-take-le c.in-Ok.n.positions _ (lists_front _ _ _ _ _ _ c.in-Ok.ensures).positions_fit)

pub returns-in-Ok : goal.returns-in-Ok
returns-in-Ok c = prints_as (lists_front _ _ _ _ _ _ c.in-Ok.ensures).prints c.run.ensures.few c.run.ensures

pub returns-in-Err : goal.returns-in-Err
returns-in-Err c =
    let p = c.refusal.ensures in
    prints_as (malformed_prints _ _ c.in-Err.ensures.replies) (omega (arith, p.few)) p
