-- The three slices are the lists of the part, which is legal; after an answer the buffers hold its weights, and the slice of the
-- coefficients those of its rows.
use Rattle.std.proofs.Common.{◌+◌, ◌∙◌, sym, ap, subst, arith, ℕ, ℤ, List, length, Err}
use Rattle.std.proofs.lemmas.Result.{err_from_is_err_and}
use Rattle.spec_spline.specs.Space.{Space, row_count}
use Rattle.spec_spline.specs.Reading.{coefficient}
use Rattle.theorems_beams.specs.Sections.{part_at}
use Rattle.build_space.specs.Machine.{space}
use Rattle.build.proofs.Beam.{Lies, part_lies}
use Rattle.curve_parts.specs.Parts.{PartOf, PartsLeave, lent}
use Rattle.curve_parts.proofs.Part.{middle_coefficients, beam-rows_few, part-columns_few, rows_told, weighs_rows, leaves_rows, leaves_refused}
use Rattle.curve_parts.proofs.build_part.Goals as goal

lies : {b d o : List ℤ} {from to : ℕ} → PartOf (space b d o) from to → Lies (length b) (length d) (length o) from to
lies p = part_lies _ _ _ p.legal p.starts p.ends

pub slice_bounds-build-count : goal.slice_bounds-build-count
slice_bounds-build-count c = let l = lies c.requires.part in omega arith

pub slice_bounds-build-start : goal.slice_bounds-build-start
slice_bounds-build-start c = let l = lies c.requires.part in omega arith

pub slice_bounds-build-end : goal.slice_bounds-build-end
slice_bounds-build-end c = let l = lies c.requires.part in omega arith

pub slice_bounds-build-count-2 : goal.slice_bounds-build-count-2
slice_bounds-build-count-2 c = let l = lies c.requires.part in omega arith

pub slice_bounds-build-start-2 : goal.slice_bounds-build-start-2
slice_bounds-build-start-2 c = let l = lies c.requires.part in omega arith

pub overflow_sub-b : goal.overflow_sub-b
overflow_sub-b c = let l = lies c.requires.part in omega arith

pub slice_bounds-build-count-3 : goal.slice_bounds-build-count-3
slice_bounds-build-count-3 c = let l = lies c.requires.part in omega arith

pub slice_bounds-build-start-3 : goal.slice_bounds-build-start-3
slice_bounds-build-start-3 c = let l = lies c.requires.part in omega arith

pub returns-in_err-n : goal.returns-in_err-n
returns-in_err-n c =
    let a = c.args in
    let p = err_from_is_err_and c.from_residual.result c.from_residual.ensures.1 in
    let s : Space = space a.breaks.now a.degrees.now a.orders.now in
    subst (λ q. PartsLeave (part_at s a.a) (λ wood i. coefficient wood a.coefs.now (a.row + i)) q
    (lent a.num.now a.den.now a.early.now a.late.now) (lent c.build.new.num c.build.new.den a.early.now a.late.now)) (sym (p.1 ∙ ap Err p.2))
    (leaves_refused s _ _ c.requires.part _ _ _ _ c.requires.room _ c.build.ensures _ c.in_err-n.was)

pub overflow_add-own : goal.overflow_add-own
overflow_add-own c =
    let a = c.args in
    let s : Space = space a.breaks.now a.degrees.now a.orders.now in
    let n = rows_told s _ _ c.requires.part _ _ _ _ c.requires.room _ c.build.ensures c.in_ok-n.was in
    omega (arith, n, c.requires.rows-within, beam-rows_few s _ _ c.requires.part)

pub overflow_mul-own-2 : goal.overflow_mul-own-2
overflow_mul-own-2 c =
    let a = c.args in
    let s : Space = space a.breaks.now a.degrees.now a.orders.now in
    let n = rows_told s _ _ c.requires.part _ _ _ _ c.requires.room _ c.build.ensures c.in_ok-n.was in
    omega (arith, n, c.requires.rows-within, beam-rows_few s _ _ c.requires.part)

pub slice_bounds-own-end : goal.slice_bounds-own-end
slice_bounds-own-end c =
    let a = c.args in
    let s : Space = space a.breaks.now a.degrees.now a.orders.now in
    let n = rows_told s _ _ c.requires.part _ _ _ _ c.requires.room _ c.build.ensures c.in_ok-n.was in
    omega (arith, n, c.requires.rows-within, c.requires.coefficients.count)

pub ordinates-requires : goal.ordinates-requires
ordinates-requires c =
    let a = c.args in
    let s : Space = space a.breaks.now a.degrees.now a.orders.now in
    let n = rows_told s _ _ c.requires.part _ _ _ _ c.requires.room _ c.build.ensures c.in_ok-n.was in
    record {
      rows = record {
        weights = weighs_rows s _ _ c.requires.part _ _ _ _ c.requires.room _ c.build.ensures c.in_ok-n.was;
        coefficients = middle_coefficients a.coefs.now (row_count s) a.row c.in_ok-n.n c.requires.coefficients
            (omega (arith, n, c.requires.rows-within));
      };
      columns_few = omega (arith, part-columns_few s _ _ c.requires.part, c.requires.early_long);
    }

pub ordinates-requires-2 : goal.ordinates-requires-2
ordinates-requires-2 c =
    let a = c.args in
    let s : Space = space a.breaks.now a.degrees.now a.orders.now in
    let n = rows_told s _ _ c.requires.part _ _ _ _ c.requires.room _ c.build.ensures c.in_ok-n.was in
    record {
      rows = record {
        weights = weighs_rows s _ _ c.requires.part _ _ _ _ c.requires.room _ c.build.ensures c.in_ok-n.was;
        coefficients = middle_coefficients a.coefs.now (row_count s) a.row c.in_ok-n.n c.requires.coefficients
            (omega (arith, n, c.requires.rows-within));
      };
      columns_few = omega (arith, part-columns_few s _ _ c.requires.part, c.requires.late_long);
    }

pub returns : goal.returns
returns c =
    let a = c.args in
    let s : Space = space a.breaks.now a.degrees.now a.orders.now in
    leaves_rows s _ _ c.requires.part _ _ _ _ c.requires.room _ c.build.ensures c.in_ok-n.was
    a.coefs.now a.row c.requires.early_long c.requires.late_long c.ordinates.ensures c.ordinates-2.ensures
