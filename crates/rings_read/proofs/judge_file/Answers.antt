-- The series first, and then the curve call on the lists at the fronts.
use Rattle.std.proofs.Common.{◌∙◌, sym, ap, subst, take, Err}
use Rattle.std.proofs.lemmas.Result.{err_from_is_err_and}
use Rattle.base_outcome.specs.Outcome.{Outcome}
use Rattle.build_space.specs.Machine.{space}
use Rattle.spec_calls.specs.CurveAlone.{curve_alone}
use Rattle.spec_rings.specs.Ready.{series_read}
use Rattle.spec_spline.specs.CurveCall.{CurveResult}
use Rattle.spec_spline.specs.Table.{table_cells}
use Rattle.rings_read.specs.Machine.{SeriesHeld, file_judged}
use Rattle.rings_read.proofs.Judging.{curve_refused, file_held}
use Rattle.rings_read.proofs.judge_file.Goals as goal

pub returns-in_err-check_curve : goal.returns-in_err-check_curve
returns-in_err-check_curve c =
    let a = c.args in
    let n = c.read_series.new in
    let curve : Outcome CurveResult = curve_alone (space (take a.b a.breaks.now) (take a.d a.degrees.now) (take a.o a.orders.now))
    (take a.c a.coefs.now) table_cells table_cells in
    let p = err_from_is_err_and c.from_residual-in_err-check_curve.result c.from_residual-in_err-check_curve.ensures.1 in
    subst (λ q. SeriesHeld (file_judged a.text.now (space (take a.b a.breaks.now) (take a.d a.degrees.now) (take a.o a.orders.now))
    (take a.c a.coefs.now)) q n.names n.years n.counts n.widths) (sym (p.1 ∙ ap Err p.2))
    (curve_refused (series_read a.text.now) curve n.names n.years n.counts n.widths _ _ c.in_ok-series.ensures c.in_err-check_curve.ensures)

pub returns : goal.returns
returns c =
    let a = c.args in
    let n = c.read_series.new in
    let curve : Outcome CurveResult = curve_alone (space (take a.b a.breaks.now) (take a.d a.degrees.now) (take a.o a.orders.now))
    (take a.c a.coefs.now) table_cells table_cells in
    file_held (series_read a.text.now) curve n.names n.years n.counts n.widths _ c.in_ok-series.ensures c.in_ok-check_curve.ensures
