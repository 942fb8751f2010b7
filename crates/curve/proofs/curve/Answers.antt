-- The values are written from the ordinates that the start leaves; a refusal leaves them as they were.
use Rattle.std.proofs.Common.{◌++◌, ◌*◌, ◌∙◌, ap, ap₂, rules, map, drop, length, List, ℤ}
use Rattle.std.proofs.lemmas.Result.{err_from_is_err_and}
use Rattle.base_outcome.proofs.Machine.{passed_on}
use Rattle.spec_spline.specs.Space.{Space}
use Rattle.spec_spline.specs.Reading.{Pair, side_by_side}
use Rattle.theorems_values.proofs.LegalCall.{values_length_lem}
use Rattle.build_space.specs.Machine.{space}
use Rattle.curve_places.specs.Offsets.{column_limit}
use Rattle.curve_start.proofs.Fronted.{early_bounded, late_bounded}
use Rattle.curve.specs.Pairs.{pair_of}
use Rattle.curve.proofs.Call.{refused_answers, refused_values, written-answers, written-values}
use Rattle.curve.proofs.Pairs.{pairs_fronted}
use Rattle.curve.proofs.curve.Goals as goal

pub returns-in_err-build_curves : goal.returns-in_err-build_curves
returns-in_err-build_curves c =
    let l = c.build_curves.ensures in
    let r = c.in_err-build_curves.ensures.told in (
      passed_on (err_from_is_err_and c.from_residual.result c.from_residual.ensures.1) ∙ refused_answers r,
      (l.numerators_are, (l.denominators_are, refused_values r c.args.values.now)),
    )

pub write_values-requires : goal.write_values-requires
write_values-requires c =
    let h = c.in_ok-build_curves.ensures.told in
    record {
      legal = h.legal;
      within = h.within;
      room = h.room_enough;
      early_ordinates = record { long = search rules; bounded = early_bounded column_limit h };
      late_ordinates = record { long = search rules; bounded = late_bounded column_limit h };
    }

pub returns : goal.returns
returns c =
    let a = c.args in
    let h = c.in_ok-build_curves.ensures.told in
    let l = c.build_curves.ensures in
    let s : Space = space a.breaks.now a.degrees.now a.orders.now in
    let n = values_length_lem s h.table a.coefs.now a.positions.now in
    let written = c.write_values.ensures
    ∙ ap₂ (λ (e l : List ℤ). side_by_side (map (pair_of s e l) a.positions.now) ++ drop (2 * length a.positions.now) a.values.now)
    h.early_is h.late_is
    ∙ ap (λ (v : List Pair). side_by_side v ++ drop (2 * length a.positions.now) a.values.now)
    (pairs_fronted s h.table column_limit a.coefs.now a.positions.now) in
    (written-answers h.is n, (l.numerators_are, (l.denominators_are, written-values h.is n a.values.now written)))
