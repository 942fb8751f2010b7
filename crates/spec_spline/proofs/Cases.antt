-- The cases W1 to W10, the two limits, the wood parts and the segments of positions, by computation: one `refl` for each line of
-- the table, so that a refusal shows which one fails.
use mathlib.Core.Path.{refl}
use Rattle.spec_spline.proofs.Computing.{calling}
use Rattle.base_outcome.specs.Outcome.{capped}
use Rattle.base_outcome.specs.Search.{last}
use Rattle.spec_spline.specs.Build.{built}
use Rattle.spec_spline.specs.Reading.{starts_at_discontinuity, starts_by, segment_at}
use Rattle.spec_spline.specs.CurveCall.{curve_outcome}
use Rattle.spec_spline.specs.Listing.{row_weights, table_weights}
use Rattle.spec_spline.specs.Cases.{outcome, cases, position_cases, EveryCaseHolds, EveryCaseNeedsTwoCellsEach, EveryPositionBelongs}

-- Weights, counts, values and refusals of the specification's cases.
pub every_case_holds : EveryCaseHolds
unfolding calling built row_weights table_weights outcome cases
every_case_holds = (
  refl,
  (
    refl,
    (
      refl,
      (
        refl,
        (
          refl,
          (
            refl,
            (
              refl,
              (
                refl,
                (
                  refl,
                  (
                    refl,
                    (refl, (refl, (refl, (refl, (refl, (refl, (refl, (refl, (refl, (refl, (refl, (refl, (refl, (refl, (refl, (refl, tt)))))))))))))))),
                  ),
                ),
              ),
            ),
          ),
        ),
      ),
    ),
  ),
)

-- One value cell short, code 1 comes first.
pub every_case_needs_two_cells_each : EveryCaseNeedsTwoCellsEach
unfolding capped curve_outcome cases
every_case_needs_two_cells_each = (
  refl,
  (
    refl,
    (
      refl,
      (
        tt,
        (
          tt,
          (refl, (tt, (tt, (tt, (tt, (refl, (refl, (tt, (tt, (tt, (tt, (tt, (tt, (refl, (refl, (refl, (refl, (refl, (refl, (refl, (refl, tt))))))))))))))))))))),
        ),
      ),
    ),
  ),
)

-- The segments of positions on joins and beside them.
pub every_position_belongs : EveryPositionBelongs
unfolding last starts_at_discontinuity starts_by segment_at position_cases
every_position_belongs = (refl, (refl, (refl, (refl, (refl, (refl, tt))))))
