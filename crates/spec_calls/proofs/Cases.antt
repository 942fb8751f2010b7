-- The table of calls, by computation: one `refl` for each line, so that a refusal shows which one fails.
use mathlib.Core.Path.{refl}
use Rattle.spec_calls.proofs.Computing.{recovering}
use Rattle.base_fraction.specs.Size.{fits}
use Rattle.base_outcome.specs.Outcome.{collect, repeat}
use Rattle.base_outcome.specs.Search.{last}
use Rattle.spec_spline.specs.Space.{first_column, conditions_before}
use Rattle.spec_spline.specs.Table.{identity}
use Rattle.spec_spline.proofs.Computing.{checking, fractions}
use Rattle.spec_calls.specs.Recovery.{recover_orders, recover_joins, recovered}
use Rattle.spec_calls.specs.RecoveryCall.{bad_ordinate, recovery_outcome}
use Rattle.spec_calls.specs.Cases.{shown, cases, EveryCallEnds, ShortBuffers}

pub every_call-ends : EveryCallEnds
unfolding recovering checking bad_ordinate recovery_outcome shown cases
every_call-ends = (
  refl,
  (
    refl,
    (
      refl,
      (
        refl,
        (
          refl,
          (refl, (refl, (refl, (refl, (refl, (refl, (refl, (refl, (refl, (refl, (refl, (refl, (refl, (refl, (refl, (refl, (refl, (refl, tt)))))))))))))))))),
        ),
      ),
    ),
  ),
)

pub short-buffers : ShortBuffers
unfolding checking fractions fits collect repeat last first_column conditions_before identity recover_orders recover_joins recovered bad_ordinate recovery_outcome
short-buffers = (refl, refl, refl, refl, refl)
