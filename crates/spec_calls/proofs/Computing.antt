-- A name for the definitions that recovered coefficients are computed with, as in the module of this name of spec_spline.
use Rattle.base_outcome.specs.Outcome.{repeat}
use Rattle.spec_spline.proofs.Computing.{conditioning, stepping}
use Rattle.spec_calls.specs.Recovery.{fitted, jump_sum, balanced, undone_coefficient, undone_rows, undone}
use Rattle.spec_calls.specs.Recovery.{recover_step, recover_orders, recover_joins, recovered}

unfoldable pub recovering : Unit {0}
unfolding conditioning stepping repeat fitted jump_sum balanced undone_coefficient undone_rows undone recover_step recover_orders recover_joins recovered
recovering = tt
