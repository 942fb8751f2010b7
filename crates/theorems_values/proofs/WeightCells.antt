-- The weight buffers after a legal curve call, proved: the call leaves what building leaves.
use mathlib.Core.Path.{ap}
use lib.ListN.{length}
use Rattle.spec_spline.specs.CurveCall.{curve_outcome, held_by}
use Rattle.theorems_weights.proofs.Published.{weights_are_published}
use Rattle.theorems_weights.proofs.Cells.{published_held}
use Rattle.theorems_values.specs.WeightCells.{CurveCellsHoldPublishedWeights}
use Rattle.theorems_values.proofs.LegalCall.{legal_calls_answer}

pub curve_cells_hold_published_weights : CurveCellsHoldPublishedWeights
curve_cells_hold_published_weights s coefs positions num den values l i c p q =
    published_held s l.accepted.table num den i c p q (weights_are_published s l.accepted) (held_by s (curve_outcome s coefs positions (length num) (length den) (length values)))
    (ap (held_by s) (legal_calls_answer s coefs positions (length num) (length den) (length values) l))
