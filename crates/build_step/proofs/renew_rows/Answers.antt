-- The new rows, then row l left out.
use Rattle.build_step.proofs.Leaving.{renewed_large, renewed_done}
use Rattle.build_step.proofs.renew_rows.Goals as goal

pub returns-in_err-mix_rows : goal.returns-in_err-mix_rows
returns-in_err-mix_rows c t j ws h shaped e =
    rw c.from_residual.ensures (renewed_large j t ws _ _ _ _ _ (c.in_err-mix_rows.ensures t j ws h shaped e))

pub returns : goal.returns
returns c t j ws h shaped e =
    renewed_done j t ws _ _ _ _ _ _ _ h shaped c.requires.ordered c.requires.below
    (c.in_ok-mix_rows.ensures t j ws h shaped e) c.drop_row.ensures
