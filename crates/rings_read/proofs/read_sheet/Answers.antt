-- What the read call leaves, and the place moved by the first line.
use Rattle.std.proofs.Common.{rules}
use Rattle.rings_read.proofs.Held.{sheet_moved}
use Rattle.rings_read.proofs.read_sheet.Goals as goal

pub returns : goal.returns
returns c =
    sheet_moved _ _ _ _ _ _ c.read-lists.result _ _ _ _ _ c.read-lists.ensures c.map_err.result _ (λ place at z. search rules)
    c.map_err.ensures.cases
