-- The exported call meets its contract: the answer of the call behind it, as a struct. Assumes nothing.
use borrow.Author.Rules.{rules}
use Rattle.walzhik.proofs.walzhik_earlywood_piece.Statement.{statement}
use Rattle.walzhik.proofs.walzhik_earlywood_piece.Tie as tie

returns : tie.Need-returns
returns c = let b = c.piece-answer.ensures in (c.piece_of.ensures _ b.0, b.1)

pub walzhik_earlywood_piece_spec : {M : Type 1} → statement M
walzhik_earlywood_piece_spec = tie.close (tie.spec (λ c κs. search rules) (λ c κs. search rules) (λ c. search rules) (λ c. search rules) returns)
