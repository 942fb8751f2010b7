-- `put_header` meets its contract: the line is the text of the definition.
use borrow.Author.Rules.{rules}
use mathlib.Core.Path.{refl}
use Rattle.base_print.proofs.Buffer.{puts_whole}
use Rattle.rings_pieces.proofs.put_header.Statement.{statement}
use Rattle.rings_pieces.proofs.put_header.Tie as tie

returns : tie.Need-returns
returns c = puts_whole refl c.put_text.ensures

pub put_header_spec : {M : Type 1} → statement M
put_header_spec = tie.close (tie.spec (λ c κs. search rules) (λ c. search rules) returns)
