-- The exported call meets its contract: the answer of the call behind it, as a struct. Assumes nothing.
use borrow.Author.Rules.{rules}
use mathlib.Core.Path.{ap, ◌∙◌}
use Rattle.walzhik_reply.specs.Machine.{replied}
use Rattle.walzhik.proofs.walzhik_tucson_read.Statement.{statement}
use Rattle.walzhik.proofs.walzhik_tucson_read.Tie as tie

returns : tie.Need-returns
returns c = let b = c.read-answer.ensures in (c.reply_of.ensures ∙ ap replied b.0, b.1)

pub walzhik_tucson_read_spec : {M : Type 1} → statement M
walzhik_tucson_read_spec = tie.close (tie.spec (λ c κs. search rules) (λ c κs. search rules) (λ c. search rules) (λ c. search rules) (λ c. search rules) (λ c. search rules) returns)
