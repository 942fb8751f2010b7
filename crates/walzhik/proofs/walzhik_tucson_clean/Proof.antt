-- The exported call meets its contract: the answer of the call behind it, as a struct. Assumes nothing.
use borrow.Author.Rules.{rules}
use mathlib.Core.Path.{ap, ◌∙◌}
use Rattle.walzhik_structs.specs.File.{cleaned}
use Rattle.walzhik.proofs.walzhik_tucson_clean.Statement.{statement}
use Rattle.walzhik.proofs.walzhik_tucson_clean.Tie as tie

returns : tie.Need-returns
returns c = let b = c.clean-answer.ensures in (c.cleaned_of.ensures ∙ ap cleaned b.0, b.1)

pub walzhik_tucson_clean_spec : {M : Type 1} → statement M
walzhik_tucson_clean_spec = tie.close (tie.spec (λ c κs. search rules) (λ c κs. search rules) (λ c. search rules) (λ c. search rules) (λ c. search rules) returns)
