-- What the search found is the index that is refused.
use Rattle.std.proofs.Common.{◌∙◌, sym, ap}
use Rattle.base_outcome.specs.Outcome.{refusal, answer}
use Rattle.base_outcome.specs.Tests.{refuse_first}
use Rattle.base_outcome.proofs.Machine.{found_some_inverts, found-none_inverts}
use Rattle.base_outcome.proofs.refuse_first.Goals as goal

pub returns-in-Some : goal.returns-in-Some
returns-in-Some c o e =
    ap (refusal c.args.code) c.place.ensures
    ∙ sym (ap (λ q. refuse_first c.args.code q (answer tt)) (found_some_inverts o (sym e ∙ c.in-Some.is)))

pub returns-in-None : goal.returns-in-None
returns-in-None c o e = sym (ap (λ q. refuse_first c.args.code q (answer tt)) (found-none_inverts o (sym e ∙ c.in-None.is)))
