-- Three lengths compared.
use borrow.Author.Rules.{rules}
use Rattle.base_exact.proofs.Decide.{clash}
use Rattle.tucson_clean.proofs.is_ample.Statement.{statement}
use Rattle.tucson_clean.proofs.is_ample.Tie as tie

returns : tie.Need-returns-then-bytes-count
returns c e = clash cc

returns-2 : tie.Need-returns-then-lines-count
returns-2 c e = clash cc

pub is_ample_spec : {M : Type 1} → statement M
is_ample_spec =
    tie.close
    (tie.spec
    (λ c. search rules)
    (λ c. search rules)
    returns
    (λ c. search rules)
    returns-2
    (λ c. search rules)
    (λ c. search rules)
    (λ c. search rules)
    (λ c. search rules))
