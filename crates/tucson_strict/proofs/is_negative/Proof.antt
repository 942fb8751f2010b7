-- Each test tells one field.
use borrow.Author.Rules.{rules}
use borrow.Author.Tests.{ltb-true}
use native.Mathlib.Omega.{arith}
use Rattle.base_exact.proofs.Decide.{clash}
use Rattle.tucson_strict.proofs.is_negative.Statement.{statement}
use Rattle.tucson_strict.proofs.is_negative.Tie as tie

returns-4 : tie.Need-returns
returns-4 c e = record {
  some = omega arith;
  few = omega arith;
  sign = omega arith;
  digit = ltb-true 48 _ e;
}

pub is_negative_spec : {M : Type 1} → statement M
is_negative_spec =
    tie.close
    (tie.spec
    (λ c. search rules)
    (λ c e. clash cc)
    (λ c. search rules)
    (λ c e. clash cc)
    (λ c e. clash cc)
    (λ c. search rules)
    (λ c. search rules)
    returns-4)
