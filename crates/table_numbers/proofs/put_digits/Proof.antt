-- `put_digits` meets its contract: a number's digits are as many of its last digits as it has.
use borrow.Author.Rules.{rules}
use mathlib.Core.Path.{ap, ◌∙◌}
use Prim.Native.Nat.{ℕ}
use Rattle.spec_table.specs.Decimals.{last_digits}
use Rattle.tucson_putting.proofs.Wrote.{wrote_as}
use Rattle.table_numbers.proofs.Digits.{digits_all}
use Rattle.table_numbers.proofs.put_digits.Statement.{statement}
use Rattle.table_numbers.proofs.put_digits.Tie as tie

returns : tie.Need-returns
returns c =
    let d = c in
    let n = d.args.n in
    wrote_as (ap (λ (k : ℕ). last_digits k n) d.digit_count-count.ensures.0 ∙ digits_all n) c.put_last_digits.ensures

pub put_digits_spec : {M : Type 1} → statement M
put_digits_spec = tie.close (tie.spec (λ c κs. search rules) (λ c κs. search rules) (λ c. search rules) returns)
