-- The last column is a digit, and what stands before the digits is tested.
use borrow.Author.Rules.{rules}
use mathlib.Core.Path.{refl, sym, ◌∙◌}
use Rattle.tucson_names.proofs.NameColumns.{yes_and, no_and, number_by_bytes}
use Rattle.tucson_names.proofs.ends_in_number.Statement.{statement}
use Rattle.tucson_names.proofs.ends_in_number.Tie as tie

returns : tie.Need-returns-then-is_digit
returns c =
    let k = c in
    let t = k.args.line.now in
    c.digits_behind.ensures ∙ sym (number_by_bytes t ∙ yes_and (sym k.is_digit.ensures ∙ c.if-is_digit.true) refl)

returns-2 : tie.Need-returns
returns-2 c =
    let k = c in
    let t = k.args.line.now in
    sym (number_by_bytes t ∙ no_and _ (sym k.is_digit.ensures ∙ c.if-is_digit.false))

pub ends_in_number_spec : {M : Type 1} → statement M
ends_in_number_spec =
    tie.close (tie.spec (λ c. search rules) (λ c. search rules) (λ c κs. search rules) (λ c κs. search rules) returns returns-2)
