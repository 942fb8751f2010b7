-- Each return is one of the cases of the three tests.
use borrow.Author.Rules.{rules}
use borrow.Author.Tests.{eq-eqb, ne_eqb}
use mathlib.Core.Path.{refl, sym, ◌∙◌}
use Rattle.tucson_names.proofs.NameColumns.{yes_or, no_or, yes_and, no_and, shifted_by_bytes}
use Rattle.tucson_names.proofs.is_shifted.Statement.{statement}
use Rattle.tucson_names.proofs.is_shifted.Tie as tie

returns : tie.Need-returns-then-line-eq32
returns c =
    let t = c.args.line.now in
    sym (shifted_by_bytes t ∙ yes_or _ (eq-eqb _ _ c.if-line-eq32.true))

returns-2 : tie.Need-returns-then-ends_in_number
returns-2 c =
    let t = c.args.line.now in
    sym (shifted_by_bytes t ∙ no_or (ne_eqb _ _ c.if-line-eq32.false) (yes_or _ (sym c.ends_in_number.ensures ∙ c.if-ends_in_number.true)))

returns-3 : tie.Need-returns-then-line-eq-ONE_FIELD
returns-3 c =
    let k = c in
    let t = k.args.line.now in
    c.blank_inside.ensures
    ∙ sym
    (shifted_by_bytes t
    ∙ no_or (ne_eqb _ _ k.if-line-eq32.false) (no_or (sym k.ends_in_number.ensures ∙ k.if-ends_in_number.false) (yes_and (eq-eqb _ _ c.if-line-eq-ONE_FIELD.true) refl)))

returns-4 : tie.Need-returns
returns-4 c =
    let k = c in
    let t = k.args.line.now in
    sym
    (shifted_by_bytes t
    ∙ no_or (ne_eqb _ _ k.if-line-eq32.false) (no_or (sym k.ends_in_number.ensures ∙ k.if-ends_in_number.false) (no_and _ (ne_eqb _ _ c.if-line-eq-ONE_FIELD.false))))

pub is_shifted_spec : {M : Type 1} → statement M
is_shifted_spec =
    tie.close (tie.spec (λ c. search rules) returns (λ c κs. search rules) returns-2 (λ c κs. search rules) returns-3 returns-4)
