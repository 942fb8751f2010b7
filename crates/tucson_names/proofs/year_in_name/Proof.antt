-- Each return is one of the cases of the two tests.
use borrow.Author.Rules.{rules}
use mathlib.Core.Bool.{Bool, ◌||◌}
use mathlib.Core.Path.{refl, sym, ◌∙◌, ap}
use lib.Dec.{eqb}
use lib.ListN.{get_or}
use Rattle.spec_tucson.specs.Columns.{blank}
use Rattle.tucson_names.proofs.NameColumns.{yes_or, no_or, yes_and, no_and, year_by_bytes}
use Rattle.tucson_names.proofs.year_in_name.Statement.{statement}
use Rattle.tucson_names.proofs.year_in_name.Tie as tie

returns : tie.Need-returns-then-is_sign
returns c =
    let t = c.args.line.now in
    sym (year_by_bytes t ∙ yes_or _ (sym c.is_sign.ensures ∙ c.if-is_sign.true))

returns-2 : tie.Need-returns-then-digits_in
returns-2 c =
    let b = c in
    let a = b in
    let t = a.args.line.now in
    let sign = c.is_sign-then-digits_in.ensures in
    let no = sym a.is_sign.ensures ∙ b.if-is_sign.false in
    let yes = sym b.digits_in.ensures ∙ c.if-digits_in.true in
    c.either.ensures ∙ ap (λ (x : Bool). x || eqb (get_or t 6 0) blank) sign ∙ sym (year_by_bytes t ∙ no_or no (yes_and yes refl))

returns-3 : tie.Need-returns
returns-3 c =
    let a = c in
    let t = a.args.line.now in
    sym (year_by_bytes t ∙ no_or (sym a.is_sign.ensures ∙ c.if-is_sign.false) (no_and _ (sym c.digits_in.ensures ∙ c.if-digits_in.false)))

pub year_in_name_spec : {M : Type 1} → statement M
year_in_name_spec =
    tie.close (tie.spec (λ c. search rules) (λ c. search rules) (λ c κs. search rules) returns (λ c. search rules) (λ c. search rules)
    (λ c. search rules) (λ c κs. search rules) (λ c. search rules) (λ c. search rules) (λ c κs. search rules) (λ c. search rules)
    (λ c. search rules) (λ c κs. search rules) returns-2 returns-3)
