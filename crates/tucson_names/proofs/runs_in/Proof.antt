-- Each return is one of the cases of a line that is a series by itself or not.
use borrow.Author.Rules.{rules}
use mathlib.Core.Path.{refl, sym, ◌∙◌}
use Rattle.spec_tucson.specs.CleanSeries.{runs_in}
use Rattle.tucson_names.proofs.NameColumns.{yes_or, no_or, yes_and, no_and}
use Rattle.tucson_names.proofs.runs_in.Statement.{statement}
use Rattle.tucson_names.proofs.runs_in.Tie as tie

returns : tie.Need-returns-then-year_in_name
unfolding runs_in
returns c = sym (yes_or _ (sym c.year_in_name.ensures ∙ c.if-year_in_name.true))

returns-2 : tie.Need-returns-then-alone
unfolding runs_in
returns-2 c =
    let k = c in
    c.is_shifted.ensures ∙ sym (no_or (sym k.year_in_name.ensures ∙ k.if-year_in_name.false) (yes_and c.if-alone.true refl))

returns-3 : tie.Need-returns
unfolding runs_in
returns-3 c =
    let k = c in
    sym (no_or (sym k.year_in_name.ensures ∙ k.if-year_in_name.false) (no_and _ c.if-alone.false))

pub runs_in_spec : {M : Type 1} → statement M
runs_in_spec = tie.close (tie.spec (λ c κs. search rules) returns (λ c κs. search rules) returns-2 returns-3)
