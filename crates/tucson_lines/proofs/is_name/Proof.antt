-- Eight bytes are a name where all are printable and not all are blank.
use borrow.Author.Rules.{rules}
use mathlib.Core.Bool.{not}
use mathlib.Core.Path.{sym, ◌∙◌, ap}
use Rattle.tucson_lines.proofs.Fields.{name_unprintable, name_printable}
use Rattle.tucson_lines.proofs.is_name.Statement.{statement}
use Rattle.tucson_lines.proofs.is_name.Tie as tie

returns : tie.Need-returns-then-not-all_printable
returns c =
    let s = c in
    sym (name_unprintable s.args.text.now s.args.from s.requires (sym c.all_printable.ensures ∙ c.if-not-all_printable.true))

returns-2 : tie.Need-returns
returns-2 c =
    let s = c in
    ap not c.all_blank.ensures
    ∙ sym (name_printable s.args.text.now s.args.from s.requires (sym c.all_printable.ensures ∙ c.if-not-all_printable.false))

pub is_name_spec : {M : Type 1} → statement M
is_name_spec = tie.close (tie.spec (λ c. search rules) (λ c κs. search rules) returns (λ c. search rules) (λ c κs. search rules) returns-2)
