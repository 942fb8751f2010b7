-- A blank line is none; any other is one below the header.
use borrow.Author.Rules.{rules}
use mathlib.Core.Bool.{Bool, ◌&&◌, not}
use mathlib.Core.Path.{sym, ◌∙◌, ap}
use lib.Dec.{ltb}
use Rattle.spec_tucson.specs.KeptLines.{is_data}
use Rattle.tucson_check.proofs.is_data.Statement.{statement}
use Rattle.tucson_check.proofs.is_data.Tie as tie

returns : tie.Need-returns-then-is_blank_line
unfolding is_data
returns c =
    let a = c.args in
    sym (ap (λ (b : Bool). not b && ltb a.header a.number) (sym c.is_blank_line.ensures ∙ c.if-is_blank_line.true))

returns-2 : tie.Need-returns
unfolding is_data
returns-2 c =
    let a = c.args in
    sym (ap (λ (b : Bool). not b && ltb a.header a.number) (sym c.is_blank_line.ensures ∙ c.if-is_blank_line.false))

pub is_data_spec : {M : Type 1} → statement M
is_data_spec = tie.close (tie.spec (λ c κs. search rules) returns returns-2)
