-- Either kind has its own test.
use borrow.Author.Rules.{rules}
use mathlib.Core.Path.{sym, ◌∙◌, ap}
use lib.Seq.{slice}
use Rattle.sheet_lines.specs.Machine.{entry_of, is_some}
use Rattle.sheet_lines.specs.declared.Entry.{Entry}
use Rattle.sheet_lines.proofs.is_entry.Statement.{statement}
use Rattle.sheet_lines.proofs.is_entry.Tie as tie

returns : tie.Need-returns-in-Numeral
returns c =
    let k = c in
    let a = k.args in
    c.is_numeral.ensures ∙ sym (ap (λ (kind : Entry). is_some (entry_of kind (slice a.from a.to a.text.now))) k.in-Numeral.is)

returns-2 : tie.Need-returns-in-Pair
returns-2 c =
    let k = c in
    let a = k.args in
    c.is_pair.ensures ∙ sym (ap (λ (kind : Entry). is_some (entry_of kind (slice a.from a.to a.text.now))) k.in-Pair.is)

pub is_entry_spec : {M : Type 1} → statement M
is_entry_spec = tie.close (tie.spec (λ c. search rules) (λ c κs. search rules) (λ c. search rules) (λ c κs. search rules) returns returns-2)
