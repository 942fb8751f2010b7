-- `put_cell` meets its contract: within the list the number is one store, past its end nothing changes.
use borrow.Author.Rules.{rules}
use mathlib.Core.Logic.{⊎_elim}
use mathlib.Core.Path.{ap, ◌∙◌}
use lib.ListN.{length, length-set}
use Rattle.base_print.proofs.Buffer.{written_byte, written-byte-past}
use Rattle.tucson_notes.proofs.put_cell.Statement.{statement}
use Rattle.tucson_notes.proofs.put_cell.Tie as tie

returns : tie.Need-returns
returns c = record {
  contents = ⊎_elim (λ w. w.cells-is ∙ written_byte _ _ _) (λ w. w.cells-is ∙ written-byte-past _ _ _ w.if-at-cells.false) c.if-at-cells.branch-raw;
  behind = search rules;
  near = search rules;
}

pub put_cell_spec : {M : Type 1} → statement M
put_cell_spec =
    tie.close (tie.spec (λ c. search rules) (λ c. search rules) (λ c. search rules)
    (λ c. ⊎_elim (λ w. ap length w.cells-is ∙ simp length-set) (λ w. ap length w.cells-is) c.if-at-cells.branch-raw) returns)
