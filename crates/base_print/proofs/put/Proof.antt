-- `put` meets its contract: within the buffer the byte is one store, past its end nothing changes.
use borrow.Author.Rules.{rules}
use mathlib.Core.Logic.{⊎_elim}
use mathlib.Core.Path.{ap, ◌∙◌}
use lib.ListN.{length, length-set}
use Rattle.base_print.proofs.Buffer.{written_byte, written-byte-past}
use Rattle.base_print.proofs.put.Statement.{statement}
use Rattle.base_print.proofs.put.Tie as tie

returns : tie.Need-returns
returns c = record {
  contents = ⊎_elim (λ w. w.out-is ∙ written_byte _ _ _) (λ w. w.out-is ∙ written-byte-past _ _ _ w.if-at-out.false) c.if-at-out.branch-raw;
  behind = search rules;
  near = search rules;
}

pub put_spec : {M : Type 1} → statement M
put_spec =
    tie.close (tie.spec (λ c. search rules) (λ c. search rules)
    (λ c. ⊎_elim (λ w. ap length w.out-is ∙ simp length-set) (λ w. ap length w.out-is) c.if-at-out.branch-raw) returns)
