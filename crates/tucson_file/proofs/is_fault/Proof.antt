-- A byte that is told by itself, or any other.
use borrow.Author.Rules.{rules}
use mathlib.Core.Path.{sym}
use Rattle.tucson_file.proofs.Faults.{at_plain}
use Rattle.tucson_file.proofs.is_fault.Statement.{statement}
use Rattle.tucson_file.proofs.is_fault.Tie as tie

returns : tie.Need-returns-then-text-at-lt-MARK
returns c =
    let a = c in
    let s = a in
    sym (at_plain s.args.text.now s.args.at s.requires a.if-text-at-gt13.true c.if-text-at-lt-MARK.true)

pub is_fault_spec : {M : Type 1} → statement M
is_fault_spec = tie.close (tie.spec (λ c. search rules) (λ c. search rules) returns (λ c κs. search rules) (λ c. search rules))
