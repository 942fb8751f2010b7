-- `put_count` meets its contract: three texts, one behind the other.
use borrow.Author.Rules.{rules}
use native.Mathlib.Omega.{arith}
use Rattle.spec_sheet.specs.Printout.{count_line}
use Rattle.base_print.proofs.Buffer.{puts_then, puts_within}
use Rattle.sheet_values.proofs.put_count.Statement.{statement}
use Rattle.sheet_values.proofs.put_count.Tie as tie

returns : tie.Need-returns
unfolding count_line
returns c =
    let d = c in
    let b = d in
    let a = b in
    puts_within (omega arith)
    (puts_then a.put_text-a.ensures
    (puts_then b.put_digits-b.ensures
    d.put.ensures))

pub put_count_spec : {M : Type 1} → statement M
put_count_spec =
    tie.close (tie.spec (λ c κs. search rules) (λ c κs. search rules) (λ c κs. search rules) (λ c. search rules)
    returns)
