-- `put_quoted` meets its contract: the name as it is, or its bytes, quotation marks doubled, between two of them.
use borrow.Author.Rules.{rules}
use native.Mathlib.Omega.{arith}
use mathlib.Core.Path.{sym, ◌∙◌}
use Rattle.base_print.proofs.Buffer.{puts_then, puts_within, puts_whole}
use Rattle.table_name.proofs.Name.{quoted-plain, quoted-marked}
use Rattle.table_name.proofs.put_quoted.Statement.{statement}
use Rattle.table_name.proofs.put_quoted.Tie as tie

returns : tie.Need-returns-then-not-holds_quoted
returns c =
    let t = c in
    let s = t in
    puts_whole (quoted-plain s.args.bytes.now (sym t.holds_quoted.ensures ∙ t.if-not-holds_quoted.true))
    (puts_within (omega (arith, s.requires)) c.put_text.ensures)

returns-2 : tie.Need-returns
returns-2 c =
    let last = c in
    let inner = last in
    let first = inner in
    let t = first in
    let s = t in
    puts_whole (quoted-marked s.args.bytes.now (sym t.holds_quoted.ensures ∙ t.if-not-holds_quoted.false))
    (puts_within (omega (arith, s.requires)) (puts_then first.put-a.ensures (puts_then inner.put_doubled-b.ensures last.put.ensures)))

pub put_quoted_spec : {M : Type 1} → statement M
put_quoted_spec =
    tie.close
    (tie.spec
    (λ c κs. search rules)
    (λ c κs. search rules)
    (λ c. search rules)
    returns
    (λ c κs. search rules)
    (λ c κs. search rules)
    (λ c κs. search rules)
    (λ c. search rules)
    returns-2)
