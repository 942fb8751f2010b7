-- As many lines as bytes that end one, and one more where the last byte does not.
use borrow.Author.Rules.{rules}
use mathlib.Core.Bool.{true, false}
use mathlib.Core.Path.{sym, ◌∙◌}
use Prim.Native.Nat.{◌+◌}
use native.Mathlib.Omega.{arith}
use Rattle.tucson_clean.proofs.Tails.{tail_is}
use Rattle.tucson_clean.proofs.count_lines.Statement.{statement}
use Rattle.tucson_clean.proofs.count_lines.Tie as tie

returns : tie.Need-returns-then-is_ended
returns c =
    let e = c in
    tail_is e.args.body.now e.ends-count.result true (sym c.if-is_ended.true ∙ c.is_ended.ensures) (omega (arith, e.ends-count.ensures.0))

returns-2 : tie.Need-returns
returns-2 c =
    let e = c in
    tail_is e.args.body.now (e.ends-count.result + 1) false (sym c.if-is_ended.false ∙ c.is_ended.ensures) (omega (arith, e.ends-count.ensures.0))

pub count_lines_spec : {M : Type 1} → statement M
count_lines_spec = tie.close (tie.spec (λ c κs. search rules) (λ c κs. search rules) returns (λ c. let e = c in omega (arith, e.ends-count.ensures.1, e.well_formed)) returns-2)
