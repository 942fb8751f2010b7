-- Two, three or four floats, by the degree. Assumes nothing.
use borrow.Author.Rules.{rules}
use native.Mathlib.Omega.{arith}
use Rattle.curve_drawing.proofs.Cases.{line-held, quadratic_held, cubic-held}
use Rattle.curve_drawing.proofs.curve_at.Statement.{statement}
use Rattle.curve_drawing.proofs.curve_at.Tie as tie

returns : tie.Need-returns-then-degree-eq1
returns c =
    let a = c.args in
    line-held a.ordinates.now a.column a.degree c.if-degree-eq1.true c.float_at-a.ensures
    c.float_at-b.ensures

returns-2 : tie.Need-returns-then-degree-eq2
returns-2 c =
    let b = c in
    let a = b.args in
    quadratic_held a.ordinates.now a.column a.degree c.if-degree-eq2.true b.float_at-a.ensures b.float_at-b.ensures
    c.float_at-c.ensures

returns-3 : tie.Need-returns
returns-3 c =
    let b = c in
    let a = b.args in
    cubic-held a.ordinates.now a.column a.degree (omega arith) b.float_at-a.ensures b.float_at-b.ensures
    c.float_at-c.ensures c.float_at-d.ensures

pub curve_at_spec : {M : Type 1} → statement M
curve_at_spec =
    tie.close (tie.spec (λ c κs. search rules) (λ c. search rules) (λ c κs. search rules) returns (λ c. search rules) (λ c κs. search rules)
    returns-2 (λ c. search rules) (λ c κs. search rules) returns-3)
