-- `build_rules::order_is_bad` meets its contract: each return is picked by the tests that led there. Assumes nothing.
use borrow.Author.Rules.{rules}
use Prim.Native.Nat.{◌+◌}
use lib.IntN.{pos}
use lib.ListN.{get_or}
use mir.Syntax.{w32}
use mir.Val.{SFits}
use mir.ValLaws.{to_z-of_z}
use Rattle.build_space.proofs.Tests.{bad-order_low, bad-order-high, bad-order-left, order-right}
use Rattle.build_rules.proofs.order_is_bad.Statement.{statement}
use Rattle.build_rules.proofs.order_is_bad.Tie as tie

r-fits : (c : tie.After-r-1) → SFits w32 (get_or c.before.args.orders.now c.before.args.i (pos 0))
r-fits c = record { sfits = c.r-1.given }

p-fits : (c : tie.After-p-1) → SFits w32 (get_or c.before.before.before.before.args.degrees.now c.before.before.before.before.args.i (pos 0))
p-fits c = record { sfits = c.p-1.given }

q-fits : (c : tie.After-q-1) → let s = c.before.before.before.before.before.before in SFits w32 (get_or s.args.degrees.now (s.args.i + 1) (pos 0))
q-fits c = record { sfits = c.q-1.given }

returns-3 : tie.Need-returns-then-p-r
returns-3 c = bad-order-left _ _ (simp (to_z-of_z, r-fits c.before.before.before.before, p-fits c.before) at c.if-p-r.true)

returns-4 : tie.Need-returns
returns-4 c =
    let d = c.before.before.before.before.before in let f = r-fits d in
    let g = p-fits c.before.before in
    let h = q-fits c in
    simp to_z-of_z (order-right _ _ (simp to_z-of_z at c.before.before.before.before.if-r-ltminus1.false) (simp to_z-of_z at c.before.before.before.if-r-gt-ORDER_LIMIT.false) (simp to_z-of_z at c.before.if-p-r.false))

pub order_is_bad_spec : {M : Type 1} → statement M
order_is_bad_spec =
    tie.close (tie.spec (λ c. search rules) (λ c. search rules)
    (λ c. let f = r-fits c.before in bad-order_low _ _ (simp to_z-of_z at c.if-r-ltminus1.true))
    (λ c. let f = r-fits c.before.before in bad-order-high _ _ (simp to_z-of_z at c.if-r-gt-ORDER_LIMIT.true)) (λ c. search rules)
    (λ c. search rules) returns-3 (λ c. search rules) (λ c. search rules) (λ c. search rules) returns-4)
