-- `build_rules::break_is_bad` meets its contract: each return is picked by the tests that led there. Assumes nothing.
use borrow.Author.Rules.{rules}
use Prim.Native.Nat.{◌-◌}
use lib.IntN.{pos}
use lib.ListN.{get_or}
use mir.Syntax.{w32}
use mir.Val.{SFits}
use mir.ValLaws.{to_z-of_z}
use Rattle.build_space.proofs.Tests.{bad-break_low, bad-break-high, good-break-first, break_rises}
use Rattle.build_rules.proofs.break_is_bad.Statement.{statement}
use Rattle.build_rules.proofs.break_is_bad.Tie as tie

x_fits : (c : tie.After-x-1) → SFits w32 (get_or c.before.args.breaks.now c.before.args.i (pos 0))
x_fits c = record { sfits = c.x-1.given }

before-fits : (c : tie.After-before-1) → let s = c.before.before.before.before.before in SFits w32 (get_or s.args.breaks.now (s.args.i - 1) (pos 0))
before-fits c = record { sfits = c.before-1.given }

returns-3 : tie.Need-returns-then-i-eq0
returns-3 c =
    let f = x_fits c.before.before.before in
    good-break-first _ _ c.if-i-eq0.true (simp to_z-of_z at c.before.before.if-x.false) (simp to_z-of_z at c.before.if-x-gt-BREAK_LIMIT.false)

returns-4 : tie.Need-returns
returns-4 c =
    let f = x_fits c.before.before.before.before in
    let g = before-fits c in
    simp to_z-of_z (break_rises _ _ c.before.if-i-eq0.false (simp to_z-of_z at c.before.before.before.if-x.false) (simp to_z-of_z at c.before.before.if-x-gt-BREAK_LIMIT.false))

pub break_is_bad_spec : {M : Type 1} → statement M
break_is_bad_spec =
    tie.close (tie.spec (λ c. search rules) (λ c. search rules) (λ c. search rules)
    (λ c. let f = x_fits c.before in bad-break_low _ _ (simp to_z-of_z at c.if-x.true))
    (λ c. let f = x_fits c.before.before in bad-break-high _ _ (simp to_z-of_z at c.if-x-gt-BREAK_LIMIT.true)) returns-3 (λ c. search rules)
    (λ c. search rules) (λ c. search rules) returns-4)
