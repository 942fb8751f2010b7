-- Each turn keeps the pair's greatest common divisor, and y falls.
use mathlib.Core.Path.{◌≡◌, refl, sym, ap, ◌∙◌}
use native.Mathlib.Nat.{mod-lt}
use native.Mathlib.Omega.{arith}
use Rattle.base_exact.specs.Gcd.{gcd}
use Rattle.base_exact.proofs.Gcd.{gcd-step, gcd-zero}
use Rattle.base_division.proofs.gcd.Statement.{statement}
use Rattle.base_division.proofs.gcd.Tie as tie

abbrev invariant-loop : tie.invariant-loop-y
invariant-loop a b x₀ y₀ x y = gcd x y ≡ gcd a b

abbrev decreases-loop : tie.decreases-loop-y
decreases-loop a b x₀ y₀ x y = y

loop-again : tie.Need-loop-y-preserved invariant-loop decreases-loop
loop-again c = sym (gcd-step c.before.loop-y.x c.before.loop-y.y c.loop-y-test.true) ∙ c.before.loop-y.invariant

returns : tie.Need-returns invariant-loop decreases-loop
returns c = let e : c.before.loop-y.y ≡ 0 = omega arith in sym (gcd-zero c.before.loop-y.x) ∙ ap (gcd c.before.loop-y.x) (sym e) ∙ c.before.loop-y.invariant

pub gcd_spec : {M : Type 1} → statement M
gcd_spec =
    tie.close (tie.spec invariant-loop decreases-loop (λ c. refl) (λ c. omega arith) (λ c. mod-lt c.before.loop-y.x c.loop-y-test.true) loop-again
    returns)
