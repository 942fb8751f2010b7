-- From i on every jump is zero: the search ends at the last that is not, or at row 0.
use borrow.Author.Rules.{rules}
use native.Mathlib.Omega.{arith}
use native.Mathlib.Nat.{eq-or-lt_of_le}
use mathlib.Core.Path.{◌≡◌, sym, ap}
use mathlib.Core.Bool.{not}
use mathlib.Core.Logic.{◌⊎◌, inl, inr}
use Prim.Native.Nat.{ℕ, ◌-◌, ◌<◌, ◌≤◌}
use lib.IntN.{pos}
use lib.ListN.{get_or}
use mir.Syntax.{w64}
use mir.Val.{of_z}
use Rattle.base_exact.proofs.Word.{of_z_inj}
use Rattle.spec_spline.specs.Step.{jumps_at}
use Rattle.base_outcome.proofs.Search.{last_at, last_none}
use Rattle.base_outcome.specs.Machine.{found}
use Rattle.base_fraction.proofs.Fractions.{zero-read, nonzero_read}
use Rattle.build_span.proofs.last_jump.Statement.{statement}
use Rattle.build_span.proofs.last_jump.Tie as tie

abbrev invariant-loop : tie.invariant-loop-i
invariant-loop js rows i₀ i = (i ≤ rows) × ((k : ℕ) → i ≤ k → k < rows → get_or js k (pos 0) ≡ pos 0)

abbrev decreases-loop : tie.decreases-loop-i
decreases-loop js rows i₀ i = i

-- one row further down
from-before : (c : tie.Else-js-i-ne0 invariant-loop decreases-loop) (k : ℕ) → (c.before.before.before.loop-i.i - 1 ≡ k) ⊎ (c.before.before.before.loop-i.i - 1 < k)
    → k < c.before.before.before.before.args.rows → get_or c.before.before.before.before.args.js.now k (pos 0) ≡ pos 0
from-before c k (inl e) h = rw (sym e) (of_z_inj w64 _ (pos 0) (record { sfits = c.before.t10-1.given }) (search rules) c.if-js-i-ne0.false)
from-before c k (inr l) h = c.before.before.before.loop-i.invariant.1 k (omega arith) h

returns : tie.Need-returns-then-i-eq0 invariant-loop decreases-loop
unfolding found
returns c =
    let s = c.before.before in
    let inv = c.before.loop-i.invariant in (
      λ qs e. sym (ap found (last_none (jumps_at qs) s.args.rows (λ k h. ap not (zero-read qs e k (omega arith) (inv.1 k (omega arith) h))))),
      λ i e. absurd (let z : ◌≡◌ {A = ℕ} 0 1 = cc in omega arith),
    )

returns-2 : tie.Need-returns-then-js-i-ne0 invariant-loop decreases-loop
unfolding found
returns-2 c =
    let s = c.before.before.before.before in
    let l = c.before.before.before.loop-i in (
      λ qs e. sym (ap found (last_at (jumps_at qs) s.args.rows (l.i - 1) (omega arith)
          (ap not (nonzero_read qs e (l.i - 1) (omega arith) (λ z. c.if-js-i-ne0.true (ap (of_z w64) z))))
          (λ k h b. ap not (zero-read qs e k (omega arith) (l.invariant.1 k (omega arith) b))))),
      λ i e. let z : l.i - 1 ≡ i = cc in omega arith,
    )

pub last_jump_spec : {M : Type 1} → statement M
last_jump_spec =
    tie.close (tie.spec invariant-loop decreases-loop (λ c. (omega arith, λ k h l. absurd (omega arith))) (λ c. omega arith) (λ c. omega arith)
    (λ c. omega arith) (λ c. omega arith) (λ c. (omega arith, λ k l h. from-before c k (eq-or-lt_of_le l) h)) returns returns-2)
