-- Below i every jump is zero: the search ends at the first that is not, or at the bound.
use borrow.Author.Rules.{rules}
use borrow.Author.Count.{below_more}
use native.Mathlib.Omega.{arith}
use mathlib.Core.Path.{◌≡◌, sym, ap}
use mathlib.Core.Bool.{not}
use Prim.Native.Nat.{ℕ, ◌-◌, ◌<◌, ◌≤◌}
use lib.IntN.{pos}
use lib.ListN.{get_or}
use mir.Syntax.{w64}
use mir.Val.{of_z}
use Rattle.base_exact.proofs.Word.{of_z_inj}
use Rattle.spec_spline.specs.Step.{jumps_at}
use Rattle.base_outcome.proofs.Search.{first_at, first-none}
use Rattle.base_outcome.specs.Machine.{found}
use Rattle.base_fraction.proofs.Fractions.{zero-read, nonzero_read}
use Rattle.build_span.proofs.first_jump.Statement.{statement}
use Rattle.build_span.proofs.first_jump.Tie as tie

abbrev invariant-loop : tie.invariant-loop-i
invariant-loop js rows i₀ i = (i ≤ rows) × ((k : ℕ) → k < i → get_or js k (pos 0) ≡ pos 0)

abbrev decreases-loop : tie.decreases-loop-i
decreases-loop js rows i₀ i = rows - i

loop-again : tie.Need-loop-i-preserved invariant-loop decreases-loop
loop-again c =
    (omega arith, below_more _ _ c.before.before.before.loop-i.invariant.1 (of_z_inj w64 _ (pos 0) (record { sfits = c.before.t10-1.given }) (search rules) c.if-js-i-ne0.false))

returns : tie.Need-returns-then-i-rows invariant-loop decreases-loop
unfolding found
returns c qs e =
    let s = c.before.before in
    let inv = c.before.loop-i.invariant in
    sym (ap found (first-none (jumps_at qs) s.args.rows (λ k h. ap not (zero-read qs e k (omega arith) (inv.1 k (omega arith))))))

returns-2 : tie.Need-returns-then-js-i-ne0 invariant-loop decreases-loop
unfolding found
returns-2 c qs e =
    let s = c.before.before.before.before in
    let l = c.before.before.before.loop-i in
    sym (ap found (first_at (jumps_at qs) s.args.rows l.i (omega arith)
    (ap not (nonzero_read qs e l.i (omega arith) (λ z. c.if-js-i-ne0.true (ap (of_z w64) z))))
    (λ k h. ap not (zero-read qs e k (omega arith) (l.invariant.1 k h)))))

pub first_jump_spec : {M : Type 1} → statement M
first_jump_spec =
    tie.close (tie.spec invariant-loop decreases-loop (λ c. (omega arith, λ k h. absurd (omega arith))) (λ c. omega arith) (λ c. omega arith)
    (λ c. omega arith) (λ c. omega arith) loop-again returns returns-2)
