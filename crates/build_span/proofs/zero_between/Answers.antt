-- The search ends at the first zero, or at l.
use Rattle.std.proofs.Common.{rules, ◌≡◌, ◌∙◌, sym, ap, arith, ℕ, ◌+◌, ◌-◌, List, Bool, pos, get_or, w64}
use mir.Val.{SFits}
use Rattle.base_exact.specs.Rational.{ℚ}
use Rattle.base_exact.specs.Order.{is_zero}
use Rattle.base_exact.proofs.Word.{of_z_inj}
use Rattle.base_outcome.specs.Search.{found}
use Rattle.base_outcome.proofs.Search.{first_at, first-none}
use Rattle.base_fraction.proofs.Fractions.{zero-read, nonzero_read}
use Rattle.spec_spline.specs.Table.{entry}
use Rattle.build_span.proofs.zero_between.Goals as goal

-- whether the jump at distance d from f is zero
abbrev zero_at : List ℚ → ℕ → ℕ → Bool
zero_at qs f d = is_zero (entry qs (f + d))

pub returns-then-js-i-eq0 : goal.returns-then-js-i-eq0
returns-then-js-i-eq0 c qs e =
    let a = c.args in
    let i = c.loop-i.i in
    let at : a.f + (i - a.f) ≡ i = omega arith in
    let f : SFits w64 (get_or a.js.now i (pos 0)) = search rules in
    let zero : get_or a.js.now i (pos 0) ≡ pos 0 = of_z_inj w64 _ (pos 0) f (search rules) c.if-js-i-eq0.true in
    sym (ap found (first_at (zero_at qs a.f) (a.l - a.f) (i - a.f) (omega arith)
    (ap (λ k. is_zero (entry qs k)) at ∙ zero-read qs e i (omega arith) zero)
    (λ k h. nonzero_read qs e (a.f + k) (omega arith) (c.loop-i.invariant (a.f + k) (omega arith) (omega arith)))))

pub returns : goal.returns
returns c qs e =
    let a = c.args in
    sym (ap found (first-none (zero_at qs a.f) (a.l - a.f)
    (λ k h. nonzero_read qs e (a.f + k) (omega arith) (c.loop-i.invariant (a.f + k) (omega arith) (omega arith)))))
