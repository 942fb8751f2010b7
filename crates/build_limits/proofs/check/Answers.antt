-- The lengths, and then the entries.
use Rattle.std.proofs.Common.{◌∙◌, sym, ap, arith}
use mathlib.Core.Bool.{cond}
use Rattle.base_outcome.specs.Outcome.{refusal, refuse}
use Rattle.base_outcome.specs.Machine.{passed}
use Rattle.base_outcome.proofs.Machine.{refusal_passed}
use Rattle.base_outcome.proofs.Outcome.{capped_small}
use Rattle.spec_spline.specs.Space.{Space, checked_entries, checked}
use Rattle.spec_spline.proofs.Legal.{Lengths, lengths_fit_inverts}
use Rattle.build_space.specs.Machine.{space}
use Rattle.build_limits.proofs.check.Goals as goal

pub returns-then-not-lengths_fit : goal.returns-then-not-lengths_fit
unfolding checked
returns-then-not-lengths_fit c =
    let s : Space = space c.args.breaks.now c.args.degrees.now c.args.orders.now in
    refusal_passed _ (ap (λ t. cond t (checked_entries s) (refuse 2 0)) (sym c.lengths_fit.ensures ∙ c.if-not-lengths_fit.true)
    ∙ ap (refusal 2) (capped_small 0 (omega arith)))

pub check_entries-requires : goal.check_entries-requires
check_entries-requires c =
    let h : Lengths (space c.args.breaks.now c.args.degrees.now c.args.orders.now)
    = lengths_fit_inverts _ (sym c.lengths_fit.ensures ∙ c.if-not-lengths_fit.false) in
    (sym h.order-count, h.break-count)

pub returns : goal.returns
unfolding checked
returns c =
    let s : Space = space c.args.breaks.now c.args.degrees.now c.args.orders.now in
    c.check_entries.ensures
    ∙ sym (ap (λ t. passed (cond t (checked_entries s) (refuse 2 0))) (sym c.lengths_fit.ensures ∙ c.if-not-lengths_fit.false))
