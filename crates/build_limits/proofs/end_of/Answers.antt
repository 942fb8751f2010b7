-- Without a start there is no end; the breakpoints are of no matter.
use Rattle.std.proofs.Common.{◌∙◌, sym, ap, Some}
use Rattle.base_outcome.specs.Machine.{found}
use Rattle.base_outcome.proofs.Machine.{found_some_inverts, found-none_inverts}
use Rattle.spec_spline.specs.Space.{part_end_at}
use Rattle.build_space.specs.Machine.{space}
use Rattle.build_space.proofs.Partial.{part_end_partial}
use Rattle.build_limits.proofs.end_of.Goals as goal

pub returns-in_err-start : goal.returns-in_err-start
unfolding found
returns-in_err-start c b o e =
    c.from_residual.ensures
    ∙ sym (ap (λ q. found (part_end_at (space b c.args.degrees.now c.args.orders.now) q)) (found-none_inverts o (sym e ∙ c.in_err-start.was)))

pub returns : goal.returns
unfolding found
returns c b o e =
    let i = c.in_ok-start.field-0 in
    ap Some (c.part_end.ensures ∙ part_end_partial b c.args.degrees.now c.args.orders.now i)
    ∙ sym (ap (λ q. found (part_end_at (space b c.args.degrees.now c.args.orders.now) q)) (found_some_inverts o (sym e ∙ c.in_ok-start.was)))
