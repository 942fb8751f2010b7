-- `build_limits::lengths_fit` meets its contract: each return is picked by the tests that led there. Assumes nothing.
use borrow.Author.Rules.{rules}
use Rattle.build_space.proofs.Tests.{no_segment, many_segments, wrong_breaks, orders_left}
use Rattle.build_limits.proofs.lengths_fit.Statement.{statement}
use Rattle.build_limits.proofs.lengths_fit.Tie as tie

pub lengths_fit_spec : {M : Type 1} → statement M
lengths_fit_spec =
    tie.close (tie.spec (λ c. no_segment _ c.if-m-lt1.true) (λ c. many_segments _ c.if-m-gt-SEGMENT_LIMIT.true) (λ c. search rules)
    (λ c. wrong_breaks _ c.if-breaks-m.true) (λ c. orders_left _ c.before.before.if-m-lt1.false c.before.if-m-gt-SEGMENT_LIMIT.false c.if-breaks-m.false))
