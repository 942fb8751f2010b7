-- The cases of spec_spline: Cases (§ 15), with the weights of the published construction. The statement at the end is proved by
-- computation in proofs/Cases.
use Rattle.std.specs.Prelude.{◌≡◌}
use Rattle.base_outcome.specs.Outcome.{Outcome, with_answer}
use Rattle.spec_spline.specs.Cases.{Answered, Case, shown, cases, Every}
use Rattle.spec_published.specs.Published.{extraction}

-- A line's outcome with the published construction's weights in the place of its own.
abbrev pub with_published : Case → Outcome Answered
with_published c = with_answer (λ r. shown (extraction c.space) r.values) c.ends

-- If the case is accepted, the published construction gives the same weights.
abbrev pub AsPublished : Case → Type 0
AsPublished c = with_published c ≡ c.ends

-- The published construction agrees on them.
abbrev pub EveryCasePublished : Type 0
EveryCasePublished = Every AsPublished cases
