-- Each refusal stops the chain where it stands; what passes leaves the rest of it.
use Rattle.std.proofs.Common.{◌≡◌, ◌+◌, ◌-◌, ◌<◌, ◌∙◌, sym, ap, ap₂, arith, refl, Bool, ℕ, length, IfSome}
use Rattle.std.proofs.lemmas.Result.{err_from_is_err_and}
use Rattle.std.proofs.Math.Option as math
use Rattle.std.proofs.Math.Option.{none, some}
use Rattle.base_outcome.specs.Outcome.{Outcome, answer}
use Rattle.base_outcome.specs.Search.{first}
use Rattle.base_outcome.specs.Tests.{refuse_first}
use Rattle.base_outcome.specs.Machine.{passed, found}
use Rattle.base_outcome.proofs.Machine.{refused_on, first_passes, first_stops, first_passed, answer_passed}
use Rattle.base_outcome.proofs.Search.{first_some_inverts}
use Rattle.spec_spline.specs.Space.{Space, segments, checked_entries, part_end_at}
use Rattle.build_space.specs.Machine.{space}
use Rattle.build_rules.specs.Rules.{broken, entries}
use Rattle.build_rules.specs.declared.Rule.TheVariants.{Breakpoint, Span, Degree, Order, Segments}
use Rattle.build_limits.proofs.check_entries.Goals as goal

-- nothing is refused at what a search found
abbrev Passes : ℕ → math.Option ℕ → Type 0
Passes code o = answer (tt {0}) ≡ refuse_first code o (answer (tt {0}))

-- what the searches find, with the numbers of entries as the code has them, and the chain from each on
module _ (s : Space) where
  abbrev bad_break : math.Option ℕ
  bad_break = first (length s.breaks) (broken Breakpoint s)

  abbrev long_span : math.Option ℕ
  long_span = part_end_at s (first (segments s) (broken Span s))

  abbrev bad_degree : math.Option ℕ
  bad_degree = first (segments s) (broken Degree s)

  abbrev bad_order : math.Option ℕ
  bad_order = first (length s.orders) (broken Order s)

  abbrev long_part : math.Option ℕ
  long_part = first (segments s) (broken Segments s)

  abbrev from_parts : Outcome Space
  from_parts = refuse_first 15 long_part (answer s)

  abbrev from_orders : Outcome Space
  from_orders = refuse_first 5 bad_order from_parts

  abbrev from_degrees : Outcome Space
  from_degrees = refuse_first 4 bad_degree from_orders

  abbrev from_spans : Outcome Space
  from_spans = refuse_first 3 long_span from_degrees

module _ (s : Space) (m : segments s ≡ length s.orders + 1) (n : length s.breaks ≡ segments s + 1) where
  chain : checked_entries s ≡ refuse_first 3 (bad_break s) (from_spans s)
  unfolding checked_entries broken
  chain =
      let orders : segments s - 1 ≡ length s.orders = omega arith in
      ap₂ (λ k l. refuse_first 3 (first k (broken Breakpoint s)) (refuse_first 3 (long_span s) (refuse_first 4 (bad_degree s)
      (refuse_first 5 (first l (broken Order s)) (from_parts s))))) (sym n) orders

  past_breaks : Passes 3 (bad_break s) → checked_entries s ≡ from_spans s
  past_breaks e = chain ∙ first_passes 3 (bad_break s) (from_spans s) e

  past_spans : Passes 3 (bad_break s) → Passes 3 (long_span s) → checked_entries s ≡ from_degrees s
  past_spans e f = past_breaks e ∙ first_passes 3 (long_span s) (from_degrees s) f

  past_degrees : Passes 3 (bad_break s) → Passes 3 (long_span s) → Passes 4 (bad_degree s) → checked_entries s ≡ from_orders s
  past_degrees e f g = past_spans e f ∙ first_passes 4 (bad_degree s) (from_orders s) g

  past_orders : Passes 3 (bad_break s) → Passes 3 (long_span s) → Passes 4 (bad_degree s) → Passes 5 (bad_order s)
      → checked_entries s ≡ from_parts s
  past_orders e f g h = past_degrees e f g ∙ first_passes 5 (bad_order s) (from_parts s) h

-- what a search finds is below its bound
below : (n : ℕ) (test : ℕ → Bool) (o : math.Option ℕ) → first n test ≡ o → IfSome (found o) (λ i. i < n)
unfolding found
below n test none e = tt
below n test (some i) e = (first_some_inverts test n e).below

pub first_bad-bad_break-requires-clause-n_bound : goal.first_bad-bad_break-requires-clause-n_bound
unfolding entries
first_bad-bad_break-requires-clause-n_bound c = omega arith

pub returns-in_err-refuse_first : goal.returns-in_err-refuse_first
returns-in_err-refuse_first c =
    let s : Space = space c.args.breaks.now c.args.degrees.now c.args.orders.now in
    refused_on (err_from_is_err_and c.from_residual.result c.from_residual.ensures.1) _ (chain s c.requires.0 c.requires.1
    ∙ first_stops 3 _ (from_spans s) (c.in_err-refuse_first.ensures _ c.first_bad-bad_break.ensures))

pub first_bad-long_span-requires-clause-n_bound : goal.first_bad-long_span-requires-clause-n_bound
unfolding entries
first_bad-long_span-requires-clause-n_bound c = omega arith

pub end_of-requires : goal.end_of-requires
end_of-requires c = (c.requires.0, rw c.first_bad-long_span.ensures (below _ _ _ refl))

pub returns-in_err-refuse_first-2 : goal.returns-in_err-refuse_first-2
returns-in_err-refuse_first-2 c =
    let s : Space = space c.args.breaks.now c.args.degrees.now c.args.orders.now in
    let r = c.from_residual-in_err-refuse_first-2 in
    refused_on (err_from_is_err_and r.result r.ensures.1) _ (past_breaks s c.requires.0 c.requires.1
    (c.in_ok-refuse_first.ensures _ c.first_bad-bad_break.ensures)
    ∙ first_stops 3 _ (from_degrees s) (c.in_err-refuse_first-2.ensures _ (c.end_of.ensures _ _ c.first_bad-long_span.ensures)))

pub first_bad-bad_degree-requires-clause-n_bound : goal.first_bad-bad_degree-requires-clause-n_bound
unfolding entries
first_bad-bad_degree-requires-clause-n_bound c = omega arith

pub returns-in_err-refuse_first-3 : goal.returns-in_err-refuse_first-3
returns-in_err-refuse_first-3 c =
    let s : Space = space c.args.breaks.now c.args.degrees.now c.args.orders.now in
    let r = c.from_residual-in_err-refuse_first-3 in
    refused_on (err_from_is_err_and r.result r.ensures.1) _ (past_spans s c.requires.0 c.requires.1
    (c.in_ok-refuse_first.ensures _ c.first_bad-bad_break.ensures)
    (c.in_ok-refuse_first-2.ensures _ (c.end_of.ensures _ _ c.first_bad-long_span.ensures))
    ∙ first_stops 4 _ (from_orders s) (c.in_err-refuse_first-3.ensures _ c.first_bad-bad_degree.ensures))

pub first_bad-bad_order-requires-clause-n_bound : goal.first_bad-bad_order-requires-clause-n_bound
unfolding entries
first_bad-bad_order-requires-clause-n_bound c = omega arith

pub returns-in_err-refuse_first-4 : goal.returns-in_err-refuse_first-4
returns-in_err-refuse_first-4 c =
    let s : Space = space c.args.breaks.now c.args.degrees.now c.args.orders.now in
    let r = c.from_residual-in_err-refuse_first-4 in
    refused_on (err_from_is_err_and r.result r.ensures.1) _ (past_degrees s c.requires.0 c.requires.1
    (c.in_ok-refuse_first.ensures _ c.first_bad-bad_break.ensures)
    (c.in_ok-refuse_first-2.ensures _ (c.end_of.ensures _ _ c.first_bad-long_span.ensures))
    (c.in_ok-refuse_first-3.ensures _ c.first_bad-bad_degree.ensures)
    ∙ first_stops 5 _ (from_parts s) (c.in_err-refuse_first-4.ensures _ c.first_bad-bad_order.ensures))

pub first_bad-long_part-requires-clause-n_bound : goal.first_bad-long_part-requires-clause-n_bound
unfolding entries
first_bad-long_part-requires-clause-n_bound c = omega arith

pub returns : goal.returns
returns c =
    let s : Space = space c.args.breaks.now c.args.degrees.now c.args.orders.now in
    c.refuse_first-5.ensures _ c.first_bad-long_part.ensures
    ∙ first_passed 15 (long_part s) (answer s) (sym (answer_passed (answer s) refl))
    ∙ sym (ap passed (past_orders s c.requires.0 c.requires.1
    (c.in_ok-refuse_first.ensures _ c.first_bad-bad_break.ensures)
    (c.in_ok-refuse_first-2.ensures _ (c.end_of.ensures _ _ c.first_bad-long_span.ensures))
    (c.in_ok-refuse_first-3.ensures _ c.first_bad-bad_degree.ensures)
    (c.in_ok-refuse_first-4.ensures _ c.first_bad-bad_order.ensures)))
