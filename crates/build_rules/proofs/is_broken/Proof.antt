-- `build_rules::is_broken` meets its contract: the rule names the test, which reads only the lists that it needs. Assumes nothing.
use borrow.Author.Rules.{rules}
use mathlib.Core.Path.{◌≡◌, sym, ap, subst, ◌∙◌}
use Prim.Native.Nat.{◌<◌}
use Rattle.spec_spline.specs.Space.{Space}
use Rattle.build_space.specs.Machine.{space}
use Rattle.build_space.proofs.Partial.{bad-break_partial, bad-degree_partial, bad-order_partial, too_many_segments_partial}
use Rattle.build_rules.specs.declared.Rule.{Rule}
use Rattle.build_rules.specs.Rules.{broken, entries}
use Rattle.build_rules.proofs.is_broken.Statement.{statement}
use Rattle.build_rules.proofs.is_broken.Tie as tie

abbrev lists : tie.Start → Space
lists s = space s.args.breaks.now s.args.degrees.now s.args.orders.now

-- the entry is one of the rule's, and the test is the rule's
module _ (s : tie.Start) {r : Rule} (e : s.args.rule ≡ r) where
  entry : s.args.i < entries r (lists s)
  entry = subst (λ q. s.args.i < entries q (lists s)) e s.requires.1

  test : broken r (lists s) s.args.i ≡ broken s.args.rule (lists s) s.args.i
  test = ap (λ q. broken q (lists s) s.args.i) (sym e)

break-is-bad-requires : tie.Need-break_is_bad-requires
unfolding entries
break-is-bad-requires c κs = entry c.before c.in-Breakpoint.is

span-is-too-long-requires : tie.Need-span_is_too_long-requires
unfolding entries
span-is-too-long-requires c κs = (entry c.before c.in-Span.is, c.before.requires.0)

degree-is-bad-requires : tie.Need-degree_is_bad-requires
unfolding entries
degree-is-bad-requires c κs = entry c.before c.in-Degree.is

order-is-bad-requires : tie.Need-order_is_bad-requires
unfolding entries
order-is-bad-requires c κs = (entry c.before c.in-Order.is, c.before.requires.0.0)

part-is-too-long-requires : tie.Need-part_is_too_long-requires
unfolding entries
part-is-too-long-requires c κs = (entry c.before c.in-Segments.is, c.before.requires.0.0)

returns : tie.Need-returns-in-Breakpoint
unfolding broken
returns c =
    let s = c.before.before in
    c.break_is_bad.ensures ∙ bad-break_partial _ _ _ _ ∙ test s c.before.in-Breakpoint.is

returns-2 : tie.Need-returns-in-Span
unfolding broken
returns-2 c = let s = c.before.before in c.span_is_too_long.ensures ∙ test s c.before.in-Span.is

returns-3 : tie.Need-returns-in-Degree
unfolding broken
returns-3 c =
    let s = c.before.before in
    c.degree_is_bad.ensures ∙ bad-degree_partial _ _ _ _ ∙ test s c.before.in-Degree.is

returns-4 : tie.Need-returns-in-Order
unfolding broken
returns-4 c =
    let s = c.before.before in
    c.order_is_bad.ensures ∙ bad-order_partial _ _ _ _ ∙ test s c.before.in-Order.is

returns-5 : tie.Need-returns-in-Segments
unfolding broken
returns-5 c =
    let s = c.before.before in
    c.part_is_too_long.ensures ∙ too_many_segments_partial _ _ _ _ ∙ test s c.before.in-Segments.is

pub is_broken_spec : {M : Type 1} → statement M
is_broken_spec =
    tie.close (tie.spec (λ c. search rules) break-is-bad-requires (λ c. search rules) span-is-too-long-requires (λ c. search rules)
    degree-is-bad-requires (λ c. search rules) order-is-bad-requires (λ c. search rules) part-is-too-long-requires returns returns-2
    returns-3 returns-4 returns-5)
