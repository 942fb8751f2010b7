-- The machine's rules, each as the test of the definitions and the number of its entries.
use Rattle.std.specs.Prelude.{Bool, ℕ, length}
use Rattle.spec_spline.specs.Space.{Space, segments, bad_break, span_too_long, bad_degree, bad_order, too_many_segments}
use Rattle.build_rules.specs.declared.Rule.{Rule}
use Rattle.build_rules.specs.declared.Rule.TheVariants.{Breakpoint, Span, Degree, Order, Segments}

-- Entry i breaks the rule.
unfoldable pub broken : Rule → Space → ℕ → Bool
broken Breakpoint s = bad_break s
broken Span s = span_too_long s
broken Degree s = bad_degree s
broken Order s = bad_order s
broken Segments s = too_many_segments s

-- How many entries there are: breakpoints, orders, or segments.
unfoldable pub entries : Rule → Space → ℕ
entries Breakpoint s = length s.breaks
entries Span s = segments s
entries Degree s = segments s
entries Order s = length s.orders
entries Segments s = segments s
