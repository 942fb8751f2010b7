-- `curve_segments::starts_at_discontinuity` meets its contract: the first segment starts at no join, any other at the join before
-- it. Assumes nothing.
use borrow.Author.Rules.{rules}
use mathlib.Core.Bool.{false}
use mathlib.Core.List.{List, []}
use mathlib.Core.Path.{◌≡◌, refl, ap, ◌∙◌}
use Prim.Native.Nat.{ℕ, zero, suc, ◌-◌}
use native.Mathlib.Omega.{arith}
use lib.IntN.{ℤ}
use Rattle.spec_spline.specs.Space.{is_discontinuity}
use Rattle.spec_spline.specs.Reading.{starts_at_discontinuity}
use Rattle.build_space.specs.Machine.{space}
use Rattle.curve_segments.proofs.starts_at_discontinuity.Statement.{statement}
use Rattle.curve_segments.proofs.starts_at_discontinuity.Tie as tie

-- the first segment
at_first : (orders : List ℤ) (i : ℕ) → i ≡ 0 → false ≡ starts_at_discontinuity (space [] [] orders) i
unfolding starts_at_discontinuity
at_first orders zero e = refl
at_first orders (suc i) e = absurd (omega arith)

-- a later one
after_first : (orders : List ℤ) (i j : ℕ) → suc j ≡ i
    → is_discontinuity (space [] [] orders) j ≡ starts_at_discontinuity (space [] [] orders) i
unfolding starts_at_discontinuity
after_first orders i j e = ap (starts_at_discontinuity (space [] [] orders)) e

returns : tie.Need-returns-then-i-eq0
returns c = at_first c.before.args.orders.now c.before.args.i (omega arith)

returns-2 : tie.Need-returns
returns-2 c = let a = c.before.before.args in c.is_discontinuity.ensures ∙ after_first a.orders.now a.i (a.i - 1) (omega arith)

pub starts_at_discontinuity_spec : {M : Type 1} → statement M
starts_at_discontinuity_spec = tie.close (tie.spec returns (λ c. search rules) (λ c κs. search rules) returns-2)
