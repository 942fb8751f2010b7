-- `build_space::row_count` meets its contract: legal joins have fewer conditions than the segments have columns. Assumes nothing.
use borrow.Author.Rules.{rules}
use native.Mathlib.Omega.{arith}
use mathlib.Core.List.{[]}
use mathlib.Core.Path.{◌≡◌, ap, ap₂, ◌∙◌}
use Prim.Native.Nat.{◌-◌}
use lib.ListN.{length}
use Rattle.spec_spline.specs.Space.{Space, column_count, conditions_before}
use Rattle.build_space.specs.Machine.{space}
use Rattle.build_space.proofs.Bounds.{row-count-sum}
use Rattle.build_space.proofs.Partial.{column-count_partial, conditions-before_partial}
use Rattle.build_space.proofs.row_count.Statement.{statement}
use Rattle.build_space.proofs.row_count.Tie as tie

module _ (c : tie.After-conditions_before-conditions) where
  abbrev joined : Space
  joined = space [] c.before.before.args.degrees.now c.before.before.args.orders.now

  columns : c.before.first_column-columns.result ≡ column_count joined
  columns = c.before.first_column-columns.ensures ∙ column-count_partial [] joined.degrees joined.orders

  conditions : c.conditions_before-conditions.result ≡ conditions_before joined (length joined.degrees - 1)
  conditions = c.conditions_before-conditions.ensures ∙ conditions-before_partial [] joined.degrees joined.orders (length joined.orders)
      ∙ ap (conditions_before joined) (let e : length joined.orders ≡ length joined.degrees - 1 = omega (arith, c.before.before.requires.count) in e)

pub row_count_spec : {M : Type 1} → statement M
row_count_spec =
    tie.close (tie.spec (λ c κs. search rules) (λ c κs. search rules)
    (λ c. omega (arith, columns c, conditions c, row-count-sum (joined c) c.before.before.requires))
    (λ c. ap₂ ◌-◌ (columns c) (conditions c)))
