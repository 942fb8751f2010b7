-- The rows of the segment on the right are laid after the table's, and the orders are then its steps.
use mathlib.Core.Path.{◌≡◌, ap₂, subst}
use mathlib.Core.List.{List, ◌++◌}
use Prim.Native.Nat.{ℕ, ◌+◌}
use native.Mathlib.Omega.{arith}
use lib.IntN.{ℤ}
use lib.ListN.{take, drop}
use Rattle.spec_spline.specs.Table.{Table, identity, numerators, denominators}
use Rattle.spec_spline.specs.Build.{order_steps}
use Rattle.build_cells.specs.Held.{Holds, Shaped}
use Rattle.build_conditions.specs.declared.Join.{Join}
use Rattle.build_step.specs.Leaves.{Leaves, told_step}
use Rattle.build_joins.specs.Asks.{JoinAsks}
use Rattle.build_joins.specs.Leaves.{grown}
use Rattle.build_step.proofs.Stepped.{Proper}
use Rattle.build_joins.proofs.Grown.{grown_proper, grown-denominators, grown-holds}
use Rattle.build_cells.proofs.Left.{left_from}
use Rattle.build_joins.proofs.join_step.Goals as goal

-- the table with the rows that came in
abbrev more : Join → ℕ → Table → Table
more join columns t = t ++ take (join.right.degree + 1) (drop join.right.column (identity columns))

module _ {join : Join} {n rows columns : ℕ} {num den : List ℤ} (asks : JoinAsks join n num den rows columns) {t : Table}
    (h : Holds num den t) (shaped : Shaped t rows columns) where
  proper : Proper (more join columns t) (rows + (join.right.degree + 1)) columns
  proper = grown_proper t rows join.right.column (join.right.degree + 1) columns
      (record { shaped = shaped; fit = h.fit }) asks.growth.wide asks.growth.low

  module _ {num' : List ℤ} (num_is : num' ≡ numerators (more join columns t) num) where
    holds : Holds num' den (more join columns t)
    holds = grown-holds t rows _ _ columns (record { shaped = shaped; fit = h.fit }) asks.growth.wide asks.growth.low h num_is

    den_is : den ≡ denominators (more join columns t) den
    den_is = grown-denominators t rows _ _ columns (record { shaped = shaped; fit = h.fit }) asks.growth.wide asks.growth.low h num_is

pub order_steps-requires : goal.order_steps-requires
order_steps-requires c =
    let p = c.requires.steps in
    let k = p.held in
    let num_is = c.add_rows.ensures k.table c.args.columns k.holds.num_is k.shaped.row_count_lem c.requires.growth.wide in
    record {
      few = omega (arith, p.few);
      fits = p.fits;
      held = record {
        table = more c.args.join c.args.columns k.table;
        holds = holds c.requires k.holds k.shaped num_is;
        shaped = (proper c.requires k.holds k.shaped).shaped;
      };
    }

-- it is that of the space
pub returns : goal.returns
returns c s j t is h shaped =
    let n = c.args.columns in
    let u = more c.args.join n t in
    let num_is = c.add_rows.ensures t n h.num_is shaped.row_count_lem c.requires.growth.wide in
    let it : u ≡ grown s j n t = ap₂ (λ m i. t ++ take (m + 1) (drop i (identity n))) is.right_is.degree_is is.right_is.column_is in
    subst (λ (u : Table). Leaves (order_steps s j c.args.n u) c.order_steps.result c.args.num.now c.args.den.now c.order_steps.new.num
    c.order_steps.new.den) it
    (left_from (λ t. t) told_step _ _ _ _ _ u c.args.num.now c.args.den.now h.num_long h.den_long num_is
    (den_is c.requires h shaped num_is)
    (order_steps s j c.args.n u)
    (c.order_steps.ensures s j u is (holds c.requires h shaped num_is) (proper c.requires h shaped).shaped))
