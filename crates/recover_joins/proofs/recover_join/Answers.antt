-- The rows of the segment on the right are laid after the table's, their ordinates after its coefficients, and the orders are then the
-- steps.
use mathlib.Core.Path.{◌≡◌, ◌∙◌, ap₂, subst}
use mathlib.Core.List.{List, ◌++◌, map}
use Prim.Native.Nat.{ℕ, ◌+◌}
use native.Mathlib.Omega.{arith}
use lib.IntN.{ℤ}
use lib.ListN.{length, take, drop, length-append}
use Rattle.base_exact.specs.Rational.{ℚ, int}
use Rattle.base_fraction.specs.declared.arrays.Fractions.{Fractions}
use Rattle.spec_spline.specs.Table.{Table, identity, numerators, denominators}
use Rattle.build_cells.specs.Held.{Holds, Shaped}
use Rattle.build_conditions.specs.declared.Join.{Join}
use Rattle.build_factors.specs.Jumps.{AllFit}
use Rattle.build_cells.proofs.Left.{left_from}
use Rattle.build_step.proofs.Stepped.{Proper}
use Rattle.build_joins.proofs.Grown.{grown_proper, grown-denominators, grown-holds}
use Rattle.spec_calls.specs.Recovery.{Combination, recover_orders}
use Rattle.recover_joins.specs.Asks.{JoinAsks}
use Rattle.recover_joins.specs.Leaves.{told_coefficients, Leaves, grown_combination}
use Rattle.recover_joins.proofs.Turns.{append_fit, columns-fit, columns-count}
use Rattle.recover_joins.proofs.recover_join.Goals as goal

-- the table and the coefficients with those that came in
abbrev more : Join → ℕ → Table → Table
more join columns t = t ++ take (join.right.degree + 1) (drop join.right.column (identity columns))

abbrev coefficients : Join → List ℤ → List ℚ → List ℚ
coefficients join os ps = ps ++ map int (take (join.right.degree + 1) (drop join.right.column os))

module _ {os num den : List ℤ} {join : Join} {n rows columns : ℕ} {cs : Fractions}
    (asks : JoinAsks os join n num den rows columns cs) where
  module _ {t : Table} (h : Holds num den t) (shaped : Shaped t rows columns) where
    proper : Proper (more join columns t) (rows + (join.right.degree + 1)) columns
    proper = grown_proper t rows join.right.column (join.right.degree + 1) columns
        (record { shaped = shaped; fit = h.fit }) asks.growth.wide asks.growth.low

    module _ {num' : List ℤ} (num_is : num' ≡ numerators (more join columns t) num) where
      holds : Holds num' den (more join columns t)
      holds = grown-holds t rows _ _ columns (record { shaped = shaped; fit = h.fit }) asks.growth.wide asks.growth.low h num_is

      den_is : den ≡ denominators (more join columns t) den
      den_is = grown-denominators t rows _ _ columns (record { shaped = shaped; fit = h.fit }) asks.growth.wide asks.growth.low h num_is

  count : (ps : List ℚ) → length ps ≡ rows → length (coefficients join os ps) ≡ rows + (join.right.degree + 1)
  count ps size = length-append ps (map int (take (join.right.degree + 1) (drop join.right.column os)))
      ∙ omega (arith, size, columns-count os join.right.column (join.right.degree + 1) (omega (arith, asks.growth.wide, asks.given.count)))

  all_fit : (ps : List ℚ) → AllFit ps → AllFit (coefficients join os ps)
  all_fit ps fit = append_fit ps (map int (take (join.right.degree + 1) (drop join.right.column os))) fit
      (columns-fit os join.right.column (join.right.degree + 1) asks.given.fit)

pub append-present-requires : goal.append-present-requires
append-present-requires c = let p = c.requires in (p.growth.low, omega (arith, p.growth.wide, p.given.count))

pub recover_orders-requires : goal.recover_orders-requires
recover_orders-requires c =
    let p = c.requires in
    let k = p.steps.held in
    let q = p.coefficients in
    let num_is = c.add_rows.ensures k.table c.args.columns k.holds.num_is k.shaped.row_count_lem p.growth.wide in
    record {
      steps = record {
        few = omega (arith, p.steps.few);
        fits = p.steps.fits;
        held = record {
          table = more c.args.join c.args.columns k.table;
          holds =
              holds p k.holds k.shaped num_is;
          shaped = (proper p k.holds k.shaped).shaped;
        };
      };
      coefficients = record {
        of = coefficients c.args.join c.args.ordinates.now q.of;
        is = c.append-present.ensures q.of q.is q.count;
        fit = all_fit p q.of q.fit;
        count = count p q.of q.count;
      };
    }

-- they are those of the space
pub returns : goal.returns
returns c s j t ps is h shaped e size fit =
    let p = c.requires in
    let g = c.args in
    let num_is = c.add_rows.ensures t g.columns h.num_is shaped.row_count_lem p.growth.wide in
    let it : record {
      table = more g.join g.columns t;
      coefficients =
          coefficients g.join g.ordinates.now ps;
    } ≡ grown_combination s j g.columns g.ordinates.now
    (record { table = t; coefficients = ps })
    = ap₂ (λ k i. record {
      table = t ++ take (k + 1) (drop i (identity g.columns));
      coefficients = ps ++ map int (take (k + 1) (drop i g.ordinates.now));
    }) is.right_is.degree_is is.right_is.column_is in
    subst (λ (r : Combination). Leaves
    (recover_orders s j g.n r) c.recover_orders.result g.num.now g.den.now c.recover_orders.new.num c.recover_orders.new.den) it
    (left_from (λ q. q.table) told_coefficients _ _ _ _ c.recover_orders.result
    (more g.join g.columns t) g.num.now g.den.now h.num_long h.den_long
    num_is (den_is p h shaped num_is)
    (recover_orders s j g.n (record { table = more g.join g.columns t; coefficients = coefficients g.join g.ordinates.now ps }))
    (c.recover_orders.ensures s j (more g.join g.columns t) (coefficients g.join g.ordinates.now ps) is (holds p h shaped num_is)
    (proper p h shaped).shaped
    (c.append-present.ensures ps e size) (count p ps size) (all_fit p ps fit)))
