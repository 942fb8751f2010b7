-- The turn brings the rows and coefficients of the next segment in and takes the orders at join j.
use mathlib.Core.Path.{◌≡◌, refl, sym, ◌∙◌, ap, ap₂, subst}
use mathlib.Core.List.{List, [], ◌++◌, map, append-nil}
use Prim.Native.Nat.{ℕ, suc, ◌-◌, ◌≤◌}
use native.Mathlib.Omega.{arith}
use native.Mathlib.Numerals.{add-one}
use lib.IntN.{ℤ}
use lib.ListN.{take, drop, take-append-drop, drop_of_length-le}
use Rattle.std.specs.Prelude.{Result, Ok, Err}
use Rattle.base_exact.specs.Rational.{ℚ, int}
use Rattle.base_fraction.specs.Fractions.{fractions}
use Rattle.base_fraction.specs.declared.arrays.Fractions.{Fractions}
use Rattle.base_outcome.specs.Machine.{refused}
use Rattle.base_outcome.specs.Outcome.{answer, repeat}
use Rattle.spec_spline.specs.Space.{segments, degree, first_column, condition_count, conditions_before, row_count}
use Rattle.spec_spline.specs.Table.{Table, identity}
use Rattle.build_space.specs.Machine.{space}
use Rattle.build_space.proofs.Bounds.{conditions-before-zero}
use Rattle.build_space.proofs.Legal.{legal_row-count-sum}
use Rattle.build_cells.specs.Held.{Holds}
use Rattle.build_joins.proofs.Grown.{first_proper}
use Rattle.build_joins.proofs.Joins.{beginning, at_join}
use Rattle.build_step.proofs.Repeated.{holds, goes_on_lem, ends, all_done}
use Rattle.build_joins.proofs.Turns.{later-none}
use Rattle.spec_calls.specs.Recovery.{recover_orders, recover_joins, recovered}
use Rattle.theorems_recovery.proofs.Refusals.{orders_stop}
use Rattle.recover_joins.specs.Leaves.{told_joins, Leaves, grown_combination}
use Rattle.recover_joins.proofs.Orders.{leaves_ok, leaves_err, coefficients_told, code_told, Sound}
use Rattle.recover_joins.proofs.Turns.{map-append, columns-fit, columns-count}
use Rattle.recover_joins.proofs.recover_joins.Invariants.{Inv}
use Rattle.recover_joins.proofs.recover_joins.Goals as goal

module _ {b d o os num₀ den₀ num dens : List ℤ} {columns rows j : ℕ} {present : Fractions}
    (inv : Inv b d o os num₀ den₀ columns num dens rows present j) where
  sound : Sound inv.state.reached rows columns
  sound = subst (λ (n : ℕ). Sound inv.state.reached n columns) (omega (arith, inv.rows_are)) inv.state.sound

  held : Holds num dens inv.state.reached.table
  held = holds _ _ _ inv.begun.holds.num_long inv.begun.holds.den_long inv.state

  -- the steps of the orders of join j
  counted : {n : ℕ} (r : Result Fractions ℕ) (num' den' : List ℤ) → n ≡ condition_count (space b d o) j
      → Leaves (recover_orders (space b d o) j n (grown_combination (space b d o) j columns os inv.state.reached)) r num dens num' den'
      → Leaves (recover_orders (space b d o) j (condition_count (space b d o) j)
      (grown_combination (space b d o) j columns os inv.state.reached)) r num dens num' den'
  counted r num' den' e left = subst
      (λ n. Leaves (recover_orders (space b d o) j n
      (grown_combination (space b d o) j columns os inv.state.reached)) r num dens num' den') e left

-- ---- before the first join

pub append-present-requires : goal.append-present-requires
append-present-requires c =
    let p = c.requires in
    let b = beginning _ _ _ p.part _ _ p.start.count c.degree_at-rows.ensures in
    (omega (arith, b.rows_few, p.start.room), omega (arith, b.rows_few, p.given.count))

pub loop-j-init : goal.loop-j-init
unfolding repeat
loop-j-init c =
    let b = c.requires.start in
    let begun = beginning _ _ _ c.requires.part _ _ b.count c.degree_at-rows.ensures in
    let s = space c.args.breaks.now c.args.degrees.now c.args.orders.now in
    let n = c.args.columns in
    let os = c.args.ordinates.now in
    let m = first_column s 1 in
    let few : m ≤ n = omega (arith, begun.rows_are, begun.rows_few) in
    record {
      rows_are = omega (arith, conditions-before-zero s, begun.rows_are);
      part = c.requires.part;
      begun = b;
      given = c.requires.given.count;
      fit = c.requires.given.fit;
      state = record {
        reached = record { table = take m (identity n); coefficients = map int (take m os) };
        answers =
            ap (λ n. answer (record { table = identity n; coefficients = map int os })) (sym b.count)
            ∙ ap₂ (λ (t : Table) (ps : List ℚ). answer (record { table = t; coefficients = ps })) (sym (take-append-drop m (identity n)))
            (ap (map int) (sym (take-append-drop m os)) ∙ map-append (take m os) (drop m os));
        sound = subst (λ (k : ℕ). Sound (record { table = take m (identity n); coefficients = map int (take m os) }) k n)
            (let z : m ≡ m - conditions_before s 0 = omega (arith, conditions-before-zero s) in z) (record {
              proper = first_proper m n few b.room;
              count = columns-count os 0 m (omega (arith, few, c.requires.given.count));
              fit = columns-fit os 0 m c.requires.given.fit;
            });
        num_is = b.holds.num_is;
        den_is = b.holds.den_is;
      };
      is = c.append-present.ensures [] c.no_fractions.ensures refl ∙ ap (λ k. fractions (map int (take k os))) begun.rows_are;
    }

-- ---- the turn at join j

pub recover_join-requires : goal.recover_join-requires
recover_join-requires c =
    let v = c.loop-j.invariant in
    let here = at_join _ _ _ v.part c.loop-j.j c.loop-j-test.true _ _ _ _ c.join_at-join.ensures c.condition_count-n.ensures
    v.begun.count v.begun.room v.rows_are in
    let p = sound v in
    record {
      steps = record {
        few = here.enough;
        fits = here.fitting;
        held = record { table = v.state.reached.table; holds = held v; shaped = p.proper.shaped };
      };
      coefficients = record { of = v.state.reached.coefficients; is = v.is; fit = p.fit; count = p.count };
      growth = record { low = here.low; wide = here.wide };
      given = record { count = v.given; fit = v.fit };
    }

pub returns-in-Err : goal.returns-in-Err
unfolding recovered recover_joins
returns-in-Err c =
    let v = c.loop-j.invariant in
    let s = space c.args.breaks.now c.args.degrees.now c.args.orders.now in
    let j = c.loop-j.j in
    let here = at_join _ _ _ v.part j c.loop-j-test.true _ _ _ _ c.join_at-join.ensures c.condition_count-n.ensures v.begun.count
    v.begun.room v.rows_are in
    let p = sound v in
    let x = leaves_err _ (counted v (Err c.in-Err.code) c.recover_join.new.num c.recover_join.new.den c.condition_count-n.ensures
    (c.in-Err.ensures s j v.state.reached.table v.state.reached.coefficients here.is (held v) p.proper.shaped v.is p.count p.fit)) in
    let q = orders_stop s j (condition_count s j) _ x.code x.place x.refuses in
    ends _ _ _ v.begun.holds.num_long v.begun.holds.den_long v.state here.before_last (told_joins (row_count s)) x
    (ap₂ (λ n i. Err (refused n i)) (code_told _ x) (c.place-place.ensures ∙ sym q.1))

pub overflow_add-rows-in-loop-j : goal.overflow_add-rows-in-loop-j
overflow_add-rows-in-loop-j c =
    let v = c.loop-j.invariant in
    let here = at_join _ _ _ v.part c.loop-j.j c.loop-j-test.true _ _ _ _ c.join_at-join.ensures c.condition_count-n.ensures
    v.begun.count v.begun.room v.rows_are in
    let s = space c.args.breaks.now c.args.degrees.now c.args.orders.now in
    omega (arith, c.degree_at-more.ensures, ap (degree s) (add-one c.loop-j.j), here.is.right_is.degree_is, here.low)

pub overflow_sub-rows : goal.overflow_sub-rows
overflow_sub-rows c =
    let v = c.loop-j.invariant in
    let here = at_join _ _ _ v.part c.loop-j.j c.loop-j-test.true _ _ _ _ c.join_at-join.ensures c.condition_count-n.ensures
    v.begun.count v.begun.room v.rows_are in
    omega (arith, here.enough)

pub loop-j-preserved : goal.loop-j-preserved
loop-j-preserved c =
    let v = c.loop-j.invariant in
    let here = at_join _ _ _ v.part c.loop-j.j c.loop-j-test.true _ _ _ _ c.join_at-join.ensures c.condition_count-n.ensures
    v.begun.count v.begun.room v.rows_are in
    let s = space c.args.breaks.now c.args.degrees.now c.args.orders.now in
    let p = sound v in
    let d = leaves_ok _ (counted v (Ok c.in-Ok.next) c.recover_join.new.num c.recover_join.new.den c.condition_count-n.ensures
    (c.in-Ok.ensures s c.loop-j.j v.state.reached.table v.state.reached.coefficients here.is
    (held v) p.proper.shaped v.is p.count p.fit)) in
    record {
      rows_are = omega (arith, here.next, c.degree_at-more.ensures, ap (degree s) (add-one c.loop-j.j), here.is.right_is.degree_is);
      part = v.part;
      begun = v.begun;
      given = v.given;
      fit = v.fit;
      state = goes_on_lem _ _ _ v.begun.holds.num_long v.begun.holds.den_long v.state here.before_last d;
      is = coefficients_told _ d;
    }

-- every join: the rows are counted, and all coefficients have come in
pub returns : goal.returns
unfolding recovered recover_joins
returns c =
    let l = c.loop-j in
    let p = c.requires.part.lists in
    let s = space c.args.breaks.now c.args.degrees.now c.args.orders.now in
    let x = l.invariant.state in
    let os = c.args.ordinates.now in
    let e : l.j ≡ segments s - 1 = omega (arith, p.order-count) in
    let last : suc l.j ≡ segments s = omega (arith, p.order-count) in
    let none : drop (first_column s (suc l.j)) os ≡ [] = drop_of_length-le os {i = first_column s (suc l.j)}
    (omega (arith, c.requires.given.count, l.invariant.begun.count, ap (first_column s) last)) in
    all_done _ _ _ (told_joins (row_count s)) x e
    (ap₂ (λ (t : Table) (ps : List ℚ). record { table = x.reached.table ++ t; coefficients = x.reached.coefficients ++ ps })
    (later-none s c.args.columns l.j l.invariant.begun.count last) (ap (map int) none)
    ∙ ap₂ (λ (t : Table) (ps : List ℚ). record { table = t; coefficients = ps }) (append-nil x.reached.table)
    (append-nil x.reached.coefficients))
    (ap₂ (λ (n : ℕ) (a : Fractions). Ok (record { rows = n; of = a })) (omega
    (arith, l.invariant.rows_are, legal_row-count-sum _ _ _ p, ap (conditions_before s) e, ap (first_column s) last)) l.invariant.is)
