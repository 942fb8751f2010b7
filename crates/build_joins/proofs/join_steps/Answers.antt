-- The turn lays the next segment's rows and takes the orders at join j.
use mathlib.Core.Path.{◌≡◌, sym, ◌∙◌, ap, ap₂, subst}
use mathlib.Core.Logic.{◌⊎◌}
use mathlib.Core.List.{List, ◌++◌, append-nil}
use Prim.Native.Nat.{ℕ, suc, ◌+◌, ◌-◌}
use native.Mathlib.Omega.{arith}
use native.Mathlib.Numerals.{add-one}
use lib.IntN.{ℤ}
use lib.ListN.{take, take-append-drop}
use Rattle.std.specs.Prelude.{Result, Ok, Err}
use Rattle.base_outcome.specs.Machine.{refused}
use Rattle.base_outcome.specs.Outcome.{answer, repeat}
use Rattle.spec_spline.specs.Space.{segments, degree, first_column, condition_count, conditions_before, row_count}
use Rattle.spec_spline.specs.Table.{identity}
use Rattle.spec_spline.specs.Build.{order_steps, join_steps, weights}
use Rattle.build_space.specs.Machine.{space}
use Rattle.spec_spline.proofs.Space.{first_column_mono}
use Rattle.build_space.proofs.Bounds.{first-column-zero, first-column-next, conditions-before-zero}
use Rattle.build_space.proofs.Legal.{legal_row-count-sum}
use Rattle.build_cells.specs.Held.{Holds}
use Rattle.build_factors.specs.Machine.{code_of, refusal_of}
use Rattle.build_factors.specs.declared.StepRefusal.{StepRefusal}
use Rattle.build_factors.proofs.Answers.{code_named}
use Rattle.build_step.specs.Leaves.{Leaves}
use Rattle.build_joins.specs.Leaves.{told_joins, grown}
use Rattle.build_step.proofs.Stepped.{Proper}
use Rattle.build_joins.proofs.Grown.{first_proper}
use Rattle.build_step.proofs.Leaving.{leaves_ok, leaves_err}
use Rattle.build_joins.proofs.Joins.{at_join}
use Rattle.build_step.proofs.Orders.{orders_refuse}
use Rattle.build_step.proofs.Repeated.{holds, goes_on_lem, ends, all_done}
use Rattle.build_joins.proofs.Turns.{later-none}
use Rattle.build_joins.proofs.join_steps.Invariants.{Inv}
use Rattle.build_joins.proofs.join_steps.Goals as goal

module _ {b d o num₀ den₀ num dens : List ℤ} {columns rows j : ℕ} (inv : Inv b d o num₀ den₀ columns num dens rows j) where
  proper : Proper inv.state.reached rows columns
  proper = subst (λ (n : ℕ). Proper inv.state.reached n columns) (omega (arith, inv.rows_are)) inv.state.sound

  held : Holds num dens inv.state.reached
  held = holds _ _ _ inv.begun.holds.num_long inv.begun.holds.den_long inv.state

  -- the steps of the orders of join j
  counted : {n : ℕ} (r : Result (Unit {0}) StepRefusal) (num' den' : List ℤ) → n ≡ condition_count (space b d o) j
      → Leaves (order_steps (space b d o) j n (grown (space b d o) j columns inv.state.reached)) r num dens num' den'
      → Leaves (order_steps (space b d o) j (condition_count (space b d o) j)
      (grown (space b d o) j columns inv.state.reached)) r num dens num' den'
  counted r num' den' e left = subst
      (λ n. Leaves (order_steps (space b d o) j n (grown (space b d o) j columns inv.state.reached)) r num dens num' den') e left

-- a step's refusal by its number
code_is : {reason : StepRefusal} {q code : ℕ} → q ≡ code_of reason
    → ◌≡◌ {A = Result (Unit {0}) StepRefusal} (Err reason) (Err (refusal_of code)) → (code ≡ 8) ⊎ (code ≡ 9) → q ≡ code
code_is {reason} {q} {code} e h w = e ∙ ap code_of (let z : reason ≡ refusal_of code = cc in z) ∙ code_named w

pub loop-j-init : goal.loop-j-init
unfolding repeat
loop-j-init c =
    let b = c.requires.start in
    let s = space c.args.breaks.now c.args.degrees.now c.args.orders.now in
    let n = c.args.columns in
    let first_rows : c.degree_at-rows.result + 1 ≡ first_column s 1 =
    omega (arith, c.degree_at-rows.ensures, first-column-zero s, first-column-next s 0) in
    record {
      rows_are = omega (arith, conditions-before-zero s, first_rows);
      part = c.requires.part;
      begun = b;
      state = record {
        reached = take (first_column s 1) (identity n);
        answers = ap (λ n. answer (identity n)) (sym b.count) ∙ ap answer (sym (take-append-drop (first_column s 1) (identity n)));
        sound = subst (λ (k : ℕ). Proper (take (first_column s 1) (identity n)) k n)
            (let z : first_column s 1 ≡ first_column s 1 - conditions_before s 0 = omega (arith, conditions-before-zero s) in z)
            (first_proper (first_column s 1) n
            (omega (arith, first_column_mono s 1 (segments s) (omega (arith, c.requires.part.lists.order-count)), b.count)) b.room);
        num_is = b.holds.num_is;
        den_is = b.holds.den_is;
      };
    }

pub join_step-requires : goal.join_step-requires
join_step-requires c =
    let v = c.loop-j.invariant in
    let here = at_join _ _ _ c.requires.part c.loop-j.j c.loop-j-test.true _ _ _ _ c.join_at-join.ensures c.condition_count-n.ensures
    c.requires.start.count c.requires.start.room v.rows_are in
    record {
      steps = record {
        few = here.enough;
        fits = here.fitting;
        held = record { table = v.state.reached; holds = held v; shaped = (proper v).shaped };
      };
      growth = record { low = here.low; wide = here.wide };
    }

pub returns-in-Err : goal.returns-in-Err
unfolding weights join_steps
returns-in-Err c =
    let v = c.loop-j.invariant in
    let s = space c.args.breaks.now c.args.degrees.now c.args.orders.now in
    let j = c.loop-j.j in
    let here = at_join _ _ _ c.requires.part j c.loop-j-test.true _ _ _ _ c.join_at-join.ensures c.condition_count-n.ensures
    c.requires.start.count c.requires.start.room v.rows_are in
    let left = counted v (Err c.in-Err.refusal) c.join_step.new.num c.join_step.new.den c.condition_count-n.ensures
    (c.in-Err.ensures s j v.state.reached here.is (held v) (proper v).shaped) in
    let x = leaves_err _ left in
    let p = orders_refuse s j (condition_count s j) (grown s j c.args.columns v.state.reached) x.code x.place x.refuses in
    ends _ _ _ v.begun.holds.num_long v.begun.holds.den_long v.state here.before_last (told_joins (row_count s)) x
    (ap₂ (λ q i. Err (refused q i)) (code_is c.code.ensures x.told_is p.0) (c.place-place.ensures ∙ sym p.1))

pub overflow_add-rows-in-loop-j : goal.overflow_add-rows-in-loop-j
overflow_add-rows-in-loop-j c =
    let s = space c.args.breaks.now c.args.degrees.now c.args.orders.now in
    let here = at_join _ _ _ c.requires.part c.loop-j.j c.loop-j-test.true _ _ _ _ c.join_at-join.ensures c.condition_count-n.ensures
    c.requires.start.count c.requires.start.room c.loop-j.invariant.rows_are in
    omega (arith, c.degree_at-more.ensures, ap (degree s) (add-one c.loop-j.j), here.is.right_is.degree_is, here.low)

pub overflow_sub-rows : goal.overflow_sub-rows
overflow_sub-rows c =
    let here = at_join _ _ _ c.requires.part c.loop-j.j c.loop-j-test.true _ _ _ _ c.join_at-join.ensures c.condition_count-n.ensures
    c.requires.start.count c.requires.start.room c.loop-j.invariant.rows_are in
    omega (arith, here.enough)

pub loop-j-preserved : goal.loop-j-preserved
loop-j-preserved c =
    let v = c.loop-j.invariant in
    let s = space c.args.breaks.now c.args.degrees.now c.args.orders.now in
    let j = c.loop-j.j in
    let here = at_join _ _ _ c.requires.part j c.loop-j-test.true _ _ _ _ c.join_at-join.ensures c.condition_count-n.ensures
    c.requires.start.count c.requires.start.room v.rows_are in
    let left = counted v (Ok c.in_default.field-0) c.join_step.new.num c.join_step.new.den c.condition_count-n.ensures
    (c.in_default.ensures s j v.state.reached here.is (held v) (proper v).shaped) in
    record {
      rows_are = omega (arith, here.next, c.degree_at-more.ensures, ap (degree s) (add-one j), here.is.right_is.degree_is);
      part = v.part;
      begun = v.begun;
      state = goes_on_lem _ _ _ v.begun.holds.num_long v.begun.holds.den_long v.state here.before_last (leaves_ok _ left);
    }

-- every join: the rows are counted
pub returns : goal.returns
unfolding weights join_steps
returns c =
    let l = c.loop-j in
    let p = c.requires.part.lists in
    let s = space c.args.breaks.now c.args.degrees.now c.args.orders.now in
    let x = l.invariant.state in
    let e : l.j ≡ segments s - 1 = omega (arith, p.order-count) in
    let last : suc l.j ≡ segments s = omega (arith, p.order-count) in
    all_done _ _ _ (told_joins (row_count s)) x e
    (ap (λ r. x.reached ++ r) (later-none s c.args.columns l.j c.requires.start.count last) ∙ append-nil x.reached)
    (ap Ok (omega (arith, l.invariant.rows_are, legal_row-count-sum _ _ _ p, ap (conditions_before s) e, ap (first_column s) last)))
