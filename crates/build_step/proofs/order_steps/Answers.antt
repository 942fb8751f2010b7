-- The order k is the next step of the table after the orders below k.
use mathlib.Core.Path.{◌≡◌, refl, subst}
use Prim.Native.Nat.{ℕ, ◌-◌}
use native.Mathlib.Omega.{arith}
use Rattle.std.proofs.lemmas.Result.{err_from_is_err_and}
use Rattle.base_outcome.specs.Outcome.{repeat}
use Rattle.spec_spline.specs.Build.{order_steps}
use Rattle.build_step.specs.Leaves.{told_step}
use Rattle.build_step.proofs.Stepped.{Proper}
use Rattle.build_step.proofs.Leaving.{leaves_ok, leaves_err}
use Rattle.build_step.proofs.Repeated.{holds, goes_on_lem, ends, all_done}
use Rattle.build_step.proofs.order_steps.Goals as goal

pub loop-k-init : goal.loop-k-init
unfolding repeat
loop-k-init c s j t is h shaped = record {
  reached = t;
  answers = refl;
  sound = subst (λ (m : ℕ). Proper t m c.args.columns) (let z : c.args.rows ≡ c.args.rows - 0 = omega arith in z)
      (record { shaped = shaped; fit = h.fit });
  num_is = h.num_is;
  den_is = h.den_is;
}

pub step-requires : goal.step-requires
step-requires c =
    let f = c.requires.fits c.loop-k.k c.loop-k-test.true in
    let k = c.requires.held in
    let x = c.loop-k.invariant f.space f.index k.table f.is k.holds k.shaped in
    record {
      fits = f;
      held = record {
        table = x.reached;
        holds = holds _ _ _ k.holds.num_long k.holds.den_long x;
        shaped =
            x.sound.shaped;
      };
    }

pub returns-in_err-step : goal.returns-in_err-step
unfolding order_steps
returns-in_err-step c s j t is h shaped =
    let p = err_from_is_err_and c.from_residual.result c.from_residual.ensures.1 in
    let st = c.loop-k.invariant s j t is h shaped in
    let x = leaves_err _ (c.in_err-step.ensures s j st.reached is (holds _ _ _ h.num_long h.den_long st) st.sound.shaped) in
    rw (p.1, p.2) (ends _ _ _ h.num_long h.den_long st c.loop-k-test.true told_step x x.told_is)

pub loop-k-preserved : goal.loop-k-preserved
loop-k-preserved c s j t is h shaped =
    let st = c.loop-k.invariant s j t is h shaped in
    let left = c.in_ok-step.ensures s j st.reached is (holds _ _ _ h.num_long h.den_long st) st.sound.shaped in
    goes_on_lem _ _ _ h.num_long h.den_long st c.loop-k-test.true (leaves_ok _ left)

pub returns : goal.returns
unfolding order_steps
returns c s j t is h shaped =
    let l = c.loop-k in
    all_done _ _ _ told_step (l.invariant s j t is h shaped) (let z : l.k ≡ c.args.n = omega arith in z) refl refl
