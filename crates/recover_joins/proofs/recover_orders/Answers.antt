-- The order k is the next step of what the orders below k gave.
use mathlib.Core.Path.{◌≡◌, refl, ap, subst}
use Prim.Native.Nat.{ℕ, ◌-◌}
use native.Mathlib.Omega.{arith}
use Rattle.std.proofs.lemmas.Result.{err_from_is_err_and}
use Rattle.std.specs.Prelude.{Ok, Err}
use Rattle.base_outcome.specs.Outcome.{repeat}
use Rattle.build_step.proofs.Repeated.{holds, goes_on_lem, ends, all_done}
use Rattle.spec_calls.specs.Recovery.{recover_orders}
use Rattle.recover_joins.specs.Leaves.{told_coefficients}
use Rattle.recover_joins.proofs.Orders.{leaves_ok, leaves_err, coefficients_told, code_told, Sound}
use Rattle.recover_joins.proofs.recover_orders.Goals as goal

pub loop-k-init : goal.loop-k-init
unfolding repeat
loop-k-init c s j t ps is h shaped e m f = record {
  state = record {
    reached = record { table = t; coefficients = ps };
    answers = refl;
    sound = subst (λ (m : ℕ). Sound (record { table = t; coefficients = ps }) m c.args.columns)
        (let z : c.args.rows ≡ c.args.rows - 0 = omega arith in z)
        (record { proper = record { shaped = shaped; fit = h.fit }; count = m; fit = f });
    num_is = h.num_is;
    den_is = h.den_is;
  };
  is = e;
}

pub recover_step-requires : goal.recover_step-requires
recover_step-requires c =
    let p = c.requires in
    let f = p.steps.fits c.loop-k.k c.loop-k-test.true in
    let k = p.steps.held in
    let n = p.coefficients in
    let x = c.loop-k.invariant f.space f.index k.table n.of f.is k.holds k.shaped n.is n.count n.fit in
    let y = x.state.sound in
    record {
      fits = f;
      held = record {
        table = x.state.reached.table;
        holds = holds _ _ _ k.holds.num_long k.holds.den_long x.state;
        shaped =
            y.proper.shaped;
      };
      coefficients = record { of = x.state.reached.coefficients; is = x.is; fit = y.fit; long = omega (arith, y.count) };
    }

pub returns-in_err-present : goal.returns-in_err-present
unfolding recover_orders
returns-in_err-present c s j t ps is h shaped e size f =
    let p = err_from_is_err_and c.from_residual.result c.from_residual.ensures.1 in
    let b = c.loop-k.invariant s j t ps is h shaped e size f in
    let x = leaves_err _ (c.in_err-present.ensures s j b.state.reached.table b.state.reached.coefficients is
    (holds _ _ _ h.num_long h.den_long b.state) b.state.sound.proper.shaped b.is b.state.sound.count) in
    rw (p.1, p.2) (ends _ _ _ h.num_long h.den_long b.state c.loop-k-test.true told_coefficients x (ap Err (code_told _ x)))

pub loop-k-preserved : goal.loop-k-preserved
loop-k-preserved c s j t ps is h shaped e size f =
    let b = c.loop-k.invariant s j t ps is h shaped e size f in
    let d = leaves_ok _ (c.in_ok-present.ensures s j b.state.reached.table b.state.reached.coefficients is
    (holds _ _ _ h.num_long h.den_long b.state) b.state.sound.proper.shaped b.is b.state.sound.count) in
    record { state = goes_on_lem _ _ _ h.num_long h.den_long b.state c.loop-k-test.true d; is = coefficients_told _ d }

pub returns : goal.returns
unfolding recover_orders
returns c s j t ps is h shaped e size f =
    let l = c.loop-k in
    let x = l.invariant s j t ps is h shaped e size f in
    all_done _ _ _ told_coefficients x.state (let z : l.k ≡ c.args.n = omega arith in z) refl (ap Ok x.is)
