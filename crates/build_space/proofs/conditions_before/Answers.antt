-- Legal orders keep the sum small.
use Rattle.std.proofs.Common.{[], sym, ap, arith}
use native.Mathlib.Numerals.{add-one}
use Rattle.spec_spline.specs.Space.{conditions_before}
use Rattle.build_space.specs.Machine.{space}
use Rattle.build_space.proofs.Bounds.{condition_count-high, conditions-before-zero, conditions-before-next, conditions-before-high}
use Rattle.build_space.proofs.conditions_before.Goals as goal

pub loop-k-init : goal.loop-k-init
loop-k-init c = sym (conditions-before-zero _)

pub overflow_add-count : goal.overflow_add-count
overflow_add-count c =
    let s = space [] [] c.args.orders.now in
    let legal = c.requires.1.1 in
    let k = c.loop-k.k in
    let count = condition_count-high s legal k (omega arith) in
    omega (arith, c.condition_count-count.ensures, count, conditions-before-high s legal k (omega arith))

pub loop-k-preserved : goal.loop-k-preserved
loop-k-preserved c =
    let s = space [] [] c.args.orders.now in
    let k = c.loop-k.k in
    omega (arith, c.condition_count-count.ensures, conditions-before-next s k, ap (conditions_before s) (add-one k))
