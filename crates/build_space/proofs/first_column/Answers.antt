-- A segment has a column more than its degree, and legal degrees keep the sum small.
use Rattle.std.proofs.Common.{[], sym, ap, arith}
use native.Mathlib.Numerals.{add-one}
use Rattle.spec_spline.specs.Space.{first_column}
use Rattle.build_space.specs.Machine.{space}
use Rattle.build_space.proofs.Bounds.{degree-high, first-column-zero, first-column-high, first-column-next}
use Rattle.build_space.proofs.first_column.Goals as goal

pub loop-k-init : goal.loop-k-init
loop-k-init c = sym (first-column-zero _)

pub overflow_add-column-in-loop-k : goal.overflow_add-column-in-loop-k
overflow_add-column-in-loop-k c =
    let s = space [] c.args.degrees.now [] in
    let legal = c.requires.1.1 in
    let k = c.loop-k.k in
    omega (arith, c.degree_at.ensures, degree-high s legal k (omega arith), first-column-high s legal k (omega arith))

pub loop-k-preserved : goal.loop-k-preserved
loop-k-preserved c =
    let s = space [] c.args.degrees.now [] in
    let k = c.loop-k.k in
    omega (arith, c.degree_at.ensures, first-column-next s k, ap (first_column s) (add-one k))
