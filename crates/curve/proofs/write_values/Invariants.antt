-- Below 2 k stand the pairs of the first k positions, from there on what the cells held.
use Rattle.std.proofs.Common.{◌≡◌, ◌*◌, ◌<◌, ◌++◌, length, get_or, drop, pos}
use Rattle.base_exact.specs.Tabulate.{tab}
use Rattle.spec_spline.specs.Reading.{side_by_side}
use Rattle.build_space.specs.Machine.{space}
use Rattle.curve.specs.Pairs.{pair_of}
use Rattle.curve.proofs.write_values.Given as goal

abbrev pub invariant-loop-k : goal.invariant-loop-k
invariant-loop-k l = let s = space l.breaks l.degrees l.orders in record {
  segment : l.at < length l.degrees;
  written : l.values ≡ side_by_side (tab l.k (λ j. pair_of s l.earlywood l.latewood (get_or l.positions j (pos 0))))
      ++ drop (2 * l.k) l.fn.values;
}
