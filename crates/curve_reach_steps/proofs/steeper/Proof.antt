-- `curve_reach_steps::steeper` meets its contract. Assumes nothing.
use borrow.Author.Rules.{rules}
use native.Mathlib.Omega.{arith}
use lib.IntN.{ℤ, pos, ◌+ℤ◌, ◌-ℤ◌}
use lib.Signed.{◌<ℤ◌, ◌≤ℤ◌}
use mir.Syntax.{w64}
use mir.Val.{SFits}
use Rattle.base_exact.proofs.Integer as Z
use Rattle.base_exact.proofs.Word.{to_z-of_z, to_z_pos, sfits_abs, abs-add, abs_sub, fits-unsigned, lt_z_true, lt_z_false}
use Rattle.curve_reach_steps.proofs.Rises.{rise_more}
use Rattle.curve_reach_steps.proofs.steeper.Statement.{statement}
use Rattle.curve_reach_steps.proofs.steeper.Tie as tie

module _ (c : tie.Start) where
  abbrev low : ℤ
  low = c.args.low

  abbrev high : ℤ
  high = c.args.high

  sum_fits : SFits w64 (low +ℤ pos c.args.rise)
  sum_fits = sfits_abs (omega (arith, abs-add low (pos c.args.rise), c.requires.rise-small, c.requires.low_small))

  difference-fits : SFits w64 (high -ℤ low)
  difference-fits = sfits_abs (omega (arith, abs_sub high low, c.requires.low_small, c.requires.high_small))

add-reached : tie.Need-overflow_add-reached
add-reached c = simp (to_z-of_z, to_z_pos w64 c.args.rise (omega (arith, c.requires.rise-small)), c.ranges.low) (sum_fits c)

-- the rise is more
module _ (c : tie.Then-reached-high) where
  abbrev start : tie.Start
  start = c.before

  more : (low start +ℤ pos start.args.rise) <ℤ high start
  more =
      let p = to_z_pos w64 start.args.rise (omega (arith, start.requires.rise-small)) in
      lt_z_true _ _ (simp (to_z-of_z, p, start.ranges.low, start.ranges.high, sum_fits start) at c.if-reached-high.true)

  above : pos 0 ≤ℤ (high start -ℤ low start)
  above =
      Z.non_neg_le _ (Z.le_sub (low start) (high start)
      (Z.≤_in _ _ (omega (arith, Z.<_out _ _ more, Z.bal_+ (low start) (pos start.args.rise)))))

cast-result : tie.Need-overflow_cast-result
cast-result c =
    let h = difference-fits c.before in
    simp (to_z-of_z, c.ranges.low, c.ranges.high, h) (fits-unsigned (above c) h)

returns : tie.Need-returns-then-reached-high
returns c =
    let s = c in
    simp (to_z-of_z, c.ranges.low, c.ranges.high, difference-fits c.before)
    (rise_more s.args.rise (low s.before) (high s.before) s.requires.low_small s.requires.high_small (more c))

returns-2 : tie.Need-returns
returns-2 c =
    let s = c in
    let p = to_z_pos w64 s.args.rise (omega (arith, s.requires.rise-small)) in
    let left = simp (to_z-of_z, p, s.ranges.low, s.ranges.high, sum_fits s.before) at c.if-reached-high.false in
    record { at-least = omega arith; small = s.requires.rise-small; covers = lt_z_false _ _ left }

pub steeper_spec : {M : Type 1} → statement M
steeper_spec =
    tie.close (tie.spec (λ c. search rules) add-reached
    (λ c. simp (to_z-of_z, c.ranges.low, c.ranges.high) (difference-fits c.before)) cast-result returns returns-2)
