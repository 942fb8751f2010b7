-- `curve_places::offset` meets its contract: 64 bits have room for the difference of two numbers of 32. Assumes nothing.
use borrow.Author.Rules.{rules}
use native.Mathlib.Omega.{arith}
use mathlib.Core.Path.{◌≡◌, ap, ◌∙◌}
use lib.IntN.{ℤ, pos, nat_abs, ◌-ℤ◌, ◌*ℤ◌}
use lib.ListN.{get_or}
use mir.Syntax.{w32, w64}
use mir.Val.{SFits, of_z, to_z}
use Prim.Native.Nat.{◌≤◌}
use Rattle.base_exact.proofs.Word.{to_z-of_z, sfits_abs, abs_sfits, sfits_widen, abs_sub, abs_mul_le}
use Rattle.curve_places.proofs.offset.Statement.{statement}
use Rattle.curve_places.proofs.offset.Tie as tie

module _ (s : tie.Start) where
  abbrev break : ℤ
  break = get_or s.args.breaks.now s.args.i (pos 0)

  break-fits_32 : SFits w32 break
  break-fits_32 = sfits_abs (omega (arith, s.requires.legal.size s.args.i s.requires.within))

  break-fits : SFits w64 break
  break-fits = sfits_widen break-fits_32

  x_fits : SFits w64 s.args.x
  x_fits = sfits_widen s.ranges.x

  start_small : nat_abs (pos 256 *ℤ break) ≤ 2560000
  start_small = abs_mul_le (pos 256) break 256 10000 (omega arith) (s.requires.legal.size s.args.i s.requires.within)

  start_fits : SFits w64 (pos 256 *ℤ break)
  start_fits = sfits_abs (omega (arith, start_small))

  offset-fits : SFits w64 (s.args.x -ℤ pos 256 *ℤ break)
  offset-fits = sfits_abs (omega (arith, start_small, abs_sfits s.ranges.x, abs_sub s.args.x (pos 256 *ℤ break)))

sub-result : tie.Need-overflow_sub-result
sub-result c = let s = c in simp (to_z-of_z, s.ranges.x, break-fits_32 s.before, break-fits s.before, x_fits s.before, start_fits s.before) (offset-fits s.before)

returns : tie.Need-returns
returns c =
    let s = c in
    let z : to_z w64 (of_z w64 (to_z w32 (of_z w32 s.args.x))) -ℤ to_z w64
    (of_z w64 (pos 256 *ℤ to_z w64 (of_z w64 (to_z w32 (of_z w32 (break s.before)))))) ≡ s.args.x -ℤ pos 256 *ℤ break s.before =
    simp (to_z-of_z, s.ranges.x, break-fits_32 s.before, break-fits s.before, x_fits s.before, start_fits s.before) in
    ap (λ (z : ℤ). to_z w64 (of_z w64 z)) z ∙ to_z-of_z w64 _ (offset-fits s.before)

pub offset_spec : {M : Type 1} → statement M
offset_spec =
    tie.close (tie.spec (λ c. search rules) (λ c. search rules)
    (λ c. let f = break-fits_32 c.before in simp to_z-of_z (break-fits c.before))
    (λ c. let f = c.ranges.x in simp to_z-of_z (x_fits c.before))
    (λ c. let s = c in let f = break-fits_32 s.before in let g = break-fits s.before in simp to_z-of_z (start_fits s.before)) sub-result returns)
