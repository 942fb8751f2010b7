-- `curve_reach_search::position_at` meets its contract: a position fits 32 bits. Assumes nothing.
use borrow.Author.Rules.{rules}
use native.Mathlib.Omega.{arith}
use mathlib.Core.Path.{◌≡◌, ap, ◌∙◌}
use Prim.Native.Nat.{◌<◌, ◌≤◌}
use lib.IntN.{ℤ, pos, nat_abs, ◌+ℤ◌, ◌*ℤ◌}
use lib.ListN.{get_or}
use mir.Syntax.{w32}
use mir.Val.{SFits, of_z, to_z}
use Rattle.base_exact.proofs.Word.{to_z-of_z, to_z_pos, sfits_abs, abs-add, abs_mul_le}
use Rattle.curve_reach_search.proofs.position_at.Statement.{statement}
use Rattle.curve_reach_search.proofs.position_at.Tie as tie

module _ (s : tie.Start) where
  abbrev break : ℤ
  break = get_or s.args.breaks.now s.args.i (pos 0)

  break-fits : SFits w32 break
  break-fits = sfits_abs (omega (arith, s.requires.break.legal.size s.args.i s.requires.break.within))

  start_small : nat_abs (pos 256 *ℤ break) ≤ 2560000
  start_small = abs_mul_le (pos 256) break 256 10000 (omega arith) (s.requires.break.legal.size s.args.i s.requires.break.within)

  start_fits : SFits w32 (pos 256 *ℤ break)
  start_fits = sfits_abs (omega (arith, start_small))

  sum_fits : SFits w32 (pos 256 *ℤ break +ℤ pos s.args.u)
  sum_fits = sfits_abs (omega (arith, start_small, s.requires.short, abs-add (pos 256 *ℤ break) (pos s.args.u)))

  offset-small : s.args.u < 2147483648
  offset-small = omega (arith, s.requires.short)

add-result : tie.Need-overflow_add-result
add-result c = let s = c in simp (to_z-of_z, to_z_pos w32 s.args.u (offset-small s.before), break-fits s.before, start_fits s.before) (sum_fits s.before)

returns : tie.Need-returns
returns c =
    let s = c in
    let z : to_z w32 (of_z w32 (pos 256 *ℤ to_z w32 (of_z w32 (break s.before)))) +ℤ to_z w32 s.args.u ≡ pos 256 *ℤ break s.before +ℤ pos s.args.u =
    simp (to_z-of_z, to_z_pos w32 s.args.u (offset-small s.before), break-fits s.before, start_fits s.before) in
    ap (λ (z : ℤ). to_z w32 (of_z w32 z)) z ∙ to_z-of_z w32 _ (sum_fits s.before)

pub position_at_spec : {M : Type 1} → statement M
position_at_spec =
    tie.close (tie.spec (λ c. search rules) (λ c. search rules)
    (λ c. let f = break-fits c.before in simp to_z-of_z (start_fits c.before)) (λ c. search rules) add-result returns)
