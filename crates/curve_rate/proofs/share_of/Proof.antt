-- `curve_rate::share_of` meets its contract: the two products and the half keep within 64 bits, and the shift gives the nearest
-- number. Assumes nothing.
use native.Mathlib.Omega.{arith}
use borrow.Author.Rules.{rules}
use mathlib.Core.Path.{◌≡◌, sym, ap, ◌∙◌, subst}
use Prim.Native.Nat.{ℕ, ◌+◌, ◌*◌, ◌≤◌}
use lib.IntN.{ℤ, pos, nat_abs, ◌+ℤ◌, ◌*ℤ◌}
use lib.Signed.{shr_z}
use mir.Syntax.{w64}
use mir.Val.{SFits}
use Rattle.base_exact.specs.Floor.{floor_div}
use Rattle.base_exact.proofs.Floor.{floor_div_shr_z}
use Rattle.base_exact.proofs.Word.{to_z-of_z, sfits_abs, abs-add, floor-fits}
use Rattle.curve_rate.proofs.Sizes.{whole-abs, tail-abs, share_is}
use Rattle.curve_rate.proofs.share_of.Statement.{statement}
use Rattle.curve_rate.proofs.share_of.Tie as tie

carried-requires : tie.Need-carried-tail-requires
carried-requires c κs =
    simp (to_z-of_z, c.ranges.rise, c.ranges.low) (record { rise-small = c.requires.rise-small; low_small = c.requires.rate.rated.low_small })

module _ (c : tie.After-carried-tail) where
  abbrev start : tie.Start
  start = c.before

  abbrev x : ℤ
  x = start.args.rise

  abbrev whole : ℤ
  whole = x *ℤ start.args.high

  carried : SFits w64 c.carried-tail.result
  carried = record { sfits = c.carried-tail.type_inv }

  tail_is : c.carried-tail.result ≡ floor_div (x *ℤ start.args.low) 536870912
  tail_is = simp (to_z-of_z, start.ranges.rise, start.ranges.low) at c.carried-tail.ensures

  whole-size : nat_abs whole ≤ 536870912 * (8589934592 + 524288)
  whole-size = whole-abs start.args.high start.args.low _ _ x start.requires.rate.rated start.requires.rise-small

  tail-size : nat_abs c.carried-tail.result ≤ 536870912
  tail-size = subst (λ (z : ℤ). nat_abs z ≤ 536870912) (sym tail_is)
      (tail-abs start.args.high start.args.low _ _ x start.requires.rate.rated start.requires.rise-small)

  whole-fits : SFits w64 whole
  whole-fits = sfits_abs (omega (arith, whole-size))

  sum_fits : SFits w64 (whole +ℤ c.carried-tail.result)
  sum_fits = sfits_abs (omega (arith, whole-size, tail-size, abs-add whole c.carried-tail.result))

  half-fits : (half : ℕ) → half ≤ 8589934592 → SFits w64 (whole +ℤ c.carried-tail.result +ℤ pos half)
  half-fits half h =
      sfits_abs (omega (arith, whole-size, tail-size, abs-add whole c.carried-tail.result, abs-add (whole +ℤ c.carried-tail.result) (pos half)))

  shifted_fits : (half : ℕ) → half ≤ 8589934592 → SFits w64 (shr_z (whole +ℤ c.carried-tail.result +ℤ pos half) 8589934592)
  shifted_fits half h =
      rw (floor_div_shr_z (whole +ℤ c.carried-tail.result +ℤ pos half) 8589934592) at (floor-fits 8589934592 (half-fits half h))

add-result : tie.Need-overflow_add-result
add-result c = simp (to_z-of_z, c.before.ranges.rise, c.before.ranges.high, whole-fits c, carried c) (sum_fits c)

add-result-2 : tie.Need-overflow_add-result-2
add-result-2 c =
    simp (to_z-of_z, c.before.ranges.rise, c.before.ranges.high, whole-fits c, carried c, sum_fits c) (half-fits c _ (omega arith))

returns : tie.Need-returns
returns c u d rated =
    let m = half-fits c 4294971392 (omega arith) in
    let n = shifted_fits c 4294971392 (omega arith) in
    simp (to_z-of_z, c.before.ranges.rise, c.before.ranges.high, whole-fits c, carried c, sum_fits c, m, n)
    (sym (floor_div_shr_z (whole c +ℤ c.carried-tail.result +ℤ pos 4294971392) 8589934592)
    ∙ ap (λ (p : ℤ). floor_div (whole c +ℤ p +ℤ pos 4294971392) 8589934592) (tail_is c)
    ∙ share_is c.before.args.high c.before.args.low u d (x c) rated c.before.requires.rise-small 4294971392 (omega arith)
    (omega arith))

pub share_of_spec : {M : Type 1} → statement M
share_of_spec =
    tie.close (tie.spec carried-requires
    (λ c. let f = c.before.ranges.rise in let g = c.before.ranges.high in simp to_z-of_z (whole-fits c)) add-result add-result-2
    (λ c. search rules) (λ c. search rules) returns)
