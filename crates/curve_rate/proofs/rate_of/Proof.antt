-- `curve_rate::rate_of` meets its contract: the products and their sum keep within 64 bits. Assumes nothing.
use native.Mathlib.Omega.{arith}
use borrow.Author.Rules.{rules}
use mathlib.Core.Path.{◌≡◌, sym, ap, ap₂, ◌∙◌, subst}
use Prim.Native.Nat.{◌+◌}
use lib.IntN.{ℤ, pos, ◌+ℤ◌, ◌-ℤ◌, ◌*ℤ◌}
use lib.Signed.{shr_z}
use mir.Syntax.{w64}
use mir.Val.{SFits}
use Rattle.base_exact.specs.Floor.{floor_div}
use Rattle.base_exact.proofs.Floor.{floor_div_shr_z}
use Rattle.base_exact.proofs.Word.{to_z-of_z, sfits_abs, abs_mul_le}
use Rattle.curve_rate.specs.Rate.{Rated, RateIs}
use Rattle.curve_rate.proofs.Sizes.{more, high, low, RateSizes, rate_sizes, total-abs, high-abs, low_abs, rate_is}
use Rattle.curve_rate.proofs.rate_of.Statement.{statement}
use Rattle.curve_rate.proofs.rate_of.Tie as tie

sizes : (c : tie.Start) → RateSizes c.args.u c.args.whole c.args.tail
sizes c = rate_sizes c.args.u c.args.whole c.args.tail c.requires

carried-requires : tie.Need-carried-more-requires
carried-requires c κs =
    let s = sizes c in
    simp (to_z-of_z, c.ranges.u, c.ranges.tail) (record { rise-small = omega (arith, s.offset-small); low_small = s.tail-small })

module _ (c : tie.After-carried-more) where
  abbrev start : tie.Start
  start = c.before

  abbrev u : ℤ
  u = start.args.u

  abbrev whole : ℤ
  whole = start.args.whole

  abbrev tail : ℤ
  tail = start.args.tail

  abbrev sum : ℤ
  sum = u *ℤ whole +ℤ c.carried-more.result

  more_is : c.carried-more.result ≡ more u tail
  more_is = simp (to_z-of_z, start.ranges.u, start.ranges.tail) at c.carried-more.ensures

  more_fits : SFits w64 c.carried-more.result
  more_fits = record { sfits = c.carried-more.type_inv }

  product-fits : SFits w64 (u *ℤ whole)
  product-fits = sfits_abs (omega (arith, (sizes start).product_small))

  sum_fits : SFits w64 sum
  sum_fits = subst (λ (m : ℤ). SFits w64 (start.args.u *ℤ start.args.whole +ℤ m)) (sym more_is)
      (sfits_abs (omega (arith, total-abs u whole tail (sizes start))))

  -- the shift gives the first number of the rate
  high_is : shr_z sum 536870912 ≡ high u whole tail
  high_is = sym (floor_div_shr_z sum 536870912)
      ∙ ap (λ (m : ℤ). floor_div (start.args.u *ℤ start.args.whole +ℤ m) 536870912) more_is

  high_fits : SFits w64 (shr_z sum 536870912)
  high_fits = subst (SFits w64) (sym high_is) (sfits_abs (omega (arith, high-abs u whole tail (sizes start))))

  back_fits : SFits w64 (shr_z sum 536870912 *ℤ pos 536870912)
  back_fits = subst (λ (z : ℤ). SFits w64 (z *ℤ pos 536870912)) (sym high_is)
      (sfits_abs (omega (
        arith,
        abs_mul_le (high u whole tail) (pos 536870912) (8589934592 + 524288) 536870912
            (high-abs u whole tail (sizes start)) (omega arith),
      )))

  low_is : sum -ℤ shr_z sum 536870912 *ℤ pos 536870912 ≡ low u whole tail
  low_is = ap₂ (λ (m z : ℤ). start.args.u *ℤ start.args.whole +ℤ m -ℤ z *ℤ pos 536870912) more_is high_is

  low_fits : SFits w64 (sum -ℤ shr_z sum 536870912 *ℤ pos 536870912)
  low_fits = subst (SFits w64) (sym low_is) (sfits_abs (omega (arith, low_abs u whole tail (sizes start))))

  rated : RateIs u whole tail (shr_z sum 536870912) (sum -ℤ shr_z sum 536870912 *ℤ pos 536870912)
  rated d o inverted =
      subst (λ (z : ℤ). Rated (shr_z sum 536870912) z c.before.args.u d) (sym low_is)
      (subst (λ (z : ℤ). Rated z (low u whole tail) c.before.args.u d) (sym high_is)
      (rate_is u whole tail (sizes start) d o inverted))

add_total : tie.Need-overflow_add-total
add_total c = simp (to_z-of_z, c.before.ranges.u, c.before.ranges.whole, product-fits c, more_fits c) (sum_fits c)

mul_low : tie.Need-overflow_mul-low
mul_low c = simp (to_z-of_z, c.before.ranges.u, c.before.ranges.whole, product-fits c, more_fits c, sum_fits c, high_fits c) (back_fits c)

sub_low : tie.Need-overflow_sub-low
sub_low c =
    simp (to_z-of_z, c.before.ranges.u, c.before.ranges.whole, product-fits c, more_fits c, sum_fits c, high_fits c, back_fits c)
    (low_fits c)

returns : tie.Need-returns
returns c d o inverted =
    simp (to_z-of_z, c.before.ranges.u, c.before.ranges.whole, product-fits c, more_fits c, sum_fits c, high_fits c, back_fits c)
    (rw (to_z-of_z w64 _ (low_fits c)) (rated c d o inverted))

pub rate_of_spec : {M : Type 1} → statement M
rate_of_spec =
    tie.close (tie.spec carried-requires
    (λ c. let f = c.before.ranges.u in let g = c.before.ranges.whole in simp to_z-of_z (product-fits c)) add_total (λ c. search rules)
    (λ c. search rules) mul_low sub_low returns)
