-- `curve_rate::tail_of` meets its contract: what the first number leaves is an offset, so that nothing leaves 64 bits.
-- Assumes nothing.
use native.Mathlib.Omega.{arith}
use borrow.Author.Rules.{rules}
use mathlib.Core.Path.{◌≡◌, sym, ap, ◌∙◌, subst}
use lib.IntN.{ℤ, pos, nat_abs, ◌-ℤ◌, ◌*ℤ◌}
use lib.Signed.{quot_z, ◌≤ℤ◌}
use mir.Syntax.{w64}
use mir.Val.{SFits}
use mir.ValLaws.{to_z-of_z, sfits_le}
use Rattle.base_exact.specs.Floor.{floor_div}
use Rattle.base_exact.proofs.Integer.{≤_in, *_pos, abs_mul_le}
use Rattle.base_exact.proofs.Word.{sfits_abs, of_z_pos, quot_mag, quot_floor}
use Rattle.curve_rate.specs.Rate.{Offset}
use Rattle.curve_rate.specs.Rate.{whole_of, tail_of}
use Rattle.curve_rate.proofs.Sizes.{offset-abs, InverseSizes, inverse_sizes}
use Rattle.curve_rate.proofs.tail_of.Statement.{statement}
use Rattle.curve_rate.proofs.tail_of.Tie as tie

module _ (c : tie.After-whole_of-whole) where
  abbrev d : ℤ
  d = c.before.args.d

  bounds : InverseSizes d
  bounds = inverse_sizes d c.before.requires

  whole : SFits w64 c.whole_of-whole.result
  whole = record { sfits = c.whole_of-whole.type_inv }

  whole_is : c.whole_of-whole.result ≡ whole_of d
  whole_is = simp (to_z-of_z, c.before.ranges.d) at c.whole_of-whole.ensures

  back_fits : SFits w64 (c.whole_of-whole.result *ℤ d)
  back_fits = subst (λ (x : ℤ). SFits w64 (x *ℤ c.before.args.d)) (sym whole_is) (sfits_abs (omega (arith, bounds.back-abs)))

  abbrev left : ℤ
  left = pos 4611686018427387904 -ℤ c.whole_of-whole.result *ℤ d

  left-inside : Offset left d
  left-inside =
      subst (λ (x : ℤ). Offset (pos 4611686018427387904 -ℤ x *ℤ c.before.args.d) c.before.args.d) (sym whole_is) bounds.rest-inside

  left-fits : SFits w64 left
  left-fits = sfits_abs (omega (arith, offset-abs left d left-inside))

  abbrev product : ℤ
  product = left *ℤ pos 536870912

  above : pos 0 ≤ℤ product
  above = *_pos left (pos 536870912) left-inside.above (≤_in (pos 0) (pos 536870912) (omega arith))

  product-fits : SFits w64 product
  product-fits = sfits_abs (omega (arith, abs_mul_le left (pos 536870912) 512000 536870912 (offset-abs left d left-inside) (omega arith)))

  quotient_fits : SFits w64 (quot_z product d)
  quotient_fits = sfits_le (quot_mag product d above c.before.requires.long) product-fits

mul-result : tie.Need-overflow_mul-result
mul-result c = simp (to_z-of_z, c.before.ranges.d, whole c, back_fits c, left-fits c) (product-fits c)

div-result : tie.Need-nonzero_div-result
div-result c =
    (of_z_pos w64 _ c.before.requires.long, simp (to_z-of_z, c.before.ranges.d, whole c, back_fits c, left-fits c, product-fits c) (quotient_fits c))

returns : tie.Need-returns
unfolding tail_of
returns c =
    simp (to_z-of_z, c.before.ranges.d, whole c, back_fits c, left-fits c, product-fits c, quotient_fits c)
    (quot_floor (product c) (d c) (above c) c.before.requires.long
    ∙ ap (λ (x : ℤ). floor_div ((pos 4611686018427387904 -ℤ x *ℤ c.before.args.d) *ℤ pos 536870912) (nat_abs c.before.args.d))
    (whole_is c))

pub tail_of_spec : {M : Type 1} → statement M
tail_of_spec =
    tie.close (tie.spec (λ c κs. search rules) (λ c. let f = c.before.ranges.d in let g = whole c in simp to_z-of_z (back_fits c))
    (λ c. let f = c.before.ranges.d in let g = whole c in let k = back_fits c in simp to_z-of_z (left-fits c)) mul-result div-result returns)
