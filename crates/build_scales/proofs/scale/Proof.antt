-- The product of what the two calls answer is the scale, which is at most 20 times the square of 2,000.
use borrow.Author.Rules.{rules}
use native.Mathlib.Omega.{arith}
use mathlib.Core.Path.{◌≡◌, ap₂}
use lib.IntN.{pos, nat_abs, ◌*ℤ◌}
use mir.Syntax.{w64}
use mir.Val.{SFits}
use Rattle.base_exact.proofs.Word.{to_z-of_z, sfits_abs}
use Rattle.spec_spline.specs.Conditions.{scale}
use Rattle.build_scales.proofs.Sizes.{scale_le}
use Rattle.build_scales.proofs.scale.Statement.{statement}
use Rattle.build_scales.proofs.scale.Tie as tie

module _ (c : tie.After-power-x) where
  falling-fits : SFits w64 c.before.falling-f.result
  falling-fits = record { sfits = c.before.falling-f.type_inv }

  power-fits : SFits w64 c.power-x.result
  power-fits = record { sfits = c.power-x.type_inv }

  is : c.before.falling-f.result *ℤ c.power-x.result ≡ pos (scale c.before.before.args.p c.before.before.args.k (nat_abs c.before.before.args.other))
  is = let f = c.before.before.ranges.other in ap₂ ◌*ℤ◌ c.before.falling-f.ensures (simp to_z-of_z at c.power-x.ensures)

  fits : SFits w64 (c.before.falling-f.result *ℤ c.power-x.result)
  fits =
      let b = c.before.before in
      rw is (sfits_abs (omega (arith, scale_le b.args.p b.args.k (nat_abs b.args.other) b.requires.degree b.requires.order b.requires.short)))

pub scale_spec : {M : Type 1} → statement M
scale_spec =
    tie.close (tie.spec (λ c κs. search rules) (λ c κs. search rules)
    (λ c. let f = falling-fits c in let g = power-fits c in simp to_z-of_z (fits c))
    (λ c. let f = falling-fits c in let g = power-fits c in let h = fits c in simp to_z-of_z (is c)))
