-- `curve_triangle::blend` meets its contract: a blend is no larger in size than its neighbours. Assumes nothing.
use native.Mathlib.Omega.{arith}
use mathlib.Core.Path.{◌≡◌, sym, ap, ◌∙◌, subst}
use Prim.Native.Nat.{◌≤◌}
use lib.IntN.{ℤ, nat_abs, ◌+ℤ◌, ◌-ℤ◌}
use mir.Syntax.{w64}
use mir.Val.{SFits}
use Rattle.base_exact.proofs.Word.{to_z-of_z, sfits_abs}
use Rattle.spec_spline.specs.Reading.{blend}
use Rattle.curve_ordinates.specs.Ordinates.{ordinate_limit}
use Rattle.curve_rate.specs.Rate.{Rated}
use Rattle.curve_triangle.proofs.Blends.{rise-abs, step_is, step-abs}
use Rattle.curve_triangle.proofs.blend.Statement.{statement}
use Rattle.curve_triangle.proofs.blend.Tie as tie

module _ (c : tie.Start) where
  rise-size : nat_abs (c.args.h -ℤ c.args.g) ≤ 512000000
  rise-size = rise-abs _ _ c.args.g c.args.h c.requires.rate.rated.inside c.requires.first_small c.requires.second-small

  rise-fits : SFits w64 (c.args.h -ℤ c.args.g)
  rise-fits = sfits_abs (omega (arith, rise-size))

share-of-requires : tie.Need-share_of-requires
share-of-requires c κs =
    simp (to_z-of_z, c.ranges.h, c.ranges.g, c.ranges.high, c.ranges.low, rise-fits c)
    (record { rise-small = omega (arith, rise-size c); rate = c.requires.rate })

module _ (c : tie.After-share_of) where
  abbrev start : tie.Start
  start = c.before

  share : SFits w64 c.share_of.result
  share = record { sfits = c.share_of.type_inv }

  -- the sum is the blend
  is : (u d : ℤ) → Rated start.args.high start.args.low u d
      → start.args.g +ℤ c.share_of.result ≡ blend (nat_abs d) u start.args.g start.args.h
  is u d rated =
      ap (λ (z : ℤ). start.args.g +ℤ z)
      ((simp (to_z-of_z, start.ranges.g, start.ranges.h, start.ranges.high, start.ranges.low, rise-fits start) at c.share_of.ensures) u d rated)
      ∙ step_is u d start.args.g start.args.h rated.inside start.requires.first_small start.requires.second-small

  abs : nat_abs (start.args.g +ℤ c.share_of.result) ≤ ordinate_limit
  abs =
      let rated = start.requires.rate.rated in
      subst (λ (z : ℤ). nat_abs z ≤ ordinate_limit) (sym (is _ _ rated))
      (step-abs _ _ start.args.g start.args.h rated.inside start.requires.first_small start.requires.second-small)

  sum_fits : SFits w64 (start.args.g +ℤ c.share_of.result)
  sum_fits = sfits_abs (omega (arith, abs))

returns : tie.Need-returns
returns c = simp (to_z-of_z, c.ranges.g, share c, sum_fits c) (record { is = is c; small = abs c })

pub blend_spec : {M : Type 1} → statement M
blend_spec =
    tie.close (tie.spec (λ c. let f = c.ranges.h in let g = c.ranges.g in simp to_z-of_z (rise-fits c)) share-of-requires
    (λ c. let f = c.ranges.g in let k = share c in simp to_z-of_z (sum_fits c)) returns)
