-- Both parts are divided by their greatest common divisor, which is at most the denominator and so fits.
use borrow.Author.Rules.{rules}
use native.Mathlib.Omega.{arith}
use mathlib.Core.Path.{◌≡◌, ap, ◌∙◌}
use Prim.Native.Nat.{ℕ, ◌<◌, ◌^◌}
use mir.ValLaws.{to_z-of_z, to_z_pos}
use mir.Syntax.{w64}
use mir.Val.{SFits}
use lib.IntN.{ℤ, pos, negsuc, nat_abs}
use lib.Signed.{quot_z, yes_non_neg, nat_abs-le, ◌<ℤ◌}
use Rattle.base_exact.specs.Gcd.{gcd}
use Rattle.base_exact.proofs.Gcd.{gcd_pos, gcd_le}
use Rattle.base_exact.proofs.Integer.{≤_in, <_out}
use Rattle.base_exact.proofs.Word.{pos_of, quot_fits}
use Rattle.base_fraction.proofs.Value.{fraction-ratio}
use Rattle.base_fraction.specs.Machine.{fraction, ratio}
use Rattle.base_fraction.proofs.lowest.Statement.{statement}
use Rattle.base_fraction.proofs.lowest.Tie as tie

cast-gcd : tie.Need-overflow_cast-d
cast-gcd c =
    let f = c.before.ranges.d in
    simp to_z-of_z (
      yes_non_neg (≤_in (pos 0) c.before.args.d (omega (arith, <_out _ _ c.before.requires))),
      omega (arith, nat_abs-le c.before.args.d f.sfits),
    )

module _ (c : tie.After-gcd-g) where
  abbrev n : ℤ
  n = c.before.before.args.n

  abbrev d : ℤ
  d = c.before.before.args.d

  abbrev g : ℕ
  g = c.gcd-g.result

  g_is : g ≡ gcd (nat_abs n) (nat_abs d)
  g_is =
      let f = c.before.before.ranges.d in
      let k = c.before.before.ranges.n in
      (simp to_z-of_z at c.gcd-g.ensures) ∙ ap (λ (x : ℕ). gcd x (nat_abs d)) (simp to_z-of_z at c.before.magnitude.ensures)

  d_pos : 0 < nat_abs d
  d_pos = (pos_of d c.before.before.requires).1

  d_small : nat_abs d < 2 ^ 63
  d_small = small d c.before.before.requires c.before.before.ranges.d
    where
      small : (d : ℤ) → pos 0 <ℤ d → SFits w64 d → nat_abs d < 2 ^ 63
      small (pos d) h f = f.sfits
      small (negsuc d) h f = absurd h.lt

  g_pos : 0 < g
  g_pos = rw g_is (gcd_pos (nat_abs n) (nat_abs d) d_pos)

  g_small : g < 2 ^ 63
  g_small = omega (arith, g_is, gcd_le (nat_abs n) (nat_abs d) d_pos, d_small)

  num_fits : SFits w64 (quot_z n (pos g))
  num_fits = quot_fits w64 n g g_pos c.before.before.ranges.n

  den-fits : SFits w64 (quot_z d (pos g))
  den-fits = quot_fits w64 d g g_pos c.before.before.ranges.d

  lowest_terms : record { num = quot_z n (pos g); den = quot_z d (pos g) } ≡ fraction (ratio n d)
  lowest_terms = fraction-ratio n d g c.before.before.requires g_is

div-t7 : tie.Need-nonzero_div-result
div-t7 c = (g_pos c, simp (to_z-of_z, to_z_pos w64 c.gcd-g.result (g_small c), c.before.before.ranges.n) (num_fits c))

div-t8 : tie.Need-nonzero_div-result-2
div-t8 c = (g_pos c, simp (to_z-of_z, to_z_pos w64 c.gcd-g.result (g_small c), c.before.before.ranges.d) (den-fits c))

returns : tie.Need-returns
returns c =
    simp (to_z-of_z, to_z_pos w64 c.gcd-g.result (g_small c), c.before.before.ranges.n, c.before.before.ranges.d, num_fits c, den-fits c)
    (lowest_terms c)

pub lowest_spec : {M : Type 1} → statement M
lowest_spec =
    tie.close (tie.spec (λ c κs. search rules) cast-gcd (λ c κs. search rules) (λ c. record { sfits = g_small c }) div-t7 div-t8 returns)
