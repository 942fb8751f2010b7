-- Both scales are positive and at most 20 times the square of 2,000, so their greatest common divisor divides them
-- without overflow.
use borrow.Author.Rules.{rules}
use native.Mathlib.Omega.{arith}
use mathlib.Core.Path.{◌≡◌, ap, ap₂, ◌∙◌}
use Prim.Native.Nat.{ℕ, ◌<◌, ◌≤◌, ◌^◌}
use lib.IntN.{ℤ, pos, nat_abs}
use lib.Dec.{T}
use lib.Signed.{quot_z, non_neg, ◌≤ℤ◌}
use mir.Syntax.{w64}
use mir.Val.{SFits, Fits}
use Rattle.base_exact.specs.Gcd.{gcd}
use Rattle.base_exact.proofs.Gcd.{gcd_pos, gcd_le}
use Rattle.base_exact.proofs.Integer.{≤_in}
use Rattle.base_exact.proofs.Word.{to_z-of_z, to_z_pos, sfits_abs, quot_fits}
use Rattle.spec_spline.specs.Space.{Space}
use Rattle.spec_spline.specs.Conditions.{scale}
use Rattle.spec_spline.proofs.Conditions.{scale_pos}
use Rattle.build_conditions.specs.Sides.{JoinIs}
use Rattle.build_conditions.proofs.Terms.{left_scale, right_scale}
use Rattle.build_scales.proofs.Sizes.{scale_limit, scale_le}
use Rattle.build_conditions.proofs.scales.Statement.{statement}
use Rattle.build_conditions.proofs.scales.Tie as tie

-- What is known of a length of the join.
record Length (z : ℤ) : Type 0 where
  fits : SFits w64 z
  low : pos 0 ≤ℤ z
  short : nat_abs z ≤ 2000
  long : 1 ≤ nat_abs z

a-length : (z : ℤ) (n : ℕ) → z ≡ pos n → n ≤ 2000 → 1 ≤ n → Length z
a-length z n e h l =
    let m = ap nat_abs e in
    record { fits = sfits_abs (omega arith); low = rw e (≤_in (pos 0) (pos n) (omega arith)); short = omega arith; long = omega arith }

module _ (c : tie.Start) where
  left_length : Length c.args.join.left.length
  left_length = a-length _ _ c.requires.is.left_is.length_is c.requires.left-short c.requires.left_long

  right_length : Length c.args.join.right.length
  right_length = a-length _ _ c.requires.is.right_is.length_is c.requires.right-short c.requires.right_long

  -- The two scales.
  abbrev a : ℕ
  a = scale c.args.join.left.degree c.args.k (nat_abs c.args.join.right.length)

  abbrev b : ℕ
  b = scale c.args.join.right.degree c.args.k (nat_abs c.args.join.left.length)

  a_le : a ≤ scale_limit
  a_le = scale_le _ _ _ (omega arith) (omega arith) right_length.short

  b_le : b ≤ scale_limit
  b_le = scale_le _ _ _ (omega arith) (omega arith) left_length.short

  b_pos : 0 < b
  b_pos = scale_pos _ _ _ (omega arith) left_length.long

  scaled : (s : Space) (j : ℕ) → JoinIs c.args.join s j → (a ≡ left_scale s j c.args.k) × (b ≡ right_scale s j c.args.k)
  scaled s j i = (
    ap₂ (λ p n. scale p c.args.k n) i.left_is.degree_is (ap nat_abs i.right_is.length_is),
    ap₂ (λ p n. scale p c.args.k n) i.right_is.degree_is (ap nat_abs i.left_is.length_is),
  )

scale-requires : tie.Need-scale-left-requires
scale-requires c κs =
    let l = left_length c.before.before.before in
    let r = right_length c.before.before.before in
    simp (to_z-of_z, l.fits, r.fits) (search rules)

scale-requires-2 : tie.Need-scale-right-requires
scale-requires-2 c κs =
    let s = c in let l = left_length s.before.before.before.before.before in
    let r = right_length s.before.before.before.before.before in
    simp (to_z-of_z, l.fits, r.fits) (search rules)

module _ (c : tie.After-scale-right) where
  abbrev start : tie.Start
  start = c.before.before.before.before.before.before

  left_is : c.scale-left.result ≡ pos (a start)
  left_is = simp (to_z-of_z, (left_length start).fits, (right_length start).fits) at c.scale-left.ensures

  right_is : c.scale-right.result ≡ pos (b start)
  right_is = simp (to_z-of_z, (left_length start).fits, (right_length start).fits) at c.scale-right.ensures

  left_word : SFits w64 c.scale-left.result
  left_word = record { sfits = c.scale-left.type_inv }

  right-word : SFits w64 c.scale-right.result
  right-word = record { sfits = c.scale-right.type_inv }

  left-cast : T (non_neg c.scale-left.result) × Fits w64 (nat_abs c.scale-left.result)
  left-cast = rw left_is (tt, omega (arith, a_le start))

  right-cast : T (non_neg c.scale-right.result) × Fits w64 (nat_abs c.scale-right.result)
  right-cast = rw right_is (tt, omega (arith, b_le start))

cast-gcd : tie.Need-overflow_cast-left
cast-gcd c = simp (to_z-of_z, left_word c, right-word c) (left-cast c)

cast-gcd-2 : tie.Need-overflow_cast-right
cast-gcd-2 c = simp (to_z-of_z, left_word c, right-word c) (right-cast c)

module _ (c : tie.After-gcd-divisor) where
  abbrev first : tie.Start
  first = start c.before

  abbrev g : ℕ
  g = c.gcd-divisor.result

  g_is : g ≡ gcd (a first) (b first)
  g_is =
      (simp (to_z-of_z, left_word c.before, right-word c.before) at c.gcd-divisor.ensures)
      ∙ ap₂ (λ x y. gcd (nat_abs x) (nat_abs y)) (left_is c.before) (right_is c.before)

  g_pos : 0 < g
  g_pos = rw g_is (gcd_pos (a first) (b first) (b_pos first))

  g_small : g < 2 ^ 63
  g_small = omega (arith, g_is, gcd_le (a first) (b first) (b_pos first), b_le first)

  left-quotient : SFits w64 (quot_z c.scale-left.result (pos g))
  left-quotient = quot_fits w64 c.scale-left.result g g_pos (left_word c.before)

  right-quotient : SFits w64 (quot_z c.scale-right.result (pos g))
  right-quotient = quot_fits w64 c.scale-right.result g g_pos (right-word c.before)

div-t11 : tie.Need-nonzero_div-result
div-t11 c = (omega (arith, g_pos c), simp (to_z-of_z, to_z_pos w64 c.gcd-divisor.result (g_small c), left_word c.before) (left-quotient c))

div-t12 : tie.Need-nonzero_div-result-2
div-t12 c = (
  omega (arith, g_pos c),
  simp (to_z-of_z, to_z_pos w64 c.gcd-divisor.result (g_small c), right-word c.before)
      (quot_fits w64 c.scale-right.result _ (omega (arith, g_pos c)) (right-word c.before)),
)

returns : tie.Need-returns
returns c = λ s j i.
    let e = scaled (first c) s j i in
    let d = g_is c ∙ ap₂ gcd e.0 e.1 in
    let p = to_z_pos w64 c.gcd-divisor.result (g_small c) in
    simp (to_z-of_z, p, left_word c.before, right-word c.before, left-quotient c, right-quotient c) (record {
      left_is = ap₂ (λ z n. quot_z z (pos n)) (left_is c.before ∙ ap pos e.0) d;
      right_is = ap₂ (λ z n. quot_z z (pos n)) (right_is c.before ∙ ap pos e.1) d;
    })

pub scales_spec : {M : Type 1} → statement M
scales_spec =
    tie.close (tie.spec scale-requires scale-requires-2 cast-gcd cast-gcd-2 (λ c κs. search rules) (λ c. record { sfits = g_small c })
    div-t11 div-t12 returns)
