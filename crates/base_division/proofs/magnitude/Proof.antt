-- Below zero -1 - a fits, even for the least i64; one more is the absolute value.
use borrow.Author.Rules.{rules}
use native.Mathlib.Omega.{arith}
use mathlib.Core.Path.{◌≡◌}
use mir.ValLaws.{to_z-of_z}
use mir.Syntax.{w64}
use mir.Val.{SFits}
use lib.IntN.{pos, negsuc, ◌-ℤ◌}
use lib.Signed.{mag, yes_non_neg, nat_abs-le, ◌<ℤ◌, ◌≤ℤ◌}
use Rattle.base_exact.proofs.Word.{lt_z_true, lt_z_false, flip, abs_neg_mag}
use Rattle.base_division.proofs.magnitude.Statement.{statement}
use Rattle.base_division.proofs.magnitude.Tie as tie

below : (c : tie.Then-a-lt0) → c.before.args.a <ℤ pos 0
below c = let f = c.before.ranges.a in lt_z_true _ _ (simp to_z-of_z at c.if-a-lt0.true)

turned : (c : tie.Then-a-lt0) → negsuc 0 -ℤ c.before.args.a ≡ pos (mag c.before.args.a)
turned c = flip c.before.args.a (below c)

fits : (c : tie.Then-a-lt0) → SFits w64 (negsuc 0 -ℤ c.before.args.a)
fits c = rw (turned c) (record { sfits = c.before.ranges.a.sfits })

above : (c : tie.Else-a-lt0) → pos 0 ≤ℤ c.before.args.a
above c = let f = c.before.ranges.a in lt_z_false _ _ (simp to_z-of_z at c.if-a-lt0.false)

cast-result : tie.Need-overflow_cast-result
cast-result c =
    let f = c.before.ranges.a in
    let g = fits c in
    simp to_z-of_z (simp (turned c) (tt, omega (arith, c.before.ranges.a.sfits)))

add-result : tie.Need-overflow_add-result
add-result c = let f = c.before.ranges.a in let g = fits c in simp to_z-of_z (simp (turned c) (omega (arith, c.before.ranges.a.sfits)))

cast-result-2 : tie.Need-overflow_cast-result-else-a-lt0
cast-result-2 c = let f = c.before.ranges.a in simp to_z-of_z (yes_non_neg (above c), omega (arith, nat_abs-le c.before.args.a c.before.ranges.a.sfits))

returns : tie.Need-returns-then-a-lt0
returns c = let f = c.before.ranges.a in let g = fits c in simp to_z-of_z (simp (turned c, abs_neg_mag c.before.args.a (below c)))

pub magnitude_spec : {M : Type 1} → statement M
magnitude_spec =
    tie.close (tie.spec (λ c. let f = c.before.ranges.a in simp to_z-of_z (fits c)) cast-result add-result cast-result-2 returns
    (λ c. search rules))
