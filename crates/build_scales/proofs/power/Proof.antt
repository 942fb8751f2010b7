-- The three powers, one for each return; a square of at most 2,000 fits.
use native.Mathlib.Omega.{arith}
use mathlib.Core.Path.{◌≡◌, refl, sym, ap, ◌∙◌}
use Prim.Native.Nat.{ℕ, ◌^◌, ◌*◌}
use native.Mathlib.Nat.{pow-zero, pow-suc, one-mul}
use lib.IntN.{ℤ, pos, negsuc, nat_abs, ◌*ℤ◌}
use lib.Signed.{◌≤ℤ◌}
use mir.Syntax.{w64}
use mir.Val.{SFits}
use Rattle.base_exact.proofs.Word.{to_z-of_z, is_pos, sfits_abs, abs_mul_le}
use Rattle.build_scales.proofs.power.Statement.{statement}
use Rattle.build_scales.proofs.power.Tie as tie

pow-one : (n : ℕ) → n ^ 1 ≡ n
pow-one n = pow-suc n 0 ∙ ap (λ t. t * n) (pow-zero n) ∙ one-mul n

pow-two : (n : ℕ) → n ^ 2 ≡ n * n
pow-two n = pow-suc n 1 ∙ ap (λ t. t * n) (pow-one n)

square : (x : ℤ) → pos 0 ≤ℤ x → x *ℤ x ≡ pos (nat_abs x * nat_abs x)
square (pos n) h = refl
square (negsuc n) h = absurd h.le

returns : tie.Need-returns-then-k-eq0
returns c =
    let e : c.before.args.k ≡ 0 = omega arith in
    ap pos (sym (ap (λ n. nat_abs c.before.args.x ^ n) e ∙ pow-zero (nat_abs c.before.args.x)))

returns-2 : tie.Need-returns-then-k-eq1
returns-2 c =
    let b = c.before.before in
    let e : b.args.k ≡ 1 = omega arith in
    to_z-of_z w64 b.args.x b.ranges.x ∙ is_pos b.args.x b.requires.low
    ∙ ap pos (sym (ap (λ n. nat_abs b.args.x ^ n) e ∙ pow-one (nat_abs b.args.x)))

square-fits : (c : tie.Else-k-eq1) → SFits w64 (c.before.before.args.x *ℤ c.before.before.args.x)
square-fits c =
    let b = c.before.before in
    sfits_abs (omega (arith, abs_mul_le b.args.x b.args.x 2000 2000 b.requires.short b.requires.short))

returns-3 : tie.Need-returns
returns-3 c =
    let b = c.before.before in
    let f = b.ranges.x in
    let g = square-fits c in
    let e : b.args.k ≡ 2 = omega arith in
    simp to_z-of_z (square b.args.x b.requires.low ∙ ap pos (sym (ap (λ n. nat_abs b.args.x ^ n) e ∙ pow-two (nat_abs b.args.x))))

pub power_spec : {M : Type 1} → statement M
power_spec = tie.close (tie.spec returns returns-2 (λ c. let f = c.before.before.ranges.x in simp to_z-of_z (square-fits c)) returns-3)
