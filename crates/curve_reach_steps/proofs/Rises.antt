-- The rise from one number to a higher one, as the code takes it, and how many positions it lets pass.
use mathlib.Core.Path.{◌≡◌, sym, subst}
use mathlib.Core.List.{List}
use Prim.Native.Nat.{ℕ, suc, ◌+◌, ◌*◌, ◌/◌, ◌<◌, ◌≤◌}
use native.Mathlib.Omega.{arith}
use native.Mathlib.Nat.{mul-le-mul, div-add-mod'}
use lib.IntN.{ℤ, pos, nat_abs, ◌+ℤ◌, ◌-ℤ◌}
use lib.ListN.{get_or}
use lib.Signed.{◌<ℤ◌, ◌≤ℤ◌}
use Rattle.base_exact.proofs.Integer as Z
use Rattle.base_exact.proofs.Decide.{below_suc}
use Rattle.curve_ordinates.specs.Ordinates.{ordinate_limit}
use Rattle.curve_reach_steps.specs.Machine.{RiseIs, Steepest}
use Rattle.curve_reach_steps.proofs.Distances.{past}

-- a rise that is more than the one before
pub rise_more : (rise : ℕ) (low high : ℤ) → nat_abs low ≤ ordinate_limit → nat_abs high ≤ ordinate_limit → (low +ℤ pos rise) <ℤ high
    → RiseIs rise low high (nat_abs (high -ℤ low))
rise_more rise low high p q h = record {
  at-least = omega (arith, least);
  small = omega (arith, p, q, Z.abs_sub high low);
  covers = subst (λ z. high ≤ℤ z) (sym whole) (Z.≤-refl high);
}
  where
    above : low ≤ℤ high
    above = Z.≤_in low high (omega (arith, Z.<_out _ _ h, Z.bal_+ low (pos rise)))

    whole : low +ℤ pos (nat_abs (high -ℤ low)) ≡ high
    whole = past low high above

    least : rise ≤ nat_abs (high -ℤ low)
    least =
        omega (
          arith,
          Z.<_out _ _ (subst (λ z. (low +ℤ pos rise) <ℤ z) (sym whole) h),
          Z.bal_+ low (pos rise),
          Z.bal_+ low (pos (nat_abs (high -ℤ low))),
        )

-- the gap of a small number below a target that is no larger
pub gap-small : (bound : ℕ) (v target : ℤ) → nat_abs v ≤ bound → v <ℤ target → target ≤ℤ pos bound → nat_abs (target -ℤ v) ≤ 2 * bound
gap-small bound v target h k l =
    omega (arith, Z.abs_sub target v, Z.abs_le_in target bound (Z.≤_trans _ v _ (Z.abs_le_out v bound h).0 (Z.<-≤ v target k)) l)

-- the room that a gap leaves is a small number
pub room_small : (gap d : ℕ) {a b : ℕ} → gap ≤ a → d ≤ b → gap * d ≤ a * b
room_small gap d h k = mul-le-mul h k

-- a factor that is not zero
pub at_least-once : (n cost : ℕ) → 1 ≤ cost → n ≤ n * cost
at_least-once n cost h = let z : n * 1 ≤ n * cost = mul-le-mul (omega arith) h in omega arith

-- what is passed costs no more than the room
pub passed-cost : (room cost : ℕ) → room / cost * cost ≤ room
passed-cost room cost = omega (arith, div-add-mod' room cost)

-- no rise, and one more
pub steepest_none : (os : List ℤ) (c : ℕ) → Steepest os c 0 1
steepest_none os c = record { positive = omega arith; small = omega arith; rises = λ j h. absurd (omega arith) }

pub steepest_more : (os : List ℤ) (c k rise r : ℕ) → Steepest os c k rise → rise ≤ r → r ≤ 2 * ordinate_limit
    → get_or os (c + k + 1) (pos 0) ≤ℤ (get_or os (c + k) (pos 0) +ℤ pos r) → Steepest os c (k + 1) r
steepest_more os c k rise r S h small new =
    record { positive = omega (arith, S.positive); small = small; rises = λ j l. all j (omega arith) }
  where
    all : (j : ℕ) → j < suc k → get_or os (c + suc j) (pos 0) ≤ℤ (get_or os (c + j) (pos 0) +ℤ pos r)
    all = below_suc (λ j. get_or os (c + suc j) (pos 0) ≤ℤ (get_or os (c + j) (pos 0) +ℤ pos r))
        (λ j l. Z.≤_trans _ _ _ (S.rises j l) (Z.+_mono _ _ _ _ (Z.≤-refl (get_or os (c + j) (pos 0)))
        (Z.≤_in (pos rise) (pos r) (omega arith))))
        (subst (λ i. get_or os i (pos 0) ≤ℤ (get_or os (c + k) (pos 0) +ℤ pos r)) (let z : c + k + 1 ≡ c + suc k = omega arith in z) new)
