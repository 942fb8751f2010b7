-- The blend of two neighbours: it is no larger in size than they are, and the rate of its position gives it.
use mathlib.Core.Path.{◌≡◌, refl, sym, ◌∙◌, ap}
use mathlib.Core.List.{[], ◌∷◌}
use Prim.Native.Nat.{ℕ, ◌<◌, ◌≤◌}
use native.Mathlib.Omega.{arith}
use lib.IntN.{ℤ, pos, neg_ℤ, nat_abs, ◌+ℤ◌, ◌-ℤ◌, ◌*ℤ◌}
use lib.Signed.{◌≤ℤ◌}
use Rattle.base_exact.specs.Floor.{nearest}
use Rattle.base_exact.proofs.Ring.{ring, reads}
use Rattle.base_exact.proofs.Integer.{ℤ-ring, +_comm, abs_le_in, abs_le_out, abs_sub}
use Rattle.base_exact.proofs.Floor.{nearest-add}
use Rattle.base_exact.proofs.Word.{pos_of}
use Rattle.spec_spline.specs.Reading.{blend, rounded}
use Rattle.theorems_values.proofs.Triangle.{Between, blend-between}
use Rattle.curve_ordinates.specs.Ordinates.{ordinate_limit}
use Rattle.curve_rate.specs.Rate.{Offset}

-- sizes keep within a bound
pub blend-abs : (d : ℕ) (u g h : ℤ) → 0 < d → pos 0 ≤ℤ u → u ≤ℤ pos d → (k : ℕ) → nat_abs g ≤ k → nat_abs h ≤ k → nat_abs (blend d u g h) ≤ k
blend-abs d u g h positive from to k p q =
    let b = blend-between d u positive from to (between g k p) (between h k q) in abs_le_in (blend d u g h) k b.at-least b.at-most
  where
    between : (z : ℤ) (k : ℕ) → nat_abs z ≤ k → Between (neg_ℤ (pos k)) (pos k) z
    between z k h = record { at-least = (abs_le_out z k h).0; at-most = (abs_le_out z k h).1 }

-- ---- by the nearest number
pub blend_is : (d : ℕ) (u g h : ℤ) → 0 < d → g +ℤ nearest (u *ℤ (h -ℤ g)) d ≡ blend d u g h
unfolding blend rounded
blend_is d u g h positive = sym (ap (λ t. nearest t d) (alg (pos d)) ∙ nearest-add (u *ℤ (h -ℤ g)) g d positive ∙ +_comm _ g)
  where
    alg : (d : ℤ) → (d -ℤ u) *ℤ g +ℤ u *ℤ h ≡ u *ℤ (h -ℤ g) +ℤ g *ℤ d
    alg d = ring ℤ-ring (d ∷ u ∷ g ∷ h ∷ []) (search reads) (search reads) refl

-- ---- the blend on the machine
module _ (u d g h : ℤ) (o : Offset u d) (p : nat_abs g ≤ ordinate_limit) (q : nat_abs h ≤ ordinate_limit) where
  pub rise-abs : nat_abs (h -ℤ g) ≤ 512000000
  rise-abs = omega (arith, abs_sub h g)

  pub step_is : g +ℤ nearest (u *ℤ (h -ℤ g)) (nat_abs d) ≡ blend (nat_abs d) u g h
  step_is = blend_is (nat_abs d) u g h (pos_of d o.long).1

  pub step-abs : nat_abs (blend (nat_abs d) u g h) ≤ ordinate_limit
  step-abs = blend-abs (nat_abs d) u g h (pos_of d o.long).1 o.above (rw (pos_of d o.long).0 at o.below) ordinate_limit p q
