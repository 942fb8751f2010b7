-- 256 times a whole number: it keeps the order and differences.
use mathlib.Core.Path.{◌≡◌, refl, subst}
use mathlib.Core.List.{[], ◌∷◌}
use lib.IntN.{ℤ, pos, ◌-ℤ◌, ◌*ℤ◌}
use lib.Signed.{◌≤ℤ◌, ◌<ℤ◌}
use Rattle.base_exact.proofs.Integer as Z
use Rattle.base_exact.proofs.Integer.{ℤ-ring}
use Rattle.base_exact.proofs.Ring.{ring, reads}
use Rattle.spec_spline.specs.Reading.{fineness, fine}

pub fine_mono : (x y : ℤ) → x ≤ℤ y → fine x ≤ℤ fine y
fine_mono x y h = subst (λ t. t ≤ℤ fine y) (Z.*-comm x (pos fineness)) (subst (λ t. (x *ℤ pos fineness) ≤ℤ t) (Z.*-comm y (pos fineness)) (Z.*_mono x y fineness h))

pub fine_mono_< : (x y : ℤ) → x <ℤ y → fine x <ℤ fine y
fine_mono_< x y h = subst (λ t. t <ℤ fine y) (Z.*-comm x (pos fineness)) (subst (λ t. (x *ℤ pos fineness) <ℤ t) (Z.*-comm y (pos fineness)) (Z.*_mono_< x y 255 h))

pub fine_sub : (x y : ℤ) → fine (x -ℤ y) ≡ fine x -ℤ fine y
fine_sub x y = alg (pos fineness) x y
  where
    alg : (p x y : ℤ) → p *ℤ (x -ℤ y) ≡ p *ℤ x -ℤ p *ℤ y
    alg p x y = ring ℤ-ring (p ∷ x ∷ y ∷ []) (search reads) (search reads) refl
