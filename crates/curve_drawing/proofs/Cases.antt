-- The floats of a line, a quadratic and a cubic: the numbers from a column on.
use mathlib.Core.Path.{◌≡◌, subst}
use mathlib.Core.List.{List, [], ◌∷◌}
use Prim.Native.Nat.{ℕ, suc, ◌+◌}
use native.Mathlib.Omega.{arith}
use lib.Ieee.{Float}
use lib.IntN.{ℤ, pos}
use lib.ListN.{get_or}
use Rattle.base_exact.specs.Tabulate.{tab}
use Rattle.spec_spline.specs.Reading.{fineness}
use Rattle.curve_drawing.specs.Floats.{Is, Each, none, more}

module _ (os : List ℤ) (c d : ℕ) where
  abbrev local : ℕ → ℤ
  local i = get_or os (c + i) (pos 0)

  here : (x : Float) → Is x (get_or os c (pos 0)) fineness → Is x (local 0) fineness
  here x h = subst (λ i. Is x (get_or os i (pos 0)) fineness) (let e : c ≡ c + 0 = omega arith in e) h

  counted : {n : ℕ} {xs : List Float} → d ≡ n → Each fineness xs (tab (suc n) local) → Each fineness xs (tab (1 + d) local)
  counted {n} {xs} e h = subst (λ m. Each fineness xs (tab m local)) (let z : suc n ≡ 1 + d = omega arith in z) h

  pub line-held : {x y : Float} → d ≡ 1 → Is x (get_or os c (pos 0)) fineness → Is y (local 1) fineness
      → Each fineness (x ∷ y ∷ []) (tab (1 + d) local)
  unfolding tab
  line-held {x} e p q = counted e (more (here x p) (more q none))

  pub quadratic_held : {x y z : Float} → d ≡ 2 → Is x (get_or os c (pos 0)) fineness → Is y (local 1) fineness → Is z (local 2) fineness
      → Each fineness (x ∷ y ∷ z ∷ []) (tab (1 + d) local)
  unfolding tab
  quadratic_held {x} e p q r = counted e (more (here x p) (more q (more r none)))

  pub cubic-held : {x y z w : Float} → d ≡ 3 → Is x (get_or os c (pos 0)) fineness → Is y (local 1) fineness → Is z (local 2) fineness
      → Is w (local 3) fineness → Each fineness (x ∷ y ∷ z ∷ w ∷ []) (tab (1 + d) local)
  unfolding tab
  cubic-held {x} e p q r t = counted e (more (here x p) (more q (more r (more t none))))
