-- Where the ordinates of a segment stand: they rise from its breakpoint to the next one by equal parts.
use mathlib.Core.Path.{◌≡◌, refl, sym, ◌∙◌, ap, subst}
use mathlib.Core.Logic.{◌⊎◌, inl, inr}
use mathlib.Core.List.{[], ◌∷◌}
use Prim.Native.Nat.{ℕ, zero, suc, ◌+◌, ◌-◌, ◌<◌, ◌≤◌}
use native.Mathlib.Omega.{arith}
use lib.IntN.{pos, ◌-ℤ◌}
use lib.Signed.{pos-nat_abs}
use Rattle.base_exact.specs.Rational.{ℚ, int, inv, ◌+ᵠ◌, ◌*ᵠ◌, ◌-ᵠ◌}
use Rattle.base_exact.specs.Order.{◌≤ᵠ◌, ◌<ᵠ◌}
use Rattle.base_exact.proofs.Decide.{le_or_lt}
use Rattle.base_exact.proofs.Integer as Z
use Rattle.base_exact.proofs.Order as Q
use Rattle.base_exact.proofs.Ring.{ring, by_eq}
use Rattle.base_exact.proofs.Rational.{ℚ-ring, readsℚ, mul_inv, int_sub}
use Rattle.spec_spline.specs.Space.{Space, segments, break, degree, width}
use Rattle.spec_spline.proofs.Legal.{Checked, legal}
use Rattle.theorems_values.proofs.Segment.{breaks_rise}
use Rattle.theorems_lines.specs.Lines.{place_of}

module _ (s : Space) (c : Checked s) (j : ℕ) (h : j < segments s) (d : 0 < degree s j) where
  abbrev pub part : ℚ
  part = int (pos (width s j)) *ᵠ inv (int (pos (degree s j)))

  pub place_is : (t : ℕ) → place_of s j t ≡ int (break s j) +ᵠ int (pos t) *ᵠ part
  unfolding place_of
  place_is t = ap (λ q. int (break s j) +ᵠ q) (alg (int (pos (width s j))) (int (pos t)) (inv (int (pos (degree s j)))))
    where
      alg : (w t d : ℚ) → w *ᵠ t *ᵠ d ≡ t *ᵠ (w *ᵠ d)
      alg w t d = ring ℚ-ring (w ∷ t ∷ d ∷ []) (search readsℚ depth 20) (search readsℚ depth 20) refl

  pub part_positive : int (pos 0) <ᵠ part
  part_positive = Q.pos_mul (Q.pos_of_nat (width s j) ((legal s c).positive_width j h)) (Q.pos_inv (Q.pos_of_nat (degree s j) d))

  pub places-rise : (t u : ℕ) → t < u → place_of s j t <ᵠ place_of s j u
  places-rise t u l = subst (λ q. q <ᵠ place_of s j u) (sym (place_is t)) (subst (λ q. int (break s j) +ᵠ int (pos t) *ᵠ part <ᵠ q) (sym (place_is u))
      (swapped (int (break s j)) (int (pos t) *ᵠ part) (int (pos u) *ᵠ part) (Q.*_mono_< part_positive (Q.int_mono_< (Z.<_in (pos t) (pos u) (omega arith))))))
    where
      swapped : (x a b : ℚ) → a <ᵠ b → x +ᵠ a <ᵠ x +ᵠ b
      swapped x a b m = subst (λ q. q <ᵠ x +ᵠ b) (commuted a x) (subst (λ q. a +ᵠ x <ᵠ q) (commuted b x) (Q.+_mono_< m (Q.≤-refl x)))
        where
          commuted : (a x : ℚ) → a +ᵠ x ≡ x +ᵠ a
          commuted a x = ring ℚ-ring (a ∷ x ∷ []) (search readsℚ depth 20) (search readsℚ depth 20) refl

  -- the first and the last
  pub place-first : place_of s j 0 ≡ int (break s j)
  place-first = place_is 0 ∙ ring ℚ-ring (int (break s j) ∷ int (pos (width s j)) ∷ inv (int (pos (degree s j))) ∷ []) (search readsℚ depth 20) (search readsℚ depth 20) refl

  pub place-last : place_of s j (degree s j) ≡ int (break s (suc j))
  place-last = place_is (degree s j)
      ∙ ap (λ q. int (break s j) +ᵠ q) (by_eq ℚ-ring (int (pos (width s j))) (mul_inv (int (pos (degree s j))) (Q.pos_nonzero (Q.pos_of_nat (degree s j) d)))
      (ring ℚ-ring (int (pos (width s j)) ∷ int (pos (degree s j)) ∷ inv (int (pos (degree s j))) ∷ []) (search readsℚ depth 20) (search readsℚ depth 20) refl))
      ∙ ap (λ z. int (break s j) +ᵠ int z) (pos-nat_abs (break s (suc j) -ℤ break s j) (Z.le_sub (break s j) (break s (suc j)) (Z.<-≤ _ _ (breaks_rise s c j h))))
      ∙ ap (λ q. int (break s j) +ᵠ q) (int_sub (break s (suc j)) (break s j)) ∙ alg (int (break s j)) (int (break s (suc j)))
    where
      alg : (x y : ℚ) → x +ᵠ (y -ᵠ x) ≡ y
      alg x y = ring ℚ-ring (x ∷ y ∷ []) (search readsℚ depth 20) (search readsℚ depth 20) refl

  pub not_before : (t : ℕ) → int (break s j) ≤ᵠ place_of s j t
  not_before t = go (le_or_lt t 0)
    where
      go : (t ≤ 0) ⊎ (0 < t) → int (break s j) ≤ᵠ place_of s j t
      go (inl l) = subst (λ q. q ≤ᵠ place_of s j t) (ap (place_of s j) (let z : t ≡ 0 = omega arith in z) ∙ place-first) (Q.≤-refl _)
      go (inr l) = subst (λ q. q ≤ᵠ place_of s j t) place-first (Q.<-≤ (places-rise 0 t l))

  pub before_end : (t : ℕ) → t < degree s j → place_of s j t <ᵠ int (break s (suc j))
  before_end t l = subst (λ q. place_of s j t <ᵠ q) place-last (places-rise t (degree s j) l)
