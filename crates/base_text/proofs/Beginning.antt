-- Whole texts at the beginning of others: a text begins with its own front, what it begins with is its front, and two texts of
-- one length that differ do so whatever follows them.
use mathlib.Core.Path.{◌≡◌, refl, sym, ◌∙◌, ap, ap₂}
use mathlib.Core.Bool.{Bool, true, false, cond}
use mathlib.Core.List.{[], ◌∷◌, ◌++◌}
use Prim.Native.Nat.{ℕ, zero, suc}
use native.Mathlib.Omega.{arith}
use borrow.Author.Tests.{eq-eqb, ne_eqb, eqb-true, eqb-false}
use lib.Dec.{eqb}
use lib.ListN.{length, take}
use Rattle.base_exact.proofs.Decide.{true_not_false}
use Rattle.base_text.specs.Bytes.{Text, begins_with}

pub begins_self : (a t : Text) → begins_with a (a ++ t) ≡ true
unfolding begins_with
begins_self [] t = refl
begins_self (c ∷ a) t = rw (eq-eqb c c refl) (begins_self a t)

pub begins-taken : (n : ℕ) (t : Text) → begins_with (take n t) t ≡ true
unfolding begins_with
begins-taken zero t = refl
begins-taken (suc n) [] = refl
begins-taken (suc n) (c ∷ t) = rw (eq-eqb c c refl) (begins-taken n t)

pub begins-front : (a t : Text) → begins_with a t ≡ true → take (length a) t ≡ a
unfolding begins_with
begins-front [] t e = refl
begins-front (c ∷ a) [] e = absurd (true_not_false e refl)
begins-front (c ∷ a) (d ∷ t) e = go (eqb d c) refl e (begins-front a t)
  where
    go : (b : Bool) → eqb d c ≡ b → cond b (begins_with a t) false ≡ true → (begins_with a t ≡ true → take (length a) t ≡ a) → d ∷ take (length a) t ≡ c ∷ a
    go true w e ih = ap₂ (λ (x : ℕ) (xs : Text). x ∷ xs) (eqb-true d c w) (ih e)
    go false w e ih = absurd (true_not_false e refl)

pub begins_other : (a b t : Text) → length a ≡ length b → begins_with b a ≡ false → begins_with a (b ++ t) ≡ false
unfolding begins_with
begins_other [] [] t e h = absurd (true_not_false refl h)
begins_other [] (d ∷ b) t e h = absurd (omega arith)
begins_other (c ∷ a) [] t e h = absurd (omega arith)
begins_other (c ∷ a) (d ∷ b) t e h = go (eqb c d) refl h (begins_other a b t (omega arith))
  where
    go : (x : Bool) → eqb c d ≡ x → cond x (begins_with b a) false ≡ false → (begins_with b a ≡ false → begins_with a (b ++ t) ≡ false) → cond (eqb d c) (begins_with a (b ++ t)) false ≡ false
    go true w h ih = ap (λ (x : Bool). cond x (begins_with a (b ++ t)) false) (eq-eqb d c (sym (eqb-true c d w))) ∙ ih h
    go false w h ih = ap (λ (x : Bool). cond x (begins_with a (b ++ t)) false) (ne_eqb d c (λ (z : d ≡ c). eqb-false c d w (sym z)))
