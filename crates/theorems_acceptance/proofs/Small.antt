-- Fractions whose numerator and denominator are at most n, and what keeps them so: the few sums, products and quotients that
-- a step of order 0 or 1 counts.
use mathlib.Core.Path.{◌≡◌, refl, sym, ◌∙◌, ap, ap₂, subst}
use mathlib.Core.Bool.{true, ◌&&◌}
use mathlib.Core.List.{[], ◌∷◌}
use Prim.Native.Nat.{ℕ, suc, ◌*◌, ◌<◌, ◌≤◌}
use native.Mathlib.Omega.{arith}
use borrow.Author.Tests.{ltb-true, lt-ltb}
use lib.Dec.{ltb}
use lib.IntN.{ℤ, pos, nat_abs}
use Rattle.base_exact.specs.Rational.{ℚ, den, int, signed, signed-abs, ◌+ᵠ◌, ◌*ᵠ◌, -ᵠ◌, ◌-ᵠ◌, ◌/ᵠ◌}
use Rattle.base_exact.specs.Order.{◌≤ᵠ◌, ◌<ᵠ◌}
use Rattle.base_exact.proofs.Decide.{and-true}
use Rattle.base_exact.proofs.Integer.{abs_mul}
use Rattle.base_exact.proofs.Ring.{ring}
use Rattle.base_exact.proofs.Rational.{ℚ-ring, readsℚ, add-zero, zero-add, mul-zero, mul-one, one-mul, self, is_int, is_sub, is_div, is_least, int_num, int-den}
use Rattle.base_exact.proofs.Order.{le_nn, le_by, pos_nn, <-≤, unit_num_le_den}
use Rattle.base_fraction.specs.Size.{fits, limit}
use Rattle.theorems_weights.specs.Counted.{entry_tests}
use Rattle.theorems_stages.proofs.Tests.{Good, Every, nothing, more}

-- Numerator and denominator are at most n.
pub record Small (n : ℕ) (q : ℚ) : Type 0 where
  pub numerator : nat_abs q.num ≤ n
  pub denominator : den q ≤ n

-- ---- the size test

pub fits-small : (n : ℕ) (q : ℚ) → suc n ≡ limit → fits q ≡ true → Small n q
unfolding fits
fits-small n q h e = let b = and-true (ltb (nat_abs q.num) limit) (ltb (den q) limit) e in
    record { numerator = omega (arith, ltb-true (nat_abs q.num) limit b.0); denominator = omega (arith, ltb-true (den q) limit b.1) }

pub small-fits : (n : ℕ) (q : ℚ) → n < limit → Small n q → fits q ≡ true
unfolding fits
small-fits n q h s = ap₂ ◌&&◌ (lt-ltb (nat_abs q.num) limit (omega (arith, s.numerator))) (lt-ltb (den q) limit (omega (arith, s.denominator)))

-- ---- integers, and their quotients

pub small_int : {n : ℕ} (z : ℤ) → nat_abs z ≤ n → 1 ≤ n → Small n (int z)
small_int z h k = record { numerator = omega (arith, ap nat_abs (int_num z)); denominator = omega (arith, int-den z) }

pub small-zero : {n : ℕ} → 1 ≤ n → Small n (int (pos 0))
small-zero k = small_int (pos 0) (omega arith) k

pub small-quotient : {n : ℕ} (a c : ℤ) → nat_abs a ≤ n → nat_abs c ≤ n → 0 < nat_abs c → Small n (int a /ᵠ int c)
small-quotient a c h k p = let l = is_least (is_div (is_int a) (is_int c) p) in
    record { numerator = omega (arith, l.0, abs_mul a (signed c 1), ap (λ m. nat_abs a * m) (signed-abs c 1)); denominator = omega (arith, l.1) }

-- ---- what is left to one

pub small-rest : {n : ℕ} (w : ℚ) → Small n w → int (pos 0) <ᵠ w → w <ᵠ int (pos 1) → Small n (int (pos 1) -ᵠ w)
small-rest {n} w s p q = record { numerator = omega (arith, unit_num_le_den (int (pos 1) -ᵠ w) (le_nn (<-≤ q)) below, bound); denominator = omega (arith, bound) }
  where
    bound : den (int (pos 1) -ᵠ w) ≤ n
    bound = omega (arith, (is_least (is_sub (is_int (pos 1)) (self w))).1, s.denominator)

    below : int (pos 1) -ᵠ w ≤ᵠ int (pos 1)
    below = le_by (pos_nn p) (ring ℚ-ring (w ∷ []) (search readsℚ depth 20) (search readsℚ depth 20) refl)

-- ---- the three tests of a new entry

module _ {n : ℕ} (one : 1 ≤ n) (join : ℕ) where
  three : (w v x y : ℚ) {a b c : ℚ} → w *ᵠ x ≡ a → (int (pos 1) -ᵠ v) *ᵠ y ≡ b → a +ᵠ b ≡ c → Small n a → Small n b → Small n c → Every (Good (Small n)) (entry_tests join w v x y)
  unfolding entry_tests
  three w v x y p q r s t u = more (subst (Small n) (sym p) s) (more (subst (Small n) (sym q) t) (more (subst (Small n) (sym (ap₂ ◌+ᵠ◌ p q ∙ r)) u) nothing))

  -- only the first row has an entry, and its factor is 1
  pub only-first : (w v x y : ℚ) → w ≡ int (pos 1) → y ≡ int (pos 0) → Small n x → Every (Good (Small n)) (entry_tests join w v x y)
  only-first w v x y p q s = three w v x y (ap (λ t. t *ᵠ x) p ∙ one-mul x) (ap (λ t. (int (pos 1) -ᵠ v) *ᵠ t) q ∙ mul-zero _) (add-zero x) s (small-zero one) s

  -- only the second has one, and its factor is 1
  pub only-second : (w v x y : ℚ) → v ≡ int (pos 0) → x ≡ int (pos 0) → Small n y → Every (Good (Small n)) (entry_tests join w v x y)
  only-second w v x y p q s =
      three w v x y (ap (λ t. w *ᵠ t) q ∙ mul-zero w) (ap (λ t. (int (pos 1) -ᵠ t) *ᵠ y) p ∙ ring ℚ-ring (y ∷ []) (search readsℚ depth 20) (search readsℚ depth 20) refl)
      (zero-add y) (small-zero one) s s

  -- the first or the second has the entry 1
  pub first_one : (w v x y : ℚ) → x ≡ int (pos 1) → y ≡ int (pos 0) → Small n w → Every (Good (Small n)) (entry_tests join w v x y)
  first_one w v x y p q s = three w v x y (ap (λ t. w *ᵠ t) p ∙ mul-one w) (ap (λ t. (int (pos 1) -ᵠ v) *ᵠ t) q ∙ mul-zero _) (add-zero w) s (small-zero one) s

  pub second_one : (w v x y : ℚ) → x ≡ int (pos 0) → y ≡ int (pos 1) → Small n (int (pos 1) -ᵠ v) → Every (Good (Small n)) (entry_tests join w v x y)
  second_one w v x y p q s = three w v x y (ap (λ t. w *ᵠ t) p ∙ mul-zero w) (ap (λ t. (int (pos 1) -ᵠ v) *ᵠ t) q ∙ mul-one _) (zero-add _) (small-zero one) s s

-- the entry itself
pub last_entry : {Q : ℚ → Type 0} (join : ℕ) (w v x y : ℚ) → Every (Good Q) (entry_tests join w v x y) → Q (w *ᵠ x +ᵠ (int (pos 1) -ᵠ v) *ᵠ y)
unfolding entry_tests
last_entry join w v x y (more a (more b (more c e))) = c
