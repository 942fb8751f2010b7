-- The rational numbers as an ordered field. p ≤ q says that q - p is not negative (`le-nn`, `nn-le`), so an inequality is
-- proved as in Farkas's lemma: from a sum of products of numbers that are not negative (`le-by`, `lt_by`), the ring solver
-- showing that it is the difference. Here are also what the tests say, both ways, and the absolute value.
use mathlib.Core.Path.{◌≡◌, refl, sym, ◌∙◌, ap, ap₂, subst}
use mathlib.Core.Logic.{◌≢◌, ◌⊎◌, inl, inr}
use mathlib.Core.Bool.{true, false, ◌&&◌}
use mathlib.Core.List.{[], ◌∷◌}
use Prim.Native.Nat.{ℕ, zero, suc, ◌*◌, ◌<◌, ◌≤◌}
use native.Mathlib.Omega.{arith}
use lib.Dec.{T, eqb, eqb→eq}
use lib.IntN.{ℤ, pos, negsuc, ◌+ℤ◌, ◌*ℤ◌, neg_ℤ, nat_abs}
use lib.Signed.{non_neg, ◌≤ℤ◌, ◌<ℤ◌, clash_ℤ, pos-nat_abs}
use Rattle.base_exact.specs.Rational.{ℚ, den, ◌+ᵠ◌, ◌*ᵠ◌, -ᵠ◌, ◌-ᵠ◌, int, inv, inv_z, suc_pos}
use Rattle.base_exact.specs.Order.{leᵠ, ltᵠ, eqᵠ, is_zero, ◌≤ᵠ◌, ◌<ᵠ◌, Nn, absᵠ}
use Rattle.base_exact.proofs.Decide.{true_holds, false_fails, true_not_false, holds_true, refuted_false, and-true}
use Rattle.base_exact.proofs.Integer as Z
use Rattle.base_exact.proofs.Ring.{lit, ring, reads, by_eq}
use Rattle.base_exact.proofs.Rational.{◌is◌over◌, self, is_unique, is_add, is_mul, is_int, is_neg, is_sub, mk_is, zero_is, zero_num, ℚ-ring, readsℚ, int_nonzero, mul_nonzero, inv_nonzero}

-- ---- not negative

sign : (n a : ℤ) (b d : ℕ) → 0 < b → n *ℤ pos b ≡ a *ℤ pos d → T (non_neg a) → T (non_neg n)
sign (pos n) a b d h e t = tt
sign (negsuc n) (pos a) b d h e t = absurd (omega (arith, Z.bal_* (negsuc n) (pos b), ap Z.up e, ap Z.dn e))
sign (negsuc n) (negsuc a) b d h e t = t

-- by the numerator of any reading
pub nn_is : {q : ℚ} {a : ℤ} {b : ℕ} → q is a over b → T (non_neg a) → Nn q
nn_is {q} {a} {b} h t = record { nn = sign q.num a b (den q) h.bpos h.cross t }

pub nn_out : {q : ℚ} {a : ℤ} {b : ℕ} → q is a over b → Nn q → T (non_neg a)
nn_out {q} {a} {b} h t = sign a q.num (den q) b (omega arith) (sym h.cross) t.nn

pub nn_int : (n : ℕ) → Nn (int (pos n))
nn_int n = nn_is (is_int (pos n)) tt

pub nn_add : {p q : ℚ} → Nn p → Nn q → Nn (p +ᵠ q)
nn_add {p} {q} h k = nn_is (is_add (self p) (self q)) (go p.num q.num (den p) (den q) h.nn k.nn)
  where
    go : (a c : ℤ) (b d : ℕ) → T (non_neg a) → T (non_neg c) → T (non_neg (a *ℤ pos d +ℤ c *ℤ pos b))
    go (pos a) (pos c) b d h k = tt
    go (pos a) (negsuc c) b d h k = absurd k
    go (negsuc a) c b d h k = absurd h

pub nn_mul : {p q : ℚ} → Nn p → Nn q → Nn (p *ᵠ q)
nn_mul {p} {q} h k = nn_is (is_mul (self p) (self q)) (go p.num q.num h.nn k.nn)
  where
    go : (a c : ℤ) → T (non_neg a) → T (non_neg c) → T (non_neg (a *ℤ c))
    go (pos a) (pos c) h k = tt
    go (pos a) (negsuc c) h k = absurd k
    go (negsuc a) c h k = absurd h

pub nn_inv : {q : ℚ} → Nn q → Nn (inv q)
unfolding inv
nn_inv {q} h = go q.num h.nn
  where
    go : (z : ℤ) → T (non_neg z) → Nn (inv_z z (den q))
    go (pos zero) t = nn_int 0
    go (pos (suc a)) t = nn_is (mk_is (pos (den q)) (suc a) (suc_pos a)) tt
    go (negsuc a) t = absurd t

pub nn_total : (q : ℚ) → Nn q ⊎ Nn (-ᵠ q)
nn_total q = go q.num refl
  where
    go : (z : ℤ) → q.num ≡ z → Nn q ⊎ Nn (-ᵠ q)
    go (pos n) e = inl (record { nn = rw e tt })
    go (negsuc n) e = inr (nn_is (is_neg q) (rw e tt))

pub nn_antisym : {q : ℚ} → Nn q → Nn (-ᵠ q) → q ≡ int (pos 0)
nn_antisym {q} h k = zero_is q (go q.num h.nn (nn_out (is_neg q) k))
  where
    go : (z : ℤ) → T (non_neg z) → T (non_neg (neg_ℤ z)) → z ≡ pos 0
    go (pos zero) t u = refl
    go (pos (suc n)) t u = absurd u
    go (negsuc n) t u = absurd t

-- ---- p ≤ q says that q - p is not negative
pub le_nn : {x y : ℚ} → x ≤ᵠ y → Nn (y -ᵠ x)
unfolding leᵠ
le_nn {x} {y} h = nn_is (is_sub (self y) (self x)) (Z.le_sub (x.num *ℤ pos (den y)) (y.num *ℤ pos (den x)) (record { le = h.le }))

pub nn_le : {x y : ℚ} → Nn (y -ᵠ x) → x ≤ᵠ y
unfolding leᵠ
nn_le {x} {y} h = record { le = (Z.sub_le (x.num *ℤ pos (den y)) (y.num *ℤ pos (den x)) (nn_out (is_sub (self y) (self x)) h)).le }

-- y - x is a number that is not negative; the identity is the ring solver's
pub le_by : {x y : ℚ} {e : ℚ} → Nn e → e ≡ y -ᵠ x → x ≤ᵠ y
le_by h e = nn_le (subst Nn e h)

-- by the cross products of any two readings
pub is_le : {p q : ℚ} {a c : ℤ} {b d : ℕ} → p is a over b → q is c over d → (a *ℤ pos d) ≤ℤ (c *ℤ pos b) → p ≤ᵠ q
is_le {p} {q} {a} {c} {b} {d} h k l = nn_le (nn_is (is_sub k h) (Z.le_sub (a *ℤ pos d) (c *ℤ pos b) l))

pub le_is : {p q : ℚ} {a c : ℤ} {b d : ℕ} → p is a over b → q is c over d → p ≤ᵠ q → (a *ℤ pos d) ≤ℤ (c *ℤ pos b)
le_is {p} {q} {a} {c} {b} {d} h k l = Z.sub_le (a *ℤ pos d) (c *ℤ pos b) (nn_out (is_sub k h) (le_nn l))

-- ---- a total order
pub ≤-refl : (x : ℚ) → x ≤ᵠ x
≤-refl x = le_by (nn_int 0) (ring ℚ-ring (x ∷ []) (lit (pos 0)) (search reads) refl)

pub ≤_trans : {x y z : ℚ} → x ≤ᵠ y → y ≤ᵠ z → x ≤ᵠ z
≤_trans {x} {y} {z} h k = le_by (nn_add (le_nn h) (le_nn k)) (ring ℚ-ring (x ∷ y ∷ z ∷ []) (search reads) (search reads) refl)

pub ≤_antisym : {x y : ℚ} → x ≤ᵠ y → y ≤ᵠ x → x ≡ y
≤_antisym {x} {y} h k = by_eq ℚ-ring (int (pos 1)) (nn_antisym (le_nn k) (subst Nn (ring ℚ-ring (x ∷ y ∷ []) (search reads) (search reads) refl) (le_nn h)))
    (ring ℚ-ring (x ∷ y ∷ []) (search readsℚ) (search readsℚ) refl)

pub ≤_or_> : (x y : ℚ) → (x ≤ᵠ y) ⊎ (y <ᵠ x)
unfolding leᵠ ltᵠ
≤_or_> x y = go (Z.≤_or_> (x.num *ℤ pos (den y)) (y.num *ℤ pos (den x)))
  where
    go : ((x.num *ℤ pos (den y)) ≤ℤ (y.num *ℤ pos (den x))) ⊎ ((y.num *ℤ pos (den x)) <ℤ (x.num *ℤ pos (den y))) → (x ≤ᵠ y) ⊎ (y <ᵠ x)
    go (inl h) = inl (record { le = h.le })
    go (inr h) = inr (record { lt = h.lt })

pub ≤-total : (x y : ℚ) → (x ≤ᵠ y) ⊎ (y ≤ᵠ x)
≤-total x y = go (nn_total (y -ᵠ x))
  where
    go : Nn (y -ᵠ x) ⊎ Nn (-ᵠ (y -ᵠ x)) → (x ≤ᵠ y) ⊎ (y ≤ᵠ x)
    go (inl h) = inl (nn_le h)
    go (inr h) = inr (le_by h (ring ℚ-ring (x ∷ y ∷ []) (search reads) (search reads) refl))

-- ---- the strict order is that the other way round fails
pub <_not_≥ : {x y : ℚ} → x <ᵠ y → ¬ (y ≤ᵠ x)
unfolding leᵠ ltᵠ
<_not_≥ {x} {y} h k = clash_ℤ {a = x.num *ℤ pos (den y)} {b = y.num *ℤ pos (den x)} (record { lt = h.lt }) (record { le = k.le })

pub not_≥-< : {x y : ℚ} → ¬ (y ≤ᵠ x) → x <ᵠ y
not_≥-< {x} {y} h = go (≤_or_> y x)
  where
    go : (y ≤ᵠ x) ⊎ (x <ᵠ y) → x <ᵠ y
    go (inl k) = absurd (h k)
    go (inr k) = k

pub not_<-≥ : {x y : ℚ} → ¬ (x <ᵠ y) → y ≤ᵠ x
not_<-≥ {x} {y} h = go (≤_or_> y x)
  where
    go : (y ≤ᵠ x) ⊎ (x <ᵠ y) → y ≤ᵠ x
    go (inl k) = k
    go (inr k) = absurd (h k)

pub <-irrefl : (x : ℚ) → ¬ (x <ᵠ x)
<-irrefl x h = <_not_≥ h (≤-refl x)

pub <-≤ : {x y : ℚ} → x <ᵠ y → x ≤ᵠ y
<-≤ {x} {y} h = go (≤-total x y)
  where
    go : (x ≤ᵠ y) ⊎ (y ≤ᵠ x) → x ≤ᵠ y
    go (inl k) = k
    go (inr k) = absurd (<_not_≥ h k)

pub <-≤_trans : {x y z : ℚ} → x <ᵠ y → y ≤ᵠ z → x <ᵠ z
<-≤_trans h k = not_≥-< (λ l. <_not_≥ h (≤_trans k l))

pub ≤-<_trans : {x y z : ℚ} → x ≤ᵠ y → y <ᵠ z → x <ᵠ z
≤-<_trans h k = not_≥-< (λ l. <_not_≥ k (≤_trans l h))

pub <_trans : {x y z : ℚ} → x <ᵠ y → y <ᵠ z → x <ᵠ z
<_trans h k = <-≤_trans h (<-≤ k)

pub <-≢ : {x y : ℚ} → x <ᵠ y → x ≢ y
<-≢ {x} {y} h e = <-irrefl y (subst (λ t. t <ᵠ y) e h)

pub ≤-≢-< : {x y : ℚ} → x ≤ᵠ y → x ≢ y → x <ᵠ y
≤-≢-< h n = not_≥-< (λ k. n (≤_antisym h k))

pub is_lt : {p q : ℚ} {a c : ℤ} {b d : ℕ} → p is a over b → q is c over d → (a *ℤ pos d) <ℤ (c *ℤ pos b) → p <ᵠ q
is_lt h k l = not_≥-< (λ m. clash_ℤ l (le_is k h m))

pub lt_is : {p q : ℚ} {a c : ℤ} {b d : ℕ} → p is a over b → q is c over d → p <ᵠ q → (a *ℤ pos d) <ℤ (c *ℤ pos b)
lt_is {p} {q} {a} {c} {b} {d} h k l = go (Z.≤_or_> (c *ℤ pos b) (a *ℤ pos d))
  where
    go : ((c *ℤ pos b) ≤ℤ (a *ℤ pos d)) ⊎ ((a *ℤ pos d) <ℤ (c *ℤ pos b)) → (a *ℤ pos d) <ℤ (c *ℤ pos b)
    go (inl m) = absurd (<_not_≥ l (is_le k h m))
    go (inr m) = m

-- ---- zero and above: `Nn q` is 0 ≤ q; a number above zero is not negative and not zero
pub nn_zero_le : {q : ℚ} → Nn q → int (pos 0) ≤ᵠ q
nn_zero_le {q} h = le_by h (ring ℚ-ring (q ∷ []) (search readsℚ) (search readsℚ) refl)

pub zero_le_nn : {q : ℚ} → int (pos 0) ≤ᵠ q → Nn q
zero_le_nn {q} h = subst Nn (ring ℚ-ring (q ∷ []) (search readsℚ) (search readsℚ) refl) (le_nn h)

pub pos_nn : {q : ℚ} → int (pos 0) <ᵠ q → Nn q
pos_nn h = zero_le_nn (<-≤ h)

pub pos_nonzero : {q : ℚ} → int (pos 0) <ᵠ q → q ≢ int (pos 0)
pos_nonzero h e = <-≢ h (sym e)

pub nn_pos : {q : ℚ} → Nn q → q ≢ int (pos 0) → int (pos 0) <ᵠ q
nn_pos h n = ≤-≢-< (nn_zero_le h) (λ e. n (sym e))

pub pos_int : (n : ℕ) → int (pos 0) <ᵠ int (pos (suc n))
pos_int n = nn_pos (nn_int (suc n)) (int_nonzero n)

pub zero<one : int (pos 0) <ᵠ int (pos 1)
zero<one = pos_int 0

pub pos_of_nat : (n : ℕ) → 0 < n → int (pos 0) <ᵠ int (pos n)
pos_of_nat zero h = absurd (omega arith)
pos_of_nat (suc n) h = pos_int n

-- a number from 0 to 1 has a numerator no larger than its denominator
pub unit_num_le_den : (q : ℚ) → Nn q → q ≤ᵠ int (pos 1) → nat_abs q.num ≤ den q
unit_num_le_den q h k = go q.num h.nn (le_is (self q) (is_int (pos 1)) k)
  where
    go : (z : ℤ) → T (non_neg z) → (z *ℤ pos 1) ≤ℤ (pos 1 *ℤ pos (den q)) → nat_abs z ≤ den q
    go (pos n) p l = omega (arith, Z.≤_out _ _ l)
    go (negsuc n) p l = absurd p

pub pos_add : {p q : ℚ} → int (pos 0) <ᵠ p → Nn q → int (pos 0) <ᵠ p +ᵠ q
pos_add {p} {q} h k = not_≥-< (λ l. <_not_≥ h (le_by (nn_add (le_nn l) k) (ring ℚ-ring (p ∷ q ∷ []) (search readsℚ) (search readsℚ) refl)))

pub pos_mul : {p q : ℚ} → int (pos 0) <ᵠ p → int (pos 0) <ᵠ q → int (pos 0) <ᵠ p *ᵠ q
pos_mul h k = nn_pos (nn_mul (pos_nn h) (pos_nn k)) (mul_nonzero (pos_nonzero h) (pos_nonzero k))

pub pos_inv : {q : ℚ} → int (pos 0) <ᵠ q → int (pos 0) <ᵠ inv q
pos_inv h = nn_pos (nn_inv (pos_nn h)) (inv_nonzero (pos_nonzero h))

pub lt_pos : {x y : ℚ} → x <ᵠ y → int (pos 0) <ᵠ y -ᵠ x
lt_pos {x} {y} h = not_≥-< (λ l. <_not_≥ h (le_by (le_nn l) (ring ℚ-ring (x ∷ y ∷ []) (search readsℚ) (search readsℚ) refl)))

pub pos_lt : {x y : ℚ} → int (pos 0) <ᵠ y -ᵠ x → x <ᵠ y
pos_lt {x} {y} h = not_≥-< (λ l. <_not_≥ h (le_by (le_nn l) (ring ℚ-ring (x ∷ y ∷ []) (search readsℚ) (search readsℚ) refl)))

-- y - x is a number above zero
pub lt_by : {x y : ℚ} {e : ℚ} → int (pos 0) <ᵠ e → e ≡ y -ᵠ x → x <ᵠ y
lt_by h e = pos_lt (subst (λ t. int (pos 0) <ᵠ t) e h)

-- ---- the order and the field
pub +_mono : {a b c d : ℚ} → a ≤ᵠ b → c ≤ᵠ d → a +ᵠ c ≤ᵠ b +ᵠ d
+_mono {a} {b} {c} {d} h k = le_by (nn_add (le_nn h) (le_nn k)) (ring ℚ-ring (a ∷ b ∷ c ∷ d ∷ []) (search reads) (search reads) refl)

pub +_mono_< : {a b c d : ℚ} → a <ᵠ b → c ≤ᵠ d → a +ᵠ c <ᵠ b +ᵠ d
+_mono_< {a} {b} {c} {d} h k = lt_by (pos_add (lt_pos h) (le_nn k)) (ring ℚ-ring (a ∷ b ∷ c ∷ d ∷ []) (search reads) (search reads) refl)

pub neg_mono : {a b : ℚ} → a ≤ᵠ b → -ᵠ b ≤ᵠ -ᵠ a
neg_mono {a} {b} h = le_by (le_nn h) (ring ℚ-ring (a ∷ b ∷ []) (search reads) (search reads) refl)

-- a factor that is not negative
pub *_mono : {a b c : ℚ} → Nn c → a ≤ᵠ b → a *ᵠ c ≤ᵠ b *ᵠ c
*_mono {a} {b} {c} h k = le_by (nn_mul (le_nn k) h) (ring ℚ-ring (a ∷ b ∷ c ∷ []) (search reads) (search reads) refl)

pub *-mono₂ : {a b c d : ℚ} → Nn a → Nn d → a ≤ᵠ b → c ≤ᵠ d → a *ᵠ c ≤ᵠ b *ᵠ d
*-mono₂ {a} {b} {c} {d} h l k m = le_by (nn_add (nn_mul (le_nn k) l) (nn_mul h (le_nn m))) (ring ℚ-ring (a ∷ b ∷ c ∷ d ∷ []) (search reads) (search reads) refl)

-- a factor above zero, which also cancels
pub *_mono_< : {a b c : ℚ} → int (pos 0) <ᵠ c → a <ᵠ b → a *ᵠ c <ᵠ b *ᵠ c
*_mono_< {a} {b} {c} h k = lt_by (pos_mul (lt_pos k) h) (ring ℚ-ring (a ∷ b ∷ c ∷ []) (search reads) (search reads) refl)

pub *_cancel : {a b c : ℚ} → int (pos 0) <ᵠ c → a *ᵠ c ≤ᵠ b *ᵠ c → a ≤ᵠ b
*_cancel h k = not_<-≥ (λ l. <_not_≥ (*_mono_< h l) k)

pub *_cancel_< : {a b c : ℚ} → Nn c → a *ᵠ c <ᵠ b *ᵠ c → a <ᵠ b
*_cancel_< h k = not_≥-< (λ l. <_not_≥ k (*_mono h l))

-- the integers keep their order
pub int_mono : {a b : ℤ} → a ≤ℤ b → int a ≤ᵠ int b
int_mono {a} {b} h = is_le (is_int a) (is_int b) (Z.*_mono a b 1 h)

pub int_mono_< : {a b : ℤ} → a <ℤ b → int a <ᵠ int b
int_mono_< {a} {b} h = is_lt (is_int a) (is_int b) (Z.*_mono_< a b 0 h)

pub int_cancel : (a b : ℤ) → int a ≤ᵠ int b → a ≤ℤ b
int_cancel a b h = Z.*_cancel a b 0 (le_is (is_int a) (is_int b) h)

pub int_cancel_< : (a b : ℤ) → int a <ᵠ int b → a <ℤ b
int_cancel_< a b h = Z.*_cancel_< a b 1 (lt_is (is_int a) (is_int b) h)

-- ---- what the tests say, both ways

pub leᵠ_true : (x y : ℚ) → leᵠ x y ≡ true → x ≤ᵠ y
leᵠ_true x y e = record { le = true_holds e }

pub leᵠ_false : (x y : ℚ) → leᵠ x y ≡ false → y <ᵠ x
leᵠ_false x y e = not_≥-< (λ h. false_fails e h.le)

pub ltᵠ_true : (x y : ℚ) → ltᵠ x y ≡ true → x <ᵠ y
ltᵠ_true x y e = record { lt = true_holds e }

pub ltᵠ_false : (x y : ℚ) → ltᵠ x y ≡ false → y ≤ᵠ x
ltᵠ_false x y e = not_<-≥ (λ h. false_fails e h.lt)

pub le_test : {x y : ℚ} → x ≤ᵠ y → leᵠ x y ≡ true
le_test {x} {y} h = holds_true (leᵠ x y) h.le

pub not_le_test : {x y : ℚ} → y <ᵠ x → leᵠ x y ≡ false
not_le_test {x} {y} h = refuted_false (leᵠ x y) (λ t. <_not_≥ h (record { le = t }))

pub lt_test : {x y : ℚ} → x <ᵠ y → ltᵠ x y ≡ true
lt_test {x} {y} h = holds_true (ltᵠ x y) h.lt

pub not_lt_test : {x y : ℚ} → y ≤ᵠ x → ltᵠ x y ≡ false
not_lt_test {x} {y} h = refuted_false (ltᵠ x y) (λ t. <_not_≥ (record { lt = t }) h)

pub eqᵠ_true : (x y : ℚ) → eqᵠ x y ≡ true → x ≡ y
unfolding eqᵠ
eqᵠ_true x y e = let h = and-true (leᵠ x y) (leᵠ y x) e in ≤_antisym (leᵠ_true x y h.0) (leᵠ_true y x h.1)

pub eq_test : {x y : ℚ} → x ≡ y → eqᵠ x y ≡ true
unfolding eqᵠ
eq_test {x} {y} e = ap₂ ◌&&◌ (le_test (subst (λ t. x ≤ᵠ t) e (≤-refl x))) (le_test (subst (λ t. t ≤ᵠ x) e (≤-refl x)))

pub eqᵠ_false : (x y : ℚ) → eqᵠ x y ≡ false → x ≢ y
eqᵠ_false x y e h = true_not_false (eq_test h) e

pub not_eq_test : {x y : ℚ} → x ≢ y → eqᵠ x y ≡ false
not_eq_test {x} {y} h = refuted_false (eqᵠ x y) (λ t. h (eqᵠ_true x y (holds_true (eqᵠ x y) t)))

pub is_zero_true : (q : ℚ) → is_zero q ≡ true → q ≡ int (pos 0)
unfolding is_zero
is_zero_true q e = zero_is q (Z.abs-zero q.num (eqb→eq (nat_abs q.num) 0 (true_holds e)))

pub zero_test : {q : ℚ} → q ≡ int (pos 0) → is_zero q ≡ true
unfolding is_zero
zero_test h = ap (λ z. eqb (nat_abs z) 0) (zero_num h)

pub is_zero_false : (q : ℚ) → is_zero q ≡ false → q ≢ int (pos 0)
is_zero_false q e h = true_not_false (zero_test h) e

pub nonzero_test : {q : ℚ} → q ≢ int (pos 0) → is_zero q ≡ false
nonzero_test {q} h = refuted_false (is_zero q) (λ t. h (is_zero_true q (holds_true (is_zero q) t)))

-- ---- the absolute value
pub abs_nn : (q : ℚ) → Nn (absᵠ q)
unfolding absᵠ
abs_nn q = record { nn = tt }

pub is_abs : {q : ℚ} {a : ℤ} {b : ℕ} → q is a over b → absᵠ q is pos (nat_abs a) over b
unfolding absᵠ
is_abs {q} {a} {b} h = record { bpos = h.bpos; cross = ap pos (sym (Z.abs_mul q.num (pos b)) ∙ ap nat_abs h.cross ∙ Z.abs_mul a (pos (den q))) }

pub abs_of_nn : {q : ℚ} → Nn q → absᵠ q ≡ q
abs_of_nn {q} h = is_unique (is_abs (self q)) (self q) (ap (λ t. t *ℤ pos (den q)) (pos-nat_abs q.num h.nn))

pub abs_neg : (q : ℚ) → absᵠ (-ᵠ q) ≡ absᵠ q
abs_neg q = is_unique (is_abs (is_neg q)) (is_abs (self q)) (ap (λ t. pos t *ℤ pos (den q)) (Z.abs_neg q.num))

pub abs_mul : (p q : ℚ) → absᵠ (p *ᵠ q) ≡ absᵠ p *ᵠ absᵠ q
abs_mul p q = is_unique (is_abs (is_mul (self p) (self q))) (is_mul (is_abs (self p)) (is_abs (self q))) (ap (λ t. pos t *ℤ pos (den p * den q)) (Z.abs_mul p.num q.num))

-- it is the number or its negation, whichever is greater
pub abs-cases : (q : ℚ) → (absᵠ q ≡ q) ⊎ (absᵠ q ≡ -ᵠ q)
abs-cases q = go (nn_total q)
  where
    go : Nn q ⊎ Nn (-ᵠ q) → (absᵠ q ≡ q) ⊎ (absᵠ q ≡ -ᵠ q)
    go (inl h) = inl (abs_of_nn h)
    go (inr h) = inr (sym (abs_neg q) ∙ abs_of_nn h)

pub le_abs : (q : ℚ) → q ≤ᵠ absᵠ q
le_abs q = go (nn_total q)
  where
    go : Nn q ⊎ Nn (-ᵠ q) → q ≤ᵠ absᵠ q
    go (inl h) = rw (abs_of_nn h) (≤-refl q)
    go (inr h) = le_by (nn_add (abs_nn q) h) refl

pub neg_le_abs : (q : ℚ) → -ᵠ q ≤ᵠ absᵠ q
neg_le_abs q = rw (abs_neg q) at (le_abs (-ᵠ q))

pub abs_le : {q b : ℚ} → q ≤ᵠ b → -ᵠ q ≤ᵠ b → absᵠ q ≤ᵠ b
abs_le {q} {b} h k = go (abs-cases q)
  where
    go : (absᵠ q ≡ q) ⊎ (absᵠ q ≡ -ᵠ q) → absᵠ q ≤ᵠ b
    go (inl e) = rw e h
    go (inr e) = rw e k

-- the triangle inequality
pub abs-add : (p q : ℚ) → absᵠ (p +ᵠ q) ≤ᵠ absᵠ p +ᵠ absᵠ q
abs-add p q = abs_le (+_mono (le_abs p) (le_abs q))
    (subst (λ t. t ≤ᵠ absᵠ p +ᵠ absᵠ q) (ring ℚ-ring (p ∷ q ∷ []) (search reads) (search reads) refl) (+_mono (neg_le_abs p) (neg_le_abs q)))

pub abs_sub : (p q : ℚ) → absᵠ (p -ᵠ q) ≤ᵠ absᵠ p +ᵠ absᵠ q
abs_sub p q = rw (abs_neg q) at (abs-add p (-ᵠ q))

pub abs-zero : {q : ℚ} → absᵠ q ≡ int (pos 0) → q ≡ int (pos 0)
abs-zero {q} e = ≤_antisym (subst (λ t. q ≤ᵠ t) e (le_abs q))
    (le_by (le_nn (subst (λ t. -ᵠ q ≤ᵠ t) e (neg_le_abs q))) (ring ℚ-ring (q ∷ []) (search readsℚ) (search readsℚ) refl))
