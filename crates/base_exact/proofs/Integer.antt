-- The integers as an ordered commutative ring. Every statement is read as one of natural numbers: z is `up z` - `dn z`,
-- each operation has a balance equation (`bal-`) between the parts, and `omega` proves the rest. With it come the ring
-- solver's instance, the absolute value and the two bounds of division rounded down.
use mathlib.Core.Path.{◌≡◌, refl, ap}
use mathlib.Core.Logic.{◌≢◌, ◌⊎◌, inl, inr}
use mathlib.Core.Bool.{Bool, true, false, not, cond}
use mathlib.Core.List.{List}
use Prim.Native.Nat.{ℕ, zero, suc, ◌+◌, ◌*◌, ◌-◌, ◌/◌, ◌<◌, ◌≤◌}
use native.Mathlib.Omega.{arith}
use native.Mathlib.Nat.{eq-or-lt_of_le, mul-pos, mul-le-mul, mul-le-mul_right, mul-lt-mul_of_pos_right, le_of_mul-le-mul_right}
use native.Mathlib.Nat.{eq_of_mul-eq-mul_right, div-add-mod', mod-lt}
use lib.Dec.{T, ltb, ltb→lt, nltb→le, leb→le, le→leb, lt→ltb}
use lib.IntN.{ℤ, pos, negsuc, sub_ℕ, ◌+ℤ◌, ◌-ℤ◌, ◌*ℤ◌, neg_ℤ, nat_abs}
use lib.Signed.{◌≤ℤ◌, ◌<ℤ◌, non_neg, yes_non_neg}
use Rattle.base_exact.specs.Floor.{floor_div}
use Rattle.base_exact.proofs.Decide.{le_or_lt}
use Rattle.base_exact.proofs.Ring.{CRing, Is, lit, reads}
pub use lib.IntN.{+ℤ_comm as +_comm, +ℤ_assoc as +_assoc, +ℤ_idr as +-zero, +ℤ_invr as +-neg, *ℤ_comm as *-comm}
pub use lib.Signed.{≤ℤ_refl as ≤-refl, <ℤ_irrefl as <-irrefl}

-- ---- the two parts

-- the part above zero
abbrev pub up : ℤ → ℕ
up (pos n) = n
up (negsuc n) = 0

-- the part below zero
abbrev pub dn : ℤ → ℕ
dn (pos n) = 0
dn (negsuc n) = suc n

cond_ind : (c : Bool) (x y : ℤ) (P : ℤ → Type 0) → (T c → P x) → (T (not c) → P y) → P (cond c x y)
cond_ind true x y P f g = f tt
cond_ind false x y P f g = g tt

pub bal_sub : (a b : ℕ) → up (sub_ℕ a b) + b ≡ dn (sub_ℕ a b) + a
bal_sub a b = cond_ind (ltb a b) (negsuc (b - suc a)) (pos (a - b)) (λ z. up z + b ≡ dn z + a)
    (λ t. let h : a < b = ltb→lt a b t in omega arith) (λ t. let h : b ≤ a = nltb→le a b t in omega arith)

pub bal_neg : (x : ℤ) → (up (neg_ℤ x) ≡ dn x) × (dn (neg_ℤ x) ≡ up x)
bal_neg (pos zero) = omega arith
bal_neg (pos (suc a)) = omega arith
bal_neg (negsuc a) = omega arith

pub bal_+ : (x y : ℤ) → up (x +ℤ y) + dn x + dn y ≡ dn (x +ℤ y) + up x + up y
bal_+ (pos a) (pos b) = omega arith
bal_+ (pos a) (negsuc b) = omega (arith, bal_sub a (suc b))
bal_+ (negsuc a) (pos b) = omega (arith, bal_sub b (suc a))
bal_+ (negsuc a) (negsuc b) = omega arith

pub bal_* : (x y : ℤ) → up (x *ℤ y) + up x * dn y + dn x * up y ≡ dn (x *ℤ y) + up x * up y + dn x * dn y
bal_* (pos a) (pos b) = omega arith
bal_* (pos a) (negsuc b) = omega (arith, bal_neg (pos (a * suc b)))
bal_* (negsuc a) (pos b) = omega (arith, bal_neg (pos (suc a * b)))
bal_* (negsuc a) (negsuc b) = omega arith

-- equal differences of the parts are equal integers
pub ext : (x y : ℤ) → up x + dn y ≡ dn x + up y → x ≡ y
ext (pos a) (pos b) h = ap pos (omega arith)
ext (pos a) (negsuc b) h = absurd (omega arith)
ext (negsuc a) (pos b) h = absurd (omega arith)
ext (negsuc a) (negsuc b) h = ap negsuc (omega arith)

-- ---- the ring
pub *_assoc : (x y z : ℤ) → x *ℤ y *ℤ z ≡ x *ℤ (y *ℤ z)
*_assoc x y z =
    ext _ _ (omega (
      arith,
      bal_* (x *ℤ y) z,
      bal_* x (y *ℤ z),
      ap (λ t. t * up z) (bal_* x y),
      ap (λ t. t * dn z) (bal_* x y),
      ap (λ t. up x * t) (bal_* y z),
      ap (λ t. dn x * t) (bal_* y z),
    ))

pub *-+ : (x y z : ℤ) → x *ℤ (y +ℤ z) ≡ x *ℤ y +ℤ x *ℤ z
*-+ x y z =
    ext _ _ (omega (
      arith,
      bal_* x (y +ℤ z),
      bal_+ (x *ℤ y) (x *ℤ z),
      bal_* x y,
      bal_* x z,
      ap (λ t. up x * t) (bal_+ y z),
      ap (λ t. dn x * t) (bal_+ y z),
    ))

pub *_one : (x : ℤ) → x *ℤ pos 1 ≡ x
*_one x = ext _ _ (omega (arith, bal_* x (pos 1)))

pub *-zero : (x : ℤ) → x *ℤ pos 0 ≡ pos 0
*-zero x = ext _ _ (omega (arith, bal_* x (pos 0)))

pub neg_is : (x : ℤ) → neg_ℤ x ≡ negsuc 0 *ℤ x
neg_is x = ext _ _ (omega (arith, bal_neg x, bal_* (negsuc 0) x))

pub neg_* : (x y : ℤ) → neg_ℤ x *ℤ y ≡ neg_ℤ (x *ℤ y)
neg_* x y =
    ext _ _ (omega (
      arith,
      bal_* (neg_ℤ x) y,
      bal_* x y,
      bal_neg (x *ℤ y),
      ap (λ t. t * up y) (bal_neg x).0,
      ap (λ t. t * dn y) (bal_neg x).0,
      ap (λ t. t * up y) (bal_neg x).1,
      ap (λ t. t * dn y) (bal_neg x).1,
    ))

pub *_neg : (x y : ℤ) → x *ℤ neg_ℤ y ≡ neg_ℤ (x *ℤ y)
*_neg x y =
    ext _ _ (omega (
      arith,
      bal_* x (neg_ℤ y),
      bal_* x y,
      bal_neg (x *ℤ y),
      ap (λ t. up x * t) (bal_neg y).0,
      ap (λ t. dn x * t) (bal_neg y).0,
      ap (λ t. up x * t) (bal_neg y).1,
      ap (λ t. dn x * t) (bal_neg y).1,
    ))

abbrev pub ℤ-ring : CRing ℤ
ℤ-ring = record {
  add = ◌+ℤ◌;
  mul = ◌*ℤ◌;
  neg = neg_ℤ;
  int = λ z. z;
  add_comm = +_comm;
  add_assoc = +_assoc;
  add-zero = +-zero;
  mul_comm = *-comm;
  mul_assoc = *_assoc;
  mul-one = *_one;
  mul_add = *-+;
  neg_is = neg_is;
  mul-zero = *-zero;
  int-add = λ a b. refl;
  int_mul = λ a b. refl;
}

abbrev pub lit⁺ : {ρ : List ℤ} {n : ℕ} → Is ℤ-ring ρ (pos n)
lit⁺ {n = n} = lit (pos n)

abbrev pub lit⁻ : {ρ : List ℤ} {n : ℕ} → Is ℤ-ring ρ (negsuc n)
lit⁻ {n = n} = lit (negsuc n)

-- a variable of the list goes first: `pos n` may be one
pub ruleset readsℤ = (reads, lit⁺, lit⁻)

-- ---- the order of lib.Signed, by the parts
pub ≤_in : (x y : ℤ) → up x + dn y ≤ dn x + up y → x ≤ℤ y
≤_in (pos a) (pos b) h = record { le = le→leb a b (omega arith) }
≤_in (pos a) (negsuc b) h = absurd (omega arith)
≤_in (negsuc a) (pos b) h = record { le = tt }
≤_in (negsuc a) (negsuc b) h = record { le = le→leb b a (omega arith) }

pub ≤_out : (x y : ℤ) → x ≤ℤ y → up x + dn y ≤ dn x + up y
≤_out (pos a) (pos b) h = omega (arith, leb→le a b h.le)
≤_out (pos a) (negsuc b) h = absurd h.le
≤_out (negsuc a) (pos b) h = omega arith
≤_out (negsuc a) (negsuc b) h = omega (arith, leb→le b a h.le)

pub <_in : (x y : ℤ) → up x + dn y < dn x + up y → x <ℤ y
<_in (pos a) (pos b) h = record { lt = lt→ltb a b (omega arith) }
<_in (pos a) (negsuc b) h = absurd (omega arith)
<_in (negsuc a) (pos b) h = record { lt = tt }
<_in (negsuc a) (negsuc b) h = record { lt = lt→ltb b a (omega arith) }

pub <_out : (x y : ℤ) → x <ℤ y → up x + dn y < dn x + up y
<_out (pos a) (pos b) h = omega (arith, ltb→lt a b h.lt)
<_out (pos a) (negsuc b) h = absurd h.lt
<_out (negsuc a) (pos b) h = omega arith
<_out (negsuc a) (negsuc b) h = omega (arith, ltb→lt b a h.lt)

pub ≤_antisym : (x y : ℤ) → x ≤ℤ y → y ≤ℤ x → x ≡ y
≤_antisym x y h k = ext x y (omega (arith, ≤_out x y h, ≤_out y x k))

pub ≤_trans : (x y z : ℤ) → x ≤ℤ y → y ≤ℤ z → x ≤ℤ z
≤_trans x y z h k = ≤_in x z (omega (arith, ≤_out x y h, ≤_out y z k))

pub <-≤_trans : (x y z : ℤ) → x <ℤ y → y ≤ℤ z → x <ℤ z
<-≤_trans x y z h k = <_in x z (omega (arith, <_out x y h, ≤_out y z k))

pub ≤-<_trans : (x y z : ℤ) → x ≤ℤ y → y <ℤ z → x <ℤ z
≤-<_trans x y z h k = <_in x z (omega (arith, ≤_out x y h, <_out y z k))

pub <-≤ : (x y : ℤ) → x <ℤ y → x ≤ℤ y
<-≤ x y h = ≤_in x y (omega (arith, <_out x y h))

-- x < y is x + 1 ≤ y
pub <_suc : (x y : ℤ) → x <ℤ y → (x +ℤ pos 1) ≤ℤ y
<_suc x y h = ≤_in _ _ (omega (arith, <_out x y h, bal_+ x (pos 1)))

-- x < y + 1 is x ≤ y
pub <_suc_≤ : (x y : ℤ) → x <ℤ (y +ℤ pos 1) → x ≤ℤ y
<_suc_≤ x y h = ≤_in x y (omega (arith, <_out _ _ h, bal_+ y (pos 1)))

pub ≤_or_> : (x y : ℤ) → (x ≤ℤ y) ⊎ (y <ℤ x)
≤_or_> x y = go (le_or_lt (up x + dn y) (dn x + up y))
  where
    go : (up x + dn y ≤ dn x + up y) ⊎ (dn x + up y < up x + dn y) → (x ≤ℤ y) ⊎ (y <ℤ x)
    go (inl h) = inl (≤_in x y h)
    go (inr h) = inr (<_in y x (omega arith))

pub ≤-total : (x y : ℤ) → (x ≤ℤ y) ⊎ (y ≤ℤ x)
≤-total x y = go (≤_or_> x y)
  where
    go : (x ≤ℤ y) ⊎ (y <ℤ x) → (x ≤ℤ y) ⊎ (y ≤ℤ x)
    go (inl h) = inl h
    go (inr h) = inr (<-≤ y x h)

-- a sequence that rises at each step up to n rises from any index to any later one
pub rises : (f : ℕ → ℤ) (n : ℕ) → ((i : ℕ) → i < n → f i <ℤ f (suc i)) → (i j : ℕ) → i < j → j ≤ n → f i <ℤ f j
rises f n step i zero k l = absurd (omega arith)
rises f n step i (suc j) k l = go (λ t. rises f n step i j t (omega arith)) (eq-or-lt_of_le k)
  where
    go : (i < j → f i <ℤ f j) → (suc i ≡ suc j) ⊎ (suc i < suc j) → f i <ℤ f (suc j)
    go before (inl e) = rw (let z : i ≡ j = omega arith in z) (step j l)
    go before (inr t) = ≤-<_trans (f i) (f j) (f (suc j)) (<-≤ (f i) (f j) (before (omega arith))) (step j l)

-- ---- the order and the ring

-- x ≤ y says that y - x is not negative
pub non_neg_le : (z : ℤ) → T (non_neg z) → pos 0 ≤ℤ z
non_neg_le (pos n) t = ≤_in _ _ (omega arith)
non_neg_le (negsuc n) t = absurd t

pub le_sub : (x y : ℤ) → x ≤ℤ y → T (non_neg (y -ℤ x))
le_sub x y h = yes_non_neg (≤_in (pos 0) (y -ℤ x) (omega (arith, ≤_out x y h, bal_+ y (neg_ℤ x), bal_neg x)))

pub sub_le : (x y : ℤ) → T (non_neg (y -ℤ x)) → x ≤ℤ y
sub_le x y t = ≤_in x y (omega (arith, ≤_out (pos 0) (y -ℤ x) (non_neg_le (y -ℤ x) t), bal_+ y (neg_ℤ x), bal_neg x))

pub +_mono : (a b c d : ℤ) → a ≤ℤ b → c ≤ℤ d → (a +ℤ c) ≤ℤ (b +ℤ d)
+_mono a b c d h k = ≤_in _ _ (omega (arith, bal_+ a c, bal_+ b d, ≤_out a b h, ≤_out c d k))

pub +_mono_< : (a b c d : ℤ) → a <ℤ b → c ≤ℤ d → (a +ℤ c) <ℤ (b +ℤ d)
+_mono_< a b c d h k = <_in _ _ (omega (arith, bal_+ a c, bal_+ b d, <_out a b h, ≤_out c d k))

pub neg_mono : (x y : ℤ) → x ≤ℤ y → (neg_ℤ y) ≤ℤ (neg_ℤ x)
neg_mono x y h = ≤_in _ _ (omega (arith, ≤_out x y h, bal_neg x, bal_neg y))

-- a product of two numbers that are not negative is not negative
pub *_pos : (x y : ℤ) → pos 0 ≤ℤ x → pos 0 ≤ℤ y → pos 0 ≤ℤ (x *ℤ y)
*_pos (pos a) (pos b) h k = ≤_in _ _ (omega arith)
*_pos (pos a) (negsuc b) h k = absurd k.le
*_pos (negsuc a) y h k = absurd h.le

pub *_pos_< : (x y : ℤ) → pos 0 <ℤ x → pos 0 <ℤ y → pos 0 <ℤ (x *ℤ y)
*_pos_< (pos a) (pos b) h k =
    <_in _ _ (omega (arith, mul-pos {m = a} {n = b} (omega (arith, <_out (pos 0) (pos a) h)) (omega (arith, <_out (pos 0) (pos b) k))))
*_pos_< (pos a) (negsuc b) h k = absurd k.lt
*_pos_< (negsuc a) y h k = absurd h.lt

-- a product that is not negative, of a positive number and one that is not zero, is positive
pub *_nonzero_pos : (x y : ℤ) → pos 0 <ℤ x → y ≢ pos 0 → pos 0 ≤ℤ (x *ℤ y) → pos 0 <ℤ (x *ℤ y)
*_nonzero_pos x (pos zero) h n k = absurd (n refl)
*_nonzero_pos x (pos (suc b)) h n k = *_pos_< x (pos (suc b)) h (<_in (pos 0) (pos (suc b)) (omega arith))
*_nonzero_pos (pos a) (negsuc b) h n k = absurd (omega (arith, <_out (pos 0) (pos a) h, ≤_out _ _ k, bal_* (pos a) (negsuc b)))
*_nonzero_pos (negsuc a) (negsuc b) h n k = absurd h.lt

pub zero_sub_pos : (x : ℤ) → x <ℤ pos 0 → pos 0 <ℤ (pos 0 -ℤ x)
zero_sub_pos x h = <_in _ _ (omega (arith, <_out x (pos 0) h, bal_+ (pos 0) (neg_ℤ x), bal_neg x))

-- a factor at or above zero keeps the order; one above zero keeps the strict order, and cancels
pub *_mono : (x y : ℤ) (k : ℕ) → x ≤ℤ y → (x *ℤ pos k) ≤ℤ (y *ℤ pos k)
*_mono x y k h = ≤_in _ _ (omega (arith, bal_* x (pos k), bal_* y (pos k), mul-le-mul_right k (≤_out x y h)))

pub *_mono_left : (k x y : ℤ) → pos 0 ≤ℤ k → x ≤ℤ y → (k *ℤ x) ≤ℤ (k *ℤ y)
*_mono_left (pos k) x y h l = ≤_in _ _ (omega (arith, bal_* (pos k) x, bal_* (pos k) y, mul-le-mul_right k (≤_out x y l)))
*_mono_left (negsuc k) x y h l = absurd h.le

pub *_mono_< : (x y : ℤ) (k : ℕ) → x <ℤ y → (x *ℤ pos (suc k)) <ℤ (y *ℤ pos (suc k))
*_mono_< x y k h = <_in _ _ (omega (arith, bal_* x (pos (suc k)), bal_* y (pos (suc k)), mul-lt-mul_of_pos_right {k = suc k} (<_out x y h) (omega arith)))

pub *_cancel : (x y : ℤ) (k : ℕ) → (x *ℤ pos (suc k)) ≤ℤ (y *ℤ pos (suc k)) → x ≤ℤ y
*_cancel x y k h = ≤_in x y (le_of_mul-le-mul_right {k = suc k} (omega (arith, bal_* x (pos (suc k)), bal_* y (pos (suc k)), ≤_out _ _ h)) (omega arith))

pub *_cancel_< : (x y : ℤ) (k : ℕ) → (x *ℤ pos k) <ℤ (y *ℤ pos k) → x <ℤ y
*_cancel_< x y k h = go (≤_or_> y x)
  where
    go : (y ≤ℤ x) ⊎ (x <ℤ y) → x <ℤ y
    go (inl l) = absurd (omega (arith, <_out _ _ h, ≤_out _ _ (*_mono y x k l)))
    go (inr l) = l

pub *_inj : (x y : ℤ) (k : ℕ) → x *ℤ pos (suc k) ≡ y *ℤ pos (suc k) → x ≡ y
*_inj x y k h = ext x y (eq_of_mul-eq-mul_right (suc k) (omega arith) _ _ (omega (arith, bal_* x (pos (suc k)), bal_* y (pos (suc k)), ap up h, ap dn h)))

-- ---- the absolute value
pub abs-parts : (z : ℤ) → nat_abs z ≡ up z + dn z
abs-parts (pos n) = omega arith
abs-parts (negsuc n) = omega arith

pub abs_le : (z : ℤ) (k : ℕ) → up z ≤ dn z + k → dn z ≤ up z + k → nat_abs z ≤ k
abs_le (pos n) k p q = omega arith
abs_le (negsuc n) k p q = omega arith

pub abs_mono : (x y : ℤ) → pos 0 ≤ℤ x → x ≤ℤ y → nat_abs x ≤ nat_abs y
abs_mono (pos a) (pos b) h k = omega (arith, ≤_out (pos a) (pos b) k)
abs_mono (pos a) (negsuc b) h k = absurd k.le
abs_mono (negsuc a) y h k = absurd h.le

pub abs_neg : (z : ℤ) → nat_abs (neg_ℤ z) ≡ nat_abs z
abs_neg z = omega (arith, abs-parts z, abs-parts (neg_ℤ z), bal_neg z)

pub abs-add : (a b : ℤ) → nat_abs (a +ℤ b) ≤ nat_abs a + nat_abs b
abs-add a b = abs_le (a +ℤ b) _ (omega (arith, abs-parts a, abs-parts b, bal_+ a b)) (omega (arith, abs-parts a, abs-parts b, bal_+ a b))

pub abs_sub : (a b : ℤ) → nat_abs (a -ℤ b) ≤ nat_abs a + nat_abs b
abs_sub a b = omega (arith, abs-add a (neg_ℤ b), abs_neg b)

pub abs_mul : (a b : ℤ) → nat_abs (a *ℤ b) ≡ nat_abs a * nat_abs b
abs_mul (pos a) (pos b) = refl
abs_mul (pos a) (negsuc b) = abs_neg (pos (a * suc b))
abs_mul (negsuc a) (pos b) = abs_neg (pos (suc a * b))
abs_mul (negsuc a) (negsuc b) = refl

pub abs_mul_le : (a b : ℤ) (m n : ℕ) → nat_abs a ≤ m → nat_abs b ≤ n → nat_abs (a *ℤ b) ≤ m * n
abs_mul_le a b m n p q = rw (abs_mul a b) (mul-le-mul p q)

pub abs-zero : (z : ℤ) → nat_abs z ≡ 0 → z ≡ pos 0
abs-zero z h = ext z (pos 0) (omega (arith, abs-parts z))

-- -k ≤ z ≤ k
pub abs_le_in : (z : ℤ) (k : ℕ) → neg_ℤ (pos k) ≤ℤ z → z ≤ℤ pos k → nat_abs z ≤ k
abs_le_in z k h l = abs_le z k (omega (arith, ≤_out _ _ l)) (omega (arith, ≤_out _ _ h, bal_neg (pos k)))

pub abs_le_out : (z : ℤ) (k : ℕ) → nat_abs z ≤ k → (neg_ℤ (pos k) ≤ℤ z) × (z ≤ℤ pos k)
abs_le_out z k h = (≤_in _ _ (omega (arith, abs-parts z, bal_neg (pos k))), ≤_in _ _ (omega (arith, abs-parts z)))

-- ---- division rounded down: its two bounds, and that they determine it
pub floor_div_le : (x : ℤ) (d : ℕ) → 0 < d → (floor_div x d *ℤ pos d) ≤ℤ x
floor_div_le (pos a) d h = ≤_in _ _ (omega (arith, bal_* (pos (a / d)) (pos d), div-add-mod' a d))
floor_div_le (negsuc a) d h = ≤_in _ _ (omega (arith, bal_* (negsuc (a / d)) (pos d), div-add-mod' a d, mod-lt a h))

pub lt_floor_div : (x : ℤ) (d : ℕ) → 0 < d → x <ℤ ((floor_div x d +ℤ pos 1) *ℤ pos d)
lt_floor_div (pos a) d h = <_in _ _ (omega (arith, bal_* (pos (a / d) +ℤ pos 1) (pos d), div-add-mod' a d, mod-lt a h))
lt_floor_div (negsuc a) d h =
    <_in _ _ (omega (arith, bal_* (negsuc (a / d) +ℤ pos 1) (pos d), ap (λ t. t * d) (bal_+ (negsuc (a / d)) (pos 1)), div-add-mod' a d))

pub le_floor_div : (z x : ℤ) (d : ℕ) → 0 < d → (z *ℤ pos d) ≤ℤ x → z ≤ℤ floor_div x d
le_floor_div z x d p h = <_suc_≤ z (floor_div x d) (*_cancel_< z (floor_div x d +ℤ pos 1) d (≤-<_trans _ x _ h (lt_floor_div x d p)))

pub floor_div_lt : (z x : ℤ) (d : ℕ) → 0 < d → x <ℤ (z *ℤ pos d) → floor_div x d <ℤ z
floor_div_lt z x d p h = *_cancel_< (floor_div x d) z d (≤-<_trans _ x _ (floor_div_le x d p) h)

pub floor_div_unique : (z x : ℤ) (d : ℕ) → 0 < d → (z *ℤ pos d) ≤ℤ x → x <ℤ ((z +ℤ pos 1) *ℤ pos d) → z ≡ floor_div x d
floor_div_unique z x d p h k = ≤_antisym z (floor_div x d) (le_floor_div z x d p h) (<_suc_≤ (floor_div x d) z (floor_div_lt (z +ℤ pos 1) x d p k))
