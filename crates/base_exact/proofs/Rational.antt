-- The rational numbers as a field. A law is proved by cross products: `q is a over b` says that q is the fraction a / b,
-- in whatever terms, each operation has its rule for such fractions, and two numbers with equal cross products are equal.
-- Then come the ring solver's instance, the inverse, the parts in lowest terms and decidable equality.
use mathlib.Core.Path.{◌≡◌, refl, sym, ◌∙◌, ap, ap₂, subst}
use mathlib.Core.Logic.{◌≢◌, ◌⊎◌, inl, inr}
use mathlib.Core.HLevel.{is_prop→PathP}
use mathlib.Core.List.{List, [], ◌∷◌}
use Prim.Native.Nat.{ℕ, zero, suc, pred, ◌*◌, ◌/◌, ◌<◌, ◌≤◌}
use native.Mathlib.Omega.{arith}
use native.Mathlib.Nat.{mul-pos, suc-pred-eq_of_pos, div-one, div-le_self}
use native.Mathlib.Numerals.{add-one}
use lib.Dec.{T, T_prop, eqb, eqb→eq}
use lib.IntN.{ℤ, pos, negsuc, ◌+ℤ◌, ◌-ℤ◌, ◌*ℤ◌, neg_ℤ, nat_abs, ℤ_discrete}
use Rattle.base_exact.specs.Gcd.{gcd}
use Rattle.base_exact.specs.Rational.{ℚ, den, signed, signed-abs, mk, suc_pos, den_pos, int, ◌+ᵠ◌, ◌*ᵠ◌, -ᵠ◌, ◌-ᵠ◌, inv_z, inv, ◌/ᵠ◌}
use Rattle.base_exact.proofs.Integer as Z
use Rattle.base_exact.proofs.Integer.{ℤ-ring, readsℤ, abs_mul}
use Rattle.base_exact.proofs.Gcd.{gcd_one, reduced, lowest_unique}
use Rattle.base_exact.proofs.Ring.{CRing, Is, lit, ring, reads, by_eq}

-- ---- fractions in any terms

-- q is a / b
infix 4 ◌is◌over◌
pub record ◌is◌over◌ (q : ℚ) (a : ℤ) (b : ℕ) : Type 0 where
  pub bpos : 0 < b
  pub cross : q.num *ℤ pos b ≡ a *ℤ pos (den q)

pub self : (q : ℚ) → q is q.num over den q
self q = record { bpos = omega arith; cross = refl }

signed-cross : (n : ℤ) (k d e : ℕ) → k * d ≡ nat_abs n * e → signed n k *ℤ pos d ≡ n *ℤ pos e
signed-cross (pos a) k d e h = ap pos h
signed-cross (negsuc a) k d e h = Z.neg_* (pos k) (pos d) ∙ ap (λ t. neg_ℤ (pos t)) h

pub mk_is : (n : ℤ) (d : ℕ) (h : 0 < d) → mk n d h is n over d
unfolding mk
mk_is n d h =
    let r = reduced (nat_abs n) d h in
    record {
      bpos = h;
      cross = signed-cross n (nat_abs n / gcd (nat_abs n) d) d (suc (pred (d / gcd (nat_abs n) d)))
          (rw (suc-pred-eq_of_pos r.bot_pos) (swap (nat_abs n / gcd (nat_abs n) d) (d / gcd (nat_abs n) d) (gcd (nat_abs n) d) (nat_abs n) d r.top r.bot));
    }
  where
    swap : (k e g a d : ℕ) → k * g ≡ a → e * g ≡ d → k * d ≡ a * e
    swap k e g a d p q = ap (λ t. k * t) (sym q) ∙ omega (arith, ap (λ t. t * e) p)

-- equal cross products
pub q_ext : (p q : ℚ) → p.num *ℤ pos (den q) ≡ q.num *ℤ pos (den p) → p ≡ q
q_ext p q e =
    λ i. record {
      num = nums i;
      dm = dms i;
      low =
          is_prop→PathP (λ j. T (eqb (gcd (nat_abs (nums j)) (suc (dms j))) 1)) (λ j. T_prop (eqb (gcd (nat_abs (nums j)) (suc (dms j))) 1)) p.low q.low
          i;
    }
  where
    abs_eq : nat_abs p.num * den q ≡ nat_abs q.num * den p
    abs_eq = sym (abs_mul p.num (pos (den q))) ∙ ap nat_abs e ∙ abs_mul q.num (pos (den p))

    dens : den p ≡ den q
    dens = (lowest_unique (nat_abs p.num) (den p) (nat_abs q.num) (den q) (eqb→eq _ 1 p.low) (eqb→eq _ 1 q.low) abs_eq).1

    dms : p.dm ≡ q.dm
    dms = omega (arith, dens)

    nums : p.num ≡ q.num
    nums = Z.*_inj p.num q.num p.dm (ap (λ t. p.num *ℤ pos t) dens ∙ e)

-- ---- what the operations below need of ℤ; each is one line of the ring solver
alg_unique : (n m a c b d p q : ℤ) → n *ℤ b ≡ a *ℤ p → m *ℤ d ≡ c *ℤ q → a *ℤ d ≡ c *ℤ b → n *ℤ q *ℤ b *ℤ d ≡ m *ℤ p *ℤ b *ℤ d
alg_unique n m a c b d p q h k e =
    by_eq ℤ-ring (q *ℤ d) h (by_eq ℤ-ring (neg_ℤ (p *ℤ b)) k (by_eq ℤ-ring (p *ℤ q) e
    (ring ℤ-ring (n ∷ m ∷ a ∷ c ∷ b ∷ d ∷ p ∷ q ∷ []) (search reads depth 20) (search reads depth 20) refl)))

alg_change : (n a b c d p : ℤ) → n *ℤ b ≡ a *ℤ p → a *ℤ d ≡ c *ℤ b → n *ℤ d *ℤ b ≡ c *ℤ p *ℤ b
alg_change n a b c d p h e =
    by_eq ℤ-ring d h (by_eq ℤ-ring p e (ring ℤ-ring (n ∷ a ∷ b ∷ c ∷ d ∷ p ∷ []) (search reads depth 20) (search reads depth 20) refl))

alg_add : (n m a c b d p q : ℤ) → n *ℤ b ≡ a *ℤ p → m *ℤ d ≡ c *ℤ q → (n *ℤ q +ℤ m *ℤ p) *ℤ (b *ℤ d) ≡ (a *ℤ d +ℤ c *ℤ b) *ℤ (p *ℤ q)
alg_add n m a c b d p q h k =
    by_eq ℤ-ring (q *ℤ d) h (by_eq ℤ-ring (p *ℤ b) k
    (ring ℤ-ring (n ∷ m ∷ a ∷ c ∷ b ∷ d ∷ p ∷ q ∷ []) (search reads depth 20) (search reads depth 20) refl))

alg_mul : (n m a c b d p q : ℤ) → n *ℤ b ≡ a *ℤ p → m *ℤ d ≡ c *ℤ q → (n *ℤ m) *ℤ (b *ℤ d) ≡ (a *ℤ c) *ℤ (p *ℤ q)
alg_mul n m a c b d p q h k =
    by_eq ℤ-ring (m *ℤ d) h (by_eq ℤ-ring (a *ℤ p) k
    (ring ℤ-ring (n ∷ m ∷ a ∷ c ∷ b ∷ d ∷ p ∷ q ∷ []) (search reads depth 20) (search reads depth 20) refl))

alg_cross : (n a c b d p : ℤ) → n *ℤ b ≡ a *ℤ p → n *ℤ d ≡ c *ℤ p → a *ℤ d *ℤ p ≡ c *ℤ b *ℤ p
alg_cross n a c b d p h k =
    by_eq ℤ-ring (neg_ℤ d) h (by_eq ℤ-ring b k (ring ℤ-ring (n ∷ a ∷ b ∷ c ∷ d ∷ p ∷ []) (search reads depth 20) (search reads depth 20) refl))

inj : (x y : ℤ) (k : ℕ) → 0 < k → x *ℤ pos k ≡ y *ℤ pos k → x ≡ y
inj x y zero h e = absurd (omega arith)
inj x y (suc k) h e = Z.*_inj x y k e

pub is_unique : {p q : ℚ} {a c : ℤ} {b d : ℕ} → p is a over b → q is c over d → a *ℤ pos d ≡ c *ℤ pos b → p ≡ q
is_unique {p} {q} {a} {c} {b} {d} h k e =
    q_ext p q (inj _ _ b h.bpos (inj _ _ d k.bpos (alg_unique p.num q.num a c (pos b) (pos d) (pos (den p)) (pos (den q)) h.cross k.cross e)))

pub is-change : {q : ℚ} {a c : ℤ} {b d : ℕ} → q is a over b → 0 < d → a *ℤ pos d ≡ c *ℤ pos b → q is c over d
is-change {q} {a} {c} {b} {d} h k e = record { bpos = k; cross = inj _ _ b h.bpos (alg_change q.num a (pos b) c (pos d) (pos (den q)) h.cross e) }

-- two readings of one number have equal cross products
pub is_cross : {q : ℚ} {a c : ℤ} {b d : ℕ} → q is a over b → q is c over d → a *ℤ pos d ≡ c *ℤ pos b
is_cross {q} {a} {c} {b} {d} h k = Z.*_inj _ _ q.dm (alg_cross q.num a c (pos b) (pos d) (pos (den q)) h.cross k.cross)

-- ---- the operations on such fractions
pub is_add : {p q : ℚ} {a c : ℤ} {b d : ℕ} → p is a over b → q is c over d → p +ᵠ q is a *ℤ pos d +ℤ c *ℤ pos b over (b * d)
unfolding ◌+ᵠ◌
is_add {p} {q} {a} {c} {b} {d} h k = is-change (mk_is _ (den p * den q) (den_pos p q)) (mul-pos h.bpos k.bpos)
    (alg_add p.num q.num a c (pos b) (pos d) (pos (den p)) (pos (den q)) h.cross k.cross)

pub is_mul : {p q : ℚ} {a c : ℤ} {b d : ℕ} → p is a over b → q is c over d → p *ᵠ q is a *ℤ c over (b * d)
unfolding ◌*ᵠ◌
is_mul {p} {q} {a} {c} {b} {d} h k = is-change (mk_is _ (den p * den q) (den_pos p q)) (mul-pos h.bpos k.bpos)
    (alg_mul p.num q.num a c (pos b) (pos d) (pos (den p)) (pos (den q)) h.cross k.cross)

pub is_int : (z : ℤ) → int z is z over 1
unfolding int
is_int z = mk_is z 1 (suc_pos 0)

pub is_neg : (q : ℚ) → -ᵠ q is neg_ℤ q.num over den q
unfolding -ᵠ◌
is_neg q = mk_is _ (den q) (suc_pos q.dm)

pub is_opp : {q : ℚ} {a : ℤ} {b : ℕ} → q is a over b → -ᵠ q is neg_ℤ a over b
is_opp {q} {a} {b} h = is-change (is_neg q) h.bpos (Z.neg_* q.num (pos b) ∙ ap neg_ℤ h.cross ∙ sym (Z.neg_* a (pos (den q))))

pub is_sub : {p q : ℚ} {a c : ℤ} {b d : ℕ} → p is a over b → q is c over d → p -ᵠ q is a *ℤ pos d -ℤ c *ℤ pos b over (b * d)
is_sub {p} {q} {a} {c} {b} {d} h k = subst (λ t. p -ᵠ q is a *ℤ pos d +ℤ t over (b * d)) (Z.neg_* c (pos b)) (is_add h (is_opp k))

-- ---- the ring
pub add_comm : (p q : ℚ) → p +ᵠ q ≡ q +ᵠ p
add_comm p q = is_unique (is_add (self p) (self q)) (is_add (self q) (self p)) (alg p.num q.num (pos (den p)) (pos (den q)))
  where
    alg : (a c b d : ℤ) → (a *ℤ d +ℤ c *ℤ b) *ℤ (d *ℤ b) ≡ (c *ℤ b +ℤ a *ℤ d) *ℤ (b *ℤ d)
    alg a c b d = ring ℤ-ring (a ∷ c ∷ b ∷ d ∷ []) (search reads) (search reads) refl

pub add_assoc : (p q r : ℚ) → p +ᵠ q +ᵠ r ≡ p +ᵠ (q +ᵠ r)
add_assoc p q r = is_unique (is_add (is_add (self p) (self q)) (self r)) (is_add (self p) (is_add (self q) (self r)))
    (alg p.num q.num r.num (pos (den p)) (pos (den q)) (pos (den r)))
  where
    alg : (a c e b d f : ℤ) → ((a *ℤ d +ℤ c *ℤ b) *ℤ f +ℤ e *ℤ (b *ℤ d)) *ℤ (b *ℤ (d *ℤ f)) ≡ (a *ℤ (d *ℤ f) +ℤ (c *ℤ f +ℤ e *ℤ d) *ℤ b) *ℤ ((b *ℤ d) *ℤ f)
    alg a c e b d f = ring ℤ-ring (a ∷ b ∷ c ∷ d ∷ e ∷ f ∷ []) (search reads depth 20) (search reads depth 20) refl

pub mul_comm : (p q : ℚ) → p *ᵠ q ≡ q *ᵠ p
mul_comm p q = is_unique (is_mul (self p) (self q)) (is_mul (self q) (self p)) (alg p.num q.num (pos (den p)) (pos (den q)))
  where
    alg : (a c b d : ℤ) → a *ℤ c *ℤ (d *ℤ b) ≡ c *ℤ a *ℤ (b *ℤ d)
    alg a c b d = ring ℤ-ring (a ∷ c ∷ b ∷ d ∷ []) (search reads) (search reads) refl

pub mul_assoc : (p q r : ℚ) → p *ᵠ q *ᵠ r ≡ p *ᵠ (q *ᵠ r)
mul_assoc p q r = is_unique (is_mul (is_mul (self p) (self q)) (self r)) (is_mul (self p) (is_mul (self q) (self r)))
    (alg p.num q.num r.num (pos (den p)) (pos (den q)) (pos (den r)))
  where
    alg : (a c e b d f : ℤ) → a *ℤ c *ℤ e *ℤ (b *ℤ (d *ℤ f)) ≡ a *ℤ (c *ℤ e) *ℤ (b *ℤ d *ℤ f)
    alg a c e b d f = ring ℤ-ring (a ∷ b ∷ c ∷ d ∷ e ∷ f ∷ []) (search reads depth 20) (search reads depth 20) refl

pub mul_add : (p q r : ℚ) → p *ᵠ (q +ᵠ r) ≡ p *ᵠ q +ᵠ p *ᵠ r
mul_add p q r = is_unique (is_mul (self p) (is_add (self q) (self r))) (is_add (is_mul (self p) (self q)) (is_mul (self p) (self r)))
    (alg p.num q.num r.num (pos (den p)) (pos (den q)) (pos (den r)))
  where
    alg : (a c e b d f : ℤ) → a *ℤ (c *ℤ f +ℤ e *ℤ d) *ℤ (b *ℤ d *ℤ (b *ℤ f)) ≡ (a *ℤ c *ℤ (b *ℤ f) +ℤ a *ℤ e *ℤ (b *ℤ d)) *ℤ (b *ℤ (d *ℤ f))
    alg a c e b d f = ring ℤ-ring (a ∷ b ∷ c ∷ d ∷ e ∷ f ∷ []) (search reads depth 20) (search reads depth 20) refl

pub add_mul : (p q r : ℚ) → (p +ᵠ q) *ᵠ r ≡ p *ᵠ r +ᵠ q *ᵠ r
add_mul p q r = mul_comm (p +ᵠ q) r ∙ mul_add r p q ∙ ap₂ ◌+ᵠ◌ (mul_comm r p) (mul_comm r q)

pub add-zero : (p : ℚ) → p +ᵠ int (pos 0) ≡ p
add-zero p = is_unique (is_add (self p) (is_int (pos 0))) (self p) (alg p.num (pos (den p)) (pos 1))
  where
    alg : (a b u : ℤ) → (a *ℤ u +ℤ pos 0 *ℤ b) *ℤ b ≡ a *ℤ (b *ℤ u)
    alg a b u = ring ℤ-ring (a ∷ b ∷ u ∷ []) (search readsℤ) (search reads) refl

pub mul-zero : (p : ℚ) → p *ᵠ int (pos 0) ≡ int (pos 0)
mul-zero p = is_unique (is_mul (self p) (is_int (pos 0))) (is_int (pos 0)) (alg p.num (pos (den p)) (pos 1))
  where
    alg : (a b u : ℤ) → (a *ℤ pos 0) *ℤ u ≡ pos 0 *ℤ (b *ℤ u)
    alg a b u = ring ℤ-ring (a ∷ b ∷ u ∷ []) (search readsℤ) (search readsℤ) refl

pub mul-one : (p : ℚ) → p *ᵠ int (pos 1) ≡ p
mul-one p = is_unique (is_mul (self p) (is_int (pos 1))) (self p) (alg p.num (pos (den p)) (pos 1))
  where
    alg : (a b u : ℤ) → (a *ℤ u) *ℤ b ≡ a *ℤ (b *ℤ u)
    alg a b u = ring ℤ-ring (a ∷ b ∷ u ∷ []) (search reads) (search reads) refl

pub neg_is : (p : ℚ) → -ᵠ p ≡ int (negsuc 0) *ᵠ p
neg_is p = is_unique (is_neg p) (is_mul (is_int (negsuc 0)) (self p)) (alg p.num (pos (den p)) (pos 1))
  where
    alg : (a b u : ℤ) → neg_ℤ a *ℤ (pos 1 *ℤ b) ≡ negsuc 0 *ℤ a *ℤ b
    alg a b u = ring ℤ-ring (a ∷ b ∷ u ∷ []) (search readsℤ) (search readsℤ) refl

pub int-add : (a b : ℤ) → int (a +ℤ b) ≡ int a +ᵠ int b
int-add a b = is_unique (is_int (a +ℤ b)) (is_add (is_int a) (is_int b)) (alg a b)
  where
    alg : (a b : ℤ) → (a +ℤ b) *ℤ pos 1 ≡ (a *ℤ pos 1 +ℤ b *ℤ pos 1) *ℤ pos 1
    alg a b = ring ℤ-ring (a ∷ b ∷ []) (search readsℤ) (search readsℤ) refl

pub int_mul : (a b : ℤ) → int (a *ℤ b) ≡ int a *ᵠ int b
int_mul a b = is_unique (is_int (a *ℤ b)) (is_mul (is_int a) (is_int b)) (alg a b)
  where
    alg : (a b : ℤ) → (a *ℤ b) *ℤ pos 1 ≡ a *ℤ b *ℤ pos 1
    alg a b = refl

abbrev pub ℚ-ring : CRing ℚ
ℚ-ring = record {
  add = ◌+ᵠ◌;
  mul = ◌*ᵠ◌;
  neg = -ᵠ◌;
  int = int;
  add_comm = add_comm;
  add_assoc = add_assoc;
  add-zero = add-zero;
  mul_comm = mul_comm;
  mul_assoc = mul_assoc;
  mul-one = mul-one;
  mul_add = mul_add;
  neg_is = neg_is;
  mul-zero = mul-zero;
  int-add = int-add;
  int_mul = int_mul;
}

abbrev pub litᵠ : {ρ : List ℚ} (z : ℤ) → Is ℚ-ring ρ (int z)
litᵠ z = lit z

pub ruleset readsℚ = (reads, litᵠ)

pub zero-add : (p : ℚ) → int (pos 0) +ᵠ p ≡ p
zero-add p = add_comm _ p ∙ add-zero p

pub zero-mul : (p : ℚ) → int (pos 0) *ᵠ p ≡ int (pos 0)
zero-mul p = mul_comm _ p ∙ mul-zero p

pub one-mul : (p : ℚ) → int (pos 1) *ᵠ p ≡ p
one-mul p = mul_comm _ p ∙ mul-one p

-- ---- the parts in lowest terms
pub mk_num : (n : ℤ) (d : ℕ) (h : 0 < d) → (mk n d h).num ≡ signed n (nat_abs n / gcd (nat_abs n) d)
unfolding mk
mk_num n d h = refl

pub mk-den : (n : ℤ) (d : ℕ) (h : 0 < d) → den (mk n d h) ≡ d / gcd (nat_abs n) d
unfolding mk
mk-den n d h = suc-pred-eq_of_pos (reduced (nat_abs n) d h).bot_pos

signed_self : (z : ℤ) → signed z (nat_abs z) ≡ z
signed_self (pos n) = refl
signed_self (negsuc n) = refl

-- a pair that is in lowest terms is kept
pub mk_reduced : (n : ℤ) (d : ℕ) (h : 0 < d) → gcd (nat_abs n) d ≡ 1 → ((mk n d h).num ≡ n) × (den (mk n d h) ≡ d)
mk_reduced n d h e = (
  mk_num n d h ∙ ap (λ g. signed n (nat_abs n / g)) e ∙ ap (signed n) (div-one (nat_abs n)) ∙ signed_self n,
  mk-den n d h ∙ ap (λ g. d / g) e ∙ div-one d,
)

pub is_mk : {q : ℚ} {a : ℤ} {b : ℕ} (h : 0 < b) → q is a over b → mk a b h ≡ q
is_mk {q} {a} {b} h r = is_unique (mk_is a b h) r refl

-- no terms of a fraction are smaller than the lowest
pub is_least : {q : ℚ} {a : ℤ} {b : ℕ} → q is a over b → (nat_abs q.num ≤ nat_abs a) × (den q ≤ b)
is_least {q} {a} {b} h = subst (λ (p : ℚ). (nat_abs p.num ≤ nat_abs a) × (den p ≤ b)) (is_mk h.bpos h) (
  omega (arith, ap nat_abs (mk_num a b h.bpos), signed-abs a (nat_abs a / gcd (nat_abs a) b), div-le_self (nat_abs a) (gcd (nat_abs a) b)),
  omega (arith, mk-den a b h.bpos, div-le_self b (gcd (nat_abs a) b)),
)

pub int_num : (z : ℤ) → (int z).num ≡ z
unfolding int
int_num z = (mk_reduced z 1 (suc_pos 0) (gcd_one (nat_abs z))).0

pub int-den : (z : ℤ) → den (int z) ≡ 1
unfolding int
int-den z = (mk_reduced z 1 (suc_pos 0) (gcd_one (nat_abs z))).1

-- numerator 0 is the number 0
pub zero_is : (q : ℚ) → q.num ≡ pos 0 → q ≡ int (pos 0)
zero_is q e = is_unique (self q) (is_int (pos 0)) (ap (λ t. t *ℤ pos 1) e ∙ ap pos (omega arith))

pub zero_num : {q : ℚ} → q ≡ int (pos 0) → q.num ≡ pos 0
zero_num e = ap (λ t. t.num) e ∙ int_num (pos 0)

-- ---- equality is decided by the cross products
pub ℚ_discrete : Discrete ℚ
ℚ_discrete p q = go (ℤ_discrete (p.num *ℤ pos (den q)) (q.num *ℤ pos (den p)))
  where
    go : Dec (p.num *ℤ pos (den q) ≡ q.num *ℤ pos (den p)) → Dec (p ≡ q)
    go (yes e) = yes (q_ext p q e)
    go (no f) = no (λ e. f (ap (λ t. t.num *ℤ pos (den q)) e ∙ ap (λ t. q.num *ℤ pos (den t)) (sym e)))

-- ---- the integers among the rational numbers
pub int_neg : (z : ℤ) → int (neg_ℤ z) ≡ -ᵠ int z
int_neg z = is_unique (is_int (neg_ℤ z)) (is_opp (is_int z)) refl

pub int_sub : (a b : ℤ) → int (a -ℤ b) ≡ int a -ᵠ int b
int_sub a b = int-add a (neg_ℤ b) ∙ ap (λ t. int a +ᵠ t) (int_neg b)

pub int_suc : (n : ℕ) → int (pos (suc n)) ≡ int (pos n) +ᵠ int (pos 1)
int_suc n = ap (λ m. int (pos m)) (sym (add-one n)) ∙ int-add (pos n) (pos 1)

pub int_inj : (a b : ℤ) → int a ≡ int b → a ≡ b
int_inj a b e = Z.*_inj a b 0 (is_cross (is_int a) (subst (λ t. t is b over 1) (sym e) (is_int b)))

pub int_nonzero : (n : ℕ) → int (pos (suc n)) ≢ int (pos 0)
int_nonzero n e = let h = ap Z.up (int_inj (pos (suc n)) (pos 0) e) in omega arith

-- ---- the field: the inverse, and cancelling a factor that is not zero
pub mul_inv : (q : ℚ) → q ≢ int (pos 0) → q *ᵠ inv q ≡ int (pos 1)
unfolding inv
mul_inv q h = go q.num refl
  where
    alg₁ : (a d : ℤ) → a *ℤ d *ℤ pos 1 ≡ pos 1 *ℤ (d *ℤ a)
    alg₁ a d = ring ℤ-ring (a ∷ d ∷ []) (search readsℤ) (search readsℤ) refl

    go : (z : ℤ) → q.num ≡ z → q *ᵠ inv_z z (den q) ≡ int (pos 1)
    go (pos zero) e = absurd (h (zero_is q e))
    go (pos (suc a)) e = is_unique (is_mul (self q) (mk_is (pos (den q)) (suc a) (suc_pos a))) (is_int (pos 1))
        (ap (λ t. t *ℤ pos (den q) *ℤ pos 1) e ∙ alg₁ (pos (suc a)) (pos (den q)))
    go (negsuc a) e = is_unique (is_mul (self q) (mk_is (neg_ℤ (pos (den q))) (suc a) (suc_pos a))) (is_int (pos 1))
        (ap (λ t. t *ℤ negsuc q.dm *ℤ pos 1) e ∙ alg₁ (pos (suc a)) (pos (den q)))

pub mul_cancel : {a b c : ℚ} → c ≢ int (pos 0) → a *ᵠ c ≡ b *ᵠ c → a ≡ b
mul_cancel {a} {b} {c} h e = by_eq ℚ-ring (inv c) e (by_eq ℚ-ring (b -ᵠ a) (mul_inv c h)
    (ring ℚ-ring (a ∷ b ∷ c ∷ inv c ∷ []) (search readsℚ depth 20) (search readsℚ depth 20) refl))

-- a division undone
pub div_mul : (p q : ℚ) → q ≢ int (pos 0) → p /ᵠ q *ᵠ q ≡ p
div_mul p q h = by_eq ℚ-ring p (mul_inv q h) (ring ℚ-ring (p ∷ q ∷ inv q ∷ []) (search readsℚ depth 20) (search readsℚ depth 20) refl)

pub mul_div : (p q : ℚ) → q ≢ int (pos 0) → p *ᵠ q /ᵠ q ≡ p
mul_div p q h = by_eq ℚ-ring p (mul_inv q h) (ring ℚ-ring (p ∷ q ∷ inv q ∷ []) (search readsℚ depth 20) (search readsℚ depth 20) refl)

pub div_unique : {p q r : ℚ} → q ≢ int (pos 0) → r *ᵠ q ≡ p → r ≡ p /ᵠ q
div_unique {p} {q} {r} h e = mul_cancel h (e ∙ sym (div_mul p q h))

pub mul_zero_or : (p q : ℚ) → p *ᵠ q ≡ int (pos 0) → (p ≡ int (pos 0)) ⊎ (q ≡ int (pos 0))
mul_zero_or p q e = go (ℚ_discrete q (int (pos 0)))
  where
    go : Dec (q ≡ int (pos 0)) → (p ≡ int (pos 0)) ⊎ (q ≡ int (pos 0))
    go (yes z) = inr z
    go (no h) = inl (mul_cancel h (e ∙ sym (zero-mul q)))

pub mul_nonzero : {p q : ℚ} → p ≢ int (pos 0) → q ≢ int (pos 0) → p *ᵠ q ≢ int (pos 0)
mul_nonzero {p} {q} h k e = go (mul_zero_or p q e)
  where
    go : (p ≡ int (pos 0)) ⊎ (q ≡ int (pos 0)) → ⊥
    go (inl z) = h z
    go (inr z) = k z

pub inv_nonzero : {q : ℚ} → q ≢ int (pos 0) → inv q ≢ int (pos 0)
inv_nonzero {q} h e = int_nonzero 0 (sym (mul_inv q h) ∙ ap (λ t. q *ᵠ t) e ∙ mul-zero q)

pub inv_unique : (p q : ℚ) → p *ᵠ q ≡ int (pos 1) → q ≡ inv p
inv_unique p q e = go (λ z. int_nonzero 0 (sym e ∙ ap (λ t. t *ᵠ q) z ∙ zero-mul q))
  where
    go : p ≢ int (pos 0) → q ≡ inv p
    go h = mul_cancel h (mul_comm q p ∙ e ∙ sym (mul_inv p h) ∙ mul_comm p (inv p))

pub inv_mul : (p q : ℚ) → p ≢ int (pos 0) → q ≢ int (pos 0) → inv (p *ᵠ q) ≡ inv p *ᵠ inv q
inv_mul p q h k = sym (inv_unique _ _ (by_eq ℚ-ring (q *ᵠ inv q) (mul_inv p h) (by_eq ℚ-ring (int (pos 1)) (mul_inv q k)
    (ring ℚ-ring (p ∷ q ∷ inv p ∷ inv q ∷ []) (search readsℚ depth 20) (search readsℚ depth 20) refl))))

-- equal differences
pub sub_zero_eq : {p q : ℚ} → p -ᵠ q ≡ int (pos 0) → p ≡ q
sub_zero_eq {p} {q} e = by_eq ℚ-ring (int (pos 1)) e (ring ℚ-ring (p ∷ q ∷ []) (search readsℚ) (search readsℚ) refl)

-- 1 / (a / b) is b / a with its sign
pub is_inv : {q : ℚ} {a : ℤ} {b : ℕ} → q is a over b → 0 < nat_abs a → inv q is signed a b over nat_abs a
is_inv {q} {a} {b} h k = subst (λ t. t is signed a b over nat_abs a) (inv_unique q _ one) (mk_is (signed a b) (nat_abs a) k)
  where
    alg⁺ : (x y : ℤ) → x *ℤ y *ℤ pos 1 ≡ pos 1 *ℤ (y *ℤ x)
    alg⁺ x y = ring ℤ-ring (x ∷ y ∷ []) (search readsℤ) (search readsℤ) refl

    alg⁻ : (x y : ℤ) → neg_ℤ x *ℤ neg_ℤ y *ℤ pos 1 ≡ pos 1 *ℤ (y *ℤ x)
    alg⁻ x y = ring ℤ-ring (x ∷ y ∷ []) (search readsℤ) (search readsℤ) refl

    flip : (a : ℤ) → a *ℤ signed a b *ℤ pos 1 ≡ pos 1 *ℤ pos (b * nat_abs a)
    flip (pos a) = alg⁺ (pos a) (pos b)
    flip (negsuc a) = alg⁻ (pos (suc a)) (pos b)

    one : q *ᵠ mk (signed a b) (nat_abs a) k ≡ int (pos 1)
    one = is_unique (is_mul h (mk_is (signed a b) (nat_abs a) k)) (is_int (pos 1)) (flip a)

pub is_div : {p q : ℚ} {a c : ℤ} {b d : ℕ} → p is a over b → q is c over d → 0 < nat_abs c → p /ᵠ q is a *ℤ signed c d over (b * nat_abs c)
is_div h k l = is_mul h (is_inv k l)

-- the denominator multiplied out
pub is_mul_int : {q : ℚ} {a : ℤ} {b : ℕ} → q is a over b → q *ᵠ int (pos b) ≡ int a
is_mul_int {q} {a} {b} h = is_unique (is_mul h (is_int (pos b))) (is_int a) (Z.*_assoc a (pos b) (pos 1))
