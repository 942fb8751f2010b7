-- A solver for identities of commutative rings, by reflection. `ring C (a ∷ b ∷ []) p q refl` proves x ≡ y, where p and q
-- are readings of x and y as polynomials in the listed terms a and b, which `search` finds: `(search readsℤ)` over ℤ,
-- `(search readsℚ)` over ℚ, with `depth 20` or more for large terms. Constants must be literals. `by-eq` adds a multiple of
-- a known equation, for identities that hold only given others.
use mathlib.Core.Path.{◌≡◌, refl, sym, ◌∙◌, ap, ap₂}
use mathlib.Core.List.{List, [], ◌∷◌}
use Prim.Native.Nat.{ℕ, zero, suc, compare, Ordering}
use lib.IntN.{ℤ, pos, negsuc, ◌+ℤ◌, ◌*ℤ◌}
use lib.Dec.{T, compare_is_eq, eqb→eq}

-- a commutative ring with its integer constants
pub record CRing (R : Type 0) : Type 0 where
  pub add : R → R → R
  pub mul : R → R → R
  pub neg : R → R
  pub int : ℤ → R
  pub add_comm : (x y : R) → add x y ≡ add y x
  pub add_assoc : (x y z : R) → add (add x y) z ≡ add x (add y z)
  pub add-zero : (x : R) → add x (int (pos 0)) ≡ x
  pub mul_comm : (x y : R) → mul x y ≡ mul y x
  pub mul_assoc : (x y z : R) → mul (mul x y) z ≡ mul x (mul y z)
  pub mul-one : (x : R) → mul x (int (pos 1)) ≡ x
  pub mul_add : (x y z : R) → mul x (add y z) ≡ add (mul x y) (mul x z)
  pub neg_is : (x : R) → neg x ≡ mul (int (negsuc 0)) x
  pub mul-zero : (x : R) → mul x (int (pos 0)) ≡ int (pos 0)
  pub int-add : (a b : ℤ) → int (a +ℤ b) ≡ add (int a) (int b)
  pub int_mul : (a b : ℤ) → int (a *ℤ b) ≡ mul (int a) (int b)

-- ---- polynomials: sorted lists of an integer and a monomial, which is a sorted list of variables' numbers
pub data Poly : Type 0 where
  nil : Poly
  term : ℤ → List ℕ → Poly → Poly

abbrev pub then : Ordering → Ordering → Ordering
then Ordering.lt o = Ordering.lt
then Ordering.eq o = o
then Ordering.gt o = Ordering.gt

-- the order of monomials
abbrev pub cmp : List ℕ → List ℕ → Ordering
cmp [] [] = Ordering.eq
cmp [] (j ∷ n) = Ordering.lt
cmp (i ∷ m) [] = Ordering.gt
cmp (i ∷ m) (j ∷ n) = let r = cmp m n in then (compare i j) r

-- a term, left out if its coefficient is 0
abbrev pub term' : ℤ → List ℕ → Poly → Poly
term' (pos zero) m p = p
term' (pos (suc n)) m p = term (pos (suc n)) m p
term' (negsuc n) m p = term (negsuc n) m p

abbrev pub place : Ordering → ℤ → List ℕ → ℤ → List ℕ → Poly → Poly → Poly
place Ordering.lt c m d n p q = term c m (term d n p)
place Ordering.eq c m d n p q = term' (c +ℤ d) n p
place Ordering.gt c m d n p q = term d n q

-- one term added
abbrev pub put : ℤ → List ℕ → Poly → Poly
put c m nil = term c m nil
put c m (term d n p) = let q = put c m p in place (cmp m n) c m d n p q

abbrev pub plus : Poly → Poly → Poly
plus nil q = q
plus (term c m p) q = put c m (plus p q)

abbrev pub pick : Ordering → List ℕ → List ℕ → List ℕ
pick Ordering.lt x y = x
pick Ordering.eq x y = x
pick Ordering.gt x y = y

-- one variable more in a monomial, and the product of two
abbrev pub ins : ℕ → List ℕ → List ℕ
ins i [] = i ∷ []
ins i (j ∷ m) = let r = ins i m in pick (compare i j) (i ∷ j ∷ m) (j ∷ r)

abbrev pub join : List ℕ → List ℕ → List ℕ
join [] n = n
join (i ∷ m) n = ins i (join m n)

-- c m p + q
abbrev pub scale : ℤ → List ℕ → Poly → Poly → Poly
scale c m nil q = q
scale c m (term d n p) q = put (c *ℤ d) (join m n) (scale c m p q)

abbrev pub times : Poly → Poly → Poly
times nil q = nil
times (term c m p) q = scale c m q (times p q)

module _ {R : Type 0} (C : CRing R) where
  abbrev pub at : List R → ℕ → R
  at [] i = C.int (pos 0)
  at (x ∷ ρ) zero = x
  at (x ∷ ρ) (suc i) = at ρ i

module _ {R : Type 0} (C : CRing R) (ρ : List R) where
  infixl 6 ◌⊕◌
  infixl 7 ◌⊗◌
  abbrev ◌⊕◌ : R → R → R
  ◌⊕◌ x y = C.add x y

  abbrev ◌⊗◌ : R → R → R
  ◌⊗◌ x y = C.mul x y

  abbrev ι : ℤ → R
  ι z = C.int z

  -- the values of a monomial and of a polynomial
  mono : List ℕ → R
  mono [] = ι (pos 1)
  mono (i ∷ m) = at C ρ i ⊗ mono m

  ev : Poly → R
  ev nil = ι (pos 0)
  ev (term c m p) = ι c ⊗ mono m ⊕ ev p

  -- the reading of a ring expression
  pub data Is : R → Type 0 where
    var : (i : ℕ) → Is (at C ρ i)
    lit : (z : ℤ) → Is (C.int z)
    sum : {x y : R} → Is x → Is y → Is (C.add x y)
    prod : {x y : R} → Is x → Is y → Is (C.mul x y)
    opp : {x : R} → Is x → Is (C.neg x)

  left_comm : (x y z : R) → x ⊕ (y ⊕ z) ≡ y ⊕ (x ⊕ z)
  left_comm x y z = sym (C.add_assoc x y z) ∙ ap (λ t. t ⊕ z) (C.add_comm x y) ∙ C.add_assoc y x z

  mul_left_comm : (x y z : R) → x ⊗ (y ⊗ z) ≡ y ⊗ (x ⊗ z)
  mul_left_comm x y z = sym (C.mul_assoc x y z) ∙ ap (λ t. t ⊗ z) (C.mul_comm x y) ∙ C.mul_assoc y x z

  add_mul : (x y z : R) → (x ⊕ y) ⊗ z ≡ x ⊗ z ⊕ y ⊗ z
  add_mul x y z = C.mul_comm (x ⊕ y) z ∙ C.mul_add z x y ∙ ap₂ ◌⊕◌ (C.mul_comm z x) (C.mul_comm z y)

  zero-add : (x : R) → ι (pos 0) ⊕ x ≡ x
  zero-add x = C.add_comm _ x ∙ C.add-zero x

  one-mul : (x : R) → ι (pos 1) ⊗ x ≡ x
  one-mul x = C.mul_comm _ x ∙ C.mul-one x

  zero-mul : (x : R) → ι (pos 0) ⊗ x ≡ ι (pos 0)
  zero-mul x = C.mul_comm _ x ∙ C.mul-zero x

  then_eq : (o r : Ordering) → T (compare_is_eq (then o r)) → T (compare_is_eq o) × T (compare_is_eq r)
  then_eq Ordering.lt r t = absurd t
  then_eq Ordering.eq r t = (tt, t)
  then_eq Ordering.gt r t = absurd t

  cmp_eq : (m n : List ℕ) → T (compare_is_eq (cmp m n)) → mono m ≡ mono n
  unfolding mono
  cmp_eq [] [] t = refl
  cmp_eq [] (j ∷ n) t = absurd t
  cmp_eq (i ∷ m) [] t = absurd t
  cmp_eq (i ∷ m) (j ∷ n) t = let h : T (compare_is_eq (compare i j)) × T (compare_is_eq (cmp m n)) = then_eq (compare i j) (cmp m n) t in ap₂ ◌⊗◌ (ap (at C ρ) (eqb→eq i j h.0)) (cmp_eq m n h.1)

  term_ev : (c : ℤ) (m : List ℕ) (p : Poly) → ev (term' c m p) ≡ ι c ⊗ mono m ⊕ ev p
  unfolding ev
  term_ev (pos zero) m p = sym (ap (λ t. t ⊕ ev p) (zero-mul (mono m)) ∙ zero-add (ev p))
  term_ev (pos (suc n)) m p = refl
  term_ev (negsuc n) m p = refl

  place_ev : (o : Ordering) (c : ℤ) (m : List ℕ) (d : ℤ) (n : List ℕ) (p q : Poly) → (T (compare_is_eq o) → mono m ≡ mono n) → ev q ≡ ι c ⊗ mono m ⊕ ev p
      → ev (place o c m d n p q) ≡ ι c ⊗ mono m ⊕ (ι d ⊗ mono n ⊕ ev p)
  unfolding ev
  place_ev Ordering.lt c m d n p q e h = refl
  place_ev Ordering.eq c m d n p q e h = term_ev (c +ℤ d) n p
      ∙ ap (λ t. t ⊕ ev p) (ap (λ t. t ⊗ mono n) (C.int-add c d) ∙ add_mul (ι c) (ι d) (mono n))
      ∙ C.add_assoc _ _ _ ∙ ap (λ t. ι c ⊗ t ⊕ (ι d ⊗ mono n ⊕ ev p)) (sym (e tt))
  place_ev Ordering.gt c m d n p q e h = ap (λ t. ι d ⊗ mono n ⊕ t) h ∙ left_comm _ _ _

  put_ev : (c : ℤ) (m : List ℕ) (p : Poly) → ev (put c m p) ≡ ι c ⊗ mono m ⊕ ev p
  unfolding ev
  put_ev c m nil = refl
  put_ev c m (term d n p) = place_ev (cmp m n) c m d n p (put c m p) (cmp_eq m n) (put_ev c m p)

  plus_ev : (p q : Poly) → ev (plus p q) ≡ ev p ⊕ ev q
  unfolding ev
  plus_ev nil q = sym (zero-add (ev q))
  plus_ev (term c m p) q = put_ev c m (plus p q) ∙ ap (λ t. ι c ⊗ mono m ⊕ t) (plus_ev p q) ∙ sym (C.add_assoc _ _ _)

  pick_mono : (o : Ordering) (x y : List ℕ) (v : R) → mono x ≡ v → mono y ≡ v → mono (pick o x y) ≡ v
  pick_mono Ordering.lt x y v p q = p
  pick_mono Ordering.eq x y v p q = p
  pick_mono Ordering.gt x y v p q = q

  ins_mono : (i : ℕ) (m : List ℕ) → mono (ins i m) ≡ at C ρ i ⊗ mono m
  unfolding mono
  ins_mono i [] = refl
  ins_mono i (j ∷ m) = pick_mono (compare i j) (i ∷ j ∷ m) (j ∷ ins i m) _ refl (ap (λ t. at C ρ j ⊗ t) (ins_mono i m) ∙ mul_left_comm _ _ _)

  join_mono : (m n : List ℕ) → mono (join m n) ≡ mono m ⊗ mono n
  unfolding mono
  join_mono [] n = sym (one-mul (mono n))
  join_mono (i ∷ m) n = ins_mono i (join m n) ∙ ap (λ t. at C ρ i ⊗ t) (join_mono m n) ∙ sym (C.mul_assoc _ _ _)

  mul_mul : (a b x y : R) → (a ⊗ b) ⊗ (x ⊗ y) ≡ (a ⊗ x) ⊗ (b ⊗ y)
  mul_mul a b x y = C.mul_assoc _ _ _ ∙ ap (λ t. a ⊗ t) (mul_left_comm b x y) ∙ sym (C.mul_assoc _ _ _)

  scale_ev : (c : ℤ) (m : List ℕ) (p q : Poly) → ev (scale c m p q) ≡ ι c ⊗ mono m ⊗ ev p ⊕ ev q
  unfolding ev
  scale_ev c m nil q = sym (ap (λ t. t ⊕ ev q) (C.mul-zero _) ∙ zero-add (ev q))
  scale_ev c m (term d n p) q = put_ev (c *ℤ d) (join m n) (scale c m p q)
      ∙ ap₂ ◌⊕◌ (ap₂ ◌⊗◌ (C.int_mul c d) (join_mono m n) ∙ mul_mul _ _ _ _) (scale_ev c m p q)
      ∙ sym (C.add_assoc _ _ _) ∙ ap (λ t. t ⊕ ev q) (sym (C.mul_add _ _ _))

  times_ev : (p q : Poly) → ev (times p q) ≡ ev p ⊗ ev q
  unfolding ev
  times_ev nil q = sym (zero-mul (ev q))
  times_ev (term c m p) q = scale_ev c m q (times p q) ∙ ap (λ t. ι c ⊗ mono m ⊗ ev q ⊕ t) (times_ev p q) ∙ sym (add_mul _ _ _)

  -- the normal form of a reading, and that it has the reading's value
  abbrev pub nf : {x : R} → Is x → Poly
  nf (var i) = term (pos 1) (i ∷ []) nil
  nf (lit z) = term' z [] nil
  nf (sum a b) = plus (nf a) (nf b)
  nf (prod a b) = times (nf a) (nf b)
  nf (opp a) = scale (negsuc 0) [] (nf a) nil

  nf_ev : {x : R} (a : Is x) → ev (nf a) ≡ x
  unfolding ev mono
  nf_ev (var i) = C.add-zero _ ∙ one-mul _ ∙ C.mul-one _
  nf_ev (lit z) = term_ev z [] nil ∙ C.add-zero _ ∙ C.mul-one _
  nf_ev (sum a b) = plus_ev (nf a) (nf b) ∙ ap₂ ◌⊕◌ (nf_ev a) (nf_ev b)
  nf_ev (prod a b) = times_ev (nf a) (nf b) ∙ ap₂ ◌⊗◌ (nf_ev a) (nf_ev b)
  nf_ev (opp {x = x} a) = scale_ev (negsuc 0) [] (nf a) nil ∙ C.add-zero _ ∙ ap₂ ◌⊗◌ (C.mul-one _) (nf_ev a) ∙ sym (C.neg_is x)

  -- equal normal forms, equal values
  pub ring : {x y : R} (a : Is x) (b : Is y) → nf a ≡ nf b → x ≡ y
  ring a b e = sym (nf_ev a) ∙ ap ev e ∙ nf_ev b

-- a linear combination of equations: x + c r = y + c l, and l = r, give x = y
module _ {R : Type 0} (C : CRing R) where
  pub by_eq : {x y l r : R} (c : R) → l ≡ r → C.add x (C.mul c r) ≡ C.add y (C.mul c l) → x ≡ y
  by_eq {x} {y} {l} {r} c e h = sym (back x (C.mul c r)) ∙ ap (λ t. C.add t (C.neg (C.mul c r))) (h ∙ ap (λ t. C.add y (C.mul c t)) e) ∙ back y (C.mul c r)
    where
      back : (u v : R) → C.add (C.add u v) (C.neg v) ≡ u
      back u v = ring C (u ∷ v ∷ []) (sum (sum (var 0) (var 1)) (opp (var 1))) (var 0) refl

-- ---- the readings of the listed terms, for `search`
module _ {R : Type 0} {C : CRing R} {ρ : List R} where
  abbrev pub v0 : {a : R} → Is C (a ∷ ρ) a
  v0 = var 0

  abbrev pub v1 : {a b : R} → Is C (a ∷ b ∷ ρ) b
  v1 = var 1

  abbrev pub v2 : {a b c : R} → Is C (a ∷ b ∷ c ∷ ρ) c
  v2 = var 2

  abbrev pub v3 : {a b c d : R} → Is C (a ∷ b ∷ c ∷ d ∷ ρ) d
  v3 = var 3

  abbrev pub v4 : {a b c d e : R} → Is C (a ∷ b ∷ c ∷ d ∷ e ∷ ρ) e
  v4 = var 4

  abbrev pub v5 : {a b c d e f : R} → Is C (a ∷ b ∷ c ∷ d ∷ e ∷ f ∷ ρ) f
  v5 = var 5

  abbrev pub v6 : {a b c d e f g : R} → Is C (a ∷ b ∷ c ∷ d ∷ e ∷ f ∷ g ∷ ρ) g
  v6 = var 6

  abbrev pub v7 : {a b c d e f g h : R} → Is C (a ∷ b ∷ c ∷ d ∷ e ∷ f ∷ g ∷ h ∷ ρ) h
  v7 = var 7

  abbrev pub v8 : {a b c d e f g h k : R} → Is C (a ∷ b ∷ c ∷ d ∷ e ∷ f ∷ g ∷ h ∷ k ∷ ρ) k
  v8 = var 8

  abbrev pub v9 : {a b c d e f g h k l : R} → Is C (a ∷ b ∷ c ∷ d ∷ e ∷ f ∷ g ∷ h ∷ k ∷ l ∷ ρ) l
  v9 = var 9

  abbrev pub v10 : {a b c d e f g h k l m : R} → Is C (a ∷ b ∷ c ∷ d ∷ e ∷ f ∷ g ∷ h ∷ k ∷ l ∷ m ∷ ρ) m
  v10 = var 10

  abbrev pub v11 : {a b c d e f g h k l m n : R} → Is C (a ∷ b ∷ c ∷ d ∷ e ∷ f ∷ g ∷ h ∷ k ∷ l ∷ m ∷ n ∷ ρ) n
  v11 = var 11

pub ruleset reads = (v0, v1, v2, v3, v4, v5, v6, v7, v8, v9, v10, v11, sum, prod, opp)
