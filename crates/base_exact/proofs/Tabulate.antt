-- Laws of tabulated lists: length, elements, extensionality, and how one store grows or changes a table that is the
-- front of a buffer. `tab-getD` is of a table alone, `getD-tab` of a table in front of other cells.
use mathlib.Core.Path.{◌≡◌, refl, sym, ◌∙◌, ap, ap₂}
use mathlib.Core.Bool.{Bool, true, false, cond}
use mathlib.Core.Logic.{◌≢◌}
use mathlib.Core.List.{List, [], ◌∷◌, ◌++◌, append_assoc, map}
use Prim.Native.Nat.{ℕ, zero, suc, ◌+◌, ◌-◌, ◌<◌, ◌≤◌}
use native.Mathlib.Numerals.{add-one}
use native.Mathlib.Omega.{arith}
use native.Mathlib.Decide.{ℕ_discrete}
use native.Mathlib.Nat.{zero-add, suc-add}
use lib.Dec.{T, eqb, eqb→eq, eqb_refl, eqb-suc-suc}
use lib.ListN.{length, get_or, take, drop, set, replicate, length-set, get_or-append}
use lib.Seq.{drop-cons, set_at, drop_at, length_front, length-take-le, get_or-append-add, get_or-drop, get_or-set_same, get_or-set_other, ext_get_or}
use Rattle.base_exact.specs.Tabulate.{tab, updated}

module _ {A : Type 0} where
  pub tab_length : (n : ℕ) (f : ℕ → A) → length (tab n f) ≡ n
  unfolding tab
  tab_length zero f = refl
  tab_length (suc n) f = ap suc (tab_length n (λ i. f (suc i)))

  pub tab_get_d : (n : ℕ) (f : ℕ → A) (k : ℕ) (d : A) → k < n → get_or (tab n f) k d ≡ f k
  unfolding tab
  tab_get_d zero f k d h = absurd (omega arith)
  tab_get_d (suc n) f zero d h = refl
  tab_get_d (suc n) f (suc k) d h = tab_get_d n (λ i. f (suc i)) k d (omega arith)

  pub tab_ext : (n : ℕ) {f g : ℕ → A} → ((i : ℕ) → i < n → f i ≡ g i) → tab n f ≡ tab n g
  unfolding tab
  tab_ext zero h = refl
  tab_ext (suc n) h = ap₂ ◌∷◌ (h 0 (omega arith)) (tab_ext n (λ i l. h (suc i) (omega arith)))

  -- a longer table: one place more at the end, or n places more
  pub tab_snoc : (n : ℕ) (f : ℕ → A) → tab (suc n) f ≡ tab n f ++ (f n ∷ [])
  unfolding tab
  tab_snoc zero f = refl
  tab_snoc (suc n) f = ap (λ t. f 0 ∷ t) (tab_snoc n (λ i. f (suc i)))

  pub tab-add : (m n : ℕ) (f : ℕ → A) → tab (m + n) f ≡ tab m f ++ tab n (λ i. f (m + i))
  unfolding tab
  tab-add zero n f = simp zero-add
  tab-add (suc m) n f = simp suc-add (ap (λ t. f 0 ∷ t) (tab-add m n (λ i. f (suc i))))

  pub tab_const : (n : ℕ) (v : A) → tab n (λ _. v) ≡ replicate n v
  unfolding tab
  tab_const zero v = refl
  tab_const (suc n) v = ap (λ t. v ∷ t) (tab_const n v)

  -- a list is the table of its elements, and a front of it the table of fewer
  pub tab_take : (n : ℕ) (l : List A) (d : A) → n ≤ length l → tab n (λ i. get_or l i d) ≡ take n l
  unfolding tab
  tab_take zero l d h = refl
  tab_take (suc n) [] d h = absurd (omega arith)
  tab_take (suc n) (a ∷ l) d h = ap (λ t. a ∷ t) (tab_take n l d (omega arith))

  pub tab_self : (l : List A) (d : A) → tab (length l) (λ i. get_or l i d) ≡ l
  unfolding tab
  tab_self [] d = refl
  tab_self (a ∷ l) d = ap (λ t. a ∷ t) (tab_self l d)

  -- ---- a table in front of other cells
  pub drop-tab : (n : ℕ) (f : ℕ → A) (r : List A) → drop n (tab n f ++ r) ≡ r
  drop-tab n f r = drop_at (tab n f) r n (tab_length n f)

  pub get_d_tab : (n : ℕ) (f : ℕ → A) (r : List A) (k : ℕ) (d : A) → k < n → get_or (tab n f ++ r) k d ≡ f k
  get_d_tab n f r k d h = get_or-append (tab n f) r d k (rw (tab_length n f) h) ∙ tab_get_d n f k d h

  pub length_tab : (n : ℕ) (f : ℕ → A) (d : List A) → n ≤ length d → length (tab n f ++ drop n d) ≡ length d
  length_tab n f d h = length_front d (tab n f) n (tab_length n f ∙ sym (length-take-le n d h))

  -- past the table the cells are the old ones
  pub get_d_past-tab : (n : ℕ) (f : ℕ → A) (l : List A) (k : ℕ) (d : A) → n ≤ k → get_or (tab n f ++ drop n l) k d ≡ get_or l k d
  get_d_past-tab n f l k d h =
      ap (λ j. get_or (tab n f ++ drop n l) j d) (let e : k ≡ length (tab n f) + (k - n) = omega (arith, tab_length n f) in e)
      ∙ get_or-append-add (tab n f) (drop n l) (k - n) d ∙ get_or-drop n l (k - n) d
      ∙ ap (λ j. get_or l j d) (let e : n + (k - n) ≡ k = omega arith in e)

  -- ---- a loop's stores: none yet, one more behind the table, one inside it
  pub tab-none : (f : ℕ → A) (d : List A) → d ≡ tab 0 f ++ drop 0 d
  unfolding tab
  tab-none f d = refl

  pub tab_more : (f : ℕ → A) (n : ℕ) (d : List A) → n < length d → set (tab n f ++ drop n d) n (f n) ≡ tab (n + 1) f ++ drop (n + 1) d
  tab_more f n d h =
      ap (λ t. set (tab n f ++ t) n (f n)) (drop-cons d n (f n) h)
      ∙ set_at (tab n f) _ (drop (suc n) d) (f n) n (tab_length n f)
      ∙ sym (append_assoc (tab n f) (f n ∷ []) (drop (suc n) d))
      ∙ ap (λ t. t ++ drop (suc n) d) (sym (tab_snoc n f))
      ∙ ap (λ k. tab k f ++ drop k d) (sym (add-one n))

  -- a table with the same value from place c on, in a list of that value
  pub tab-rest : (n c : ℕ) {f g : ℕ → A} {v : A} → c ≤ n → ((i : ℕ) → i < c → f i ≡ g i) → ((i : ℕ) → c ≤ i → g i ≡ v) → tab c f ++ drop c (replicate n v) ≡ tab n g
  unfolding tab
  tab-rest zero zero h p q = refl
  tab-rest zero (suc c) h p q = absurd (omega arith)
  tab-rest (suc n) zero {f} h p q = ap₂ ◌∷◌ (sym (q 0 (omega arith))) (tab-rest n zero {f = f} (omega arith) (λ i l. absurd (omega arith)) (λ i l. q (suc i) (omega arith)))
  tab-rest (suc n) (suc c) h p q = ap₂ ◌∷◌ (p 0 (omega arith)) (tab-rest n c (omega arith) (λ i l. p (suc i) (omega arith)) (λ i l. q (suc i) (omega arith)))

  pub updated-same : (f : ℕ → A) (k : ℕ) (v : A) → updated f k v k ≡ v
  unfolding updated
  updated-same f k v = go (eqb k k) (eqb_refl k)
    where
      go : (b : Bool) → T b → cond b v (f k) ≡ v
      go true t = refl
      go false t = absurd t

  pub updated_other : (f : ℕ → A) (k : ℕ) (v : A) (i : ℕ) → i ≢ k → updated f k v i ≡ f i
  unfolding updated
  updated_other f k v i h = go (eqb i k) (λ t. h (eqb→eq i k t))
    where
      go : (b : Bool) → (T b → ⊥) → cond b v (f i) ≡ f i
      go true t = absurd (t tt)
      go false t = refl

  updated_suc : (f : ℕ → A) (k : ℕ) (v : A) (i : ℕ) → updated (λ j. f (suc j)) k v i ≡ updated f (suc k) v (suc i)
  unfolding updated
  updated_suc f k v i = ap (λ b. cond b v (f (suc i))) (sym (eqb-suc-suc i k))

  pub tab_set : (n : ℕ) (f : ℕ → A) (k : ℕ) (v : A) → k < n → set (tab n f) k v ≡ tab n (updated f k v)
  unfolding tab
  tab_set zero f k v h = absurd (omega arith)
  tab_set (suc n) f zero v h = ap₂ ◌∷◌ (sym (updated-same f 0 v)) (tab_ext n (λ i l. sym (updated_other f 0 v (suc i) (omega arith))))
  tab_set (suc n) f (suc k) v h = ap₂ ◌∷◌ (sym (updated_other f (suc k) v 0 (omega arith)))
      (tab_set n (λ i. f (suc i)) k v (omega arith) ∙ tab_ext n (λ i l. updated_suc f k v i))

-- one store takes a rule to another that gives the stored value there and agrees with it elsewhere
pub tab_store : {A : Type 0} (n : ℕ) {f g : ℕ → A} (k : ℕ) {v : A} → k < n → g k ≡ v → ((i : ℕ) → i < n → i ≢ k → f i ≡ g i) → set (tab n f) k v ≡ tab n g
tab_store n {f} {g} k {v} h same other = ext_get_or v (set (tab n f) k v) (tab n g) (length-set (tab n f) k v ∙ tab_length n f ∙ sym (tab_length n g)) (λ i l. at i (bound i l) (ℕ_discrete i k))
  where
    bound : (i : ℕ) → i < length (set (tab n f) k v) → i < n
    bound i l = omega (arith, length-set (tab n f) k v, tab_length n f)

    at : (i : ℕ) → i < n → Dec (i ≡ k) → get_or (set (tab n f) k v) i v ≡ get_or (tab n g) i v
    at i l (yes e) = ap (λ j. get_or (set (tab n f) k v) j v) e ∙ get_or-set_same (tab n f) k v v (rw (tab_length n f) h) ∙ sym same ∙ ap g (sym e) ∙ sym (tab_get_d n g i v l)
    at i l (no e) = get_or-set_other (tab n f) k i v v e ∙ tab_get_d n f i v l ∙ other i l e ∙ sym (tab_get_d n g i v l)

pub map_tab : {A B : Type 0} (g : A → B) (n : ℕ) (f : ℕ → A) → map g (tab n f) ≡ tab n (λ i. g (f i))
unfolding tab
map_tab g zero f = refl
map_tab g (suc n) f = ap (λ t. g (f 0) ∷ t) (map_tab g n (λ i. f (suc i)))

-- a table of tables
pub tab_get_d_get_d : {A : Type 0} (m n : ℕ) (f : ℕ → ℕ → A) (i k : ℕ) (d : A) → i < m → k < n → get_or (get_or (tab m (λ a. tab n (f a))) i []) k d ≡ f i k
tab_get_d_get_d m n f i k d h l = ap (λ r. get_or r k d) (tab_get_d m (λ a. tab n (f a)) i [] h) ∙ tab_get_d n (f i) k d l
