-- Laws of the two searches: what the first and the last index that meets a test are, from the tests below the bound (for
-- a loop that searches) and back (for a theorem that is given what was found).
use mathlib.Core.Path.{◌≡◌, refl, ◌∙◌, ap}
use mathlib.Core.Logic.{◌⊎◌, inl, inr}
use mathlib.Core.Bool.{Bool, true, false, cond}
use mathlib.Core.Option.{Option, some, none}
use Prim.Native.Nat.{ℕ, zero, suc, ◌<◌}
use native.Mathlib.Omega.{arith}
use native.Mathlib.Nat.{eq-or-lt_of_le}
use Rattle.base_exact.proofs.Decide.{below_suc, clash}
use Rattle.base_outcome.specs.Search.{first, last, or_else}

pub some_not_none : {o : Option ℕ} {i : ℕ} → o ≡ some i → o ≡ none → ⊥
some_not_none p q = clash cc

-- ---- the first index

module _ (test : ℕ → Bool) where
  -- the bound grows by one
  pub first-kept : (n : ℕ) {i : ℕ} → first n test ≡ some i → first (suc n) test ≡ some i
  unfolding first
  first-kept n e = ap (λ o. or_else o (cond (test n) (some n) none)) e

  pub first_new : (n : ℕ) → first n test ≡ none → test n ≡ true → first (suc n) test ≡ some n
  unfolding first
  first_new n e t = ap (λ o. or_else o (cond (test n) (some n) none)) e ∙ ap (λ b. cond b (some n) none) t

  pub first_still_none : (n : ℕ) → first n test ≡ none → test n ≡ false → first (suc n) test ≡ none
  unfolding first
  first_still_none n e t = ap (λ o. or_else o (cond (test n) (some n) none)) e ∙ ap (λ b. cond b (some n) none) t

  -- no index meets the test
  pub first-none : (n : ℕ) → ((k : ℕ) → k < n → test k ≡ false) → first n test ≡ none
  unfolding first
  first-none zero h = refl
  first-none (suc n) h = first_still_none n (first-none n (λ k l. h k (omega arith))) (h n (omega arith))

  -- i meets it, and none before
  pub first_at : (n i : ℕ) → i < n → test i ≡ true → ((k : ℕ) → k < i → test k ≡ false) → first n test ≡ some i
  unfolding first
  first_at zero i h t before = absurd (omega arith)
  first_at (suc n) i h t before = go (λ l. first_at n i l t before) (eq-or-lt_of_le h)
    where
      go : (i < n → first n test ≡ some i) → (suc i ≡ suc n) ⊎ (suc i < suc n) → first (suc n) test ≡ some i
      go ih (inl e) = let z : n ≡ i = omega arith in first_new n (first-none n (λ k l. before k (omega arith))) (ap test z ∙ t) ∙ ap some z
      go ih (inr l) = first-kept n (ih (omega arith))

  -- what was found
  pub record First (n i : ℕ) : Type 0 where
    pub below : i < n
    pub meets : test i ≡ true
    pub before : (k : ℕ) → k < i → test k ≡ false

  pub data Searched (n : ℕ) : Type 0 where
    at : (i : ℕ) → First n i → first n test ≡ some i → Searched n
    nowhere : ((k : ℕ) → k < n → test k ≡ false) → first n test ≡ none → Searched n

  pub search_first : (n : ℕ) → Searched n
  search_first zero = nowhere (λ k h. absurd (omega arith)) (first-none zero (λ k h. absurd (omega arith)))
  search_first (suc n) = go (search_first n) (test n) refl
    where
      go : Searched n → (b : Bool) → test n ≡ b → Searched (suc n)
      go (at i s e) b t = at i (record { below = omega (arith, s.below); meets = s.meets; before = s.before }) (first-kept n e)
      go (nowhere h e) true t = at n (record { below = omega arith; meets = t; before = h }) (first_new n e t)
      go (nowhere h e) false t = nowhere (below_suc (λ k. test k ≡ false) h t) (first_still_none n e t)

  pub first_some_inverts : (n : ℕ) {i : ℕ} → first n test ≡ some i → First n i
  first_some_inverts n {i} e = go (search_first n)
    where
      go : Searched n → First n i
      go (at k s p) = rw (let z : k ≡ i = cc in z) at s
      go (nowhere h p) = absurd (some_not_none e p)

  pub first-none_inverts : (n : ℕ) → first n test ≡ none → (k : ℕ) → k < n → test k ≡ false
  first-none_inverts n e k l = go (search_first n)
    where
      go : Searched n → test k ≡ false
      go (at i s p) = absurd (some_not_none p e)
      go (nowhere h p) = h k l

-- two tests that agree below the bound
pub first_ext : (n : ℕ) {test other : ℕ → Bool} → ((k : ℕ) → k < n → test k ≡ other k) → first n test ≡ first n other
unfolding first
first_ext zero h = refl
first_ext (suc n) {test} {other} h = ap (λ o. or_else o (cond (test n) (some n) none)) (first_ext n (λ k l. h k (omega arith)))
    ∙ ap (λ b. or_else (first n other) (cond b (some n) none)) (h n (omega arith))

-- ---- the last index

module _ (test : ℕ → Bool) where
  pub last_new : (n : ℕ) → test n ≡ true → last (suc n) test ≡ some n
  unfolding last
  last_new n t = ap (λ b. cond b (some n) (last n test)) t

  pub last-kept : (n : ℕ) → test n ≡ false → last (suc n) test ≡ last n test
  unfolding last
  last-kept n t = ap (λ b. cond b (some n) (last n test)) t

  -- no index meets the test
  pub last_none : (n : ℕ) → ((k : ℕ) → k < n → test k ≡ false) → last n test ≡ none
  unfolding last
  last_none zero h = refl
  last_none (suc n) h = last-kept n (h n (omega arith)) ∙ last_none n (λ k l. h k (omega arith))

  -- i meets it, and none after
  pub last_at : (n i : ℕ) → i < n → test i ≡ true → ((k : ℕ) → i < k → k < n → test k ≡ false) → last n test ≡ some i
  last_at zero i h t after = absurd (omega arith)
  last_at (suc n) i h t after = go (λ l. last_at n i l t (λ k a b. after k a (omega arith))) (eq-or-lt_of_le h)
    where
      go : (i < n → last n test ≡ some i) → (suc i ≡ suc n) ⊎ (suc i < suc n) → last (suc n) test ≡ some i
      go ih (inl e) = let z : n ≡ i = omega arith in last_new n (ap test z ∙ t) ∙ ap some z
      go ih (inr l) = last-kept n (after n (omega arith) (omega arith)) ∙ ih (omega arith)

  pub record Last (n i : ℕ) : Type 0 where
    pub below : i < n
    pub meets : test i ≡ true
    pub after : (k : ℕ) → i < k → k < n → test k ≡ false

  pub data SearchedBack (n : ℕ) : Type 0 where
    at : (i : ℕ) → Last n i → last n test ≡ some i → SearchedBack n
    nowhere : ((k : ℕ) → k < n → test k ≡ false) → last n test ≡ none → SearchedBack n

  pub search_last : (n : ℕ) → SearchedBack n
  search_last zero = nowhere (λ k h. absurd (omega arith)) (last_none zero (λ k h. absurd (omega arith)))
  search_last (suc n) = go (search_last n) (test n) refl
    where
      go : SearchedBack n → (b : Bool) → test n ≡ b → SearchedBack (suc n)
      go s true t = at n (record { below = omega arith; meets = t; after = λ k a b. absurd (omega arith) }) (last_new n t)
      go (at i s e) false t =
          at i
          (record {
            below = omega (arith, s.below);
            meets = s.meets;
            after = λ k a l. below_suc (λ k. i < k → test k ≡ false) (λ k l a. s.after k a l) (λ a. t) k l a;
          }) (last-kept n t ∙ e)
      go (nowhere h e) false t = nowhere (below_suc (λ k. test k ≡ false) h t) (last-kept n t ∙ e)

  pub last_some_inverts : (n : ℕ) {i : ℕ} → last n test ≡ some i → Last n i
  last_some_inverts n {i} e = go (search_last n)
    where
      go : SearchedBack n → Last n i
      go (at k s p) = rw (let z : k ≡ i = cc in z) at s
      go (nowhere h p) = absurd (some_not_none e p)

  pub last-none_inverts : (n : ℕ) → last n test ≡ none → (k : ℕ) → k < n → test k ≡ false
  last-none_inverts n e k l = go (search_last n)
    where
      go : SearchedBack n → test k ≡ false
      go (at i s p) = absurd (some_not_none p e)
      go (nowhere h p) = h k l
