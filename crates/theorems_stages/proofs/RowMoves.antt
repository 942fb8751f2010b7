-- What one step does to the rows of every ordinate, and how the rows of its condition's columns stand to the first and the
-- last row with a jump: all in natural numbers, from the definitions of Rows.
use mathlib.Core.Path.{◌≡◌, refl, sym, ◌∙◌, ap, ap₂, subst}
use mathlib.Core.Logic.{◌≢◌, ◌⊎◌, inl, inr}
use Prim.Native.Nat.{ℕ, zero, suc, ◌+◌, ◌-◌, ◌<◌, ◌≤◌, max}
use native.Mathlib.Omega.{arith}
use native.Mathlib.Nat.{eq-or-lt_of_le}
use Rattle.base_exact.proofs.Decide.{le_or_lt}
use Rattle.theorems_stages.proofs.Rows.{first_row, left_count, lowest, highest, Stage, Next, Moves, top_rises, first_rises, left-count-within}

-- ---- one step

-- the first rows before and after it
pub first-kept : (p : ℕ → ℕ) {e e' : ℕ → ℕ} {join : ℕ} → Next e e' join → (j : ℕ) → j ≤ join → first_row p e' j ≡ first_row p e j
unfolding first_row
first-kept p N zero h = refl
first-kept p N (suc j) h = omega (arith, first-kept p N j (omega arith), N.same j (λ z. omega arith))

first-moved : (p : ℕ → ℕ) {e e' : ℕ → ℕ} {join : ℕ} → Next e e' join → e join < p join + 1 → (j : ℕ) → join < j → suc (first_row p e' j) ≡ first_row p e j
unfolding first_row
first-moved p N b zero h = absurd (omega arith)
first-moved p {e} {e'} {join} N b (suc j) h = go (λ l. first-moved p N b j l) (eq-or-lt_of_le h)
  where
    go : (join < j → suc (first_row p e' j) ≡ first_row p e j) → (suc join ≡ suc j) ⊎ (suc join < suc j) → suc (first_row p e' j + (p j + 1 - e' j)) ≡ first_row p e j + (p j + 1 - e j)
    go ih (inl z) = let y : join ≡ j = omega arith in omega (arith, first-kept p N j (omega arith), N.more, ap e' y, ap e y, ap p y)
    go ih (inr l) = omega (arith, ih (omega arith), N.same j (λ z. omega arith))

left-kept : {e e' : ℕ → ℕ} {join : ℕ} → Next e e' join → (j : ℕ) → j ≢ suc join → left_count e' j ≡ left_count e j
left-kept N zero h = refl
left-kept N (suc j) h = N.same j (λ z. h (ap suc z))

-- The first and the last row with a jump at the step that adds condition k.
unfoldable pub first_spanned : (ℕ → ℕ) → (ℕ → ℕ) → ℕ → ℕ → ℕ
first_spanned p e join k = first_row p e join + (p join - k)

unfoldable pub last_spanned : (ℕ → ℕ) → (ℕ → ℕ) → ℕ → ℕ
last_spanned p e join = suc (first_row p e join + p join)

-- Where an ordinate's rows stand to them at a step of order 0 or 1.
pub data Stands (f l low high : ℕ) : Type 0 where
  under : high ≤ f → Stands f l low high
  inside : f < low → high < l → Stands f l low high
  over : l ≤ low → Stands f l low high

-- The step that adds condition k: the stage before it, and what the degrees and the orders allow.
pub record Spanning (p e : ℕ → ℕ) (join k : ℕ) : Type 0 where
  pub stage : Stage p e join k
  pub room : k < p join
  pub room' : k < p (suc join)
  pub few : k ≤ 2

module _ {p e : ℕ → ℕ} {join k : ℕ} (G : Spanning p e join k) where
  abbrev S : Stage p e join k
  S = G.stage

  -- the first and the last row with a jump
  abbrev f : ℕ
  f = first_spanned p e join k

  abbrev l : ℕ
  l = last_spanned p e join

  -- how the rows of ordinate t of segment j stand to them
  abbrev Standing : ℕ → ℕ → Type 0
  Standing j t = Stands f l (lowest p e j t) (highest p e j t)

  -- the row below the first of the join's left segment
  pub before-join : (i : ℕ) → suc i ≡ join → (first_row p e join + e i ≡ suc (first_row p e i + p i)) × (e i ≤ p join)
  unfolding first_row
  before-join i z = (ap (λ n. first_row p e n + e i) (sym z) ∙ omega (arith, S.left i), omega (arith, S.right i, ap p z))

  -- the last row of a segment that does not meet the join
  pub far_top : (i : ℕ) → suc i < join → first_row p e i + p i ≤ f
  unfolding first_spanned
  far_top i b = omega (arith, before-join (join - 1) (omega arith), top_rises p e S.right S.left i (join - 1) (omega arith))

  -- segments before the join: their rows end below the join's
  below_span : (j t : ℕ) → t ≤ p j → j < join → (lowest p e j t ≤ f) × (highest p e j t < first_row p e join + p join)
  unfolding first_spanned lowest highest
  below_span j t h b = go (eq-or-lt_of_le b)
    where
      within : left_count e j ≤ p j
      within = left-count-within p e S.right j

      go : (suc j ≡ join) ⊎ (suc j < join) → (first_row p e j + t - (e j + t - (p j + 1)) ≤ first_row p e join + (p join - k)) × (first_row p e j + max t (left_count e j - 1) < first_row p e join + p join)
      go (inl z) = let w = within in omega (arith, before-join j z)
      go (inr z) = let w = within in let b = before-join (join - 1) (omega arith) in let r = top_rises p e S.right S.left j (join - 1) (omega arith) in omega arith

  -- the segment that starts at the join
  after-join : first_row p e (suc join) ≡ suc f
  unfolding first_spanned first_row
  after-join = omega arith

  -- segments after it
  beyond-span : (j : ℕ) → suc join < j → l < first_row p e j
  unfolding first_spanned last_spanned
  beyond-span j b = omega (arith, after-join, first_rises p e S.left (suc join) j b, S.rest (suc join) (omega arith))

  module _ (e' : ℕ → ℕ) (N : Next e e' join) where
    -- and how the step moves them
    abbrev Moved : ℕ → ℕ → Type 0
    Moved j t = Moves f l (lowest p e j t) (highest p e j t) (lowest p e' j t) (highest p e' j t)

    moves_before : (j t : ℕ) → t ≤ p j → j < join → Moved j t
    unfolding lowest highest last_spanned
    moves_before j t h b = let s = below_span j t h b in let d = first-kept p N j (omega arith) in let x = N.same j (λ z. omega arith) in let y = left-kept N j (λ z. omega arith) in
        record {
          low_kept = λ l. ap₂ (λ a b. a + t - (b + t - (p j + 1))) d x;
          low_moved = λ l. absurd (omega (arith, s.0));
          high-kept = λ l. ap₂
              (λ a b. a + max t (b - 1)) d y;
          high-moved = λ l. absurd (omega (arith, s.1));
        }

    moves_at : (t : ℕ) → t ≤ p join → Moved join t
    unfolding lowest highest first_spanned last_spanned
    moves_at t h = let d = first-kept p N join (omega arith) in let y = left-kept N join (λ z. omega arith) in let w = left-count-within p e S.right join in let b = N.more in
        record { low_kept = λ l. omega arith; low_moved = λ l. omega arith; high-kept = λ l. ap₂ (λ a b. a + max t (b - 1)) d y; high-moved = λ l. absurd (omega arith) }

    moves_next : (t : ℕ) → t ≤ p (suc join) → Moved (suc join) t
    unfolding lowest highest first_spanned last_spanned
    moves_next t h =
        let c = after-join in let d = first-moved p N (omega arith) (suc join) (omega arith) in let r = S.rest (suc join) (omega arith) in
        let r' = N.same (suc join) (λ z. omega arith) in
        record { low_kept = λ l. absurd (omega arith); low_moved = λ l. omega arith; high-kept = λ l. omega arith; high-moved = λ l. omega arith }

    moves_after : (j t : ℕ) → t ≤ p j → suc join < j → Moved j t
    unfolding lowest highest first_spanned last_spanned
    moves_after j t h b =
        let c = beyond-span j b in let d = first-moved p N (omega arith) j (omega arith) in let r = S.rest j (omega arith) in let r' = N.same j (λ z. omega arith) in
        let y = left-kept N j (λ z. omega arith) in
        record { low_kept = λ l. absurd (omega arith); low_moved = λ l. omega arith; high-kept = λ l. absurd (omega arith); high-moved = λ l. omega arith }

    -- The step moves the ends of every ordinate's rows as `Moves` says.
    pub step_moves : (j t : ℕ) → t ≤ p j → Moved j t
    step_moves j t h = go (le_or_lt join j)
      where
        later : (suc join ≡ j) ⊎ (suc join < j) → Moved j t
        later (inl z) = subst (λ i. t ≤ p i → Moved i t) z (moves_next t) h
        later (inr b) = moves_after j t h b

        from : (join ≡ j) ⊎ (join < j) → Moved j t
        from (inl z) = subst (λ i. t ≤ p i → Moved i t) z (moves_at t) h
        from (inr b) = later (eq-or-lt_of_le b)

        go : (join ≤ j) ⊎ (j < join) → Moved j t
        go (inl b) = from (eq-or-lt_of_le b)
        go (inr b) = moves_before j t h b

  -- ---- the columns of the step's condition

  pub start_low : lowest p e join (p join - k + 0) ≡ f
  unfolding lowest first_spanned
  start_low = omega arith

  -- it reaches above the first row only where both joins of a segment of degree 3 have order 2
  pub start-high : highest p e join (p join - k + 0) ≤ suc f
  unfolding highest first_spanned
  start-high = omega (arith, left-count-within p e S.right join)

  pub start-high_low : k ≤ 1 → highest p e join (p join - k + 0) ≡ f
  unfolding highest first_spanned
  start-high_low h = omega (arith, left-count-within p e S.right join)

  pub left_low : (u : ℕ) → 0 < u → u ≤ k → lowest p e join (p join - k + u) ≡ suc f
  unfolding lowest first_spanned
  left_low u a b = omega arith

  pub left-high : (u : ℕ) → 0 < u → u ≤ k → highest p e join (p join - k + u) ≡ f + u
  unfolding highest first_spanned
  left-high u a b = omega (arith, left-count-within p e S.right join)

  pub right_low : (u : ℕ) → u ≤ k → lowest p e (suc join) u ≡ suc f + u
  unfolding lowest
  right_low u a = omega (arith, after-join, S.rest (suc join) (omega arith))

  pub right-high : (u : ℕ) → u < k → highest p e (suc join) u ≡ f + k
  unfolding highest
  right-high u a = omega (arith, after-join)

  pub right-last : highest p e (suc join) k ≡ suc (f + k)
  unfolding highest
  right-last = omega (arith, after-join)

  pub left-within : (u : ℕ) → u ≤ k → (f ≤ lowest p e join (p join - k + u)) × (highest p e join (p join - k + u) < l)
  unfolding lowest highest first_spanned last_spanned
  left-within u a = omega (arith, left-count-within p e S.right join)

  pub right-within : (u : ℕ) → u ≤ k → (f < lowest p e (suc join) u) × (highest p e (suc join) u ≤ l)
  unfolding lowest highest last_spanned first_spanned
  right-within u a = let c = after-join in omega (arith, S.rest (suc join) (omega arith))

  pub last_is : l ≡ suc (f + k)
  unfolding first_spanned last_spanned
  last_is = omega arith

  -- ---- where an ordinate's rows stand at a step of order 0 or 1

  stands_at : k ≤ 1 → (t : ℕ) → t ≤ p join → Standing join t
  unfolding lowest highest first_spanned last_spanned
  stands_at few' t h = let w = left-count-within p e S.right join in go (le_or_lt t (p join - k))
    where
      go : (t ≤ p join - k) ⊎ (p join - k < t) → Standing join t
      go (inl b) = let w = left-count-within p e S.right join in under (omega arith)
      go (inr b) = let w = left-count-within p e S.right join in inside (omega arith) (omega arith)

  stands_next : k ≤ 1 → (t : ℕ) → t ≤ p (suc join) → Standing (suc join) t
  unfolding lowest highest first_spanned last_spanned
  stands_next few' t h = go (le_or_lt k t)
    where
      go : (k ≤ t) ⊎ (t < k) → Standing (suc join) t
      go (inl b) = let c = after-join in let r = S.rest (suc join) (omega arith) in over (omega arith)
      go (inr b) = let c = after-join in let r = S.rest (suc join) (omega arith) in inside (omega arith) (omega arith)

  pub stands : k ≤ 1 → (j t : ℕ) → t ≤ p j → Standing j t
  unfolding lowest highest first_spanned last_spanned
  stands few' j t h = go (le_or_lt join j)
    where
      later : (suc join ≡ j) ⊎ (suc join < j) → Standing j t
      later (inl z) = subst (λ i. t ≤ p i → Standing i t) z (stands_next few' t) h
      later (inr b) = let c = beyond-span j b in let r = S.rest j (omega arith) in over (omega arith)

      from : (join ≡ j) ⊎ (join < j) → Standing j t
      from (inl z) = subst (λ i. t ≤ p i → Standing i t) z (stands_at few' t) h
      from (inr b) = later (eq-or-lt_of_le b)

      go : (join ≤ j) ⊎ (j < join) → Standing j t
      go (inl b) = from (eq-or-lt_of_le b)
      go (inr b) = under (omega (arith, (below_span j t h b).1))
