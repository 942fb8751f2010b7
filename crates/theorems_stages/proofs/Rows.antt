-- Which rows have weight on which ordinate, as natural numbers: p j is the degree of segment j, e j the number of
-- conditions met so far at join j, which lies between the segments j and j + 1. Only the counts at its own two joins move the
-- ends of an ordinate's rows apart.
use mathlib.Core.Path.{◌≡◌, ap}
use mathlib.Core.Logic.{◌≢◌, ◌⊎◌, inl, inr}
use Prim.Native.Nat.{ℕ, zero, suc, ◌+◌, ◌-◌, ◌<◌, ◌≤◌, max}
use native.Mathlib.Omega.{arith}
use native.Mathlib.Nat.{eq-or-lt_of_le}
use Rattle.theorems_stages.specs.Counts.{full_count}

-- The first row of segment j: each segment brings its columns and loses a row for each condition at its right join.
unfoldable pub first_row : (ℕ → ℕ) → (ℕ → ℕ) → ℕ → ℕ
first_row p e zero = 0
first_row p e (suc j) = first_row p e j + (p j + 1 - e j)

-- The conditions met at the left join of segment j: the first segment has none.
abbrev pub left_count : (ℕ → ℕ) → ℕ → ℕ
left_count e zero = 0
left_count e (suc j) = e j

-- The first row with weight on ordinate t of segment j: conditions at the right join reach down.
unfoldable pub lowest : (ℕ → ℕ) → (ℕ → ℕ) → ℕ → ℕ → ℕ
lowest p e j t = first_row p e j + t - (e j + t - (p j + 1))

-- The last row with weight on it: conditions at the left join reach up.
unfoldable pub highest : (ℕ → ℕ) → (ℕ → ℕ) → ℕ → ℕ → ℕ
highest p e j t = first_row p e j + max t (left_count e j - 1)

-- The counts at a stage: k conditions at this join, none at later joins, never more than a neighbouring degree.
pub record Stage (p e : ℕ → ℕ) (join k : ℕ) : Type 0 where
  pub left : (i : ℕ) → e i ≤ p i
  pub right : (i : ℕ) → e i ≤ p (suc i)
  pub here : e join ≡ k
  pub rest : (i : ℕ) → join < i → e i ≡ 0

-- One condition more at this join.
pub record Next (e e' : ℕ → ℕ) (join : ℕ) : Type 0 where
  pub same : (i : ℕ) → i ≢ join → e' i ≡ e i
  pub more : e' join ≡ suc (e join)

-- What a step whose jumps span the rows f to l makes of the ends of an ordinate's rows.
pub record Moves (f l low high low' high' : ℕ) : Type 0 where
  pub low_kept : low ≤ f → low' ≡ low
  pub low_moved : f < low → suc low' ≡ low
  pub high-kept : high < l → high' ≡ high
  pub high-moved : l ≤ high → suc high' ≡ high

module _ (p e : ℕ → ℕ) where
  pub lowest_at_most_highest : (j t : ℕ) → lowest p e j t ≤ highest p e j t
  unfolding lowest highest
  lowest_at_most_highest j t = omega arith

  -- the last row of segment j rises with j
  pub top_rises : (right : (i : ℕ) → e i ≤ p (suc i)) (left : (i : ℕ) → e i ≤ p i) (i j : ℕ) → i < j → first_row p e i + p i < first_row p e j + p j
  unfolding first_row
  top_rises right left i zero h = absurd (omega arith)
  top_rises right left i (suc j) h = go (λ l. top_rises right left i j l) (eq-or-lt_of_le h)
    where
      go : (i < j → first_row p e i + p i < first_row p e j + p j) → (suc i ≡ suc j) ⊎ (suc i < suc j) → first_row p e i + p i < first_row p e j + (p j + 1 - e j) + p (suc j)
      go ih (inl z) = let y : i ≡ j = omega arith in omega (arith, ap (first_row p e) y, ap p y, right j, left j)
      go ih (inr l) = omega (arith, ih (omega arith), right j, left j)

  -- so does its first row
  pub first_rises : (left : (i : ℕ) → e i ≤ p i) (i j : ℕ) → i < j → first_row p e i + (p i + 1 - e i) ≤ first_row p e j
  unfolding first_row
  first_rises left i zero h = absurd (omega arith)
  first_rises left i (suc j) h = go (λ l. first_rises left i j l) (eq-or-lt_of_le h)
    where
      go : (i < j → first_row p e i + (p i + 1 - e i) ≤ first_row p e j) → (suc i ≡ suc j) ⊎ (suc i < suc j) → first_row p e i + (p i + 1 - e i) ≤ first_row p e j + (p j + 1 - e j)
      go ih (inl z) = let y : i ≡ j = omega arith in omega (arith, ap (first_row p e) y, ap p y, ap e y)
      go ih (inr l) = omega (arith, ih (omega arith))

  pub left-count-within : ((i : ℕ) → e i ≤ p (suc i)) → (j : ℕ) → left_count e j ≤ p j
  left-count-within right zero = omega arith
  left-count-within right (suc j) = right j

-- Where one condition is met at a join, the last ordinate before it and the first after it have one row, the same.
pub record Single (p e : ℕ → ℕ) (join r : ℕ) : Type 0 where
  pub low : lowest p e join (p join) ≡ r
  pub high : highest p e join (p join) ≡ r
  pub low' : lowest p e (suc join) 0 ≡ r
  pub high' : highest p e (suc join) 0 ≡ r

pub met_once : (p e : ℕ → ℕ) (join : ℕ) → Stage p e join 1 → Single p e join (first_row p e join + p join)
unfolding lowest highest first_row
met_once p e join S = let a = S.here in let w = left-count-within p e S.right join in let r = S.rest (suc join) (omega arith) in let b = S.left join in
    record { low = omega arith; high = omega arith; low' = omega arith; high' = omega arith }

-- The last rows of the last ordinate of a segment, of the one before it, and, after three conditions at its right join, of
-- ordinate 1 of the next segment.
pub top_highest : (p e : ℕ → ℕ) → ((i : ℕ) → e i ≤ p (suc i)) → (j : ℕ) → highest p e j (p j) ≡ first_row p e j + p j
unfolding highest
top_highest p e right j = omega (arith, left-count-within p e right j)

pub below_top_highest : (p e : ℕ → ℕ) → ((i : ℕ) → e i ≤ p (suc i)) → (j : ℕ) → 0 < p j → highest p e j (p j - 1) ≡ first_row p e j + p j - 1
unfolding highest
below_top_highest p e right j h = omega (arith, left-count-within p e right j)

pub next-highest : (p e : ℕ → ℕ) (j : ℕ) → e j ≤ p j → e j ≡ full_count → highest p e (suc j) 1 ≡ first_row p e j + p j
unfolding highest first_row
next-highest p e j h z = omega arith
