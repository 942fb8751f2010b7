-- What holds of the table at every stage of the build: the rows with weight on each ordinate are those that Rows gives, and
-- the last ordinate of a segment has the weights of the next segment's first where a condition is met at their join. The
-- identity has this form, and a step that spans the rows it should keeps it.
use mathlib.Core.Path.{◌≡◌, refl, sym, ◌∙◌, ap₂, subst}
use mathlib.Core.Logic.{◌⊎◌, inl, inr}
use mathlib.Core.List.{List}
use Prim.Native.Nat.{ℕ, zero, suc, ◌+◌, ◌<◌, ◌≤◌}
use native.Mathlib.Omega.{arith}
use native.Mathlib.Decide.{ℕ_discrete}
use lib.IntN.{pos}
use lib.ListN.{length}
use Rattle.base_exact.specs.Rational.{ℚ, int, ◌+ᵠ◌, ◌*ᵠ◌, ◌-ᵠ◌}
use Rattle.base_exact.specs.Order.{◌<ᵠ◌}
use Rattle.base_exact.specs.Sum.{sum}
use Rattle.base_exact.proofs.Decide.{le_or_lt}
use Rattle.base_exact.proofs.Order.{zero<one}
use Rattle.spec_spline.specs.Space.{Space, segments, degree, first_column, column_count}
use Rattle.spec_spline.specs.Conditions.{Entry}
use Rattle.spec_spline.specs.Table.{Table, cell, identity}
use Rattle.spec_spline.proofs.Space.{segment-column}
use Rattle.spec_spline.proofs.Table.{identity_on, identity_off, cell-past}
use Rattle.theorems_weights.proofs.NullSpace.{mixed}
use Rattle.theorems_weights.proofs.Stepped.{Stepped}
use Rattle.theorems_stages.proofs.Rows.{first_row, left_count, lowest, highest, lowest_at_most_highest, Stage, Moves, Single, met_once}
use Rattle.theorems_stages.proofs.RowMoves.{first_spanned, last_spanned, step_moves}
use Rattle.theorems_stages.proofs.Support.{Support, Mixing, support_mixed, support_same, support_ends, support_one}
use Rattle.theorems_stages.proofs.Stages.{met, met_here, At, left-segment, right-segment, stage', next_met, none_met, Compared, before, same, after, compared, spanning}

-- The weights of all rows on ordinate u of segment j.
abbrev pub column : Space → Table → ℕ → ℕ → ℕ → ℚ
column s t j u i = cell t i (first_column s j + u)

-- The form of the table where e counts the conditions met.
pub record Shaped (s : Space) (e : ℕ → ℕ) (t : Table) : Type 0 where
  pub supported : (j u : ℕ) → j < segments s → u ≤ degree s j → Support (column s t j u) (lowest (degree s) e j u) (highest (degree s) e j u)
  pub joined : (j : ℕ) → suc j < segments s → 0 < e j → (i : ℕ) → column s t j (degree s j) i ≡ column s t (suc j) 0 i

-- ---- the identity

first-row-column : (s : Space) (j : ℕ) → first_row (degree s) (met s 0 0) j ≡ first_column s j
unfolding first_row first_column
first-row-column s zero = refl
first-row-column s (suc j) = omega (arith, first-row-column s j, none_met s j)

none_left : (s : Space) (j : ℕ) → left_count (met s 0 0) j ≡ 0
none_left s zero = refl
none_left s (suc j) = none_met s j

identity_lowest : (s : Space) (j u : ℕ) → u ≤ degree s j → first_column s j + u ≡ lowest (degree s) (met s 0 0) j u
unfolding lowest
identity_lowest s j u h = omega (arith, first-row-column s j, none_met s j)

identity-highest : (s : Space) (j u : ℕ) → first_column s j + u ≡ highest (degree s) (met s 0 0) j u
unfolding highest
identity-highest s j u = omega (arith, first-row-column s j, none_left s j)

pub identity_shaped : (s : Space) → Shaped s (met s 0 0) (identity (column_count s))
identity_shaped s = record {
  supported = λ j u h k. support_ends (identity_lowest s j u k) (identity-highest s j u) (unit (first_column s j + u) (segment-column s j u h k));
  joined = λ j h k i. absurd (omega (arith, none_met s j));
}
  where
    unit : (c : ℕ) → c < column_count s → Support (λ i. cell (identity (column_count s)) i c) c c
    unit c h = record {
      positive = λ i a b. subst (λ r. int (pos 0) <ᵠ cell (identity (column_count s)) r c) (let z : c ≡ i = omega arith in z) (rw (identity_on (column_count s) c h) zero<one);
      below = λ i a. identity_off (column_count s) i c (λ z. omega arith);
      above = λ i a. identity_off (column_count s) i c (λ z. omega arith);
    }

-- ---- a single row with weight

-- In a table whose columns sum to one it has weight 1.
pub single_one : (t : Table) (c : ℕ) {r : ℕ} → sum (length t) (λ i. cell t i c) ≡ int (pos 1) → Support (λ i. cell t i c) r r → cell t r c ≡ int (pos 1)
single_one t c e S = support_one (length t) S e (λ i h. cell-past t i c h)

-- so two such columns are equal
single-same : (t : Table) (c d : ℕ) {r : ℕ} → cell t r c ≡ int (pos 1) → cell t r d ≡ int (pos 1) → Support (λ i. cell t i c) r r → Support (λ i. cell t i d) r r → (i : ℕ) → cell t i c ≡ cell t i d
single-same t c d {r} p q C D i = go (compared i r)
  where
    go : Compared i r → cell t i c ≡ cell t i d
    go (before h) = C.below i h ∙ sym (D.below i h)
    go (same z) = subst (λ n. cell t n c ≡ cell t n d) (sym z) (p ∙ sym q)
    go (after h) = C.above i h ∙ sym (D.above i h)

-- A table at which a condition is due: of that form, with columns that sum to one.
pub record Due (s : Space) (join k : ℕ) (t : Table) : Type 0 where
  pub at : At s join k
  pub shape : Shaped s (met s join k) t
  pub sums : (c : ℕ) → c < column_count s → sum (length t) (λ i. cell t i c) ≡ int (pos 1)

-- ---- one step

module _ {s : Space} {join k : ℕ} (A : At s join k) {κ : List Entry} {t t' : Table}
    (C : Shaped s (met s join k) t) (T : Stepped κ (column_count s) t t')
    (M : Mixing (first_spanned (degree s) (met s join k) join k) (last_spanned (degree s) (met s join k) join) T.w)
    (sums : (c : ℕ) → c < column_count s → sum (length t') (λ i. cell t' i c) ≡ int (pos 1)) where
  -- the counts of the conditions met, before and after the step
  abbrev e : ℕ → ℕ
  e = met s join k

  abbrev e' : ℕ → ℕ
  e' = met s join (suc k)

  moves : (j u : ℕ) → u ≤ degree s j
      → Moves (first_spanned (degree s) e join k) (last_spanned (degree s) e join) (lowest (degree s) e j u) (highest (degree s) e j u) (lowest (degree s) e' j u) (highest (degree s) e' j u)
  moves j u b = step_moves (spanning A) e' (next_met s join k) j u b

  spread : first_spanned (degree s) e join k < last_spanned (degree s) e join
  unfolding first_spanned last_spanned
  spread = omega arith

  pub new_supported : (j u : ℕ) → j < segments s → u ≤ degree s j → Support (column s t' j u) (lowest (degree s) e' j u) (highest (degree s) e' j u)
  new_supported j u a b = support_same (λ i. sym (T.cells i (first_column s j + u)))
      (support_mixed _ _ T.w (column s t j u) _ _ _ _ M (C.supported j u a b) (lowest_at_most_highest (degree s) e j u) spread (moves j u b))

  -- equal columns stay equal
  kept-joined : (c d : ℕ) → ((i : ℕ) → cell t i c ≡ cell t i d) → (i : ℕ) → cell t' i c ≡ cell t' i d
  unfolding mixed
  kept-joined c d e i = T.cells i c ∙ ap₂ (λ x y. T.w i *ᵠ x +ᵠ (int (pos 1) -ᵠ T.w (suc i)) *ᵠ y) (e i) (e (suc i)) ∙ sym (T.cells i d)

  -- the first condition at this join makes two columns equal
  new_single : k ≡ 0 → (i : ℕ) → column s t' join (degree s join) i ≡ column s t' (suc join) 0 i
  new_single z i =
      single-same t' _ _ (single_one t' _ (sums _ (segment-column s join (degree s join) (left-segment A) (omega arith))) left)
      (single_one t' _ (sums _ (segment-column s (suc join) 0 (right-segment A) (omega arith))) right) left right i
    where
      rows : Single (degree s) e' join (first_row (degree s) e' join + degree s join)
      rows = met_once (degree s) e' join (subst (λ n. Stage (degree s) e' join (suc n)) z (stage' A))

      left : Support (column s t' join (degree s join)) (first_row (degree s) e' join + degree s join) (first_row (degree s) e' join + degree s join)
      left = support_ends rows.low rows.high (new_supported join (degree s join) (left-segment A) (omega arith))

      right : Support (column s t' (suc join) 0) (first_row (degree s) e' join + degree s join) (first_row (degree s) e' join + degree s join)
      right = support_ends rows.low' rows.high' (new_supported (suc join) 0 (right-segment A) (omega arith))

  new_joined : (j : ℕ) → suc j < segments s → 0 < e' j → (i : ℕ) → column s t' j (degree s j) i ≡ column s t' (suc j) 0 i
  new_joined j a b i = go (ℕ_discrete j join) (le_or_lt k 0)
    where
      old : 0 < e j → column s t' j (degree s j) i ≡ column s t' (suc j) 0 i
      old c = kept-joined (first_column s j + degree s j) (first_column s (suc j) + 0) (C.joined j a c) i

      go : Dec (j ≡ join) → (k ≤ 0) ⊎ (0 < k) → column s t' j (degree s j) i ≡ column s t' (suc j) 0 i
      go (no n) d = old (rw ((next_met s join k).same j n) at b)
      go (yes z) (inl d) = subst (λ n. column s t' n (degree s n) i ≡ column s t' (suc n) 0 i) (sym z) (new_single (omega arith) i)
      go (yes z) (inr d) = old (subst (λ n. 0 < e n) (sym z) (rw (met_here s join k) d))

  pub step_shaped : Shaped s (met s join (suc k)) t'
  step_shaped = record { supported = new_supported; joined = new_joined }
