-- The jumps of a step of order 0 or 1: the condition's columns have a single weight 1 each, so every product and partial sum
-- is an integer, of at most the two sides' conditions together: 5 times the length of the two segments at the join.
use mathlib.Core.Path.{◌≡◌, refl, sym, ◌∙◌, subst}
use mathlib.Core.Logic.{◌≢◌, ◌⊎◌, inl, inr}
use mathlib.Core.List.{List, [], ◌∷◌}
use Prim.Native.Nat.{ℕ, zero, suc, ◌+◌, ◌-◌, ◌*◌, ◌<◌, ◌≤◌}
use native.Mathlib.Omega.{arith}
use native.Mathlib.Decide.{ℕ_discrete}
use native.Mathlib.Nat.{mul-le-mul_right}
use lib.IntN.{pos}
use lib.ListN.{length}
use Rattle.base_exact.specs.Rational.{int}
use Rattle.base_exact.specs.Sum.{sum}
use Rattle.base_exact.proofs.Decide.{le_or_lt}
use Rattle.spec_spline.specs.Space.{Space, segments, degree, width, first_column}
use Rattle.spec_spline.specs.Conditions.{Entry, left_entry, right_entry, undivided, divided, common_divisor, conditions}
use Rattle.spec_spline.specs.Table.{Row, Table, row, cell}
use Rattle.spec_spline.proofs.Space.{segment-column}
use Rattle.theorems_acceptance.specs.Acceptance.{counted_limit}
use Rattle.theorems_stages.proofs.Rows.{lowest, highest}
use Rattle.theorems_stages.proofs.RowMoves.{first_spanned, start_low, start-high_low, left_low, left-high, right_low, right-high, right-last}
use Rattle.theorems_stages.proofs.Support.{Support, support_ends}
use Rattle.theorems_stages.proofs.Stages.{met, At, left-segment, right-segment, room, room', spanning}
use Rattle.theorems_stages.proofs.Invariant.{single_one}
use Rattle.theorems_stages.proofs.Reached.{Reached}
use Rattle.theorems_acceptance.proofs.Loads.{Load, empty, skip, take, conditions-zero, conditions_one, left-zero, right_zero, left_one, right_one}

-- Column c has weight 1 in row r and no other.
pub record Unit (t : Table) (c r : ℕ) : Type 0 where
  pub one : cell t r c ≡ int (pos 1)
  pub none : (i : ℕ) → i ≢ r → cell t i c ≡ int (pos 0)

pub unit_of : (t : Table) (c r : ℕ) → Support (λ i. cell t i c) r r → sum (length t) (λ i. cell t i c) ≡ int (pos 1) → Unit t c r
unit_of t c r S e = record { one = single_one t c e S; none = λ i n. off i n (le_or_lt r i) }
  where
    off : (i : ℕ) → i ≢ r → (r ≤ i) ⊎ (i < r) → cell t i c ≡ int (pos 0)
    off i n (inl a) = S.above i (omega arith)
    off i n (inr a) = S.below i a

-- The size of a row's jump: the conditions at its weights 1, which are within the limit together.
pub record RowLoad (r : Row) (κ : List Entry) : Type 0 where
  pub size : ℕ
  pub load : Load r κ size
  pub within : size ≤ counted_limit

module _ {s : Space} {join k : ℕ} {t : Table} (A : At s join k) (R : Reached s join k t) where
  f : ℕ
  f = first_spanned (degree s) (met s join k) join k

  pub unit : (j u : ℕ) (a : j < segments s) (b : u ≤ degree s j) (r : ℕ) → lowest (degree s) (met s join k) j u ≡ r → highest (degree s) (met s join k) j u ≡ r → Unit t (first_column s j + u) r
  unit j u a b r p q = unit_of t (first_column s j + u) r (support_ends p q (R.shape.supported j u a b))
      (R.basis.column_sums _ (segment-column s j u a b))

  left-start : k ≤ 1 → Unit t (first_column s join + (degree s join - k + 0)) f
  unfolding f
  left-start w = unit join (degree s join - k + 0) (left-segment A) (omega (arith, room A)) f
      (start_low (spanning A)) (start-high_low (spanning A) w)

  left_end : k ≡ 1 → Unit t (first_column s join + (degree s join - k + 1)) (suc f)
  unfolding f
  left_end e = unit join (degree s join - k + 1) (left-segment A) (omega (arith, room A)) (suc f)
      (left_low (spanning A) 1 (omega arith) (omega arith))
      (left-high (spanning A) 1 (omega arith) (omega arith) ∙ omega arith)

  right-start : k ≡ 1 → Unit t (first_column s (suc join) + 0) (suc f)
  unfolding f
  right-start e = unit (suc join) 0 (right-segment A) (omega arith) (suc f)
      (right_low (spanning A) 0 (omega arith) ∙ omega arith)
      (right-high (spanning A) 0 (omega arith) ∙ omega arith)

  right_end : k ≤ 1 → Unit t (first_column s (suc join) + k) (suc (f + k))
  unfolding f
  right_end w = unit (suc join) k (right-segment A) (omega (arith, room' A)) (suc (f + k))
      (right_low (spanning A) k (omega arith) ∙ omega arith)
      (right-last (spanning A))

-- The two sides' conditions of order 1 together.
sides : {s : Space} {join k : ℕ} → At s join k → degree s join * width s (suc join) + degree s (suc join) * width s join ≤ counted_limit
sides {s} {join} A = let M = A.limits in
    omega (
      arith,
      mul-le-mul_right (width s (suc join)) (M.low_degree join (left-segment A)),
      mul-le-mul_right (width s join)
          (M.low_degree (suc join) (right-segment A)),
      M.neighbours join A.join-below (omega (arith, A.order_below)),
    )

-- an entry of a column that has one row alone
unit_at : {t : Table} {i c n : ℕ} → i ≡ n → Unit t c n → cell t i c ≡ int (pos 1)
unit_at {t} {c = c} e U = subst (λ x. cell t x c ≡ int (pos 1)) (sym e) U.one

load-zero : {s : Space} {join : ℕ} {t : Table} → At s join 0 → Reached s join 0 t → (i : ℕ) → RowLoad (row t i) (conditions s join 0)
load-zero {s} {join} {t} A R i = subst (RowLoad (row t i)) (sym (conditions-zero s join)) (go (ℕ_discrete i r) (ℕ_discrete i (suc (r + 0))))
  where
    g : ℕ
    g = common_divisor (undivided s join 0)

    r : ℕ
    r = f A R

    X : Unit t (first_column s join + (degree s join - 0 + 0)) r
    X = left-start A R (omega arith)

    Y : Unit t (first_column s (suc join) + 0) (suc (r + 0))
    Y = right_end A R (omega arith)

    go : Dec (i ≡ r) → Dec (i ≡ suc (r + 0)) → RowLoad (row t i) (divided g (left_entry s join 0 0) ∷ divided g (right_entry s join 0 0) ∷ [])
    go (yes a) b = record { size = _; load = take (unit_at a X) (skip (Y.none i (λ z. omega arith)) empty); within = omega (arith, left-zero g s join) }
    go (no a) (yes b) = record { size = _; load = skip (X.none i a) (take (unit_at b Y) empty); within = omega (arith, right_zero g s join) }
    go (no a) (no b) = record { size = _; load = skip (X.none i a) (skip (Y.none i b) empty); within = omega arith }

load_one : {s : Space} {join : ℕ} {t : Table} → At s join 1 → Reached s join 1 t → (i : ℕ) → RowLoad (row t i) (conditions s join 1)
load_one {s} {join} {t} A R i = subst (RowLoad (row t i)) (sym (conditions_one s join)) (go (ℕ_discrete i r) (ℕ_discrete i (suc r)) (ℕ_discrete i (suc (r + 1))))
  where
    g : ℕ
    g = common_divisor (undivided s join 1)

    r : ℕ
    r = f A R

    X : Unit t (first_column s join + (degree s join - 1 + 0)) r
    X = left-start A R (omega arith)

    X' : Unit t (first_column s join + (degree s join - 1 + 1)) (suc r)
    X' = left_end A R refl

    Y : Unit t (first_column s (suc join) + 0) (suc r)
    Y = right-start A R refl

    Y' : Unit t (first_column s (suc join) + 1) (suc (r + 1))
    Y' = right_end A R (omega arith)

    go : Dec (i ≡ r) → Dec (i ≡ suc r) → Dec (i ≡ suc (r + 1))
        → RowLoad (row t i) (divided g (left_entry s join 1 0) ∷ divided g (left_entry s join 1 1) ∷ divided g (right_entry s join 1 0) ∷ divided g (right_entry s join 1 1) ∷ [])
    go (yes a) b c = record {
      size = _;
      load = take (unit_at a X) (skip (X'.none i (λ z. omega arith)) (skip (Y.none i (λ z. omega arith)) (skip (Y'.none i (λ z. omega arith)) empty)));
      within = omega (arith, left_one g s join 0 (omega arith), sides A);
    }
    go (no a) (yes b) c = record {
      size = _;
      load = skip (X.none i a) (take (unit_at b X') (take (unit_at b Y) (skip (Y'.none i (λ z. omega arith)) empty)));
      within = omega (arith, left_one g s join 1 (omega arith), right_one g s join 0 (omega arith), sides A);
    }
    go (no a) (no b) (yes c) = record {
      size = _;
      load = skip (X.none i a) (skip (X'.none i b) (skip (Y.none i b) (take (unit_at c Y') empty)));
      within = omega (arith, right_one g s join 1 (omega arith), sides A);
    }
    go (no a) (no b) (no c) = record { size = _; load = skip (X.none i a) (skip (X'.none i b) (skip (Y.none i b) (skip (Y'.none i c) empty))); within = omega arith }

pub row-load : {s : Space} {join k : ℕ} {t : Table} → At s join k → Reached s join k t → k ≤ 1 → (i : ℕ) → RowLoad (row t i) (conditions s join k)
row-load {s} {join} {k} {t} = go k
  where
    go : (k : ℕ) → At s join k → Reached s join k t → k ≤ 1 → (i : ℕ) → RowLoad (row t i) (conditions s join k)
    go zero A R w i = load-zero A R i
    go (suc zero) A R w i = load_one A R i
    go (suc (suc k)) A R w i = absurd (omega arith)
