-- The partial sums of a step's jumps, times the conditions' common divisor: the difference of two finite differences of the
-- column sums so far. They are zero up to the first row with a jump and past the last one.
use mathlib.Core.Path.{◌≡◌, refl, sym, ◌∙◌, ap, ap₂}
use mathlib.Core.List.{[], ◌∷◌, List}
use Prim.Native.Nat.{ℕ, suc, ◌+◌, ◌-◌, ◌<◌, ◌≤◌}
use native.Mathlib.Omega.{arith}
use lib.IntN.{pos}
use lib.ListN.{length}
use Rattle.base_exact.specs.Rational.{ℚ, ◌*ᵠ◌, -ᵠ◌, ◌-ᵠ◌, int}
use Rattle.base_exact.specs.Order.{◌<ᵠ◌}
use Rattle.base_exact.specs.Sum.{sum}
use Rattle.base_exact.proofs.Ring.{ring}
use Rattle.base_exact.proofs.Rational.{ℚ-ring, readsℚ, one-mul, mul-zero}
use Rattle.base_exact.proofs.Order.{pos_of_nat}
use Rattle.base_exact.proofs.Sum.{sum_ext}
use Rattle.spec_spline.specs.Space.{Space, segments, degree, width, first_column}
use Rattle.spec_spline.specs.Conditions.{conditions, Entry}
use Rattle.spec_spline.specs.Table.{Table, cell}
use Rattle.spec_spline.proofs.Table.{cell-past}
use Rattle.spec_spline.proofs.Conditions.{scale_pos}
use Rattle.spec_spline.proofs.Space.{segment-column}
use Rattle.spec_spline.proofs.Legal.{Legal}
use Rattle.theorems_weights.proofs.Functional.{applied_ext, applied-sum}
use Rattle.theorems_weights.proofs.Stepped.{values}
use Rattle.theorems_weights.proofs.Difference.{difference, difference_ext, difference-none}
use Rattle.theorems_weights.proofs.Condition.{divisor, divisor_pos, left_scale, right_scale, applied-conditions, conditions-constant}
use Rattle.theorems_stages.proofs.Rows.{lowest, highest, lowest_at_most_highest}
use Rattle.theorems_stages.proofs.RowMoves.{first_spanned, last_spanned, left-within, right-within}
use Rattle.theorems_stages.proofs.Stages.{met, At, left-segment, right-segment, room, room', spanning}
use Rattle.theorems_stages.proofs.Invariant.{column, Due}
use Rattle.theorems_stages.proofs.Cumulative.{Weighed, sum-none, sum_all, sum_some, sum-rest}

-- The first n weights of a column, summed.
unfoldable pub summed : Table → ℕ → ℕ → ℚ
summed t n c = sum n (λ i. cell t i c)

-- The column sums so far on the ordinates of the condition: on the left of the join, and on its right.
unfoldable pub on_left : Space → ℕ → ℕ → Table → ℕ → ℕ → ℚ
on_left s join k t n u = summed t n (first_column s join + (degree s join - k + u))

unfoldable pub on_right : Space → ℕ → Table → ℕ → ℕ → ℚ
on_right s join t n u = summed t n (first_column s (suc join) + u)

-- What the partial sum of n jumps is, times the common divisor.
unfoldable pub jump_sum : Space → ℕ → ℕ → Table → ℕ → ℚ
jump_sum s join k t n = int (pos (left_scale s join k)) *ᵠ difference k (on_left s join k t n) -ᵠ int (pos (right_scale s join k)) *ᵠ difference k (on_right s join t n)

pub partial_is : (s : Space) (join k : ℕ) (t : Table) (n : ℕ) → int (pos (divisor s join k)) *ᵠ sum n (values (conditions s join k) t) ≡ jump_sum s join k t n
unfolding jump_sum on_left on_right summed
partial_is s join k t n = ap (λ v. int (pos (divisor s join k)) *ᵠ v)
    (sum_ext n (λ i h. sym (one-mul (values κ t i))) ∙ sym (applied-sum κ n (λ i. int (pos 1)) (cell t)) ∙ applied_ext κ (λ c. sum_ext n (λ i h. one-mul (cell t i c))))
    ∙ applied-conditions s join k (λ c. sum n (λ i. cell t i c))
  where
    κ : List Entry
    κ = conditions s join k

-- The two sides of a condition, and its divisor, are positive.
module _ {s : Space} {join k : ℕ} (A : At s join k) where
  abbrev L : Legal s
  L = A.limits.legal

  pub divisor_positive : int (pos 0) <ᵠ int (pos (divisor s join k))
  divisor_positive = pos_of_nat _ (divisor_pos s join k (omega (arith, room A)) (L.positive_width (suc join) (right-segment A)))

  pub left_positive : int (pos 0) <ᵠ int (pos (left_scale s join k))
  unfolding left_scale
  left_positive = pos_of_nat _ (scale_pos (degree s join) k (width s (suc join)) (omega (arith, room A)) (L.positive_width (suc join) (right-segment A)))

  pub right_positive : int (pos 0) <ᵠ int (pos (right_scale s join k))
  unfolding right_scale
  right_positive = pos_of_nat _ (scale_pos (degree s (suc join)) k (width s join) (omega (arith, room' A)) (L.positive_width join (left-segment A)))

-- A table at which the condition is due.
module _ {s : Space} {join k : ℕ} {t : Table} (D : Due s join k t) where
  -- the counts of the conditions met
  abbrev e : ℕ → ℕ
  e = met s join k

  -- the sums of a column that has rows from low to high
  module _ (j u : ℕ) (a : j < segments s) (b : u ≤ degree s j) (n : ℕ) where
    weighed : Weighed (length t) (column s t j u) (lowest (degree s) e j u) (highest (degree s) e j u)
    weighed = record { support = D.shape.supported j u a b; one = D.sums _ (segment-column s j u a b); past = λ i d. cell-past t i _ d }

    some : lowest (degree s) e j u ≤ highest (degree s) e j u
    some = lowest_at_most_highest (degree s) e j u

    pub none_yet : n ≤ lowest (degree s) e j u → summed t n (first_column s j + u) ≡ int (pos 0)
    unfolding summed
    none_yet c = sum-none weighed n c

    pub all_done : highest (degree s) e j u < n → summed t n (first_column s j + u) ≡ int (pos 1)
    unfolding summed
    all_done c = sum_all weighed n c

    pub some_done : lowest (degree s) e j u < n → int (pos 0) <ᵠ summed t n (first_column s j + u)
    unfolding summed
    some_done c = sum_some weighed n some c

    pub some_left : n ≤ highest (degree s) e j u → int (pos 0) <ᵠ int (pos 1) -ᵠ summed t n (first_column s j + u)
    unfolding summed
    some_left c = sum-rest weighed n some c

  pub sums_before : (n : ℕ) → n ≤ first_spanned (degree s) e join k → jump_sum s join k t n ≡ int (pos 0)
  unfolding jump_sum on_left on_right
  sums_before n b = ap₂ (λ x y. int (pos (left_scale s join k)) *ᵠ x -ᵠ int (pos (right_scale s join k)) *ᵠ y)
      (difference-none k (λ u a. none_yet join (degree s join - k + u) (left-segment D.at) (omega (arith, room D.at)) n (omega (arith, left-within (spanning D.at) u a))))
      (difference-none k (λ u a. none_yet (suc join) u (right-segment D.at) (omega (arith, room' D.at)) n (omega (arith, right-within (spanning D.at) u a))))
      ∙ ring ℚ-ring (int (pos (left_scale s join k)) ∷ int (pos (right_scale s join k)) ∷ []) (search readsℚ depth 20) (search readsℚ depth 20) refl

  pub sums_after : (n : ℕ) → last_spanned (degree s) e join < n → jump_sum s join k t n ≡ int (pos 0)
  unfolding jump_sum on_left on_right
  sums_after n b = ap₂ (λ x y. int (pos (left_scale s join k)) *ᵠ x -ᵠ int (pos (right_scale s join k)) *ᵠ y)
      (difference_ext k (λ u a. all_done join (degree s join - k + u) (left-segment D.at) (omega (arith, room D.at)) n (omega (arith, left-within (spanning D.at) u a))))
      (difference_ext k (λ u a. all_done (suc join) u (right-segment D.at) (omega (arith, room' D.at)) n (omega (arith, right-within (spanning D.at) u a))))
      ∙ sym (applied-conditions s join k (λ c. int (pos 1)))
      ∙ ap (λ v. int (pos (divisor s join k)) *ᵠ v) (conditions-constant s join k (omega (arith, room D.at)) (D.at.limits.legal.positive_width (suc join) (right-segment D.at)))
      ∙ mul-zero _
