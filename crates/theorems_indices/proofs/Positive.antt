-- Positive coefficients are enough, proved: code 14 asks for a width out of range or a value at or below zero, and there is neither.
use mathlib.Core.Path.{◌≡◌, refl, sym, ◌∙◌, ap, ap₂}
use mathlib.Core.Bool.{Bool, true, false, not, ◌&&◌, ◌||◌}
use Prim.Native.Nat.{ℕ, ◌+◌, ◌*◌, ◌<◌, ◌≤◌}
use native.Mathlib.Omega.{arith}
use lib.Dec.{T}
use lib.IntN.{ℤ, pos}
use lib.ListN.{length, get_or}
use lib.Signed.{le_z, ◌<ℤ◌}
use Rattle.base_exact.proofs.Decide.{holds_true}
use Rattle.base_exact.proofs.Integer as Z
use Rattle.base_exact.proofs.Word.{not_le_test}
use Rattle.base_outcome.specs.Outcome.{answer}
use Rattle.base_outcome.specs.Tests.{between, refuse_first}
use Rattle.spec_spline.specs.Reading.{wood_index}
use Rattle.base_outcome.proofs.Search.{first-none}
use Rattle.theorems_promises.specs.PositiveValues.{PositiveCoefficients, least_positive}
use Rattle.theorems_promises.proofs.PositiveValues.{positive_cells}
use Rattle.spec_calls.specs.Indices.{ring_width, width_limit, is_absent, is_refused}
use Rattle.spec_calls.specs.Indices.{RingsCall}
use Rattle.theorems_indices.specs.Rings.{ring_count, value_cell, CurveIsLegal, PositiveCoefficientsAreEnough}
use Rattle.theorems_indices.proofs.Cells.{exact_length}
use Rattle.theorems_indices.proofs.Rings.{positions, legal_rings_end, legal_rings-leave_the_curve}

and-false : (b : Bool) → (b && false) ≡ false
and-false true = refl
and-false false = refl

-- a ring that code 14 does not refuse
not_refused : (width value : ℤ) → T (between (pos 0) (pos width_limit) width) → pos 0 <ℤ value → is_refused width value ≡ false
unfolding is_refused
not_refused width value h k =
    ap₂ (λ b d. not b || (not (is_absent width) && d)) (holds_true (between (pos 0) (pos width_limit) width) h) (not_le_test {a = value} {b = pos 0} k)
    ∙ and-false (not (is_absent width))

module _ (c : RingsCall) (l : CurveIsLegal c) (room : ring_count c ≤ length c.indices) (positive : PositiveCoefficients c.space c.wood c.coefs) where
  value_positive : (i : ℕ) → i < ring_count c → pos 0 <ℤ value_cell c i
  value_positive i h = Z.<-≤_trans (pos 0) least_positive (value_cell c i) (Z.<_in (pos 0) least_positive (omega arith))
      (rw (legal_rings-leave_the_curve c l room).1.1 (positive_cells c.space c.coefs (positions c) (length c.num) (length c.den)
      (length c.values) l c.values c.wood positive i (rw (exact_length c.first_ring (ring_count c)) h)))

pub positive_coefficients_are_enough : PositiveCoefficientsAreEnough
positive_coefficients_are_enough c l room positive widths = legal_rings_end c l room
    ∙ ap (λ o. refuse_first 14 o (answer (ring_count c)))
    (first-none (λ i. is_refused (ring_width c.widths i) (value_cell c i)) (ring_count c)
    (λ i h. not_refused (ring_width c.widths i) (value_cell c i) (widths i h) (value_positive c l room positive i h)))
