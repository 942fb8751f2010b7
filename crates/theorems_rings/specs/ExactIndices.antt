-- What an index owes to rounding: the index by the exact curve lies between two numbers that follow from the value, the degree and s
-- alone, and the index given differs from it by at most one where the least coefficient with weight on the ring's segment is not too
-- small for the width. And number 14 comes only where the curve call is legal.
use Rattle.std.specs.Prelude.{◌≡◌, ◌≢◌, ℕ, ◌<◌, ◌≤◌, ℤ, pos, nat_abs, ◌-ℤ◌, ◌*ℤ◌, length, ◌≤ℤ◌, ◌<ℤ◌}
use Rattle.base_exact.specs.Rational.{int, ◌+ᵠ◌, ◌-ᵠ◌, ◌/ᵠ◌}
use Rattle.base_exact.specs.Order.{◌<ᵠ◌}
use Rattle.base_exact.specs.Floor.{floor}
use Rattle.base_outcome.specs.Codes as codes
use Rattle.base_outcome.specs.Outcome.{answer, refusal}
use Rattle.spec_spline.specs.Reading.{segment_at}
use Rattle.spec_spline.specs.ExactCurve.{least_on}
use Rattle.spec_calls.specs.Indices.{ring_width, RingsCall, indices_end}
use Rattle.theorems_indices.specs.Rings.{ring_count, position_of, value_cell, index_cell, CurveIsLegal, exact_under, error_under, scaled_width}

-- 256,000 times the width over the exact curve, rounded down: the index with the exact curve for the value.
abbrev pub exact_index : (c : RingsCall) → CurveIsLegal c → ℕ → ℤ
exact_index c l i = floor (scaled_width c i /ᵠ exact_under c l i)

-- With (s + p)/2 added to the value given, and taken from it.
abbrev pub lower_index : (c : RingsCall) → CurveIsLegal c → ℕ → ℤ
lower_index c l i = floor (scaled_width c i /ᵠ (int (value_cell c i) +ᵠ error_under c l i))

abbrev pub upper_index : (c : RingsCall) → CurveIsLegal c → ℕ → ℤ
upper_index c l i = floor (scaled_width c i /ᵠ (int (value_cell c i) -ᵠ error_under c l i))

-- ---- the bounds on the exact index

abbrev pub ExactIndexIsAtLeast : Type 0
ExactIndexIsAtLeast = (c : RingsCall) (l : CurveIsLegal c) → ring_count c ≤ length c.indices → (i : ℕ) → i < ring_count c
    → pos 0 ≤ℤ ring_width c.widths i → int (pos 0) <ᵠ exact_under c l i → lower_index c l i ≤ℤ exact_index c l i

abbrev pub ExactIndexIsAtMost : Type 0
ExactIndexIsAtMost = (c : RingsCall) (l : CurveIsLegal c) → ring_count c ≤ length c.indices → (i : ℕ) → i < ring_count c
    → pos 0 ≤ℤ ring_width c.widths i → error_under c l i <ᵠ int (value_cell c i) → exact_index c l i ≤ℤ upper_index c l i

-- ---- at most one away

-- The least coefficient with weight on the ring's segment.
abbrev pub least_under : (c : RingsCall) → CurveIsLegal c → ℕ → ℤ
least_under c l i = least_on c.space l.accepted.table c.wood c.coefs (segment_at c.space (position_of c i))

-- 125·width < 8·m², with m that coefficient.
abbrev pub LargeEnough : ℤ → ℤ → Type 0
LargeEnough width m = (pos 125 *ℤ width) <ℤ (pos 8 *ℤ (m *ℤ m))

abbrev pub IndexIsWithinOne : Type 0
IndexIsWithinOne = (c : RingsCall) (l : CurveIsLegal c) (n : ℕ) → (indices_end c).answers ≡ answer n → (i : ℕ) → i < ring_count c
    → ring_width c.widths i ≢ pos 0 → pos 0 <ℤ least_under c l i → LargeEnough (ring_width c.widths i) (least_under c l i)
    → nat_abs (index_cell c i -ℤ exact_index c l i) ≤ 1

-- ---- number 14

abbrev pub FourteenIsLegal : Type 0
FourteenIsLegal = (c : RingsCall) (place : ℕ) → (indices_end c).answers ≡ refusal codes.ring place
    → CurveIsLegal c × (ring_count c ≤ length c.indices)
