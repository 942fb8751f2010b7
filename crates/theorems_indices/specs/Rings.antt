-- What is proved of ring indices (§ 9). The index of a present ring is a floored quotient by the value cell after the call, that
-- value is as close to the exact curve as § 7 says, and this bounds the index itself; what absent rings, refusals and later cells
-- have is said beside it.
use Rattle.std.specs.Prelude.{◌≡◌, ◌≢◌, Bool, List, ℕ, ◌+◌, ◌*◌, ◌<◌, ◌≤◌, T, ℤ, pos, negsuc, nat_abs, ◌+ℤ◌, ◌*ℤ◌, length, get_or, ◌<ℤ◌}
use Rattle.base_exact.specs.Rational.{ℚ, int, ◌+ᵠ◌, ◌-ᵠ◌, ◌/ᵠ◌}
use Rattle.base_exact.specs.Order.{◌≤ᵠ◌, ◌<ᵠ◌}
use Rattle.base_exact.specs.Floor.{floor_div}
use Rattle.base_outcome.specs.Codes as codes
use Rattle.base_outcome.specs.Outcome.{answer, refusal}
use Rattle.base_outcome.specs.Search.{first}
use Rattle.spec_spline.specs.Space.{Space}
use Rattle.base_outcome.specs.Tests.{between, refuse_first}
use Rattle.spec_spline.specs.Reading.{Wood, wood_index, fine}
use Rattle.spec_spline.specs.CurveCall.{curve_end}
use Rattle.spec_spline.specs.ExactCurve.{exact_curve, Legal}
use Rattle.theorems_values.specs.ValueLimits.{closeness, Close}
use Rattle.theorems_promises.specs.PositiveValues.{PositiveCoefficients}
use Rattle.spec_calls.specs.Indices.{ring_positions, ring_width, width_limit, is_refused, index_scale, RingsCall, IndicesEnd, indices_end}

-- The rings' count.
abbrev pub ring_count : RingsCall → ℕ
ring_count c = length c.widths

-- "Ring r is read at position 256·r" (§ 9).
abbrev pub position_of : RingsCall → ℕ → ℤ
position_of c i = fine (c.first_ring +ℤ pos i)

-- The named part's value cell of ring i after the call.
abbrev pub value_cell : RingsCall → ℕ → ℤ
value_cell c i = get_or (indices_end c).values (2 * i + wood_index c.wood) (pos 0)

-- The index cell of ring i after the call.
abbrev pub index_cell : RingsCall → ℕ → ℤ
index_cell c i = get_or (indices_end c).indices i (pos 0)

-- The curve call at the rings' positions is within the specification's limits.
abbrev pub CurveIsLegal : RingsCall → Type 0
CurveIsLegal c = Legal c.space c.coefs (ring_positions c.first_ring (ring_count c)) (length c.num) (length c.den)
    (length c.values)

-- ---- which calls answer

-- Where the curve call is legal and the indices have room, code 14 or the rings' count: "then 14, one pass over all rings before
-- the first index is written" (§ 9).
abbrev pub LegalRingsEnd : Type 0
LegalRingsEnd = (c : RingsCall) → CurveIsLegal c → ring_count c ≤ length c.indices
    → (indices_end c).answers ≡ refuse_first codes.ring (first (ring_count c) (λ i. is_refused (ring_width c.widths i) (value_cell c i)))
    (answer (ring_count c))

-- All buffers but the indices are then as after the curve call's answer, also after 14: "after 14 the values too" (§ 3).
abbrev pub LegalRingsLeaveTheCurve : Type 0
LegalRingsLeaveTheCurve = (c : RingsCall) → CurveIsLegal c → ring_count c ≤ length c.indices
    → let e = curve_end c.space c.coefs (ring_positions c.first_ring (ring_count c)) c.num c.den c.values in
    ((indices_end c).numerators ≡ e.numerators) × (((indices_end c).denominators ≡ e.denominators) × ((indices_end c).values ≡ e.values))

-- Only such calls answer, and each "answers with the count of rings" (§ 9).
abbrev pub AnsweredRingsAreLegal : Type 0
AnsweredRingsAreLegal = (c : RingsCall) (n : ℕ) → (indices_end c).answers ≡ answer n → CurveIsLegal c
    × ((ring_count c ≤ length c.indices) × (n ≡ ring_count c))

-- Positive coefficients are enough: where all coefficients of the named part are above zero and all widths are from 0 to 99,999,
-- such a call answers.
abbrev pub PositiveCoefficientsAreEnough : Type 0
PositiveCoefficientsAreEnough = (c : RingsCall) → CurveIsLegal c → ring_count c ≤ length c.indices
    → PositiveCoefficients c.space c.wood c.coefs
    → ((i : ℕ) → i < ring_count c → T (between (pos 0) (pos width_limit) (ring_width c.widths i)))
    → (indices_end c).answers ≡ answer (ring_count c)

-- Code 9 never comes, whatever the call is given.
abbrev pub RingsNeverGiveNine : Type 0
RingsNeverGiveNine = (c : RingsCall) (place : ℕ) → (indices_end c).answers ≡ refusal codes.jumps place → ⊥

-- "No refusal touches indices." (§ 3)
abbrev pub RefusalsKeepTheIndices : Type 0
RefusalsKeepTheIndices = (c : RingsCall) (code place : ℕ) → (indices_end c).answers ≡ refusal code place → (indices_end c).indices ≡ c.indices

-- It "keeps index cells past it" (§ 9).
abbrev pub IndicesPastAreKept : Type 0
IndicesPastAreKept = (c : RingsCall) (k : ℕ) → ring_count c ≤ k → get_or (indices_end c).indices k (pos 0) ≡ get_or c.indices k (pos 0)

-- ---- the indices of an answered call

-- The index of a present ring: "floor(256,000·width/value)" (§ 9), of a value above zero.
abbrev pub PresentRingsAreDivided : Type 0
PresentRingsAreDivided = (c : RingsCall) (n : ℕ) → (indices_end c).answers ≡ answer n → (i : ℕ) → i < ring_count c
    → ring_width c.widths i ≢ pos 0
    → (pos 0 <ℤ value_cell c i) × (index_cell c i ≡ floor_div (index_scale *ℤ ring_width c.widths i) (nat_abs (value_cell c i)))

-- "an absent ring, width 0, has -1 whatever its value" (§ 9).
abbrev pub AbsentRingsHaveMinusOne : Type 0
AbsentRingsHaveMinusOne = (c : RingsCall) (n : ℕ) → (indices_end c).answers ≡ answer n → (i : ℕ) → i < ring_count c
    → ring_width c.widths i ≡ pos 0 → index_cell c i ≡ negsuc 0

-- All that § 7 says of a value holds for the value under ring i.
abbrev pub ValuesUnderRingsAreClose : Type 0
ValuesUnderRingsAreClose = (c : RingsCall) (l : CurveIsLegal c) → ring_count c ≤ length c.indices → (i : ℕ) → i < ring_count c
    → Close c.space l.accepted.table c.wood c.coefs (position_of c i) (value_cell c i)

-- ---- the bounds on an index

-- The exact curve under ring i.
abbrev pub exact_under : (c : RingsCall) → CurveIsLegal c → ℕ → ℚ
exact_under c l i = exact_curve c.space l.accepted.table c.wood c.coefs (position_of c i)

-- Its error, (s + p)/2.
abbrev pub error_under : (c : RingsCall) → CurveIsLegal c → ℕ → ℚ
error_under c l i = closeness c.space l.accepted.table (position_of c i)

-- 256,000 times the width.
abbrev pub scaled_width : RingsCall → ℕ → ℚ
scaled_width c i = int (index_scale *ℤ ring_width c.widths i)

-- 256,000·width/(exact + e) - 1 < index.
abbrev pub IndexIsAbove : Type 0
IndexIsAbove = (c : RingsCall) (l : CurveIsLegal c) (n : ℕ) → (indices_end c).answers ≡ answer n → (i : ℕ) → i < ring_count c
    → ring_width c.widths i ≢ pos 0
    → scaled_width c i /ᵠ (exact_under c l i +ᵠ error_under c l i) -ᵠ int (pos 1) <ᵠ int (index_cell c i)

-- index <= 256,000·width/(exact - e), where the exact curve is above its error.
abbrev pub IndexIsAtMost : Type 0
IndexIsAtMost = (c : RingsCall) (l : CurveIsLegal c) (n : ℕ) → (indices_end c).answers ≡ answer n → (i : ℕ) → i < ring_count c
    → ring_width c.widths i ≢ pos 0
    → error_under c l i <ᵠ exact_under c l i → int (index_cell c i) ≤ᵠ scaled_width c i /ᵠ (exact_under c l i -ᵠ error_under c l i)
