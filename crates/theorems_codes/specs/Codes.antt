-- Which numbers each call can give, and with which places, whatever its lists and buffers are; none of them is 0, which in the struct for C
-- stands for an answer. Tucson files have theirs in crate theorems_tucson, specs/Refusals, the reach and piece calls in crate
-- curve_codes.
use Rattle.std.specs.Prelude.{◌≡◌, List, ℕ, ◌-◌, ◌<◌, ◌≤◌, ℤ, length}
use Rattle.base_outcome.specs.Codes as codes
use Rattle.base_outcome.specs.Outcome.{refusal, largest_place, capped}
use Rattle.spec_spline.specs.Space.{Space, segments}
use Rattle.spec_spline.specs.Build.{build_end}
use Rattle.spec_spline.specs.CurveCall.{curve_end}
use Rattle.spec_calls.specs.RecoveryCall.{recovery_end}
use Rattle.spec_calls.specs.Indices.{ring_positions, RingsCall, indices_end}

-- Of the three lists, and of what is worked out from them: 2 at 0, 3 at a breakpoint, 4 at a segment, 5 at a join, 15 at the first
-- segment of a part, 8 at a join.
pub data SpaceRefusal (s : Space) : ℕ → ℕ → Type 0 where
  lengths : SpaceRefusal s codes.lengths 0
  at_breakpoint : (i : ℕ) → i ≤ segments s → SpaceRefusal s codes.breakpoint (capped i)
  at_degree : (i : ℕ) → i < segments s → SpaceRefusal s codes.degree (capped i)
  at_order : (i : ℕ) → i < segments s - 1 → SpaceRefusal s codes.order (capped i)
  at_part : (i : ℕ) → i < segments s → SpaceRefusal s codes.long_part (capped i)
  at_fraction : (i : ℕ) → i < segments s - 1 → SpaceRefusal s codes.tooLarge (capped i)

-- Building: those, and 1 at one of its two buffers.
pub data BuildRefusal (s : Space) : ℕ → ℕ → Type 0 where
  short_buffer : (i : ℕ) → i < 2 → BuildRefusal s codes.short_buffer i
  of_space : {code place : ℕ} → SpaceRefusal s code place → BuildRefusal s code place

-- The curve call: 1 at one of its three buffers, 2 at 1 for too many positions, 6 for the count of coefficients or at one of them, 7
-- at a position.
pub data CurveRefusal (s : Space) (coefs positions : List ℤ) : ℕ → ℕ → Type 0 where
  short_buffer : (i : ℕ) → i < 3 → CurveRefusal s coefs positions codes.short_buffer i
  of_space : {code place : ℕ} → SpaceRefusal s code place → CurveRefusal s coefs positions code place
  many_positions : CurveRefusal s coefs positions codes.lengths 1
  coefficient_count : CurveRefusal s coefs positions codes.coefficient largest_place
  at_coefficient : (i : ℕ) → i < length coefs → CurveRefusal s coefs positions codes.coefficient (capped i)
  at_position : (i : ℕ) → i < length positions → CurveRefusal s coefs positions codes.position (capped i)

-- An index call: those of the curve call at the rings' positions, 1 at 3 for its own buffer, 14 at a ring.
pub data IndicesRefusal (s : Space) (coefs : List ℤ) (first_ring : ℤ) (widths : List ℤ) : ℕ → ℕ → Type 0 where
  of_curve : {code place : ℕ} → CurveRefusal s coefs (ring_positions first_ring (length widths)) code place
      → IndicesRefusal s coefs first_ring widths code place
  short_indices : IndicesRefusal s coefs first_ring widths codes.short_buffer 3
  at_ring : (i : ℕ) → i < length widths → IndicesRefusal s coefs first_ring widths codes.ring (capped i)

-- The call for coefficients: 1 at one of its four buffers, 18 for the count of ordinates or at one of them, 19 and 20 at a join.
pub data RecoveryRefusal (s : Space) (ordinates : List ℤ) : ℕ → ℕ → Type 0 where
  short_weights : (i : ℕ) → i < 2 → RecoveryRefusal s ordinates codes.short_buffer i
  short_answers : (i : ℕ) → 3 ≤ i → i ≤ 4 → RecoveryRefusal s ordinates codes.short_buffer i
  of_space : {code place : ℕ} → SpaceRefusal s code place → RecoveryRefusal s ordinates code place
  ordinate_count : RecoveryRefusal s ordinates codes.ordinate largest_place
  at_ordinate : (i : ℕ) → i < length ordinates → RecoveryRefusal s ordinates codes.ordinate (capped i)
  unmet : (i : ℕ) → i < segments s - 1 → RecoveryRefusal s ordinates codes.no_coefficients (capped i)
  undone_too_large : (i : ℕ) → i < segments s - 1 → RecoveryRefusal s ordinates codes.too_large_to_undo (capped i)

-- ---- the calls

abbrev pub BuildNumbers : Type 0
BuildNumbers = (s : Space) (num den : List ℤ) (code place : ℕ) → (build_end s num den).answers ≡ refusal code place
    → BuildRefusal s code place × (0 < code)

abbrev pub CurveNumbers : Type 0
CurveNumbers = (s : Space) (coefs positions num den values : List ℤ) (code place : ℕ)
    → (curve_end s coefs positions num den values).answers ≡ refusal code place
    → CurveRefusal s coefs positions code place × (0 < code)

abbrev pub IndicesNumbers : Type 0
IndicesNumbers = (c : RingsCall) (code place : ℕ) → (indices_end c).answers ≡ refusal code place
    → IndicesRefusal c.space c.coefs c.first_ring c.widths code place × (0 < code)

abbrev pub RecoveryNumbers : Type 0
RecoveryNumbers = (s : Space) (ordinates num den coef_num coef_den : List ℤ) (code place : ℕ)
    → (recovery_end s ordinates num den coef_num coef_den).answers ≡ refusal code place
    → RecoveryRefusal s ordinates code place × (0 < code)
