-- The positions of the span by their index: position i lies i 256ths past the first breakpoint, and each position of the span
-- is one of them.
use mathlib.Core.Path.{◌≡◌}
use Prim.Native.Nat.{ℕ, ◌<◌}
use native.Mathlib.Omega.{arith}
use lib.IntN.{ℤ, pos, ◌-ℤ◌, nat_abs}
use lib.Signed.{◌<ℤ◌, ◌≤ℤ◌, le_z}
use Rattle.base_exact.proofs.Decide.{and-true, holds_true}
use Rattle.base_exact.proofs.Integer as Z
use Rattle.base_exact.proofs.Word.{le_z_true}
use Rattle.spec_spline.specs.Space.{Space, segments, break}
use Rattle.spec_spline.specs.Reading.{fine}
use Rattle.spec_spline.proofs.Legal.{Checked}
use Rattle.theorems_values.proofs.Positions.{breakpoint_in_span}
use Rattle.curve_reach_steps.proofs.Distances.{distance, past}
use Rattle.spec_calls.specs.Positions.{position_count, position}

module _ (s : Space) where
  pub position-after-start : (i : ℕ) → fine (break s 0) ≤ℤ position s i
  position-after-start i = Z.≤_in _ _ (omega (arith, Z.bal_+ (fine (break s 0)) (pos i)))

  pub position_rises : (i j : ℕ) → i < j → position s i <ℤ position s j
  position_rises i j h = Z.<_in _ _ (omega (arith, Z.bal_+ (fine (break s 0)) (pos i), Z.bal_+ (fine (break s 0)) (pos j)))

  -- The index of a position.
  abbrev pub index_of : ℤ → ℕ
  index_of y = nat_abs (y -ℤ fine (break s 0))

  pub position_of_index : (y : ℤ) → fine (break s 0) ≤ℤ y → position s (index_of y) ≡ y
  position_of_index y h = past (fine (break s 0)) y h

  -- an earlier position has a lower index
  pub index_below : (y : ℤ) (i : ℕ) → fine (break s 0) ≤ℤ y → y <ℤ position s i → index_of y < i
  index_below y i h k = omega (arith, distance (fine (break s 0)) y h, Z.<_out _ _ k, Z.bal_+ (fine (break s 0)) (pos i))

  module _ (c : Checked s) where
    span_rises : fine (break s 0) ≤ℤ fine (break s (segments s))
    span_rises =
        le_z_true _ _ (and-true (le_z (fine (break s 0)) (fine (break s (segments s)))) _
        (holds_true _ (breakpoint_in_span s c (segments s) (omega arith)))).0

    pub position-before_end : (i : ℕ) → i < position_count s → position s i ≤ℤ fine (break s (segments s))
    position-before_end i h = Z.≤_in _ _ (omega (arith, distance _ _ span_rises, Z.bal_+ (fine (break s 0)) (pos i)))

    pub index_in_span : (y : ℤ) → fine (break s 0) ≤ℤ y → y ≤ℤ fine (break s (segments s)) → index_of y < position_count s
    index_in_span y h k = omega (arith, distance (fine (break s 0)) y h, distance _ _ span_rises, Z.≤_out _ _ k)
