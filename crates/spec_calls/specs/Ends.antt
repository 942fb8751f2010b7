-- What the calls of § 9, § 10 and § 11 leave of the curve call: the buffers that they share with it hold what it leaves itself, at the
-- rings' positions or at none, whatever the call answers.
use Rattle.std.specs.Prelude.{◌≡◌, List, [], ℕ, ◌≤◌, ℤ, length}
use Rattle.spec_spline.specs.Space.{Space}
use Rattle.spec_spline.specs.Reading.{Wood}
use Rattle.spec_spline.specs.CurveCall.{curve_end}
use Rattle.spec_calls.specs.Indices.{RingsCall, ring_positions, indices_end}
use Rattle.spec_calls.specs.Reach.{reach_end}
use Rattle.spec_calls.specs.Pieces.{piece_end}

-- "The call leaves weights and values as the curve call does" (§ 9), where the indices have room.
abbrev pub IndicesLeaveTheCurve : Type 0
IndicesLeaveTheCurve = (c : RingsCall) → length c.widths ≤ length c.indices
    → let e = curve_end c.space c.coefs (ring_positions c.first_ring (length c.widths)) c.num c.den c.values in
    ((indices_end c).numerators ≡ e.numerators) × (((indices_end c).denominators ≡ e.denominators) × ((indices_end c).values ≡ e.values))

-- "After 14, 16 and 17 the weight buffers are as after an answer" (§ 3): those of a reach call,
abbrev pub ReachLeavesTheCurve : Type 0
ReachLeavesTheCurve = (s : Space) (wood : Wood) (coefs : List ℤ) (width : ℤ) (num den : List ℤ)
    → let e = curve_end s coefs [] num den [] in
    ((reach_end s wood coefs width num den).numerators ≡ e.numerators)
    × ((reach_end s wood coefs width num den).denominators ≡ e.denominators)

-- and those of a piece call.
abbrev pub PiecesLeaveTheCurve : Type 0
PiecesLeaveTheCurve = (s : Space) (wood : Wood) (coefs : List ℤ) (k : ℕ) (num den : List ℤ)
    → let e = curve_end s coefs [] num den [] in
    ((piece_end s wood coefs k num den).numerators ≡ e.numerators) × ((piece_end s wood coefs k num den).denominators ≡ e.denominators)
