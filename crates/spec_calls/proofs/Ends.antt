-- What the calls leave of the curve call, by their definitions, and some calls computed: the indices of W1's two rings, 17 for a segment of
-- degree 4, and 8 before 17.
use mathlib.Core.Path.{◌≡◌, refl, ◌∙◌, ap}
use mathlib.Core.Bool.{Bool, true, false, cond}
use mathlib.Core.List.{List, [], ◌∷◌}
use Prim.Native.Nat.{◌/◌, ◌≤◌}
use lib.Dec.{ltb}
use lib.Arith.{le→nltb}
use lib.IntN.{ℤ, pos, negsuc}
use lib.ListN.{length}
use Rattle.base_exact.proofs.Decide.{fails_false, cond_false}
use Rattle.base_exact.specs.Tabulate.{tab}
use Rattle.base_outcome.specs.Outcome.{Outcome, refusal, refuse}
use Rattle.spec_spline.specs.Space.{Space}
use Rattle.spec_spline.specs.Table.{table_cells}
use Rattle.spec_spline.specs.Reading.{earlywood, side_by_side}
use Rattle.spec_spline.specs.CurveCall.{CurveResult, all_long_enough, curve_outcome, curve_numerators, curve_denominators, values_after}
use Rattle.spec_spline.specs.Cases.{space, for_both, lower_limit_space}
use Rattle.spec_spline.proofs.Computing.{calling}
use Rattle.spec_calls.specs.Indices.{RingsCall, ring_positions, index_of, rings_read}
use Rattle.spec_calls.specs.Pieces.{is_drawable, piece_of, piece_outcome}
use Rattle.spec_calls.specs.Ends.{IndicesLeaveTheCurve, ReachLeavesTheCurve, PiecesLeaveTheCurve}

pub reach_leaves_the_curve : ReachLeavesTheCurve
reach_leaves_the_curve s wood coefs width num den = (refl, refl)

pub pieces-leave_the_curve : PiecesLeaveTheCurve
pieces-leave_the_curve s wood coefs k num den = (refl, refl)

-- ---- indices

-- a test that has passed once passes again
again : (a b c : Bool) {A : Type 0} (x y z rest : Outcome A) → cond a x (cond b y (cond c z (cond a x (cond b y (cond c z rest))))) ≡ cond a x (cond b y (cond c z rest))
again true b c x y z rest = refl
again false true c x y z rest = refl
again false false true x y z rest = refl
again false false false x y z rest = refl

module _ (c : RingsCall) (room : length c.widths ≤ length c.indices) where
  abbrev positions : List ℤ
  positions = ring_positions c.first_ring (length c.widths)

  abbrev read : Outcome CurveResult
  read = rings_read c.space c.coefs c.first_ring c.widths (length c.num) (length c.den) (length c.values) (length c.indices)

  abbrev curve : Outcome CurveResult
  curve = curve_outcome c.space c.coefs positions (length c.num) (length c.den) (length c.values)

  read_is : read ≡ curve
  unfolding rings_read curve_outcome
  read_is =
      ap (all_long_enough positions (length c.num) (length c.den) (length c.values))
      (cond_false (refuse 1 3) curve (fails_false (ltb (length c.indices) (length c.widths)) (le→nltb (length c.indices) (length c.widths) room)))
      ∙ again (ltb (length c.num) table_cells) (ltb (length c.den) table_cells) (ltb (length c.values / 2) (length positions)) (refuse 1 0) (refuse 1 1) (refuse 1 2) _

pub indices_leave_the_curve : IndicesLeaveTheCurve
indices_leave_the_curve c room = (
  ap (λ o. curve_numerators c.space o c.num) (read_is c room),
  (ap (λ o. curve_denominators c.space o c.den) (read_is c room), ap (λ o. values_after o c.values) (read_is c room)),
)

-- ---- W1's rings: 50 over 17067 is 749 of 256,000, 20 over 4267 is 1199; an absent ring

ring1 : (index_of (pos 50) (pos 17067) ≡ pos 749) × (index_of (pos 20) (pos 4267) ≡ pos 1199) × (index_of (pos 0) (pos 4267) ≡ negsuc 0)
unfolding index_of
ring1 = (refl, refl, refl)

-- ---- pieces

abbrev lower_coefs : List ℤ
lower_coefs = side_by_side (for_both (pos 1 ∷ pos 1 ∷ pos 1 ∷ pos 1 ∷ pos 1 ∷ pos 1 ∷ []))

-- the segment behind a cubic has degree 4
seventeen : piece_outcome lower_limit_space earlywood lower_coefs 1 table_cells table_cells ≡ refusal 17 1
unfolding calling is_drawable piece_of piece_outcome
seventeen = refl

-- a space that 8 refuses, whose second segment has degree 5
abbrev large_space : Space
large_space = space (0 ∷ 67 ∷ 70 ∷ []) (3 ∷ 5 ∷ []) (pos 2 ∷ [])

abbrev large_coefs : List ℤ
large_coefs = side_by_side (for_both (tab 7 (λ _. pos 1)))

eight : piece_outcome large_space earlywood large_coefs 1 table_cells table_cells ≡ refusal 8 0
unfolding calling is_drawable piece_of piece_outcome
eight = refl
