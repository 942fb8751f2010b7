-- A piece against the curve, proved: its ordinates are within s/2 of the exact ones, so its polynomial is; at its ends the
-- polynomial and the triangle are both the ordinate there, on whichever side of the join the position belongs.
use mathlib.Core.Path.{◌≡◌, refl, sym, ◌∙◌, ap, subst}
use mathlib.Core.Logic.{◌⊎◌, inl, inr}
use mathlib.Core.Bool.{Bool, true, false, cond}
use mathlib.Core.List.{List, []}
use Prim.Native.Nat.{ℕ, zero, suc, ◌+◌, ◌<◌, ◌≤◌}
use native.Mathlib.Omega.{arith}
use native.Mathlib.Nat.{eq-or-lt_of_le, mul-pos}
use borrow.Author.Tests.{eqb-true, eqb-false}
use lib.Dec.{ltb, leb, ltb→lt}
use lib.IntN.{ℤ, pos, negsuc, ◌+ℤ◌}
use lib.ListN.{length, get_or}
use Rattle.base_exact.specs.Rational.{ℚ, int, ◌+ᵠ◌}
use Rattle.base_exact.specs.Order.{◌≤ᵠ◌}
use Rattle.base_exact.proofs.Decide.{true_holds, true_not_false, and-true}
use Rattle.base_exact.proofs.Integer as Z
use Rattle.base_exact.proofs.Integer.{up, dn}
use Rattle.base_exact.proofs.Tabulate.{tab_get_d}
use Rattle.base_outcome.specs.Outcome.{answer, refusal, refuse}
use Rattle.spec_spline.specs.Space.{Space, segments, break, degree, order, first_column, column_count, condition_count, is_discontinuity}
use Rattle.spec_spline.specs.Space.{checked}
use Rattle.spec_spline.specs.Piecewise.{Accepted}
use Rattle.spec_spline.specs.Reading.{fineness, Wood, fine, fine_width, offset, starts_at_discontinuity, segment_at, coefficient, ordinate}
use Rattle.spec_spline.specs.Reading.{ordinates, triangle, blended, value_at}
use Rattle.spec_spline.specs.ExactCurve.{exact_on, exact_curve, most_weights}
use Rattle.base_outcome.proofs.Outcome.{answer_unique, answer_not_refusal, Chained, then_inverts, Broken, first-refuses, second-refuses}
use Rattle.base_outcome.proofs.Outcome.{then_breaks}
use Rattle.spec_spline.proofs.Space.{is-discontinuity}
use Rattle.spec_spline.proofs.Legal.{fitting_inverts, keeping_refusal}
use Rattle.theorems_weights.proofs.Built.{built}
use Rattle.theorems_values.proofs.Within.{Within, halves, halves_mono, within_more}
use Rattle.theorems_values.proofs.Bernstein.{exact_triangle}
use Rattle.theorems_values.proofs.Triangle.{left_factor, right_factor, factors}
use Rattle.theorems_values.proofs.Weights.{accepted-column}
use Rattle.theorems_values.proofs.Ordinate.{ordinate-within}
use Rattle.theorems_values.proofs.OnSegment.{column_at_most_s}
use Rattle.theorems_values.proofs.Segment.{Located, located, accepted-checked, fine_width_is}
use Rattle.theorems_values.proofs.ExactSum.{exact_ordinates, exact_on_is_triangle, bernstein_at-triangle}
use Rattle.theorems_values.proofs.Value.{segment-column}
use Rattle.theorems_values.proofs.Positions.{discontinuities_belong_before, other_joins_belong_after, first-breakpoint_belongs_first}
use Rattle.theorems_values.proofs.Positions.{last-breakpoint_belongs_last}
use Rattle.theorems_acceptance.proofs.Curves.{curves_never_give_nine}
use Rattle.spec_calls.specs.CurveAlone.{curve_alone}
use Rattle.curve_start.proofs.Accepted.{accepted_by}
use Rattle.spec_calls.specs.Pieces.{is_drawable, drawable_degree, Piece, piece_of, piece_outcome}
use Rattle.curve_pieces.specs.PieceCurve.{polynomial_at, half_the_weights, WithinHalfTheWeights, PiecesAreClose, IsTheValue}
use Rattle.curve_pieces.specs.PieceCurve.{PiecesEndAtTheValue, PiecesStartAtTheValue, PiecesNeverGiveNine}
use Rattle.curve_pieces.proofs.AtEnds.{exact_triangle_start, exact_triangle_end, triangle-start, triangle_end, exact_triangle_within}
use Rattle.curve_pieces.proofs.Joins.{ordinates_meet}

-- What an answered call tells.
pub record Drawn (s : Space) (wood : Wood) (coefs : List ℤ) (k : ℕ) (p : Piece) : Type 0 where
  pub accepted : Accepted s
  pub below : k < segments s
  pub is : piece_of s accepted.table wood coefs k ≡ p

pub drawn : (s : Space) (wood : Wood) (coefs : List ℤ) (k num_length den_length : ℕ) (p : Piece)
    → piece_outcome s wood coefs k num_length den_length ≡ answer p → Drawn s wood coefs k p
unfolding piece_outcome is_drawable
drawn s wood coefs k num_length den_length p e =
    go (then_inverts (curve_alone s coefs num_length den_length)
    (λ r. cond (is_drawable s k) (answer (piece_of s r.table wood coefs k)) (refuse 17 k)) e)
  where
    go : Chained (curve_alone s coefs num_length den_length)
        (λ r. cond (is_drawable s k) (answer (piece_of s r.table wood coefs k)) (refuse 17 k)) p → Drawn s wood coefs k p
    go c =
        let r = c.middle in
        let f = fitting_inverts (is_drawable s k) 17 k (answer (piece_of s r.table wood coefs k)) c.after in
        record {
          accepted = accepted_by s coefs num_length den_length r c.before;
          below = ltb→lt k (segments s) (true_holds (and-true (ltb k (segments s)) (leb (degree s k) drawable_degree) f.0).0);
          is = answer_unique refl f.1;
        }

-- the order of a discontinuity, and the conditions of another join
discontinuity_order : (s : Space) (i : ℕ) → is_discontinuity s i ≡ true → order s i ≡ negsuc 0
discontinuity_order s i e = let z = Z.abs-zero (order s i +ℤ pos 1) (eqb-true (condition_count s i) 0 e) in
    Z.ext (order s i) (negsuc 0) (omega (arith, Z.bal_+ (order s i) (pos 1), ap up z, ap dn z))

some_condition : (s : Space) (i : ℕ) → is_discontinuity s i ≡ false → 0 < condition_count s i
some_condition s i e = nat_pos (condition_count s i) (eqb-false (condition_count s i) 0 e)
  where
    nat_pos : (n : ℕ) → ¬ (n ≡ 0) → 0 < n
    nat_pos zero h = absurd (h refl)
    nat_pos (suc n) h = omega arith

module _ (s : Space) (a : Accepted s) (wood : Wood) (coefs : List ℤ) (k : ℕ) where
  abbrev pub piece : Piece
  piece = piece_of s a.table wood coefs k

  abbrev own : ℕ → ℤ
  own t = ordinate a.table (coefficient wood coefs) (first_column s k + t)

  abbrev pub given : ℕ → ℤ
  given t = get_or piece.ordinates t (pos 0)

  given_is : (t : ℕ) → t ≤ degree s k → given t ≡ own t
  unfolding piece_of
  given_is t h = tab_get_d (suc (degree s k)) own t (pos 0) (omega arith)

  polynomial_is_triangle : (x : ℤ) → 0 < fine_width s k
      → polynomial_at s piece k x ≡ exact_triangle (left_factor (fine_width s k) (offset s k x)) (right_factor (fine_width s k) (offset s k x))
      (λ t. int (given t)) (degree s k) 0
  unfolding polynomial_at
  polynomial_is_triangle x h = bernstein_at-triangle (degree s k) (fine_width s k) (offset s k x) (λ t. int (given t)) h

  module _ (h : k < segments s) where
    -- each ordinate is within s/2 of the exact one
    pub given-within : (t : ℕ) → t ≤ degree s k → Within (halves (most_weights s a.table k)) (exact_ordinates s a.table wood coefs k t)
        (given t)
    given-within t l =
        subst (Within (halves (most_weights s a.table k)) (exact_ordinates s a.table wood coefs k t)) (sym (given_is t l))
        (within_more (halves_mono _ _ (column_at_most_s s a.table k t l))
        (ordinate-within a.table (coefficient wood coefs) (first_column s k + t)
        (accepted-column s a (first_column s k + t) (segment-column s k t h l))))

    close : (x : ℤ) → Located s x k → (exact_on s a.table wood coefs k x ≤ᵠ polynomial_at s piece k x +ᵠ half_the_weights s a.table k)
        × (polynomial_at s piece k x ≤ᵠ exact_on s a.table wood coefs k x +ᵠ half_the_weights s a.table k)
    close x at =
        let F = factors (fine_width s k) (offset s k x) at.positive at.from at.to in
        let b = halves (most_weights s a.table k) in
        let E = sym (exact_on_is_triangle s a.table wood coefs k x at.positive) in
        let P = sym (polynomial_is_triangle x at.positive) in (
          along E P b (exact_triangle_within F b (exact_ordinates s a.table wood coefs k) (λ t. int (given t)) (degree s k)
              (λ t l. (given-within t l).not_below) (degree s k) 0 (omega arith)),
          along P E b (exact_triangle_within F b (λ t. int (given t)) (exact_ordinates s a.table wood coefs k) (degree s k)
              (λ t l. (given-within t l).not_above) (degree s k) 0 (omega arith)),
        )
      where
        along : {p q p' q' : ℚ} → p ≡ p' → q ≡ q' → (b : ℚ) → p ≤ᵠ q +ᵠ b → p' ≤ᵠ q' +ᵠ b
        along {q = q} {p'} e f b l = subst (λ y. p' ≤ᵠ y +ᵠ b) f (subst (λ y. y ≤ᵠ q +ᵠ b) e l)

  -- ---- at an end

  -- the ordinate of a column of segment j, out of all
  listed : (j t : ℕ) → j < segments s → t ≤ degree s j
      → get_or (ordinates s a.table (coefficient wood coefs)) (first_column s j + t) (pos 0)
      ≡ ordinate a.table (coefficient wood coefs) (first_column s j + t)
  unfolding ordinates
  listed j t h l =
      tab_get_d (column_count s) (ordinate a.table (coefficient wood coefs)) (first_column s j + t) (pos 0) (segment-column s j t h l)

  -- the value where the position's segment starts
  value_at_start : (j : ℕ) (x : ℤ) → j < segments s → 0 < fine_width s j → segment_at s x ≡ j → offset s j x ≡ pos 0
      → value_at s a.table wood coefs x ≡ ordinate a.table (coefficient wood coefs) (first_column s j + 0)
  unfolding value_at blended
  value_at_start j x h w at u = ap (λ i. blended s (ordinates s a.table (coefficient wood coefs)) i x) at
      ∙ ap (λ y. triangle (fine_width s j) y (λ t. get_or (ordinates s a.table (coefficient wood coefs)) (first_column s j + t) (pos 0))
      (degree s j) 0) u
      ∙ triangle-start (fine_width s j) w (λ t. get_or (ordinates s a.table (coefficient wood coefs)) (first_column s j + t) (pos 0))
      (degree s j) 0
      ∙ listed j 0 h (omega arith)

  -- and where it ends
  value_at_end : (j : ℕ) (x : ℤ) → j < segments s → 0 < fine_width s j → segment_at s x ≡ j → offset s j x ≡ pos (fine_width s j)
      → value_at s a.table wood coefs x ≡ ordinate a.table (coefficient wood coefs) (first_column s j + degree s j)
  unfolding value_at blended
  value_at_end j x h w at u = ap (λ i. blended s (ordinates s a.table (coefficient wood coefs)) i x) at
      ∙ ap (λ y. triangle (fine_width s j) y (λ t. get_or (ordinates s a.table (coefficient wood coefs)) (first_column s j + t) (pos 0))
      (degree s j) 0) u
      ∙ triangle_end (fine_width s j) w (λ t. get_or (ordinates s a.table (coefficient wood coefs)) (first_column s j + t) (pos 0))
      (degree s j) 0
      ∙ ap (λ t. get_or (ordinates s a.table (coefficient wood coefs)) (first_column s j + t) (pos 0))
      (let z : 0 + degree s j ≡ degree s j = omega arith in z)
      ∙ listed j (degree s j) h (omega arith)

  module _ (h : k < segments s) where
    wide : (j : ℕ) → j < segments s → 0 < fine_width s j
    wide j l = mul-pos {m = fineness} (omega arith) ((built s a.table a.is).legal_space.positive_width j l)

    from_start : offset s k (fine (break s k)) ≡ pos 0
    from_start = Z.+-neg (fine (break s k))

    to_end : offset s k (fine (break s (suc k))) ≡ pos (fine_width s k)
    to_end = sym (fine_width_is s (accepted-checked s a).1 k h)

    polynomial_at_start : polynomial_at s piece k (fine (break s k)) ≡ int (own 0)
    polynomial_at_start = polynomial_is_triangle (fine (break s k)) (wide k h)
        ∙ ap (λ u. exact_triangle (left_factor (fine_width s k) u) (right_factor (fine_width s k) u) (λ t. int (given t)) (degree s k) 0)
        from_start
        ∙ exact_triangle_start (fine_width s k) (wide k h) (λ t. int (given t)) (degree s k) ∙ ap int (given_is 0 (omega arith))

    polynomial_at_end : polynomial_at s piece k (fine (break s (suc k))) ≡ int (own (degree s k))
    polynomial_at_end = polynomial_is_triangle (fine (break s (suc k))) (wide k h)
        ∙ ap (λ u. exact_triangle (left_factor (fine_width s k) u) (right_factor (fine_width s k) u) (λ t. int (given t)) (degree s k) 0) to_end
        ∙ exact_triangle_end (fine_width s k) (wide k h) (λ t. int (given t)) (degree s k) ∙ ap int (given_is (degree s k) (omega arith))

    -- the end belongs to the segment itself, or to the one behind the join, whose first ordinate is the same
    end_value : value_at s a.table wood coefs (fine (break s (suc k))) ≡ own (degree s k)
    end_value = go (eq-or-lt_of_le h)
      where
        c : checked s ≡ answer s
        c = (accepted-checked s a).0

        inner : suc k < segments s → (b : Bool) → is_discontinuity s k ≡ b
            → value_at s a.table wood coefs (fine (break s (suc k))) ≡ own (degree s k)
        inner l true e =
            value_at_end k (fine (break s (suc k))) h (wide k h) (discontinuities_belong_before s c k l (discontinuity_order s k e)) to_end
        inner l false e =
            value_at_start (suc k) (fine (break s (suc k))) l (wide (suc k) l)
            (other_joins_belong_after s c k l (λ o. true_not_false (is-discontinuity s k o) e)) (Z.+-neg (fine (break s (suc k))))
            ∙ sym (ordinates_meet s a (coefficient wood coefs) k l (some_condition s k e))

        go : (suc k ≡ segments s) ⊎ (suc k < segments s) → value_at s a.table wood coefs (fine (break s (suc k))) ≡ own (degree s k)
        go (inl z) = value_at_end k (fine (break s (suc k))) h (wide k h)
            (let y : suc (segment_at s (fine (break s (suc k)))) ≡ suc k = ap (λ m. suc (segment_at s (fine (break s m)))) z
            ∙ last-breakpoint_belongs_last s c ∙ sym z in omega (arith, y)) to_end
        go (inr l) = inner l (is_discontinuity s k) refl

start_belongs : (s : Space) → checked s ≡ answer s → (k : ℕ) → k < segments s → starts_at_discontinuity s k ≡ false
    → segment_at s (fine (break s k)) ≡ k
unfolding starts_at_discontinuity
start_belongs s c zero h e = first-breakpoint_belongs_first s c
start_belongs s c (suc k) h e = other_joins_belong_after s c k h (λ o. true_not_false (is-discontinuity s k o) e)

-- ---- the statements

pub pieces_are_close : PiecesAreClose
unfolding exact_curve
pieces_are_close s wood coefs k num_length den_length p e x inside at = go (drawn s wood coefs k num_length den_length p e)
  where
    go : Drawn s wood coefs k p → WithinHalfTheWeights s wood coefs p k x
    go d =
        let a = d.accepted in
        let b = close s a wood coefs k d.below x (subst (Located s x) at (located s (accepted-checked s a).1 x inside)) in
        record {
          accepted = a;
          exact_at_most = subst (λ j. exact_on s a.table wood coefs j x ≤ᵠ polynomial_at s p k x +ᵠ half_the_weights s a.table k) (sym at)
              (subst (λ q. exact_on s a.table wood coefs k x ≤ᵠ polynomial_at s q k x +ᵠ half_the_weights s a.table k) d.is b.0);
          at_most_exact = subst (λ j. polynomial_at s p k x ≤ᵠ exact_on s a.table wood coefs j x +ᵠ half_the_weights s a.table k) (sym at)
              (subst (λ q. polynomial_at s q k x ≤ᵠ exact_on s a.table wood coefs k x +ᵠ half_the_weights s a.table k) d.is b.1);
        }

pub pieces_end_at_the_value : PiecesEndAtTheValue
pieces_end_at_the_value s wood coefs k num_length den_length p e = go (drawn s wood coefs k num_length den_length p e)
  where
    go : Drawn s wood coefs k p → IsTheValue s wood coefs p k (fine (break s (suc k)))
    go d = let a = d.accepted in record {
      accepted = a;
      same = ap (λ q. polynomial_at s q k (fine (break s (suc k)))) (sym d.is) ∙ polynomial_at_end s a wood coefs k d.below
          ∙ ap int (sym (end_value s a wood coefs k d.below));
    }

pub pieces-start_at_the_value : PiecesStartAtTheValue
pieces-start_at_the_value s wood coefs k num_length den_length p e here = go (drawn s wood coefs k num_length den_length p e)
  where
    go : Drawn s wood coefs k p → IsTheValue s wood coefs p k (fine (break s k))
    go d = let a = d.accepted in record {
      accepted = a;
      same = ap (λ q. polynomial_at s q k (fine (break s k))) (sym d.is) ∙ polynomial_at_start s a wood coefs k d.below
          ∙ ap int (sym (value_at_start s a wood coefs k k (fine (break s k)) d.below (wide s a wood coefs k d.below k d.below)
          (start_belongs s (accepted-checked s a).0 k d.below here) (from_start s a wood coefs k d.below)));
    }

pub pieces_never_give_nine : PiecesNeverGiveNine
unfolding piece_outcome
pieces_never_give_nine s wood coefs k num den place e =
    go (then_breaks (curve_alone s coefs (length num) (length den))
    (λ r. cond (is_drawable s k) (answer (piece_of s r.table wood coefs k)) (refuse 17 k)) e)
  where
    -- code 17 is not 9
    seventeen : (b : Bool) (p : Piece) → cond b (answer p) (refuse 17 k) ≡ refusal 9 place → ⊥
    seventeen true p r = answer_not_refusal refl r
    seventeen false p r = true_not_false refl (keeping_refusal 17 k refl r)

    go : Broken (curve_alone s coefs (length num) (length den))
        (λ r. cond (is_drawable s k) (answer (piece_of s r.table wood coefs k)) (refuse 17 k)) 9 place → ⊥
    go (first-refuses p) = curves_never_give_nine s coefs [] place (length num) (length den) 0 p
    go (second-refuses r p q) = seventeen (is_drawable s k) (piece_of s r.table wood coefs k) q
