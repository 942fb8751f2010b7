-- The nodes rise, proved: each is the place of the ordinate on which its row stands alone, or the middle one of a join of order 2, which lies strictly
-- between the ordinates beside the join; from row to row these places rise.
use mathlib.Core.Path.{◌≡◌, refl, sym, ◌∙◌, ap, subst}
use mathlib.Core.Logic.{◌⊎◌, inl, inr}
use mathlib.Core.Bool.{Bool, cond}
use mathlib.Core.List.{List, [], ◌∷◌}
use Prim.Native.Nat.{ℕ, zero, suc, ◌+◌, ◌-◌, ◌<◌, ◌≤◌, max}
use native.Mathlib.Omega.{arith}
use native.Mathlib.Nat.{eq-or-lt_of_le}
use borrow.Author.Tests.{lt-ltb, le-ltb}
use lib.Dec.{leb, ltb, leb→le, nleb→lt, le→leb}
use lib.IntN.{pos}
use Rattle.base_exact.specs.Rational.{ℚ, int, ◌+ᵠ◌, ◌*ᵠ◌}
use Rattle.base_exact.specs.Order.{◌≤ᵠ◌, ◌<ᵠ◌}
use Rattle.base_exact.proofs.Decide.{le_or_lt, true_holds, holds_true, true_not_false, cond_true, cond_false}
use Rattle.base_exact.proofs.Integer as Z
use Rattle.base_exact.proofs.Order as Q
use Rattle.base_exact.proofs.Ring.{ring}
use Rattle.base_exact.proofs.Rational.{ℚ-ring, readsℚ}
use Rattle.base_outcome.proofs.Search.{Last, SearchedBack, at, nowhere, search_last}
use Rattle.spec_spline.specs.Space.{Space, segments, break, degree_entry, degree_limit, bad_degree, degree, condition_count, first_column, conditions_before, row_count, rows_before}
use Rattle.spec_spline.specs.Table.{entry, cell}
use Rattle.spec_spline.specs.Piecewise.{Accepted}
use Rattle.spec_spline.proofs.Space.{between_inverts, segment-column}
use Rattle.spec_spline.proofs.Legal.{Checked, legal}
use Rattle.theorems_weights.proofs.Built.{built, row_count_lem}
use Rattle.theorems_beams.proofs.Sections.{orders_fit, conditions_fewer}
use Rattle.theorems_values.proofs.Segment.{accepted-checked, breaks_rise}
use Rattle.theorems_acceptance.specs.WeightCount.{left_conditions, right_conditions}
use Rattle.theorems_acceptance.specs.ClosedForms.{join_row}
use Rattle.theorems_stages.specs.Counts.{full_count}
use Rattle.theorems_stages.proofs.Limits.{limits}
use Rattle.theorems_stages.proofs.Support as supports
use Rattle.theorems_support.proofs.Support.{supported}
use Rattle.theorems_lines.specs.Lines.{place_of}
use Rattle.theorems_lines.proofs.Ordinates.{single, false_not}
use Rattle.theorems_nodes.specs.Nodes.{AreNodes, InOnePart, NodesRise}
use Rattle.theorems_nodes.proofs.Places.{places-rise, not_before, before_end}
use Rattle.theorems_nodes.proofs.Middle.{row_is, on_line, after-left, before-right}

-- ---- the segment of a row

-- The node of row i, by the last segment that has a row of its own at or before it: the place of an ordinate, or more than that of the last
-- but one and less than that of ordinate 1 of the next segment.
data Stands (s : Space) (node : ℚ) (j t : ℕ) : Type 0 where
  own : node ≡ place_of s j t → Stands s node j t
  middle : suc j < segments s → condition_count s j ≡ full_count → suc t ≡ degree s j → place_of s j t <ᵠ node → node <ᵠ place_of s (suc j) 1 → Stands s node j t

record Spot (s : Space) (node : ℚ) (i : ℕ) : Type 0 where
  segment : ℕ
  ordinate : ℕ
  below : segment < segments s
  within : ordinate ≤ degree s segment
  row : rows_before s segment + ordinate ≡ i
  begins : rows_before s segment + (left_conditions s segment - 1) ≤ i
  last : (k : ℕ) → segment < k → k < segments s → i < rows_before s k + (left_conditions s k - 1)
  stands : Stands s node segment ordinate

module _ (s : Space) (a : Accepted s) (nodes : List ℚ) (N : AreNodes s a.table nodes) (i : ℕ) (below : i < row_count s) where
  c : Checked s
  c = (accepted-checked s a).1

  -- segment j has a row of its own at or before row i
  abbrev begun : ℕ → Bool
  begun j = leb (rows_before s j + (left_conditions s j - 1)) i

  module _ (j : ℕ) (F : Last begun (segments s) j) where
    from : rows_before s j + (left_conditions s j - 1) ≤ i
    from = leb→le (rows_before s j + (left_conditions s j - 1)) i (true_holds F.meets)

    abbrev t : ℕ
    t = i - rows_before s j

    -- where the right join does not reach it, the row stands for an ordinate
    alone : t ≤ degree s j → right_conditions s j + t ≤ degree s j + 1 → Stands s (entry nodes i) j t
    alone l m = own (sym (single s a (first_column s j + t) i (segment-column s j t F.below l) (omega (arith, row_count_lem s a.table (built s a.table a.is)))
        (supports.support_ends (let z : rows_before s j + t - (right_conditions s j + t - (degree s j + 1)) ≡ i = omega (arith, from, m) in z)
        (let z : rows_before s j + max t (left_conditions s j - 1) ≡ i = omega (arith, from) in z) (supported s a j t F.below l)) nodes)
        ∙ on_line s a nodes N j t F.below l)

    stood : (t ≤ degree s j) × Stands s (entry nodes i) j t
    unfolding right_conditions first_column conditions_before
    stood = go (le_or_lt (segments s) (suc j))
      where
        go : (segments s ≤ suc j) ⊎ (suc j < segments s) → (t ≤ degree s j) × Stands s (entry nodes i) j t
        go (inl h) =
            let z = cond_false (condition_count s j) 0 (le-ltb (suc j) (segments s) h) in
            let e : segments s ≡ suc j = omega (arith, F.below) in
            let y = ap (first_column s) e in
            let w = ap (conditions_before s) (let v : segments s - 1 ≡ j = omega arith in v) in
            let l : t ≤ degree s j = omega (arith, from, below, conditions_fewer s (orders_fit s c) j F.below) in
            (l, alone l (omega (arith, from, below, conditions_fewer s (orders_fit s c) j F.below)))
        go (inr h) = (l, here (le_or_lt (condition_count s j + t) (degree s j + 1)))
          where
            later : i < rows_before s (suc j) + (condition_count s j - 1)
            later = nleb→lt (rows_before s (suc j) + (condition_count s j - 1)) i (false_not (F.after (suc j) (omega arith) h))

            l : t ≤ degree s j
            l = omega (arith, from, later, conditions_fewer s (orders_fit s c) j F.below, (legal s c).below-left-degree j (omega arith))

            here : (condition_count s j + t ≤ degree s j + 1) ⊎ (degree s j + 1 < condition_count s j + t) → Stands s (entry nodes i) j t
            here (inl m) = let z = cond_true (condition_count s j) 0 (lt-ltb (suc j) (segments s) h) in alone l (omega arith)
            here (inr m) = middle h full last_but_one
                (subst (λ r. place_of s j t <ᵠ entry nodes r) is_row
                (subst (λ u. place_of s j u <ᵠ entry nodes (join_row s j - 1)) is_ordinate (after-left s a nodes N j h full)))
                (subst (λ r. entry nodes r <ᵠ place_of s (suc j) 1) is_row (before-right s a nodes N j h full))
              where
                facts : (condition_count s j ≡ full_count) × (suc t ≡ degree s j)
                facts = omega (arith, from, later, m, conditions_fewer s (orders_fit s c) j F.below, (legal s c).below-left-degree j (omega arith), (limits s c).few_conditions j (omega arith))

                full : condition_count s j ≡ full_count
                full = facts.0

                last_but_one : suc t ≡ degree s j
                last_but_one = facts.1

                is_ordinate : degree s j - 1 ≡ t
                is_ordinate = omega (arith, last_but_one)

                is_row : join_row s j - 1 ≡ i
                is_row = omega (arith, row_is s a nodes N j h full, last_but_one, from)

    spot : Spot s (entry nodes i) i
    spot = record {
      segment = j;
      ordinate = t;
      below = F.below;
      within = stood.0;
      row = omega (arith, from);
      begins = from;
      last = λ k m n. nleb→lt (rows_before s k + (left_conditions s k - 1)) i (false_not (F.after k m n));
      stands = stood.1;
    }

  found : Spot s (entry nodes i) i
  unfolding first_column conditions_before
  found = go (search_last begun (segments s))
    where
      go : SearchedBack begun (segments s) → Spot s (entry nodes i) i
      go (at j F e) = spot j F
      go (nowhere none e) = absurd (true_not_false (holds_true (begun 0) (le→leb _ i (omega arith))) (none 0 (legal s c).lengths.some_segment))

-- ---- from row to row

module _ (s : Space) (a : Accepted s) (nodes : List ℚ) (N : AreNodes s a.table nodes) (i : ℕ) (h : suc i < row_count s) (one : InOnePart s i) where
  c' : Checked s
  c' = (accepted-checked s a).1

  P : Spot s (entry nodes i) i
  P = found s a nodes N i (omega arith)

  R : Spot s (entry nodes (suc i)) (suc i)
  R = found s a nodes N (suc i) h

  some_degree : (j : ℕ) → j < segments s → 0 < degree s j
  unfolding bad_degree
  some_degree j l = Z.abs_mono (pos 1) (degree_entry s j) (Z.≤_in (pos 0) (pos 1) (omega arith)) (between_inverts (pos 1) (pos degree_limit) (degree_entry s j) (c'.degrees j l)).0

  -- a later breakpoint is not before an earlier one
  breaks_mono : (j k : ℕ) → j ≤ k → k ≤ segments s → int (break s j) ≤ᵠ int (break s k)
  breaks_mono j k l m = go (eq-or-lt_of_le l)
    where
      go : (j ≡ k) ⊎ (j < k) → int (break s j) ≤ᵠ int (break s k)
      go (inl e) = subst (λ n. int (break s j) ≤ᵠ int (break s n)) e (Q.≤-refl _)
      go (inr t) = Q.int_mono (Z.<-≤ _ _ (Z.rises (λ n. break s n) (segments s) (breaks_rise s c') j k t m))

  -- a node is not before the place of its ordinate
  from_place : {node : ℚ} {k u : ℕ} → Stands s node k u → place_of s k u ≤ᵠ node
  from_place {node} {k} {u} (own e) = subst (λ q. place_of s k u ≤ᵠ q) (sym e) (Q.≤-refl _)
  from_place (middle l f e x y) = Q.<-≤ x

  -- no segment behind j has a row of its own up to row r
  abbrev Behind : ℕ → ℕ → Type 0
  Behind r j = (m : ℕ) → j < m → m < segments s → r < rows_before s m + (left_conditions s m - 1)

  -- the last ordinate stands for a row of the next segment, or for the last one of a part
  inside : (j t : ℕ) → suc j < segments s → t ≤ degree s j → rows_before s j + t ≡ i → Behind i j → t < degree s j
  unfolding first_column conditions_before
  inside j t p l e last = go (eq-or-lt_of_le l)
    where
      joined : (n : ℕ) → condition_count s j ≡ n → t ≡ degree s j → ⊥
      joined zero w y = one j (omega arith) w (omega (arith, conditions_fewer s (orders_fit s c') j (omega arith)))
      joined (suc n) w y = omega (arith, last (suc j) (omega arith) (omega arith), conditions_fewer s (orders_fit s c') j (omega arith), (legal s c').below-left-degree j (omega arith))

      go : (t ≡ degree s j) ⊎ (t < degree s j) → t < degree s j
      go (inl y) = absurd (joined (condition_count s j) refl y)
      go (inr y) = y

  -- two rows of one segment
  near : {node : ℚ} (j t u : ℕ) → j < segments s → rows_before s j + t ≡ i → rows_before s j + u ≡ suc i → u ≤ degree s j → Stands s node j t → Stands s (entry nodes (suc i)) j u → Behind (suc i) j
      → node <ᵠ entry nodes (suc i)
  unfolding first_column conditions_before
  near j t u p e f l (own z) S last = subst (λ q. q <ᵠ entry nodes (suc i)) (sym z) (Q.<-≤_trans (places-rise s c' j p (some_degree j p) t u (omega arith)) (from_place S))
  near j t u p e f l (middle h full z x y) S last =
      absurd (omega (arith, last (suc j) (omega arith) h, conditions_fewer s (orders_fit s c') j p, (legal s c').below-left-degree j (omega arith)))

  second : (j t k u : ℕ) → suc j ≡ k → rows_before s j + t ≡ i → rows_before s k + u ≡ suc i → condition_count s j ≡ full_count → suc t ≡ degree s j → suc j < segments s → 1 < u
  unfolding first_column conditions_before
  second j t k u v e f full z h = omega (arith, ap (rows_before s) v, conditions_fewer s (orders_fit s c') j (omega arith), (legal s c').below-left-degree j (omega arith))

  -- two rows of two segments
  apart : {node : ℚ} (j t k u : ℕ) → j < k → k < segments s → t ≤ degree s j → rows_before s j + t ≡ i → rows_before s k + u ≡ suc i → Stands s node j t → Stands s (entry nodes (suc i)) k u → Behind i j
      → node <ᵠ entry nodes (suc i)
  apart j t k u m q l e f (own z) S last = subst (λ w. w <ᵠ entry nodes (suc i)) (sym z)
      (Q.<-≤_trans (before_end s c' j (omega arith) (some_degree j (omega arith)) t (inside j t (omega arith) l e last))
      (Q.≤_trans (breaks_mono (suc j) k m (omega arith)) (Q.≤_trans (not_before s c' k q (some_degree k q) u) (from_place S))))
  apart j t k u m q l e f (middle h full z x y) S last = Q.<-≤_trans y (Q.≤_trans (go (eq-or-lt_of_le m)) (from_place S))
    where
      go : (suc j ≡ k) ⊎ (suc j < k) → place_of s (suc j) 1 ≤ᵠ place_of s k u
      go (inl v) = subst (λ n. place_of s (suc j) 1 ≤ᵠ place_of s n u) v (Q.<-≤ (places-rise s c' (suc j) h (some_degree (suc j) h) 1 u (second j t k u v e f full z h)))
      go (inr v) = Q.≤_trans (Q.<-≤ (before_end s c' (suc j) h (some_degree (suc j) h) 1 (omega (arith, (legal s c').below-right-degree j (omega arith)))))
          (Q.≤_trans (breaks_mono (suc (suc j)) k v (omega arith)) (not_before s c' k q (some_degree k q) u))

  order : (P.segment ≡ R.segment) ⊎ (P.segment < R.segment)
  order = go (le_or_lt P.segment R.segment)
    where
      go : (P.segment ≤ R.segment) ⊎ (R.segment < P.segment) → (P.segment ≡ R.segment) ⊎ (P.segment < R.segment)
      go (inl l) = eq-or-lt_of_le l
      go (inr l) = absurd (omega (arith, P.begins, R.last P.segment l P.below))

  rises : entry nodes i <ᵠ entry nodes (suc i)
  rises = go order
    where
      go : (P.segment ≡ R.segment) ⊎ (P.segment < R.segment) → entry nodes i <ᵠ entry nodes (suc i)
      go (inl z) = near P.segment P.ordinate R.ordinate P.below P.row (subst (λ n. rows_before s n + R.ordinate ≡ suc i) (sym z) R.row)
          (subst (λ n. R.ordinate ≤ degree s n) (sym z) R.within)
          P.stands (subst (λ n. Stands s (entry nodes (suc i)) n R.ordinate) (sym z) R.stands) (subst (Behind (suc i)) (sym z) R.last)
      go (inr z) = apart P.segment P.ordinate R.segment R.ordinate z R.below P.within P.row R.row P.stands R.stands P.last

pub nodes-rise : NodesRise
nodes-rise s a nodes N i h one = rises s a nodes N i h one
