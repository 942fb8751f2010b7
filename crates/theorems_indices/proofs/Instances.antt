-- The theorems with numbers: W1 as the earlywood and W2 as the latewood of rings 1 and 2. Ring 1 is 50 wide under 17067, so
-- that 256,000·50/17067 = 749.98.. gives 749; ring 2 is absent. By the latewood, whose values are below zero, a present ring
-- gives 14 with its place, and all values are written. And positive coefficients of the latewood, with which 14 can't come.
use mathlib.Core.Path.{◌≡◌, refl, ◌∙◌, ap, subst}
use mathlib.Core.Logic.{◌≢◌}
use mathlib.Core.Bool.{not}
use mathlib.Core.List.{List, [], ◌∷◌}
use Prim.Native.Nat.{ℕ, zero, suc, ◌<◌}
use native.Mathlib.Omega.{arith}
use lib.Dec.{T}
use lib.IntN.{ℤ, pos, negsuc, nat_abs}
use lib.ListN.{length, get_or}
use Rattle.base_exact.specs.Gcd.{gcd, gcd_f}
use Rattle.base_exact.specs.Rational.{mk, int, inv, ◌+ᵠ◌, ◌-ᵠ◌, ◌*ᵠ◌, ◌/ᵠ◌, -ᵠ◌, ◌//◌}
use Rattle.base_exact.specs.Order.{is_zero, ltᵠ, ◌≤ᵠ◌, ◌<ᵠ◌}
use Rattle.base_exact.specs.Tabulate.{tab}
use Rattle.base_exact.proofs.Order.{ltᵠ_true}
use Rattle.base_exact.proofs.Word.{lt_z_true}
use Rattle.base_outcome.specs.Outcome.{answer, refusal, capped, ◌then◌}
use Rattle.base_outcome.specs.Search.{first, last, how_many}
use Rattle.spec_spline.specs.Space.{first_column, conditions_before}
use Rattle.base_outcome.specs.Tests.{between}
use Rattle.spec_spline.specs.Table.{table_cells}
use Rattle.spec_spline.specs.Reading.{starts_at_discontinuity, starts_by, segment_at, Wood, earlywood, latewood, side_by_side, values}
use Rattle.spec_spline.specs.CurveCall.{bad_coefficient, bad_position, values_after}
use Rattle.spec_spline.specs.Cases.{pair, space1}
use Rattle.spec_spline.specs.ExactCurve.{exact_curve, largest, most_weights}
use Rattle.theorems_values.specs.ValueLimits.{closeness}
use Rattle.theorems_promises.specs.PositiveValues.{PositiveCoefficients}
use Rattle.theorems_values.proofs.Instances.{table1, coefs1, accepted1, coefficients1, inside1 as positions-inside1, pairs1, values1 as read-values1, exact1}
use Rattle.spec_calls.specs.Indices.{ring_positions, ring_width, width_limit, is_refused, bad_ring, index_of, ring_indices, rings_indexed, indices_returned, indices_after}
use Rattle.spec_calls.specs.Indices.{RingsCall, indices_end}
use Rattle.theorems_indices.specs.Rings.{CurveIsLegal}
use Rattle.theorems_indices.proofs.Rings.{read, read-answers, index_is_above, index_is_at_most}
use Rattle.theorems_indices.proofs.Positive.{positive_coefficients_are_enough}

-- rings 1 and 2 are read at W1's positions
inside1 : (i : ℕ) → i < length (ring_positions (pos 1) 2) → T (not (bad_position space1 (ring_positions (pos 1) 2) i))
unfolding ring_positions tab
inside1 = positions-inside1

values1 : values space1 table1 coefs1 (ring_positions (pos 1) 2) ≡ pairs1
unfolding ring_positions tab
values1 = read-values1

-- latewood coefficients above zero beside earlywood ones below it
abbrev positive_coefs : List ℤ
positive_coefs = side_by_side (pair (negsuc 99) (pos 1) ∷ pair (negsuc 99) (pos 7) ∷ pair (negsuc 99) (pos 2) ∷ pair (negsuc 99) (pos 1) ∷ [])

positive_coefficients1 : (i : ℕ) → i < length positive_coefs → T (not (bad_coefficient positive_coefs i))
unfolding bad_coefficient side_by_side
positive_coefficients1 zero h = tt
positive_coefficients1 (suc zero) h = tt
positive_coefficients1 (suc (suc zero)) h = tt
positive_coefficients1 (suc (suc (suc zero))) h = tt
positive_coefficients1 (suc (suc (suc (suc zero)))) h = tt
positive_coefficients1 (suc (suc (suc (suc (suc zero))))) h = tt
positive_coefficients1 (suc (suc (suc (suc (suc (suc zero)))))) h = tt
positive_coefficients1 (suc (suc (suc (suc (suc (suc (suc zero))))))) h = tt
positive_coefficients1 (suc (suc (suc (suc (suc (suc (suc (suc i)))))))) h = absurd (omega arith)

positive1 : PositiveCoefficients space1 latewood positive_coefs
unfolding first_column conditions_before side_by_side
positive1 zero h = lt_z_true (pos 0) (pos 1) refl
positive1 (suc zero) h = lt_z_true (pos 0) (pos 7) refl
positive1 (suc (suc zero)) h = lt_z_true (pos 0) (pos 2) refl
positive1 (suc (suc (suc zero))) h = lt_z_true (pos 0) (pos 1) refl
positive1 (suc (suc (suc (suc i)))) h = absurd (omega arith)

-- ---- a call with any two weight buffers that are long enough

module _ (num den : List ℤ) (h : length num ≡ table_cells) (k : length den ≡ table_cells) where
  abbrev call : Wood → ℤ → ℤ → RingsCall
  call wood w v = record {
    wood = wood;
    space = space1;
    coefs = coefs1;
    first_ring = pos 1;
    widths = w ∷ v ∷ [];
    num = num;
    den = den;
    values = pos 5 ∷ pos 6 ∷ pos 7 ∷ pos 8 ∷ pos 9 ∷ [];
    indices = pos 6 ∷ pos 7 ∷ pos 8 ∷ [];
  }

  legal1 : (wood : Wood) (w v : ℤ) → CurveIsLegal (call wood w v)
  unfolding ring_positions tab first_column conditions_before
  legal1 wood w v = record {
    accepted = accepted1;
    coefficient_count = refl;
    coefficients = coefficients1;
    position_count = omega arith;
    in_span = inside1;
    numerators = omega arith;
    denominators = omega arith;
    values = omega arith;
  }

  read1 : (wood : Wood) (w v : ℤ) → read (call wood w v) ≡ answer (record { table = table1; values = pairs1 })
  unfolding legal1 accepted1
  read1 wood w v = read-answers (call wood w v) (legal1 wood w v) (omega arith) ∙ ap (λ vs. answer (record { table = table1; values = vs })) values1

  values_after1 : (wood : Wood) (w v : ℤ) → (indices_end (call wood w v)).values ≡ pos 17067 ∷ negsuc 17066 ∷ pos 4267 ∷ negsuc 4265 ∷ pos 9 ∷ []
  unfolding values_after side_by_side
  values_after1 wood w v = ap (λ o. values_after o (pos 5 ∷ pos 6 ∷ pos 7 ∷ pos 8 ∷ pos 9 ∷ [])) (read1 wood w v)

  -- earlywood: 749, and an absent ring
  answers1 : (indices_end (call earlywood (pos 50) (pos 0))).answers ≡ answer 2
  unfolding rings_indexed first bad_ring is_refused ring_indices tab
  answers1 = ap (λ o. indices_returned (o then rings_indexed earlywood (pos 50 ∷ pos 0 ∷ []))) (read1 earlywood (pos 50) (pos 0))

  indices1 : (indices_end (call earlywood (pos 50) (pos 0))).indices ≡ pos 749 ∷ negsuc 0 ∷ pos 8 ∷ []
  unfolding rings_indexed first bad_ring is_refused ring_indices tab index_of indices_after
  indices1 = ap (λ o. indices_after (o then rings_indexed earlywood (pos 50 ∷ pos 0 ∷ [])) (pos 6 ∷ pos 7 ∷ pos 8 ∷ [])) (read1 earlywood (pos 50) (pos 0))

  -- latewood: ring 1 is absent, and ring 2 has a value below zero
  answers14 : (indices_end (call latewood (pos 0) (pos 7))).answers ≡ refusal 14 1
  unfolding rings_indexed first bad_ring is_refused ring_indices tab capped
  answers14 = ap (λ o. indices_returned (o then rings_indexed latewood (pos 0 ∷ pos 7 ∷ []))) (read1 latewood (pos 0) (pos 7))

  indices14 : (indices_end (call latewood (pos 0) (pos 7))).indices ≡ pos 6 ∷ pos 7 ∷ pos 8 ∷ []
  unfolding rings_indexed first bad_ring is_refused ring_indices tab capped indices_after
  indices14 = ap (λ o. indices_after (o then rings_indexed latewood (pos 0 ∷ pos 7 ∷ [])) (pos 6 ∷ pos 7 ∷ pos 8 ∷ [])) (read1 latewood (pos 0) (pos 7))

  -- widths beyond the range come before the value, also where the ring before is fine
  answers_wide : (indices_end (call earlywood (pos 50) (pos 100000))).answers ≡ refusal 14 1
  unfolding rings_indexed first bad_ring is_refused ring_indices tab capped
  answers_wide = ap (λ o. indices_returned (o then rings_indexed earlywood (pos 50 ∷ pos 100000 ∷ []))) (read1 earlywood (pos 50) (pos 100000))

  -- ---- the bounds on 749, from the exact 51200/3 and its error 2
  error1 : closeness space1 table1 (pos 256) ≡ int (pos 2)
  unfolding gcd gcd_f mk int inv ◌*ᵠ◌ ◌//◌ is_zero first_column last starts_at_discontinuity starts_by segment_at how_many largest most_weights
  error1 = refl

  above_error1 : int (pos 2) <ᵠ pos 51200 // 2
  unfolding gcd gcd_f mk int ◌//◌ ltᵠ
  above_error1 = ltᵠ_true _ _ refl

  present1 : pos 50 ≢ pos 0
  present1 e = let z : ◌≡◌ {A = ℕ} 50 0 = ap nat_abs e in omega arith

  lower_bound1 : int (pos 12800000) /ᵠ (pos 51200 // 2 +ᵠ int (pos 2)) -ᵠ int (pos 1) <ᵠ int (pos 749)
  unfolding legal1 accepted1
  lower_bound1 =
      let c = call earlywood (pos 50) (pos 0) in
      let b = index_is_above c (legal1 earlywood (pos 50) (pos 0)) 2 answers1 0 (omega arith) present1 in
      subst (λ x. int (pos 12800000) /ᵠ (x +ᵠ int (pos 2)) -ᵠ int (pos 1) <ᵠ int (pos 749)) exact1
      (subst (λ x. int (pos 12800000) /ᵠ (exact_curve space1 table1 earlywood coefs1 (pos 256) +ᵠ x) -ᵠ int (pos 1) <ᵠ int (pos 749)) error1
      (subst (λ (l : List ℤ). int (pos 12800000) /ᵠ (exact_curve space1 table1 earlywood coefs1 (pos 256) +ᵠ closeness space1 table1 (pos 256)) -ᵠ int (pos 1) <ᵠ int (get_or l 0 (pos 0))) indices1 b))

  upper_bound1 : int (pos 749) ≤ᵠ int (pos 12800000) /ᵠ (pos 51200 // 2 -ᵠ int (pos 2))
  unfolding legal1 accepted1
  upper_bound1 =
      let c = call earlywood (pos 50) (pos 0) in
      let low : closeness space1 table1 (pos 256) <ᵠ exact_curve space1 table1 earlywood coefs1 (pos 256) = rw (error1, exact1) above_error1 in
      let b = index_is_at_most c (legal1 earlywood (pos 50) (pos 0)) 2 answers1 0 (omega arith) present1 low in
      subst (λ x. int (pos 749) ≤ᵠ int (pos 12800000) /ᵠ (x -ᵠ int (pos 2))) exact1
      (subst (λ x. int (pos 749) ≤ᵠ int (pos 12800000) /ᵠ (exact_curve space1 table1 earlywood coefs1 (pos 256) -ᵠ x)) error1
      (subst (λ (l : List ℤ). int (get_or l 0 (pos 0)) ≤ᵠ int (pos 12800000) /ᵠ (exact_curve space1 table1 earlywood coefs1 (pos 256) -ᵠ closeness space1 table1 (pos 256))) indices1 b))

  -- ---- positive coefficients of the named part are enough, also for the widest ring and an absent one
  abbrev positive_call : RingsCall
  positive_call = record {
    wood = latewood;
    space = space1;
    coefs = positive_coefs;
    first_ring = pos 1;
    widths = pos 99999 ∷ pos 0 ∷ [];
    num = num;
    den = den;
    values = pos 5 ∷ pos 6 ∷ pos 7 ∷ pos 8 ∷ [];
    indices = pos 6 ∷ pos 7 ∷ [];
  }

  positive_legal1 : CurveIsLegal positive_call
  unfolding ring_positions tab first_column conditions_before side_by_side
  positive_legal1 = record {
    accepted = accepted1;
    coefficient_count = refl;
    coefficients = positive_coefficients1;
    position_count = omega arith;
    in_span = inside1;
    numerators = omega arith;
    denominators = omega arith;
    values = omega arith;
  }

  positive_answers1 : (indices_end positive_call).answers ≡ answer 2
  positive_answers1 = positive_coefficients_are_enough positive_call positive_legal1 (omega arith) positive1 widths_fit
    where
      widths_fit : (i : ℕ) → i < 2 → T (between (pos 0) (pos width_limit) (ring_width (pos 99999 ∷ pos 0 ∷ []) i))
      widths_fit zero l = tt
      widths_fit (suc zero) l = tt
      widths_fit (suc (suc i)) l = absurd (omega arith)
