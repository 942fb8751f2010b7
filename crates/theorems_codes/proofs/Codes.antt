-- Which numbers each call can give, proved test by test in the order in which the call makes them.
use mathlib.Core.Path.{◌≡◌, refl, sym, subst}
use mathlib.Core.Logic.{◌⊎◌, inl, inr}
use mathlib.Core.Bool.{Bool, true, false, ◌||◌}
use mathlib.Core.List.{List, map}
use mathlib.Core.Option.{Option, some, none}
use Prim.Native.Nat.{ℕ, ◌+◌, ◌*◌, ◌/◌, ◌-◌, ◌<◌, ◌≤◌}
use native.Mathlib.Omega.{arith}
use borrow.Author.Tests.{eqb-true}
use lib.Dec.{eqb, ltb}
use lib.IntN.{ℤ}
use lib.ListN.{length}
use Rattle.base_exact.specs.Rational.{int}
use Rattle.base_outcome.specs.Outcome.{Outcome, answer, refusal, refuse, largest_place, capped}
use Rattle.base_outcome.specs.Search.{first}
use Rattle.base_outcome.proofs.Outcome.{RefusedAs, answer_refused, then_refused, repeat_refused, capped_small}
use Rattle.base_outcome.proofs.Search.{first_some_inverts}
use Rattle.spec_spline.specs.Space.{Space, segments, lengths_fit, bad_break, span_too_long, bad_degree, bad_order}
use Rattle.spec_spline.specs.Space.{too_many_segments, part_end, part_end_at, checked_entries, checked, condition_count, column_count, row_count}
use Rattle.spec_spline.specs.Conditions.{conditions}
use Rattle.spec_spline.specs.Table.{identity, table_cells}
use Rattle.spec_spline.specs.Step.{step}
use Rattle.spec_spline.specs.Build.{order_steps, join_steps, weights, space_weights, long_enough, built, clears}
use Rattle.spec_spline.specs.Reading.{Wood, values}
use Rattle.spec_spline.specs.CurveCall.{position_limit, bad_coefficient, bad_position, legal_entries, curve_checked, CurveResult, curve_read, curve_outcome}
use Rattle.spec_spline.proofs.Parts.{part-ends}
use Rattle.spec_spline.proofs.Legal.{Checked, checked_inverts}
use Rattle.spec_spline.proofs.Refusals.{EightOrNine, step-refuses}
use Rattle.theorems_acceptance.proofs.NineNever.{weights_not_nine}
use Rattle.theorems_values.proofs.LegalCall.{checks-passed}
use Rattle.theorems_recovery.proofs.Refusals.{Stops, orders_stop, eight_and_nine_are_the_builds}
use Rattle.spec_calls.specs.Recovery.{recover_orders, recover_joins, recovered}
use Rattle.theorems_values.proofs.LegalCall.{checks-passed}
use Rattle.theorems_recovery.proofs.Refusals.{Stops, orders_stop, eight_and_nine_are_the_builds}
use Rattle.spec_calls.specs.RecoveryCall.{bad_ordinate, legal_ordinates, recovery_outcome}
use Rattle.spec_calls.specs.Indices.{ring_positions, bad_ring, ring_indices, rings_read, rings_indexed, indices_returned}
use Rattle.theorems_codes.specs.Codes.{SpaceRefusal, lengths, at_breakpoint, at_degree, at_order, at_part, at_fraction}
use Rattle.theorems_codes.specs.Codes.{BuildRefusal, CurveRefusal, short_buffer, of_space, many_positions, coefficient_count, at_coefficient, at_position}
use Rattle.theorems_codes.specs.Codes.{IndicesRefusal, of_curve, short_indices, at_ring, RecoveryRefusal, short_weights, short_answers, ordinate_count, at_ordinate, unmet, undone_too_large}
use Rattle.theorems_codes.specs.Codes.{BuildNumbers, CurveNumbers, IndicesNumbers, RecoveryNumbers}
use Rattle.theorems_codes.proofs.Refused.{refuse_as, cond_as, option_as, first_as, with_as, more_as}

-- ---- small places

pub small : (P : ℕ → Type 0) (n : ℕ) → n ≤ largest_place → P n → P (capped n)
small P n h p = subst P (sym (capped_small n h)) p

-- ---- the lists, and what is worked out from them

module _ (s : Space) where
  pub listed_as : RefusedAs (SpaceRefusal s) (checked_entries s)
  unfolding checked_entries
  listed_as =
      first_as P 3 (segments s + 1) (bad_break s) _ (λ i h. at_breakpoint i (omega arith))
      (option_as P 3 (part_end_at s (first (segments s) (span_too_long s))) _ (λ i e. end i (first (segments s) (span_too_long s)) (λ k q. (first_some_inverts (span_too_long s) (segments s) q).below) e)
      (first_as P 4 (segments s) (bad_degree s) _ (λ i h. at_degree i h)
      (first_as P 5 (segments s - 1) (bad_order s) _ (λ i h. at_order i h)
      (first_as P 15 (segments s) (too_many_segments s) (answer s) (λ i h. at_part i h) (answer_refused P s)))))
    where
      P : ℕ → ℕ → Type 0
      P = SpaceRefusal s

      end : (i : ℕ) (o : Option ℕ) → ((k : ℕ) → o ≡ some k → k < segments s) → part_end_at s o ≡ some i → SpaceRefusal s 3 (capped i)
      end i none below e = absurd (let z : ◌≡◌ {A = ℕ} 0 1 = cc in omega arith)
      end i (some k) below e = let z : part_end s k ≡ i = cc in at_breakpoint i (omega (arith, (part-ends s k (below k refl)).boundary.within))

  pub lengths_as : {A : Type 0} → RefusedAs {A = A} (SpaceRefusal s) (refuse 2 0)
  lengths_as = refuse_as (SpaceRefusal s) 2 0 (small (SpaceRefusal s 2) 0 (omega arith) lengths)

  checked_as : RefusedAs (SpaceRefusal s) (checked s)
  unfolding checked
  checked_as = cond_as (SpaceRefusal s) (lengths_fit s) (checked_entries s) (refuse 2 0) listed_as lengths_as

  pub weights_as : Checked s → RefusedAs (SpaceRefusal s) (weights s)
  unfolding weights join_steps order_steps
  weights_as c code place e = go (found code place e)
    where
      At : ℕ → ℕ → Type 0
      At code place = (j : ℕ) × (j < segments s - 1) × EightOrNine j code place

      found : RefusedAs At (weights s)
      found = repeat_refused At (segments s - 1) (λ j. order_steps s j (condition_count s j)) (identity (column_count s))
          (λ j t h f. repeat_refused At (condition_count s j) (λ k. step j (conditions s j k)) t (λ k u l g code place r. (j, h, step-refuses j (conditions s j k) u code place r)))

      go : At code place → SpaceRefusal s code place
      go (j, h, (inl z, p)) = subst (λ n. SpaceRefusal s n place) (sym z) (subst (SpaceRefusal s 8) (sym p) (at_fraction j h))
      go (j, h, (inr z, p)) = absurd (weights_not_nine s c (subst (λ n. weights s ≡ refusal n place) z e))

  space_as : RefusedAs (SpaceRefusal s) (space_weights s)
  unfolding space_weights
  space_as = then_refused (SpaceRefusal s) (checked s) weights checked_as later
    where
      later : (l : Space) → checked s ≡ answer l → RefusedAs (SpaceRefusal s) (weights l)
      later l e = let c = checked_inverts s e in subst (λ r. RefusedAs (SpaceRefusal s) (weights r)) c.0 (weights_as c.1)

-- the two weight buffers, before the rest
pub long_as : {A : Type 0} (P : ℕ → ℕ → Type 0) (num_length den_length : ℕ) (rest : Outcome A) → ((i : ℕ) → i < 2 → P 1 i) → RefusedAs P rest → RefusedAs P (long_enough num_length den_length rest)
long_as P num_length den_length rest h k = cond_as P (ltb num_length table_cells) (refuse 1 0) _ (refuse_as P 1 0 (small (P 1) 0 (omega arith) (h 0 (omega arith))))
    (cond_as P (ltb den_length table_cells) (refuse 1 1) rest (refuse_as P 1 1 (small (P 1) 1 (omega arith) (h 1 (omega arith)))) k)

-- ---- none is 0

pub space-above : {s : Space} {code place : ℕ} → SpaceRefusal s code place → 0 < code
space-above lengths = omega arith
space-above (at_breakpoint i h) = omega arith
space-above (at_degree i h) = omega arith
space-above (at_order i h) = omega arith
space-above (at_part i h) = omega arith
space-above (at_fraction i h) = omega arith

build_above : {s : Space} {code place : ℕ} → BuildRefusal s code place → 0 < code
build_above (short_buffer i h) = omega arith
build_above (of_space r) = space-above r

pub curve_above : {s : Space} {coefs positions : List ℤ} {code place : ℕ} → CurveRefusal s coefs positions code place → 0 < code
curve_above (short_buffer i h) = omega arith
curve_above (of_space r) = space-above r
curve_above many_positions = omega arith
curve_above coefficient_count = omega arith
curve_above (at_coefficient i h) = omega arith
curve_above (at_position i h) = omega arith

indices_above : {s : Space} {coefs : List ℤ} {first_ring : ℤ} {widths : List ℤ} {code place : ℕ} → IndicesRefusal s coefs first_ring widths code place → 0 < code
indices_above (of_curve r) = curve_above r
indices_above short_indices = omega arith
indices_above (at_ring i h) = omega arith

recovery_above : {s : Space} {ordinates : List ℤ} {code place : ℕ} → RecoveryRefusal s ordinates code place → 0 < code
recovery_above (short_weights i h) = omega arith
recovery_above (short_answers i h l) = omega arith
recovery_above (of_space r) = space-above r
recovery_above ordinate_count = omega arith
recovery_above (at_ordinate i h) = omega arith
recovery_above (unmet i h) = omega arith
recovery_above (undone_too_large i h) = omega arith

-- ---- building

pub build_numbers : BuildNumbers
unfolding built
build_numbers s num den code place e = let r = with_as P (λ _. row_count s) (built s (length num) (length den)) go code place e in (r, build_above r)
  where
    P : ℕ → ℕ → Type 0
    P = BuildRefusal s

    go : RefusedAs P (long_enough (length num) (length den) (space_weights s))
    go = long_as P (length num) (length den) (space_weights s) (λ i h. short_buffer i h) (more_as (SpaceRefusal s) P (space_weights s) (λ c p r. of_space r) (space_as s))

-- ---- the curve call

module _ (s : Space) (coefs positions : List ℤ) where
  abbrev C : ℕ → ℕ → Type 0
  C = CurveRefusal s coefs positions

  of_space_lem : {A : Type 0} (o : Outcome A) → RefusedAs (SpaceRefusal s) o → RefusedAs C o
  of_space_lem o h = more_as (SpaceRefusal s) C o (λ c p r. of_space r) h

  entries_as : (l : Space) → RefusedAs C (legal_entries l coefs positions (answer l))
  entries_as l = cond_as C (eqb (length coefs) (2 * row_count l)) _ (refuse 6 largest_place)
      (first_as C 6 (length coefs) (bad_coefficient coefs) _ (λ i h. at_coefficient i h)
      (first_as C 7 (length positions) (bad_position l positions) (answer l) (λ i h. at_position i h) (answer_refused C l)))
      (refuse_as C 6 largest_place (small (C 6) largest_place (omega arith) coefficient_count))

  listed_curve : RefusedAs C (curve_checked s coefs positions)
  unfolding curve_checked
  listed_curve = cond_as C (lengths_fit s) _ (refuse 2 0)
      (cond_as C (ltb position_limit (length positions)) (refuse 2 1) _ (refuse_as C 2 1 (small (C 2) 1 (omega arith) many_positions))
      (then_refused C (checked_entries s) (λ legal. legal_entries legal coefs positions (answer legal)) (of_space_lem (checked_entries s) (listed_as s)) (λ l e. entries_as l)))
      (of_space_lem (refuse 2 0) (lengths_as s))

  pub curve_as : (num_length den_length values_length : ℕ) → RefusedAs C (curve_outcome s coefs positions num_length den_length values_length)
  unfolding curve_outcome curve_read
  curve_as num_length den_length values_length =
      long_as C num_length den_length _ (λ i h. short_buffer i (omega arith))
      (cond_as C (ltb (values_length / 2) (length positions)) (refuse 1 2) _ (refuse_as C 1 2 (small (C 1) 2 (omega arith) (short_buffer 2 (omega arith))))
      (then_refused C (curve_checked s coefs positions) (curve_read coefs positions) listed_curve read))
    where
      read : (l : Space) → curve_checked s coefs positions ≡ answer l → RefusedAs C (curve_read coefs positions l)
      read l e = let c = checks-passed s coefs positions e in subst (λ r. RefusedAs C (curve_read coefs positions r)) c.1
          (with_as C (λ t. record { table = t; values = values s t coefs positions }) (weights s) (of_space_lem (weights s) (weights_as s (checked_inverts s c.0.space).1)))

pub curve_numbers : CurveNumbers
curve_numbers s coefs positions num den values code place e =
    let r = with_as (CurveRefusal s coefs positions) (λ r. length r.values) _ (curve_as s coefs positions (length num) (length den) (length values)) code place e in (r, curve_above r)

-- ---- the index calls

module _ (wood : Wood) (s : Space) (coefs : List ℤ) (first_ring : ℤ) (widths : List ℤ) where
  abbrev I : ℕ → ℕ → Type 0
  I = IndicesRefusal s coefs first_ring widths

  abbrev rings : List ℤ
  rings = ring_positions first_ring (length widths)

  read_as : (num_length den_length values_length indices_length : ℕ) → RefusedAs I (rings_read s coefs first_ring widths num_length den_length values_length indices_length)
  unfolding rings_read
  read_as num_length den_length values_length indices_length =
      long_as I num_length den_length _ (λ i h. of_curve (short_buffer i (omega arith)))
      (cond_as I (ltb (values_length / 2) (length rings)) (refuse 1 2) _ (refuse_as I 1 2 (small (I 1) 2 (omega arith) (of_curve (short_buffer 2 (omega arith)))))
      (cond_as I (ltb indices_length (length widths)) (refuse 1 3) _ (refuse_as I 1 3 (small (I 1) 3 (omega arith) short_indices))
      (more_as (CurveRefusal s coefs rings) I (curve_outcome s coefs rings num_length den_length values_length) (λ c p r. of_curve r) (curve_as s coefs rings num_length den_length values_length))))

  rings_as : (r : CurveResult) → RefusedAs I (rings_indexed wood widths r)
  unfolding rings_indexed
  rings_as r = first_as I 14 (length widths) (bad_ring wood widths r.values) (answer (ring_indices wood widths r.values)) (λ i h. at_ring i h) (answer_refused I _)

  returned_as : (o : Outcome (List ℤ)) → RefusedAs I o → RefusedAs I (indices_returned o)
  returned_as (answer zs) h = answer_refused I (length zs)
  returned_as (refusal code place) h = λ c p e. h c p (let x : code ≡ c = cc in let y : place ≡ p = cc in cc)

pub indices_numbers : IndicesNumbers
indices_numbers c code place e =
    let r = returned_as c.wood c.space c.coefs c.first_ring c.widths _
    (then_refused (I c.wood c.space c.coefs c.first_ring c.widths) _ (rings_indexed c.wood c.widths)
    (read_as c.wood c.space c.coefs c.first_ring c.widths (length c.num) (length c.den) (length c.values) (length c.indices))
    (λ q h. rings_as c.wood c.space c.coefs c.first_ring c.widths q)) code place e in (r, indices_above r)

-- ---- coefficients

module _ (s : Space) (ordinates : List ℤ) where
  abbrev R : ℕ → ℕ → Type 0
  R = RecoveryRefusal s ordinates

  either : (a b : Bool) → (a || b) ≡ true → (a ≡ true) ⊎ (b ≡ true)
  either true b e = inl refl
  either false b e = inr e

  recovered_as : Checked s → RefusedAs R (recovered s ordinates)
  unfolding recovered recover_joins
  recovered_as c code place e = go (found code place e)
    where
      At : ℕ → ℕ → Type 0
      At code place = (j : ℕ) × (j < segments s - 1) × Stops j code place

      found : RefusedAs At (recovered s ordinates)
      found = repeat_refused At (segments s - 1) (λ j. recover_orders s j (condition_count s j)) (record { table = identity (column_count s); coefficients = map int ordinates })
          (λ j r h f code place g. (j, h, orders_stop s j (condition_count s j) r code place g))

      put : (n j : ℕ) → code ≡ n → place ≡ capped j → R n (capped j) → R code place
      put n j z p r = subst (λ k. R k place) (sym z) (subst (R n) (sym p) r)

      undoing : (j : ℕ) → j < segments s - 1 → place ≡ capped j → (eqb code 19 ≡ true) ⊎ (eqb code 20 ≡ true) → R code place
      undoing j h p (inl z) = put 19 j (eqb-true code 19 z) p (unmet j h)
      undoing j h p (inr z) = put 20 j (eqb-true code 20 z) p (undone_too_large j h)

      building : (j : ℕ) → j < segments s - 1 → place ≡ capped j → (eqb code 8 ≡ true) ⊎ (eqb code 9 ≡ true) → R code place
      building j h p (inl z) = put 8 j (eqb-true code 8 z) p (of_space (at_fraction j h))
      building j h p (inr z) = absurd (weights_not_nine s c (eight_and_nine_are_the_builds s ordinates 9 place refl (subst (λ n. recovered s ordinates ≡ refusal n place) (eqb-true code 9 z) e)))

      go : At code place → R code place
      go (j, h, (z, p)) = outer (either (clears code || eqb code 19) (eqb code 20) z)
        where
          inner : (clears code ≡ true) ⊎ (eqb code 19 ≡ true) → R code place
          inner (inl y) = building j h p (either (eqb code 8) (eqb code 9) y)
          inner (inr y) = undoing j h p (inl y)

          outer : ((clears code || eqb code 19) ≡ true) ⊎ (eqb code 20 ≡ true) → R code place
          outer (inl y) = inner (either (clears code) (eqb code 19) y)
          outer (inr y) = undoing j h p (inr y)

  recovery_as : (num_length den_length coef_num_length coef_den_length : ℕ) → RefusedAs R (recovery_outcome s ordinates num_length den_length coef_num_length coef_den_length)
  unfolding recovery_outcome
  recovery_as num_length den_length coef_num_length coef_den_length =
      long_as R num_length den_length _ (λ i h. short_weights i h)
      (cond_as R (ltb coef_num_length (length ordinates)) (refuse 1 3) _ (refuse_as R 1 3 (small (R 1) 3 (omega arith) (short_answers 3 (omega arith) (omega arith))))
      (cond_as R (ltb coef_den_length (length ordinates)) (refuse 1 4) _ (refuse_as R 1 4 (small (R 1) 4 (omega arith) (short_answers 4 (omega arith) (omega arith))))
      (then_refused R (checked s) (λ legal. legal_ordinates legal ordinates (recovered legal ordinates)) (more_as (SpaceRefusal s) R (checked s) (λ c p r. of_space r) (checked_as s)) later)))
    where
      later : (l : Space) → checked s ≡ answer l → RefusedAs R (legal_ordinates l ordinates (recovered l ordinates))
      later l e = let c = checked_inverts s e in subst (λ r. RefusedAs R (legal_ordinates r ordinates (recovered r ordinates))) c.0
          (cond_as R (eqb (length ordinates) (column_count s)) _ (refuse 18 largest_place)
          (first_as R 18 (length ordinates) (bad_ordinate ordinates) (recovered s ordinates) (λ i h. at_ordinate i h) (recovered_as c.1))
          (refuse_as R 18 largest_place (small (R 18) largest_place (omega arith) ordinate_count)))

pub recovery_numbers : RecoveryNumbers
recovery_numbers s ordinates num den coef_num coef_den code place e =
    let r = with_as (RecoveryRefusal s ordinates) (λ _. row_count s) _ (recovery_as s ordinates (length num) (length den) (length coef_num) (length coef_den)) code place e in (r, recovery_above r)
