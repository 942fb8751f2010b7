-- What a coefficient touches, with numbers. On the third segment of the beam with breaks 0,1,2,4, degrees 1,2,3 and orders -1,1 the rows 3 to 6 act, since
-- 1 - (-1) + 2 - 1 = 3 rows come before it; row 4 acts on the second segment too, one behind r + 1 = 2. With the
-- latewood 9, 7, 7, 5, 3, 1, 0 the value at the first breakpoint is 256·9, on the discontinuity 256·7, at the end 0; and row 6 changed from 0 to 8
-- leaves 1625 at 300.
use mathlib.Core.Path.{◌≡◌, refl, sym, ◌∙◌, subst}
use mathlib.Core.Logic.{◌≢◌, inr}
use mathlib.Core.Bool.{true, not}
use mathlib.Core.List.{List, [], ◌∷◌}
use mathlib.Core.Option.{none}
use Prim.Native.Nat.{ℕ, zero, suc, ◌+◌, ◌<◌, ◌≤◌}
use native.Mathlib.Omega.{arith}
use lib.Dec.{T}
use lib.IntN.{ℤ, pos}
use lib.ListN.{length, get_or}
use Rattle.base_outcome.specs.Search.{first, last}
use Rattle.base_outcome.proofs.Search.{first-none_inverts}
use Rattle.spec_spline.specs.Space.{starts_part, part_end, first_column, conditions_before}
use Rattle.spec_spline.specs.Reading.{starts_at_discontinuity, starts_by, segment_at, latewood, side_by_side, coefficient, value_at}
use Rattle.spec_spline.specs.CurveCall.{bad_coefficient, bad_position, curve_outcome, values_after}
use Rattle.spec_spline.specs.ExactCurve.{weighs_on, Legal}
use Rattle.spec_spline.specs.Cases.{pair}
use Rattle.spec_spline.proofs.Computing.{reading}
use Rattle.theorems_weights.proofs.Instances.{beam, beam_table, accepted_beam}
use Rattle.theorems_beams.specs.Parts.{Starts}
use Rattle.theorems_support.specs.Support.{ActsOn}
use Rattle.theorems_support.proofs.Support.{rows_that_act, rows_reach, four_segments_at_most, others_do_not_count, one_coefficient_acts_here, other_cells_stay}
use Rattle.theorems_support.proofs.Ends.{first-value_is_the_first-coefficient, last-value_is_the_last-coefficient}

abbrev coefs : List ℤ
coefs = side_by_side (pair (pos 0) (pos 9) ∷ pair (pos 0) (pos 7) ∷ pair (pos 0) (pos 7) ∷ pair (pos 0) (pos 5) ∷ pair (pos 0) (pos 3) ∷ pair (pos 0) (pos 1) ∷ pair (pos 0) (pos 0) ∷ [])

-- row 6 changed
abbrev changed : List ℤ
changed = side_by_side (pair (pos 0) (pos 9) ∷ pair (pos 0) (pos 7) ∷ pair (pos 0) (pos 7) ∷ pair (pos 0) (pos 5) ∷ pair (pos 0) (pos 3) ∷ pair (pos 0) (pos 1) ∷ pair (pos 0) (pos 8) ∷ [])

-- ---- rows

acts : ActsOn beam 2 6
unfolding first_column conditions_before
acts = record { from = omega arith; to = omega arith }

weighs : weighs_on beam beam_table 2 6 ≡ true
unfolding accepted_beam
weighs = (rows_that_act beam accepted_beam 2 6 (omega arith)).1 acts

first_acts : ActsOn beam 2 3
unfolding first_column conditions_before
first_acts = record { from = omega arith; to = omega arith }

-- row 2 does not act there
outside : ActsOn beam 2 2 → ⊥
unfolding first_column conditions_before
outside A = omega (arith, A.from)

-- row 4 acts on segments 1 and 2, and 2 ≤ 1 + 2
both : (weighs_on beam beam_table 1 4 ≡ true) × (weighs_on beam beam_table 2 4 ≡ true)
unfolding accepted_beam first_column conditions_before
both = (
  (rows_that_act beam accepted_beam 1 4 (omega arith)).1 (record { from = omega arith; to = omega arith }),
  (rows_that_act beam accepted_beam 2 4 (omega arith)).1
      (record { from = omega arith; to = omega arith }),
)

reaches : 2 ≤ 1 + 2
unfolding accepted_beam
reaches = rows_reach beam accepted_beam 1 2 4 (omega arith) (omega arith) both.0 both.1

four : 2 ≤ 1 + 3
unfolding accepted_beam
four = four_segments_at_most beam accepted_beam 1 2 4 (omega arith) (omega arith) both.0 both.1

-- ---- one coefficient changed

other_rows : (i : ℕ) → i < 7 → i ≢ 6 → coefficient latewood coefs i ≡ coefficient latewood changed i
unfolding side_by_side
other_rows zero h n = refl
other_rows (suc zero) h n = refl
other_rows (suc (suc zero)) h n = refl
other_rows (suc (suc (suc zero))) h n = refl
other_rows (suc (suc (suc (suc zero)))) h n = refl
other_rows (suc (suc (suc (suc (suc zero))))) h n = refl
other_rows (suc (suc (suc (suc (suc (suc zero)))))) h n = absurd (n refl)
other_rows (suc (suc (suc (suc (suc (suc (suc i))))))) h n = absurd (omega arith)

value : value_at beam beam_table latewood coefs (pos 300) ≡ pos 1625
unfolding reading
value = refl

stays : value_at beam beam_table latewood changed (pos 300) ≡ pos 1625
unfolding accepted_beam first_column conditions_before last starts_at_discontinuity starts_by segment_at
stays = sym (one_coefficient_acts_here beam accepted_beam latewood coefs changed 6 other_rows (pos 300) tt (inr (omega arith))) ∙ value

agree : (i : ℕ) → i < 7 → ActsOn beam (segment_at beam (pos 300)) i → coefficient latewood coefs i ≡ coefficient latewood changed i
unfolding first_column conditions_before last starts_at_discontinuity starts_by segment_at
agree i h A = other_rows i h (λ z. omega (arith, A.to))

stays_too : value_at beam beam_table latewood coefs (pos 300) ≡ value_at beam beam_table latewood changed (pos 300)
unfolding accepted_beam first_column conditions_before
stays_too = others_do_not_count beam accepted_beam latewood latewood coefs changed (pos 300) tt agree

-- on its own segment it acts: the value at the end is 8 times 256
moves : (value_at beam beam_table latewood coefs (pos 1024) ≡ pos 0) × (value_at beam beam_table latewood changed (pos 1024) ≡ pos 2048)
unfolding reading
moves = (refl, refl)

-- ---- the cells after two calls

-- a list of which no number is found out of range
within : (zs : List ℤ) → first (length zs) (bad_coefficient zs) ≡ none → (i : ℕ) → i < length zs → T (not (bad_coefficient zs i))
within zs e i h = subst (λ b. T (not b)) (sym (first-none_inverts (bad_coefficient zs) (length zs) e i h)) tt

legal : (zs : List ℤ) → length zs ≡ 14 → first (length zs) (bad_coefficient zs) ≡ none → Legal beam zs (pos 300 ∷ []) 5184 5184 2
unfolding first_column conditions_before bad_position
legal zs e fit = record {
  accepted = accepted_beam;
  coefficient_count = e;
  coefficients = within zs fit;
  position_count = omega arith;
  in_span = inside;
  numerators = omega arith;
  denominators = omega arith;
  values = omega arith;
}
  where
    inside : (i : ℕ) → i < 1 → T (not (bad_position beam (pos 300 ∷ []) i))
    inside zero h = tt
    inside (suc i) h = absurd (omega arith)

abbrev cells : List ℤ → List ℤ
cells zs = values_after (curve_outcome beam zs (pos 300 ∷ []) 5184 5184 2) (pos 0 ∷ pos 0 ∷ [])

cell_stays : get_or (cells coefs) 1 (pos 0) ≡ get_or (cells changed) 1 (pos 0)
unfolding side_by_side first bad_coefficient first_column conditions_before last starts_at_discontinuity starts_by segment_at
cell_stays = other_cells_stay beam coefs changed (pos 300 ∷ []) 5184 5184 2 (legal coefs refl refl) (legal changed refl refl) _ _ latewood 6 other_rows 0 (omega arith) (inr (omega arith))

-- ---- the ends

at_first : value_at beam beam_table latewood coefs (pos 0) ≡ pos 2304
unfolding accepted_beam side_by_side
at_first = first-value_is_the_first-coefficient beam accepted_beam latewood coefs

first-starts : Starts beam 0
unfolding starts_part
first-starts = record { below = omega arith; starts = refl }

second-starts : Starts beam 1
unfolding starts_part
second-starts = record { below = omega arith; starts = refl }

at_discontinuity : value_at beam beam_table latewood coefs (pos 256) ≡ pos 1792
unfolding accepted_beam starts_part part_end first first_column conditions_before side_by_side
at_discontinuity = last-value_is_the_last-coefficient beam accepted_beam 0 first-starts latewood coefs

at_last : value_at beam beam_table latewood coefs (pos 1024) ≡ pos 0
unfolding accepted_beam starts_part part_end first first_column conditions_before side_by_side
at_last = last-value_is_the_last-coefficient beam accepted_beam 1 second-starts latewood coefs
