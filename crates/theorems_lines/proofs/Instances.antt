-- What is reproduced, with numbers. On the beam with breaks 0,1,2,4, degrees 1,2,3 and orders -1,1 seven latewood coefficients 7 give 1792 = 256·7. On
-- W1's space the line y = x has the ordinates 0, 1/2, 1, 1, 2, 3 and the one list 0, 1/2, 2, 3; its row 1 stands alone on column 1.
use mathlib.Core.Path.{◌≡◌, refl, sym, subst}
use mathlib.Core.Bool.{not}
use mathlib.Core.List.{List, [], ◌∷◌}
use mathlib.Core.Option.{none}
use Prim.Native.Nat.{ℕ, zero, suc, ◌+◌, ◌<◌, ◌≤◌}
use native.Mathlib.Omega.{arith}
use lib.Dec.{T}
use lib.IntN.{ℤ, pos}
use lib.ListN.{length, get_or}
use Rattle.base_exact.specs.Gcd.{gcd, gcd_f}
use Rattle.base_exact.specs.Rational.{ℚ, mk, int, inv, ◌+ᵠ◌, ◌*ᵠ◌, ◌//◌}
use Rattle.base_exact.specs.Sum.{sum}
use Rattle.base_exact.specs.Tabulate.{tab}
use Rattle.base_exact.proofs.Integer.{≤_in}
use Rattle.base_outcome.specs.Search.{first}
use Rattle.base_outcome.proofs.Search.{first-none_inverts}
use Rattle.spec_spline.specs.Space.{segments, degree, first_column, conditions_before}
use Rattle.spec_spline.specs.Table.{Row, entry}
use Rattle.spec_spline.specs.Piecewise.{combination}
use Rattle.spec_published.specs.Published.{extraction}
use Rattle.spec_spline.specs.Reading.{latewood, side_by_side, value_at}
use Rattle.spec_spline.specs.CurveCall.{bad_coefficient, bad_position, curve_outcome, values_after}
use Rattle.spec_spline.specs.ExactCurve.{Legal}
use Rattle.spec_spline.specs.Cases.{pair, space1}
use Rattle.theorems_weights.specs.PublishedBasis.{OneCombination}
use Rattle.theorems_weights.proofs.Instances.{q0, q1, beam, beam_table, accepted_beam, checked1}
use Rattle.theorems_values.proofs.Instances.{table1, accepted1}
use Rattle.theorems_acceptance.specs.Acceptance.{OrdersAtMostOne}
use Rattle.theorems_lines.specs.Equal.{AllEqual}
use Rattle.theorems_lines.specs.Lines.{place_of, Line}
use Rattle.theorems_lines.specs.Ordinates.{OwnColumn}
use Rattle.theorems_lines.proofs.Equal.{equal_coefficients_are_kept, equal-cells}
use Rattle.theorems_lines.proofs.Lines.{lines_have_one_list, accepted-lines_have_one_list}
use Rattle.theorems_lines.proofs.Ordinates.{coefficients_are_ordinates}

-- ---- equal coefficients

abbrev sevens : List ℤ
sevens = side_by_side (pair (pos 0) (pos 7) ∷ pair (pos 1) (pos 7) ∷ pair (pos 2) (pos 7) ∷ pair (pos 3) (pos 7) ∷ pair (pos 4) (pos 7) ∷ pair (pos 5) (pos 7) ∷ pair (pos 6) (pos 7) ∷ [])

all_sevens : AllEqual beam latewood sevens (pos 7)
unfolding first_column conditions_before side_by_side
all_sevens zero h = refl
all_sevens (suc zero) h = refl
all_sevens (suc (suc zero)) h = refl
all_sevens (suc (suc (suc zero))) h = refl
all_sevens (suc (suc (suc (suc zero)))) h = refl
all_sevens (suc (suc (suc (suc (suc zero))))) h = refl
all_sevens (suc (suc (suc (suc (suc (suc zero)))))) h = refl
all_sevens (suc (suc (suc (suc (suc (suc (suc i))))))) h = absurd (omega arith)

constant : value_at beam beam_table latewood sevens (pos 300) ≡ pos 1792
unfolding accepted_beam
constant = equal_coefficients_are_kept beam accepted_beam latewood sevens (pos 7) all_sevens (pos 300) tt

legal : Legal beam sevens (pos 300 ∷ []) 5184 5184 2
unfolding first_column conditions_before first side_by_side bad_coefficient bad_position
legal = record {
  accepted = accepted_beam;
  coefficient_count = refl;
  coefficients = within;
  position_count = omega arith;
  in_span = inside;
  numerators = omega arith;
  denominators = omega arith;
  values = omega arith;
}
  where
    searched : first (length sevens) (bad_coefficient sevens) ≡ none
    searched = refl

    within : (i : ℕ) → i < length sevens → T (not (bad_coefficient sevens i))
    within i h = subst (λ b. T (not b)) (sym (first-none_inverts (bad_coefficient sevens) (length sevens) searched i h)) tt

    inside : (i : ℕ) → i < 1 → T (not (bad_position beam (pos 300 ∷ []) i))
    inside zero h = tt
    inside (suc i) h = absurd (omega arith)

constant_cell : get_or (values_after (curve_outcome beam sevens (pos 300 ∷ []) 5184 5184 2) (pos 0 ∷ pos 0 ∷ [])) 1 (pos 0) ≡ pos 1792
constant_cell = equal-cells beam sevens (pos 300 ∷ []) 5184 5184 2 legal (pos 0 ∷ pos 0 ∷ []) latewood (pos 7) all_sevens 0 (omega arith)

-- ---- a line

abbrev line : Row
line = q0 ∷ pos 1 // 1 ∷ q1 ∷ q1 ∷ int (pos 2) ∷ int (pos 3) ∷ []

is_line : Line space1 (λ j. q0) (λ j. q1) line
unfolding place_of first_column gcd gcd_f mk int inv ◌+ᵠ◌ ◌*ᵠ◌ ◌//◌
is_line = record { columns = refl; ordinates = on; kept = λ j h k. (refl, refl) }
  where
    on : (j t : ℕ) → j < segments space1 → t ≤ degree space1 j → entry line (first_column space1 j + t) ≡ q0 +ᵠ q1 *ᵠ place_of space1 j t
    on zero zero h l = refl
    on zero (suc zero) h l = refl
    on zero (suc (suc zero)) h l = refl
    on zero (suc (suc (suc t))) h l = absurd (omega arith)
    on (suc zero) zero h l = refl
    on (suc zero) (suc zero) h l = refl
    on (suc zero) (suc (suc zero)) h l = refl
    on (suc zero) (suc (suc (suc t))) h l = absurd (omega arith)
    on (suc (suc j)) t h l = absurd (omega arith)

one_list : OneCombination space1 table1 line
unfolding accepted1
one_list = accepted-lines_have_one_list space1 accepted1 (λ j. q0) (λ j. q1) line is_line

published_list : OneCombination space1 (extraction space1) line
published_list = lines_have_one_list space1 checked1 (λ j. q0) (λ j. q1) line is_line

abbrev nodes : List ℚ
nodes = q0 ∷ pos 1 // 1 ∷ int (pos 2) ∷ int (pos 3) ∷ []

reproduces : combination 6 nodes table1 ≡ line
unfolding gcd gcd_f mk int ◌+ᵠ◌ ◌*ᵠ◌ ◌//◌ sum tab combination
reproduces = refl

the_list : one_list.multipliers ≡ nodes
unfolding first_column conditions_before
the_list = sym (one_list.only nodes refl reproduces)

-- ---- coefficients as ordinates

low : OrdersAtMostOne space1
low zero h = ≤_in (pos 1) (pos 1) (omega arith)
low (suc j) h = absurd (omega arith)

own : OwnColumn space1 table1 1
unfolding accepted1 first_column conditions_before
own = coefficients_are_ordinates space1 accepted1 low 1 (omega arith)

own-ordinate : entry (combination 6 nodes table1) own.column ≡ pos 1 // 1
unfolding first_column
own-ordinate = own.is nodes
