-- The curve call (§ 6): what it ends with, and what the three lent buffers hold afterwards (§ 2, § 3). "The curve call tests 1
-- (places 0, 1, 2), 2, 3, 4, 5, 15, 6, 7, builds (8, 9), writes both values of each position, and answers with the count of
-- positions." (§ 6)
use Rattle.std.specs.Prelude.{Bool, cond, not, List, ◌++◌, ℕ, ◌*◌, ◌/◌, eqb, ltb, ℤ, pos, neg_ℤ, length, get_or, drop}
use Rattle.base_outcome.specs.Codes as codes
use Rattle.base_outcome.specs.Outcome.{Outcome, answer, refusal, refuse, largest_place, ◌then◌, with_answer}
use Rattle.base_outcome.specs.Search.{first}
use Rattle.spec_spline.specs.Space.{Space, segments, break, fitting, checked_entries, row_count}
use Rattle.base_outcome.specs.Tests.{between, refuse_first}
use Rattle.spec_spline.specs.Table.{Table}
use Rattle.spec_spline.specs.Build.{weights, long_enough, last_part, numerators_after, denominators_after}
use Rattle.spec_spline.specs.Reading.{fine, Pair, side_by_side, values}

-- "at most 4,096 signed 32-bit numbers" (§ 1).
abbrev pub position_limit : ℕ
position_limit = 4096

-- "each from -1,000,000 to 1,000,000, in thousandths of a millimetre" (§ 1).
abbrev pub coefficient_limit : ℕ
coefficient_limit = 1000000

-- Code 6: entry i is out of range.
unfoldable pub bad_coefficient : List ℤ → ℕ → Bool
bad_coefficient coefs i = not (between (neg_ℤ (pos coefficient_limit)) (pos coefficient_limit) (get_or coefs i (pos 0)))

-- Code 7: entry i is below 256·x0 or above 256·xm.
unfoldable pub bad_position : Space → List ℤ → ℕ → Bool
bad_position s positions i = not (between (fine (break s 0)) (fine (break s (segments s))) (get_or positions i (pos 0)))

-- Code 1, all three places, or the value given; of the values where "half the buffer's length, rounded down, is less than the count
-- of positions" (§ 3).
abbrev pub all_long_enough : {A : Type 0} → List ℤ → ℕ → ℕ → ℕ → Outcome A → Outcome A
all_long_enough positions num_length den_length values_length rest =
    long_enough num_length den_length
    (cond (ltb (values_length / 2) (length positions)) (refuse codes.short_buffer 2) rest)

-- Codes 6 and 7 of a legal space, or the value given: "the count of coefficients is not 2n; tested first" (§ 3), with the largest
-- place; then the first bad coefficient, "each number of a pair by itself" (§ 3).
abbrev pub legal_entries : {A : Type 0} → Space → List ℤ → List ℤ → Outcome A → Outcome A
legal_entries s coefs positions rest =
    cond (eqb (length coefs) (2 * row_count s))
    (refuse_first codes.coefficient (first (length coefs) (bad_coefficient coefs))
    (refuse_first codes.position (first (length positions) (bad_position s positions))
    rest))
    (refuse codes.coefficient largest_place)

-- The space itself, or the first of the refusals 2 to 5, 15, 6 and 7.
unfoldable pub curve_checked : Space → List ℤ → List ℤ → Outcome Space
curve_checked s coefs positions =
    fitting s
    (cond (ltb position_limit (length positions)) (refuse codes.lengths 1)
    (checked_entries s then λ legal. legal_entries legal coefs positions (answer legal)))

-- What an answered call has worked out: the weights, and a pair of values for each position.
pub record CurveResult : Type 0 where
  pub table : Table
  pub values : List Pair

-- It builds, then gives each position its two values: 8 or 9 from the build, or the result.
unfoldable pub curve_read : List ℤ → List ℤ → Space → Outcome CurveResult
curve_read coefs positions s = with_answer (λ t. record { table = t; values = values s t coefs positions }) (weights s)

-- What the curve call ends with, given the lengths of the three buffers.
unfoldable pub curve_outcome : Space → List ℤ → List ℤ → ℕ → ℕ → ℕ → Outcome CurveResult
curve_outcome s coefs positions num_length den_length values_length =
    all_long_enough positions num_length den_length values_length
    (curve_checked s coefs positions then curve_read coefs positions)

-- It "answers with the count of positions" (§ 6).
abbrev pub returned : Outcome CurveResult → Outcome ℕ
returned o = with_answer (λ r. length r.values) o

-- The table that the weight buffers hold after the call: the last part's, as after building.
abbrev pub held_by : Space → Outcome CurveResult → Outcome Table
held_by s o = with_answer (λ r. last_part s r.table) o

-- The numerators after the call, as after building.
abbrev pub curve_numerators : Space → Outcome CurveResult → List ℤ → List ℤ
curve_numerators s o before = numerators_after (held_by s o) before

-- The denominators after the call, as after building.
abbrev pub curve_denominators : Space → Outcome CurveResult → List ℤ → List ℤ
curve_denominators s o before = denominators_after (held_by s o) before

-- The values' buffer after the call: "two signed 32-bit numbers a position, earlywood first, in list order", and "Cells past twice
-- the count of positions keep what they held." (§ 2) It is unchanged after every refusal (§ 3).
unfoldable pub values_after : Outcome CurveResult → List ℤ → List ℤ
values_after (answer r) before = side_by_side r.values ++ drop (2 * length r.values) before
values_after (refusal code place) before = before

-- What a curve call ends with: the answer and all three lent buffers.
pub record CurveEnd : Type 0 where
  pub answers : Outcome ℕ
  pub numerators : List ℤ
  pub denominators : List ℤ
  pub values : List ℤ

-- The end of the call with these lists and these three buffers lent.
abbrev pub curve_end : Space → List ℤ → List ℤ → List ℤ → List ℤ → List ℤ → CurveEnd
curve_end s coefs positions num den values =
    let o = curve_outcome s coefs positions (length num) (length den) (length values) in
    record {
      answers = returned o;
      numerators = curve_numerators s o num;
      denominators = curve_denominators s o den;
      values = values_after o values;
    }
