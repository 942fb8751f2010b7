-- The call that recovers coefficients (§ 12): what it ends with, and what its four lent buffers hold afterwards.
use Rattle.std.specs.Prelude.{Bool, cond, not, ◌||◌, List, [], ◌++◌, ℕ, eqb, ltb, ℤ, pos, neg_ℤ, length, get_or, drop}
use Rattle.base_exact.specs.Rational.{ℚ, den}
use Rattle.base_exact.specs.Tabulate.{tab}
use Rattle.base_outcome.specs.Codes as codes
use Rattle.base_outcome.specs.Outcome.{Outcome, answer, refusal, refuse, largest_place, ◌then◌, with_answer}
use Rattle.base_outcome.specs.Search.{first}
use Rattle.spec_spline.specs.Space.{Space, checked, column_count, row_count}
use Rattle.base_outcome.specs.Tests.{between, refuse_first}
use Rattle.spec_spline.specs.Table.{Table, entry, numerators, denominators}
use Rattle.spec_spline.specs.Build.{long_enough, last_part, clears}
use Rattle.spec_calls.specs.Recovery.{Combination, recovered}

-- "from -256,000,000 to 256,000,000, in 256ths of a thousandth" (§ 12).
abbrev pub ordinate_limit : ℕ
ordinate_limit = 256000000

-- Code 18: entry i is out of range.
unfoldable pub bad_ordinate : List ℤ → ℕ → Bool
bad_ordinate ordinates i = not (between (neg_ℤ (pos ordinate_limit)) (pos ordinate_limit) (get_or ordinates i (pos 0)))

-- Code 18, or the value given: "the count of ordinates is not that of the columns, tested first; the first ordinate out of range"
-- (§ 3). The count has the largest place.
abbrev pub legal_ordinates : {A : Type 0} → Space → List ℤ → Outcome A → Outcome A
legal_ordinates s ordinates rest =
    cond (eqb (length ordinates) (column_count s))
    (refuse_first codes.ordinate (first (length ordinates) (bad_ordinate ordinates)) rest)
    (refuse codes.ordinate largest_place)

-- Code 1, or the value given: "places 0, 1, 3, 4; 3 and 4 compare with the count of ordinates as given" (§ 12).
abbrev pub all_long_enough : {A : Type 0} → List ℤ → ℕ → ℕ → ℕ → ℕ → Outcome A → Outcome A
all_long_enough ordinates num_length den_length coef_num_length coef_den_length rest =
    long_enough num_length den_length
    (cond (ltb coef_num_length (length ordinates)) (refuse codes.short_buffer 3)
    (cond (ltb coef_den_length (length ordinates)) (refuse codes.short_buffer 4) rest))

-- What the call ends with, given the lengths of the four buffers.
unfoldable pub recovery_outcome : Space → List ℤ → ℕ → ℕ → ℕ → ℕ → Outcome Combination
recovery_outcome s ordinates num_length den_length coef_num_length coef_den_length =
    all_long_enough ordinates num_length den_length coef_num_length coef_den_length
    (checked s then λ legal. legal_ordinates legal ordinates (recovered legal ordinates))

-- "After 8, 9, 19 and 20 the 5,184 cells of both weight buffers are 0/1" (§ 3).
abbrev pub clears_all : ℕ → Bool
clears_all code = clears code || eqb code codes.no_coefficients || eqb code codes.too_large_to_undo

-- A weight buffer after the call: the last part's weights as `laid` lays a table in it, cleared, or as it was.
abbrev pub weights_after : (Table → List ℤ → List ℤ) → Space → Outcome Combination → List ℤ → List ℤ
weights_after laid s (answer r) before = laid (last_part s r.table) before
weights_after laid s (refusal code place) before = cond (clears_all code) (laid [] before) before

-- Fractions as one of their parts, from the first cell on: n cells in all, past the fractions those of 0/1, later ones as before.
abbrev pub listed : (ℚ → ℤ) → ℕ → List ℚ → List ℤ → List ℤ
listed part n qs before = tab n (λ k. part (entry qs k)) ++ drop n before

-- An answer buffer after the call with n ordinates: "The n present numbers that are left fill the first n cells; cells from n up to
-- the count of ordinates become 0/1; later cells stay." (§ 12)
abbrev pub answers_after : (ℚ → ℤ) → ℕ → Outcome Combination → List ℤ → List ℤ
answers_after part n (answer r) before = listed part n r.coefficients before
answers_after part n (refusal code place) before = cond (clears_all code) (listed part n [] before) before

-- The numerator and the denominator of a fraction, as the cells hold them.
abbrev pub numerator_of : ℚ → ℤ
numerator_of q = q.num

abbrev pub denominator_of : ℚ → ℤ
denominator_of q = pos (den q)

-- What the call ends with: the answer, "The answer is n." (§ 12), and all four lent buffers.
pub record RecoveryEnd : Type 0 where
  pub answers : Outcome ℕ
  pub numerators : List ℤ
  pub denominators : List ℤ
  pub coefficient_numerators : List ℤ
  pub coefficient_denominators : List ℤ

-- The end of the call with these lists and these four buffers lent.
abbrev pub recovery_end : Space → List ℤ → List ℤ → List ℤ → List ℤ → List ℤ → RecoveryEnd
recovery_end s ordinates num den coef_num coef_den =
    let o = recovery_outcome s ordinates (length num) (length den) (length coef_num) (length coef_den) in
    record {
      answers = with_answer (λ _. row_count s) o;
      numerators = weights_after numerators s o num;
      denominators = weights_after denominators s o den;
      coefficient_numerators = answers_after numerator_of (length ordinates) o coef_num;
      coefficient_denominators = answers_after denominator_of (length ordinates) o coef_den;
    }
