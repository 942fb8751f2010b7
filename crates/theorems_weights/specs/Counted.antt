-- Codes 8 and 9 as a list of tests (§ 5): the counted fractions in
-- their order, with the tests of the shape where they stand between them. Here everything is exact arithmetic: nothing
-- is refused while the list is made. The build refuses with the first test of the list that fails, and for no other reason.
use Rattle.std.specs.Prelude.{◌≡◌, ◌⊎◌, Bool, true, false, not, ◌&&◌, List, [], ◌∷◌, ◌++◌, ℕ, zero, suc, ◌+◌, ◌-◌, pos, length, take, drop}
use Rattle.std.proofs.Math.Option.{get_or}
use Rattle.base_exact.specs.Rational.{ℚ, int, ◌+ᵠ◌, ◌*ᵠ◌, ◌-ᵠ◌, ◌/ᵠ◌}
use Rattle.base_exact.specs.Order.{ltᵠ}
use Rattle.base_exact.specs.Tabulate.{tab}
use Rattle.base_fraction.specs.Size.{fits}
use Rattle.base_outcome.specs.Codes as codes
use Rattle.base_outcome.specs.Outcome.{answer, refusal, capped}
use Rattle.base_outcome.specs.Search.{first, last, found}
use Rattle.spec_spline.specs.Space.{Space, segments, column_count, condition_count, checked}
use Rattle.spec_spline.specs.Conditions.{Entry, conditions}
use Rattle.spec_spline.specs.Table.{Row, Table, entry, row, cell, identity}
use Rattle.spec_spline.specs.Step.{jumps_at, zero_between, partial_sum}
use Rattle.spec_spline.specs.Build.{space_weights}
use Rattle.spec_published.specs.Published.{for}
use Rattle.spec_spline.specs.Piecewise.{pairing}

-- A test of a step at a join: a counted fraction, or something of the shape of the jumps.
pub data Test : Type 0 where
  counted : ℕ → ℚ → Test
  shaped : ℕ → Bool → Test

-- A counted fraction passes where it fits.
abbrev pub passes : Test → Bool
passes (counted join q) = fits q
passes (shaped join b) = b

-- The code that a failing test gives.
abbrev pub code_of : Test → ℕ
code_of (counted join q) = codes.tooLarge
code_of (shaped join b) = codes.jumps

-- Its place.
abbrev pub join_of : Test → ℕ
join_of (counted join q) = join
join_of (shaped join b) = join

-- f 0, f 1, .., f (n - 1), one after the other.
unfoldable pub joined : {A : Type 0} → ℕ → (ℕ → List A) → List A
joined zero f = []
joined (suc n) f = joined n f ++ f n

-- ---- one step

-- "each product and each partial sum of each jump" (§ 5), from the sum so far.
unfoldable pub jump_tests : ℕ → Row → ℚ → List Entry → List Test
jump_tests join r s [] = []
jump_tests join r s (e ∷ es) =
    counted join (entry r e.column *ᵠ int e.condition) ∷
    counted join (s +ᵠ entry r e.column *ᵠ int e.condition) ∷
    jump_tests join r (s +ᵠ entry r e.column *ᵠ int e.condition) es

-- The jumps.
unfoldable pub exact_jumps : List Entry → Table → List ℚ
exact_jumps κ t = tab (length t) (λ i. pairing (row t i) κ)

-- f and l, the first and the last row with non-zero jump; 0 if there is none.
unfoldable pub first_jump : List ℚ → ℕ
first_jump js = get_or (first (length js) (jumps_at js)) 0

unfoldable pub last_jump : List ℚ → ℕ
last_jump js = get_or (last (length js) (jumps_at js)) 0

-- Code 9's first test: there is a non-zero jump, and no zero lies between.
unfoldable pub shape_test : ℕ → List ℚ → Test
shape_test join js = shaped join (found (first (length js) (jumps_at js)) && not (zero_between js (first_jump js) (last_jump js)))

-- w = S / jump i.
unfoldable pub quotient : List ℚ → ℕ → ℚ
quotient js i = partial_sum js (first_jump js) i /ᵠ entry js i

-- "S and then w(i), which is tested for 8 before it is tested for 9" (§ 5).
unfoldable pub factor_tests : ℕ → List ℚ → ℕ → List Test
factor_tests join js i =
    counted join (partial_sum js (first_jump js) i) ∷
    counted join (quotient js i) ∷
    shaped join (ltᵠ (int (pos 0)) (quotient js i) && ltᵠ (quotient js i) (int (pos 1))) ∷ []

-- How many rows lie strictly between f and l, and the first of them.
unfoldable pub inner_rows : List ℚ → ℕ
inner_rows js = last_jump js - first_jump js - 1

unfoldable pub inner_row : List ℚ → ℕ → ℕ
inner_row js d = first_jump js + 1 + d

-- w of the rows f to l: 1 at f, 0 at l.
unfoldable pub exact_factors : List ℚ → List ℚ
exact_factors js = int (pos 1) ∷ (tab (inner_rows js) (λ d. quotient js (inner_row js d)) ++ (int (pos 0) ∷ []))

-- "the first product, the second product, the sum" (§ 5) of a new entry.
unfoldable pub entry_tests : ℕ → ℚ → ℚ → ℚ → ℚ → List Test
entry_tests join w v x y =
    counted join (w *ᵠ x) ∷
    counted join ((int (pos 1) -ᵠ v) *ᵠ y) ∷
    counted join (w *ᵠ x +ᵠ (int (pos 1) -ᵠ v) *ᵠ y) ∷ []

-- "for each new entry, rows f to l - 1 rising, columns rising" (§ 5): new row f + d.
unfoldable pub row_tests : ℕ → List ℚ → List ℚ → Table → ℕ → List Test
row_tests join js ws t d = joined (length (row t (first_jump js + d)))
    (λ c. entry_tests join (entry ws d) (entry ws (suc d)) (cell t (first_jump js + d) c) (cell t (first_jump js + suc d) c))

unfoldable pub exact_row : List ℚ → List ℚ → Table → ℕ → Row
exact_row js ws t d = tab (length (row t (first_jump js + d))) (λ c. entry ws d *ᵠ cell t (first_jump js + d) c +ᵠ
    (int (pos 1) -ᵠ entry ws (suc d)) *ᵠ cell t (first_jump js + suc d) c)

-- All tests of a step, in the specification's order.
unfoldable pub step_tests : ℕ → List Entry → Table → List Test
step_tests join κ t =
    let js = exact_jumps κ t in
    joined (length t) (λ i. jump_tests join (row t i) (int (pos 0)) κ) ++
    (shape_test join js ∷
    (joined (inner_rows js) (λ d. factor_tests join js (inner_row js d)) ++
    joined (last_jump js - first_jump js) (row_tests join js (exact_factors js) t)))

-- The table after a step.
unfoldable pub exact_step : List Entry → Table → Table
exact_step κ t =
    let js = exact_jumps κ t in
    take (first_jump js) t ++ (tab (last_jump js - first_jump js) (exact_row js (exact_factors js) t) ++ drop (suc (last_jump js)) t)

-- ---- the whole build

-- The table after the first n orders at join j.
unfoldable pub exact_orders : Space → ℕ → ℕ → Table → Table
exact_orders s j n t = for n (λ k. exact_step (conditions s j k)) t

-- The table after the first n joins.
unfoldable pub exact_joins : Space → ℕ → Table
exact_joins s n = for n (λ j. exact_orders s j (condition_count s j)) (identity (column_count s))

-- All tests of the build: joins from the left, and at each the orders from 0.
unfoldable pub build_tests : Space → List Test
build_tests s = joined (segments s - 1) (λ j. joined (condition_count s j)
    (λ k. step_tests j (conditions s j k) (exact_orders s j k (exact_joins s j))))

-- The table after all steps.
unfoldable pub exact_weights : Space → Table
exact_weights s = exact_joins s (segments s - 1)

-- ---- the statements

-- All of these pass.
unfoldable pub all_pass : List Test → Bool
all_pass [] = true
all_pass (t ∷ ts) = passes t && all_pass ts

-- The first test that fails has this number and this place.
pub record FirstFailure (tests : List Test) (code place : ℕ) : Type 0 where
  pub before : List Test
  pub failing : Test
  pub after : List Test
  pub parts : tests ≡ before ++ (failing ∷ after)
  pub passed : all_pass before ≡ true
  pub fails : passes failing ≡ false
  pub code_is : code ≡ code_of failing
  pub place_is : place ≡ capped (join_of failing)

-- A space that is refused is refused by one of the codes 2 to 5 and 15, or by the first test of the build that fails.
abbrev pub RefusedByFirstFailure : Type 0
RefusedByFirstFailure = (s : Space) (code place : ℕ) → space_weights s ≡ refusal code place
    → (checked s ≡ refusal code place) ⊎ ((checked s ≡ answer s) × FirstFailure (build_tests s) code place)

-- And where a test of a legal space fails, the first one refuses it.
abbrev pub FirstFailureRefuses : Type 0
FirstFailureRefuses = (s : Space) (code place : ℕ) → checked s ≡ answer s → FirstFailure (build_tests s) code place
    → space_weights s ≡ refusal code place

-- A legal space whose tests all pass is accepted.
abbrev pub PassingIsAccepted : Type 0
PassingIsAccepted = (s : Space) → checked s ≡ answer s → all_pass (build_tests s) ≡ true → space_weights s ≡ answer (exact_weights s)

-- A counted fraction of the build is too large, and all tests before it pass.
pub record FirstTooLarge (s : Space) (place : ℕ) : Type 0 where
  pub before : List Test
  pub join : ℕ
  pub fraction : ℚ
  pub after : List Test
  pub parts : build_tests s ≡ before ++ (counted join fraction ∷ after)
  pub passed : all_pass before ≡ true
  pub too_large : fits fraction ≡ false
  pub place_is : place ≡ capped join

-- "Number 8 comes for the first counted fraction whose numerator's size or denominator, in lowest terms, is 2^31 or more, and for
-- no other reason, with the join as its place." (§ 5)
abbrev pub EightIsFirstTooLarge : Type 0
EightIsFirstTooLarge = (s : Space) (place : ℕ) → space_weights s ≡ refusal codes.tooLarge place → FirstTooLarge s place

-- A test of the shape fails, and all tests before it pass.
pub record FirstMisshapen (s : Space) (place : ℕ) : Type 0 where
  pub before : List Test
  pub join : ℕ
  pub after : List Test
  pub parts : build_tests s ≡ before ++ (shaped join false ∷ after)
  pub passed : all_pass before ≡ true
  pub place_is : place ≡ capped join

-- Code 9 comes where the jumps lack the needed shape, and for no other reason.
abbrev pub NineIsFirstMisshapen : Type 0
NineIsFirstMisshapen = (s : Space) (place : ℕ) → space_weights s ≡ refusal codes.jumps place → FirstMisshapen s place
