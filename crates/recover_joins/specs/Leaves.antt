-- The machine's form of the coefficients of the rows, and what the steps ask and leave.
use Rattle.std.specs.Prelude.{Result, Ok, Err, List, ◌++◌, map, ℕ, suc, ◌+◌, ℤ, take, drop}
use Rattle.base_exact.specs.Rational.{ℚ, int}
use Rattle.base_fraction.specs.Fractions.{fractions}
use Rattle.base_outcome.specs.Outcome.{Outcome, answer, refusal, with_answer}
use Rattle.spec_spline.specs.Space.{Space, degree, first_column}
use Rattle.build_cells.specs.Left.{Left}
use Rattle.build_joins.specs.Leaves.{grown}
use Rattle.base_outcome.specs.Machine.{refused}
use Rattle.base_outcome.specs.declared.Refusal.{Refusal}
use Rattle.base_fraction.specs.declared.arrays.Fractions.{Fractions}
use Rattle.spec_calls.specs.Recovery.{Combination}
use Rattle.recover_joins.specs.declared.Joined.{Joined}

-- The coefficients, or the refusal's code.
abbrev pub coefficients_of : Outcome (List ℚ) → Result Fractions ℕ
coefficients_of (answer cs) = Ok (fractions cs)
coefficients_of (refusal code place) = Err code

-- The table with the identity's rows for the segment on the right of join j, and that segment's ordinates as the coefficients of these
-- rows.
abbrev pub grown_combination : Space → ℕ → ℕ → List ℤ → Combination → Combination
grown_combination s j columns ordinates r = record {
  table = grown s j columns r.table;
  coefficients = r.coefficients ++ map int (take (degree s (suc j) + 1) (drop (first_column s (suc j)) ordinates));
}

-- What a step leaves, and what all steps at a join leave: the coefficients are told.
abbrev pub told_coefficients : Outcome Combination → Result Fractions ℕ
told_coefficients o = coefficients_of (with_answer (λ r. r.coefficients) o)

abbrev pub Leaves : Outcome Combination → Result Fractions ℕ → List ℤ → List ℤ → List ℤ → List ℤ → Type 0
Leaves o r num den num' den' = Left (λ q. q.table) told_coefficients o r num den num' den'

-- What the joins leave: the n rows are counted and their coefficients told, or the refusal.
abbrev pub told_joins : ℕ → Outcome Combination → Result Joined Refusal
told_joins n (answer r) = Ok (record { rows = n; of = fractions r.coefficients })
told_joins n (refusal code place) = Err (refused code place)

abbrev pub JoinsLeave : Outcome Combination → ℕ → Result Joined Refusal → List ℤ → List ℤ → List ℤ → List ℤ → Type 0
JoinsLeave o n r num den num' den' = Left (λ q. q.table) (told_joins n) o r num den num' den'
