-- What a call for coefficients answers and leaves in the four lent buffers.
use Rattle.std.specs.Prelude.{Result}
use Rattle.base_outcome.specs.declared.Refusal.{Refusal}
use Rattle.std.specs.Prelude.{List, ◌≡◌, ℕ, ℤ}
use Rattle.base_exact.specs.Rational.{ℚ}
use Rattle.base_outcome.specs.Outcome.{Outcome, with_answer}
use Rattle.spec_spline.specs.Space.{Space, row_count}
use Rattle.spec_spline.specs.Table.{numerators, denominators}
use Rattle.base_outcome.specs.Machine.{reply}
use Rattle.spec_calls.specs.Recovery.{Combination}
use Rattle.spec_calls.specs.RecoveryCall.{listed, weights_after, answers_after, numerator_of, denominator_of}

-- The first n cells of the answer buffers hold these coefficients, and the other cells are as before.
pub record CoefficientsListed (n : ℕ) (ps : List ℚ) (num den num' den' : List ℤ) : Type 0 where
  pub num_is : num' ≡ listed numerator_of n ps num
  pub den_is : den' ≡ listed denominator_of n ps den

-- What a call with n ordinates answers and leaves, by the outcome of the whole beam, of which the weight buffers hold the last part.
pub record BeamEnds (s : Space) (n : ℕ) (o : Outcome Combination) (r : Result ℕ Refusal)
    (num den coef_num coef_den num' den' coef_num' coef_den' : List ℤ) : Type 0 where
  pub answers : reply r ≡ with_answer (λ _. row_count s) o
  pub numerators_are : num' ≡ weights_after numerators s o num
  pub denominators_are : den' ≡ weights_after denominators s o den
  pub coefficient-numerators_are : coef_num' ≡ answers_after numerator_of n o coef_num
  pub coefficient-denominators_are : coef_den' ≡ answers_after denominator_of n o coef_den
