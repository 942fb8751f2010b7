-- What the machine's answer tells of the definitions, for the step that asked: the jumps.
use mathlib.Core.Path.{◌≡◌, refl}
use mathlib.Core.List.{List}
use Prim.Native.Nat.{ℕ}
use native.Mathlib.Omega.{arith}
use Rattle.std.specs.Prelude.{Some, None}
use Rattle.base_exact.specs.Rational.{ℚ}
use Rattle.base_outcome.specs.Outcome.{Outcome, answer, refusal}
use Rattle.base_fraction.specs.Fractions.{fractions}
use Rattle.build_jumps.specs.Machine.{row_jumps}
use Rattle.base_fraction.specs.declared.arrays.Fractions.{Fractions}
use Rattle.build_counted.proofs.Counted.{Refused}

-- The list that was answered is in the arrays.
pub record InArrays (o : Outcome (List ℚ)) (js : Fractions) : Type 0 where
  pub of : List ℚ
  pub answers : o ≡ answer of
  pub is : js ≡ fractions of

pub jumps_in_arrays : (o : Outcome (List ℚ)) (js : Fractions) → Some js ≡ row_jumps o → InArrays o js
unfolding row_jumps
jumps_in_arrays (answer qs) js e = record { of = qs; answers = refl; is = cc }
jumps_in_arrays (refusal code place) js e = absurd (let z : ◌≡◌ {A = ℕ} 0 1 = cc in omega arith)

pub jumps_refused : (o : Outcome (List ℚ)) → None ≡ row_jumps o → Refused o
unfolding row_jumps
jumps_refused (answer qs) e = absurd (let z : ◌≡◌ {A = ℕ} 0 1 = cc in omega arith)
jumps_refused (refusal code place) e = record { code = code; place = place; refuses = refl }
