-- Minimal support with numbers: on W1's space the curve with the ordinates 0, 3, 2, 2, 0, 0 lives on the columns of row 1, and is 3 times that row.
use mathlib.Core.Path.{◌≡◌, refl, sym, ◌∙◌, ap, subst}
use mathlib.Core.List.{[], ◌∷◌}
use Prim.Native.Nat.{ℕ, zero, suc, ◌<◌}
use native.Mathlib.Omega.{arith}
use lib.IntN.{pos, nat_abs}
use Rattle.base_exact.specs.Gcd.{gcd, gcd_f}
use Rattle.base_exact.specs.Rational.{ℚ, mk, int, ◌+ᵠ◌, ◌*ᵠ◌, ◌//◌}
use Rattle.base_exact.specs.Sum.{sum}
use Rattle.base_exact.specs.Tabulate.{tab}
use Rattle.base_exact.proofs.Rational.{mul-one, zero_num}
use Rattle.spec_spline.specs.Space.{column_count, first_column, conditions_before}
use Rattle.spec_spline.specs.Table.{Row, cell}
use Rattle.spec_spline.specs.Piecewise.{MeetsAll, combination}
use Rattle.spec_spline.specs.Cases.{space1}
use Rattle.theorems_weights.proofs.Instances.{q0, q1}
use Rattle.theorems_weights.proofs.PublishedBasis.{combinations_meet_conditions}
use Rattle.theorems_values.proofs.Instances.{table1, accepted1}
use Rattle.theorems_minimal.specs.Minimal.{LivesOn, Multiple}
use Rattle.theorems_minimal.proofs.Minimal.{rows_are_minimal}

abbrev tripled : Row
tripled = q0 ∷ int (pos 3) ∷ int (pos 2) ∷ int (pos 2) ∷ q0 ∷ q0 ∷ []

is_combination : combination 6 (q0 ∷ int (pos 3) ∷ q0 ∷ q0 ∷ []) table1 ≡ tripled
unfolding gcd gcd_f mk int ◌+ᵠ◌ ◌*ᵠ◌ ◌//◌ sum tab combination
is_combination = refl

meets : MeetsAll space1 tripled
unfolding accepted1 first_column
meets = subst (MeetsAll space1) is_combination (combinations_meet_conditions space1 accepted1 (q0 ∷ int (pos 3) ∷ q0 ∷ q0 ∷ []))

nonzero : {A : Type 0} (q : ℚ) (n : ℕ) → nat_abs q.num ≡ suc n → q ≡ int (pos 0) → A
nonzero q n e z = let y = ap nat_abs (zero_num z) in absurd (omega arith)

lives : LivesOn space1 table1 1 tripled
unfolding first_column int mk gcd gcd_f ◌//◌
lives zero h e = refl
lives (suc zero) h e = nonzero (cell table1 1 1) 0 refl e
lives (suc (suc zero)) h e = nonzero (cell table1 1 2) 1 refl e
lives (suc (suc (suc zero))) h e = nonzero (cell table1 1 3) 1 refl e
lives (suc (suc (suc (suc zero)))) h e = refl
lives (suc (suc (suc (suc (suc zero))))) h e = refl
lives (suc (suc (suc (suc (suc (suc c)))))) h e = absurd (omega arith)

is_multiple : Multiple space1 table1 1 tripled
unfolding accepted1 first_column conditions_before
is_multiple = rows_are_minimal space1 accepted1 1 (omega arith) tripled meets lives

three : is_multiple.factor ≡ int (pos 3)
unfolding first_column
three = sym (mul-one is_multiple.factor) ∙ sym (is_multiple.is 1 (omega arith))
