-- What the machine's answers tell of the definitions, for the step that asked: that jumps with a span are as the factors
-- ask, and the names of the two numbers.
use mathlib.Core.Path.{◌≡◌, sym, ◌∙◌, ap}
use mathlib.Core.Logic.{◌⊎◌, inl, inr}
use mathlib.Core.Bool.{cond}
use mathlib.Core.List.{List}
use Prim.Native.Nat.{ℕ, ◌≤◌}
use native.Mathlib.Omega.{arith}
use lib.Dec.{eqb}
use lib.ListN.{length}
use Rattle.base_exact.specs.Rational.{ℚ}
use Rattle.base_exact.proofs.Order.{nonzero_test}
use Rattle.base_outcome.specs.Outcome.{answer}
use Rattle.spec_spline.specs.Step.{span}
use Rattle.spec_spline.specs.Table.{row_cells}
use Rattle.spec_spline.proofs.Answers.{span_inverts}
use Rattle.base_fraction.specs.Fractions.{fractions}
use Rattle.base_fraction.specs.declared.arrays.Fractions.{Fractions}
use Rattle.build_factors.specs.Machine.{refusal_of, code_of}
use Rattle.build_factors.specs.Jumps.{AllFit, Spanned}
use Rattle.build_factors.specs.declared.StepRefusal.TheVariants as refusals

-- Jumps that fit and whose span is answered: what the factors ask.
pub spanned : (j : ℕ) (qs : List ℚ) {js : Fractions} {f l : ℕ} → js ≡ fractions qs → AllFit qs → length qs ≤ row_cells
    → span j qs ≡ answer (record { f = f; l = l }) → Spanned js f l
spanned j qs is fit room e =
    let s = span_inverts j qs e in
    record {
      of = qs;
      is = is;
      fit = fit;
      order = s.ordered;
      within = omega (arith, s.below, room);
      jump =
          λ i h k. nonzero_test (s.inside i h k);
    }

-- ---- the names of the two numbers

pub eight_named : {code : ℕ} → code ≡ 8 → refusal_of code ≡ refusals.TooLarge
unfolding refusal_of
eight_named e = ap (λ n. cond (eqb n 8) refusals.TooLarge refusals.Shape) e

pub nine_named : {code : ℕ} → code ≡ 9 → refusal_of code ≡ refusals.Shape
unfolding refusal_of
nine_named e = ap (λ n. cond (eqb n 8) refusals.TooLarge refusals.Shape) e

-- the name of 8 or 9 stands for that number
pub code_named : {code : ℕ} → (code ≡ 8) ⊎ (code ≡ 9) → code_of (refusal_of code) ≡ code
code_named (inl e) = ap code_of (eight_named e) ∙ sym e
code_named (inr e) = ap code_of (nine_named e) ∙ sym e
