-- What rules a refusal out: its code, and good tests of a step, namely code 9 where those of the shape pass, and every refusal where the counted fractions
-- fit too.
use mathlib.Core.Path.{◌≡◌, refl, ap₂, subst}
use mathlib.Core.Bool.{true, false, ◌&&◌}
use mathlib.Core.List.{List}
use Prim.Native.Nat.{ℕ}
use native.Mathlib.Omega.{arith}
use Rattle.base_exact.specs.Rational.{ℚ}
use Rattle.base_exact.proofs.Decide.{true_not_false}
use Rattle.base_fraction.specs.Size.{fits}
use Rattle.base_outcome.specs.Outcome.{Outcome, refusal, refuse}
use Rattle.spec_spline.specs.Conditions.{Entry}
use Rattle.spec_spline.specs.Table.{Table}
use Rattle.spec_spline.specs.Step.{step}
use Rattle.theorems_weights.specs.Counted.{Test, counted, shaped, passes, code_of, step_tests, all_pass, FirstFailure}
use Rattle.theorems_weights.proofs.Counted.{step-refuses}
use Rattle.theorems_stages.proofs.Tests.{Good, Every, nothing, more, every_one}

-- the code of a refusal
pub refused_code : {A : Type 0} (n p : ℕ) {code place : ℕ} → ◌≡◌ {A = Outcome A} (refuse n p) (refusal code place) → code ≡ n
refused_code n p e = cc

good-passes : (Q : ℚ → Type 0) → ((q : ℚ) → Q q → fits q ≡ true) → (x : Test) → Good Q x → passes x ≡ true
good-passes Q small (counted join q) g = small q g
good-passes Q small (shaped join b) g = g

module _ (Q : ℚ → Type 0) (j : ℕ) (κ : List Entry) (t : Table) (G : Every (Good Q) (step_tests j κ t)) where
  failing_good : {code place : ℕ} (F : FirstFailure (step_tests j κ t) code place) → Good Q F.failing
  failing_good F = every_one F.before F.after F.failing (subst (Every (Good Q)) F.parts G)

  pub no_nine : {place : ℕ} → step j κ t ≡ refusal 9 place → ⊥
  no_nine {place} e = let F = step-refuses j κ t e in go F.failing (failing_good F) F.fails F.code_is
    where
      go : (x : Test) → Good Q x → passes x ≡ false → 9 ≡ code_of x → ⊥
      go (counted join q) g f n = omega arith
      go (shaped join b) g f n = true_not_false g f

  module _ (small : (q : ℚ) → Q q → fits q ≡ true) where
    pub no_refusal : {code place : ℕ} → step j κ t ≡ refusal code place → ⊥
    no_refusal e = let F = step-refuses j κ t e in true_not_false (good-passes Q small F.failing (failing_good F)) F.fails

pub every_passes : (Q : ℚ → Type 0) (small : (q : ℚ) → Q q → fits q ≡ true) {xs : List Test} → Every (Good Q) xs → all_pass xs ≡ true
unfolding all_pass
every_passes Q small nothing = refl
every_passes Q small (more {x = x} p a) = ap₂ ◌&&◌ (good-passes Q small x p) (every_passes Q small a)
