-- The machine's counted fractions and the outcomes of the definitions: an operation of crate base_fraction answers what a
-- counted fraction of a step answers, and what the machine's two cases tell of an outcome, alone and in a chain.
use mathlib.Core.Path.{◌≡◌, refl, sym, ◌∙◌, ap}
use mathlib.Core.Bool.{Bool, true, false}
use Prim.Native.Nat.{ℕ}
use native.Mathlib.Omega.{arith}
use lib.IntN.{pos}
use Rattle.base_exact.specs.Rational.{ℚ, int, ◌+ᵠ◌, ◌*ᵠ◌}
use Rattle.base_exact.proofs.Rational.{add-zero, zero-add, zero-mul}
use Rattle.base_fraction.specs.Size as size
use Rattle.base_fraction.specs.Size.{fits}
use Rattle.base_fraction.specs.Machine as machine
use Rattle.base_fraction.specs.Machine.{fraction, value, FractionFits}
use Rattle.base_fraction.specs.declared.Fraction.{Fraction}
use Rattle.std.specs.Prelude.{Some, None}
use Rattle.base_fraction.proofs.Value.{value-fraction}
use Rattle.base_fraction.proofs.Size.{int-fits}
use Rattle.base_fraction.proofs.Answer.{fits-sized, sized-fits, answer-fits, answer_large, kept}
use Rattle.base_outcome.specs.Outcome.{Outcome, answer, refusal, ◌then◌}
use Rattle.spec_spline.specs.Step.{count}
use Rattle.base_outcome.proofs.Outcome.{then_answers, then_refuses, then_inverts}
use Rattle.spec_spline.proofs.Step.{count_fits, count_large, count-answers}
use Rattle.build_counted.specs.Machine.{counted}

-- ---- what an operation answers is the counted fraction, at any join
pub machine_counted : (j : ℕ) (q : ℚ) → machine.answer (size.count q) ≡ counted (count j q)
unfolding counted
machine_counted j q = go (fits q) refl
  where
    go : (b : Bool) → fits q ≡ b → machine.answer (size.count q) ≡ counted (count j q)
    go true e = answer-fits q e ∙ sym (ap counted (count_fits j q e))
    go false e = answer_large q e ∙ sym (ap counted (count_large j q e))

-- ---- an outcome that fits: its answer is what the machine's fraction is worth, which is in lowest terms
pub record Answered (o : Outcome ℚ) (f : Fraction) : Type 0 where
  pub answers : o ≡ answer (value f)
  pub lowest : f ≡ fraction (value f)

pub fits_answered : (o : Outcome ℚ) (f : Fraction) → counted o ≡ Some f → Answered o f
unfolding counted
fits_answered (answer q) f e =
    let w : fraction q ≡ f = cc in
    let v : q ≡ value f = sym (value-fraction q) ∙ ap value w in
    record { answers = ap answer v; lowest = sym w ∙ ap fraction v }
fits_answered (refusal code place) f e = absurd (let z : ◌≡◌ {A = ℕ} 0 1 = cc in omega arith)

-- ---- an outcome that is too large: it is refused
pub record Refused {A : Type 0} (o : Outcome A) : Type 0 where
  pub code : ℕ
  pub place : ℕ
  pub refuses : o ≡ refusal code place

pub large_refused : (o : Outcome ℚ) → counted o ≡ None → Refused o
unfolding counted
large_refused (answer q) e = absurd (let z : ◌≡◌ {A = ℕ} 0 1 = cc in omega arith)
large_refused (refusal code place) e = record { code = code; place = place; refuses = refl }

pub refused_large : {o : Outcome ℚ} {code place : ℕ} → o ≡ refusal code place → counted o ≡ None
unfolding counted
refused_large e = ap counted e

-- ---- chains
pub fits_then : (o : Outcome ℚ) (f : ℚ → Outcome ℚ) (x : Fraction) → counted o ≡ Some x → counted (o then f) ≡ counted (f (value x))
fits_then o f x e = ap counted (then_answers f (fits_answered o x e).answers)

pub large_then : (o : Outcome ℚ) (f : ℚ → Outcome ℚ) → counted o ≡ None → counted (o then f) ≡ None
large_then o f e = refused_large (then_refuses f (large_refused o e).refuses)

-- what was counted once and then again with zero added: the second count changes nothing
pub count-again : (j : ℕ) (q : ℚ) (f : ℚ → Outcome ℚ) → ((fits q ≡ true) → f q ≡ count j q) → (count j q then f) ≡ count j q
count-again j q f same = go (fits q) refl
  where
    go : (b : Bool) → fits q ≡ b → (count j q then f) ≡ count j q
    go true e = then_answers f (count_fits j q e) ∙ same e
    go false e = then_refuses f (count_large j q e) ∙ sym (count_large j q e)

-- the sum of zero and what was counted
pub zero-before : (j : ℕ) (q s : ℚ) → s ≡ int (pos 0) → (count j q then λ p. count j (s +ᵠ p)) ≡ count j q
zero-before j q s e = count-again j q (λ p. count j (s +ᵠ p)) (λ _. ap (λ z. count j (z +ᵠ q)) e ∙ ap (count j) (zero-add q))

-- a product with zero, and the sum with it: neither can be too large, and the sum is what it was
pub zero_then : (j : ℕ) (w : ℚ) (z : ℚ) (f : Fraction) → w ≡ int (pos 0) → FractionFits f → f ≡ fraction (value f) → counted (count j (w *ᵠ z) then λ p. count j (value f +ᵠ p)) ≡ Some f
unfolding counted
zero_then j w z f e s lowest =
    ap counted (
    then_answers (λ p. count j (value f +ᵠ p)) (ap (λ q. count j (q *ᵠ z)) e ∙ ap (count j) (zero-mul z) ∙ count_fits j (int (pos 0)) (int-fits (pos 0) (omega arith)))
    ∙ ap (count j) (add-zero (value f))
    ∙ count_fits j (value f) (sized-fits s))
    ∙ ap Some (sym lowest)

-- a fraction in lowest terms that fits has parts below the limit
pub lowest_sized : {f : Fraction} → f ≡ fraction (value f) → fits (value f) ≡ true → FractionFits f
lowest_sized {f} e h = rw e (fits-sized (value f) h)

-- ---- what is counted last fits
pub count-sized : (j : ℕ) (q : ℚ) (f : Fraction) → counted (count j q) ≡ Some f → (value f ≡ q) × FractionFits f
count-sized j q f e = let k = kept q f (machine_counted j q ∙ e) in (k.value_is, k.fitted)

pub then_count-sized : (j : ℕ) (o : Outcome ℚ) (g : ℚ → ℚ) (f : Fraction) → counted (o then λ p. count j (g p)) ≡ Some f → FractionFits f
then_count-sized j o g f e =
    let a = fits_answered (o then λ p. count j (g p)) f e in
    let c = then_inverts o (λ p. count j (g p)) a.answers in
    let k = count-answers j (g c.middle) c.after in
    lowest_sized a.lowest (ap fits k.0 ∙ k.1)
