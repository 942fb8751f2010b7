-- A step of the build as one formula: where the jumps sum to zero and all rows are equally long, new row i is
-- w(i)·(old row i) + (1 - w(i+1))·(old row i+1) for every i, with factors that meet the hypotheses of NullSpace.
use mathlib.Core.Path.{◌≡◌, refl, sym, ◌∙◌, ap, ap₂}
use mathlib.Core.Logic.{◌⊎◌, inl, inr}
use mathlib.Core.List.{List, [], ◌∷◌}
use Prim.Native.Nat.{ℕ, suc, ◌-◌, ◌<◌, ◌≤◌}
use native.Mathlib.Omega.{arith}
use lib.IntN.{pos}
use lib.ListN.{length}
use Rattle.base_exact.specs.Rational.{ℚ, ◌+ᵠ◌, ◌*ᵠ◌, -ᵠ◌, ◌-ᵠ◌, int}
use Rattle.base_exact.specs.Order.{Nn}
use Rattle.base_exact.specs.Sum.{sum}
use Rattle.base_exact.proofs.Decide.{le_or_lt}
use Rattle.base_exact.proofs.Ring.{ring}
use Rattle.base_exact.proofs.Rational.{ℚ-ring, readsℚ}
use Rattle.base_outcome.specs.Outcome.{answer}
use Rattle.spec_spline.specs.Conditions.{Entry}
use Rattle.spec_spline.specs.Table.{Table, entry, row, cell}
use Rattle.spec_spline.specs.Step.{jump, jumps, step}
use Rattle.base_outcome.proofs.Outcome.{collect_inverts, Collected}
use Rattle.spec_spline.proofs.Table.{entry_past, cell-past}
use Rattle.spec_spline.proofs.Stepped.{StepParts, step-parts, step_spans, step-factors, span_below, one_less, Source, kept, new, later, source}
use Rattle.spec_spline.proofs.Shape.{Wide, step_shaped}
use Rattle.spec_spline.proofs.NewRows.{new_row_inverts}
use Rattle.theorems_weights.proofs.NullSpace.{Jumps, mixed, one_up_to, last-factor}
use Rattle.theorems_weights.proofs.Functional.{applied, applied-zero, applied_ext, jump_inverts}
use Rattle.theorems_weights.proofs.Extended.{extended, extended_from, null_space, w_not_negative, w_at_most_one}

-- The functional's values on the rows; zero past the last row.
abbrev pub values : List Entry → Table → ℕ → ℚ
values κ t i = applied κ (cell t i)

pub values-past : (κ : List Entry) (t : Table) (i : ℕ) → length t ≤ i → values κ t i ≡ int (pos 0)
values-past κ t i h = applied_ext κ (λ c. cell-past t i c h) ∙ applied-zero κ

pub jumps_inverts : (j : ℕ) (κ : List Entry) (t : Table) {js : List ℚ} → jumps j κ t ≡ answer js → (length js ≡ length t) × ((i : ℕ) → entry js i ≡ values κ t i)
jumps_inverts j κ t {js} e = (parts.size, λ i. place i (le_or_lt (length t) i))
  where
    parts : Collected (length t) (λ i. jump j κ (row t i)) js
    parts = collect_inverts (length t) (λ i. jump j κ (row t i)) e

    place : (i : ℕ) → (length t ≤ i) ⊎ (i < length t) → entry js i ≡ values κ t i
    place i (inl h) = entry_past js i (rw parts.size h) ∙ sym (values-past κ t i h)
    place i (inr h) = jump_inverts j κ (row t i) (parts.at i h (int (pos 0)))

-- What a step that answers leaves.
pub record Stepped (κ : List Entry) (width : ℕ) (t t' : Table) : Type 0 where
  pub f : ℕ
  pub l : ℕ
  pub w : ℕ → ℚ
  pub null : Jumps (length t) f l (values κ t) w
  pub not_negative : (i : ℕ) → Nn (w i)
  pub at_most_one : (i : ℕ) → Nn (int (pos 1) -ᵠ w i)
  pub rows : suc (length t') ≡ length t
  pub wide : Wide width t'
  pub cells : (i c : ℕ) → cell t' i c ≡ mixed w (λ k. cell t k c) i

-- ---- the step

module _ (width : ℕ) {j : ℕ} {κ : List Entry} {t t' : Table} (wide : Wide width t) (p : StepParts j κ t t') (J : ℕ → ℚ) (G : Jumps (length t) p.g.f p.g.l J (extended p.ws p.g.f)) where
  abbrev f : ℕ
  f = p.g.f

  -- the factors of all rows
  abbrev w : ℕ → ℚ
  w = extended p.ws f

  all_mixed : (i c : ℕ) → cell t' i c ≡ mixed w (λ k. cell t k c) i
  unfolding mixed
  all_mixed i c = go (source p i)
    where
      a : ℚ
      a = cell t i c

      b : ℚ
      b = cell t (suc i) c

      both : {u v : ℚ} → w i ≡ u → w (suc i) ≡ v → u *ᵠ a +ᵠ (int (pos 1) -ᵠ v) *ᵠ b ≡ w i *ᵠ a +ᵠ (int (pos 1) -ᵠ w (suc i)) *ᵠ b
      both x y = ap₂ (λ u v. u *ᵠ a +ᵠ (int (pos 1) -ᵠ v) *ᵠ b) (sym x) (sym y)

      first_of : (a b : ℚ) → a ≡ int (pos 1) *ᵠ a +ᵠ (int (pos 1) -ᵠ int (pos 1)) *ᵠ b
      first_of a b = ring ℚ-ring (a ∷ b ∷ []) (search readsℚ depth 20) (search readsℚ depth 20) refl

      second_of : (a b : ℚ) → b ≡ int (pos 0) *ᵠ a +ᵠ (int (pos 1) -ᵠ int (pos 0)) *ᵠ b
      second_of a b = ring ℚ-ring (a ∷ b ∷ []) (search readsℚ depth 20) (search readsℚ depth 20) refl

      go : Source p i → cell t' i c ≡ w i *ᵠ a +ᵠ (int (pos 1) -ᵠ w (suc i)) *ᵠ b
      go (kept k e) = ap (λ r. entry r c) e ∙ first_of a b ∙ both (one_up_to G i (omega arith)) (one_up_to G (suc i) k)
      go (new h k e) =
          (new_row_inverts j (entry p.ws (i - f)) (entry p.ws (suc (i - f))) (row t i) (row t (suc i))
          (wide.each (suc i) (omega (arith, span_below p)) ∙ sym (wide.each i (omega (arith, span_below p)))) e).at c
          ∙ both (extended_from p.ws f i h) (extended_from p.ws f (suc i) (omega arith) ∙ ap (entry p.ws) (let z : suc i - f ≡ suc (i - f) = omega arith in z))
      go (later k e) = ap (λ r. entry r c) e ∙ second_of a b ∙ both (last-factor G i k) (last-factor G (suc i) (omega arith))

pub step_inverts : (κ : List Entry) (width j : ℕ) (t : Table) {t' : Table} → Wide width t → sum (length t) (values κ t) ≡ int (pos 0) → step j κ t ≡ answer t' → Stepped κ width t t'
step_inverts κ width j t {t'} wide zero-sum e = record {
  f = f;
  l = l;
  w = extended p.ws f;
  null = G;
  not_negative = w_not_negative p.js p.ws f l (length t) (values κ t) same (span_below p) (step_spans p) (step-factors p) zero-sum;
  at_most_one = w_at_most_one p.js p.ws f l (length t) (values κ t) same (span_below p) (step_spans p) (step-factors p) zero-sum;
  rows = one_less p;
  wide = (step_shaped width (length t) j κ t (record { wide = wide; rows = refl }) e).wide;
  cells = all_mixed width wide p (values κ t) G;
}
  where
    p : StepParts j κ t t'
    p = step-parts j κ t e

    f : ℕ
    f = p.g.f

    l : ℕ
    l = p.g.l

    same : (i : ℕ) → entry p.js i ≡ values κ t i
    same = (jumps_inverts j κ t p.has_jumps).1

    G : Jumps (length t) f l (values κ t) (extended p.ws f)
    G = null_space p.js p.ws f l (length t) (values κ t) same (span_below p) (step_spans p) (step-factors p) zero-sum
