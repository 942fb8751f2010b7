-- What the rows of a table are to the conditions done so far: equally long, without negative entries, with column sums
-- one, each meeting the conditions, and spanning all that meet them in exactly one way. A step keeps this and adds its
-- own condition.
use mathlib.Core.Path.{◌≡◌, refl, sym, ◌∙◌, ap, ap₂, subst}
use mathlib.Core.Logic.{◌⊎◌, inl, inr}
use mathlib.Core.List.{List, [], ◌∷◌}
use Prim.Native.Nat.{ℕ, zero, suc, ◌<◌, ◌≤◌}
use native.Mathlib.Omega.{arith}
use lib.IntN.{pos}
use lib.ListN.{length}
use Rattle.base_exact.specs.Rational.{ℚ, ◌+ᵠ◌, ◌*ᵠ◌, -ᵠ◌, ◌-ᵠ◌, int}
use Rattle.base_exact.specs.Order.{Nn}
use Rattle.base_exact.specs.Sum.{sum}
use Rattle.base_exact.proofs.Decide.{le_or_lt}
use Rattle.base_exact.proofs.Ring.{ring}
use Rattle.base_exact.proofs.Rational.{ℚ-ring, readsℚ, one-mul}
use Rattle.base_exact.proofs.Order.{nn_add, nn_mul}
use Rattle.base_exact.proofs.Sum.{sum_ext}
use Rattle.base_outcome.specs.Outcome.{answer}
use Rattle.spec_spline.specs.Conditions.{Entry}
use Rattle.spec_spline.specs.Table.{Table, cell}
use Rattle.spec_spline.specs.Step.{step}
use Rattle.spec_spline.proofs.Conditions.{Inside, none, more}
use Rattle.spec_spline.proofs.Shape.{Wide}
use Rattle.theorems_weights.proofs.NullSpace.{mixed, lifted, reindex, lifted_one, first-factor, last-factor, mixed_null, coefficient, coefficient_lifts, lifted_unique}
use Rattle.theorems_weights.proofs.Functional.{applied, applied_ext, applied-mix, applied-sum}
use Rattle.theorems_weights.proofs.Stepped.{values, values-past, Stepped, step_inverts}

-- A combination of the rows in one column.
abbrev pub combined : (ℕ → ℚ) → Table → ℕ → ℚ
combined a t c = sum (length t) (λ i. a i *ᵠ cell t i c)

pub record Basis (K : List Entry → Type 0) (width : ℕ) (t : Table) : Type 0 where
  pub wide : Wide width t
  pub not_negative : (i c : ℕ) → Nn (cell t i c)
  pub column_sums : (c : ℕ) → c < width → sum (length t) (λ i. cell t i c) ≡ int (pos 1)
  pub meets : (κ : List Entry) → K κ → (i : ℕ) → values κ t i ≡ int (pos 0)
  pub spans : (z : ℕ → ℚ) → ((c : ℕ) → width ≤ c → z c ≡ int (pos 0)) → ((κ : List Entry) → K κ → applied κ z ≡ int (pos 0))
      → (a : ℕ → ℚ) × ((c : ℕ) → combined a t c ≡ z c)
  pub unique : (a b : ℕ → ℚ) → ((c : ℕ) → combined a t c ≡ combined b t c) → (i : ℕ) → i < length t → a i ≡ b i

-- ---- a column of conditions whose entries sum to zero has jumps that sum to zero

applied-agree : (width : ℕ) {κ : List Entry} {x y : ℕ → ℚ} → Inside width κ → ((c : ℕ) → c < width → x c ≡ y c) → applied κ x ≡ applied κ y
unfolding applied
applied-agree width none h = refl
applied-agree width (more {e = e} k I) h = ap₂ (λ s t. s *ᵠ int e.condition +ᵠ t) (h e.column k) (applied-agree width I h)

jumps-sum-zero : (width : ℕ) (κ : List Entry) (t : Table) → Inside width κ → applied κ (λ c. int (pos 1)) ≡ int (pos 0)
    → ((c : ℕ) → c < width → sum (length t) (λ i. cell t i c) ≡ int (pos 1)) → sum (length t) (values κ t) ≡ int (pos 0)
jumps-sum-zero width κ t I z h =
    sum_ext (length t) (λ i k. sym (one-mul (values κ t i))) ∙ sym (applied-sum κ (length t) (λ i. int (pos 1)) (cell t))
    ∙ applied-agree width I (λ c k. sum_ext (length t) (λ i m. one-mul (cell t i c)) ∙ h c k) ∙ z

-- a mixture of zeros is zero
pub zeros_mixed : (a b : ℚ) → a *ᵠ int (pos 0) +ᵠ b *ᵠ int (pos 0) ≡ int (pos 0)
zeros_mixed a b = ring ℚ-ring (a ∷ b ∷ []) (search readsℚ) (search readsℚ) refl

-- ---- one step

-- the multipliers moved by one place
shifted : (ℕ → ℚ) → ℕ → ℚ
shifted a zero = int (pos 0)
shifted a (suc i) = a i

-- a combination of the new rows is one of the old rows
pub combination_lifts : (width : ℕ) (κ : List Entry) (t t' : Table) (S : Stepped κ width t t') (c : ℕ → ℚ) (col : ℕ)
    → sum (length t') (λ i. c (suc i) *ᵠ cell t' i col) ≡ sum (length t) (λ i. lifted S.w c i *ᵠ cell t i col)
combination_lifts width κ t t' S c col =
    let G = S.null in let n = S.rows in let b = G.below in
    sum_ext (length t') (λ i h. ap (λ u. c (suc i) *ᵠ u) (S.cells i col))
    ∙ reindex S.w c (λ k. cell t k col) (length t') (first-factor G) (last-factor G (length t') (omega arith))
    ∙ ap (λ m. sum m (λ i. lifted S.w c i *ᵠ cell t i col)) S.rows

module _ (K K' : List Entry → Type 0) (width : ℕ) (κ : List Entry) (t t' : Table) (B : Basis K width t) (S : Stepped κ width t t')
    (added : (κ' : List Entry) → K' κ' → K κ' ⊎ (κ ≡ κ')) (kept : (κ' : List Entry) → K κ' → K' κ') (new : K' κ) where
  combined_lifts : (c : ℕ → ℚ) (col : ℕ) → sum (length t') (λ i. c (suc i) *ᵠ cell t' i col) ≡ sum (length t) (λ i. lifted S.w c i *ᵠ cell t i col)
  combined_lifts = combination_lifts width κ t t' S

  new_column_sums : (c : ℕ) → c < width → sum (length t') (λ i. cell t' i c) ≡ int (pos 1)
  new_column_sums c h =
      sum_ext (length t') (λ i k. sym (one-mul (cell t' i c))) ∙ combined_lifts (λ i. int (pos 1)) c
      ∙ sum_ext (length t) (λ i k. ap (λ u. u *ᵠ cell t i c) (lifted_one S.w i) ∙ one-mul (cell t i c)) ∙ B.column_sums c h

  new_not_negative : (i c : ℕ) → Nn (cell t' i c)
  unfolding mixed
  new_not_negative i c = subst Nn (sym (S.cells i c)) (nn_add (nn_mul (S.not_negative i) (B.not_negative i c)) (nn_mul (S.at_most_one (suc i)) (B.not_negative (suc i) c)))

  -- the functional on a new row
  values_mixed : (κ' : List Entry) (i : ℕ) → values κ' t' i ≡ mixed S.w (values κ' t) i
  unfolding mixed
  values_mixed κ' i = applied_ext κ' (S.cells i) ∙ applied-mix κ' (S.w i) (int (pos 1) -ᵠ S.w (suc i)) (cell t i) (cell t (suc i))

  new_meets : (κ' : List Entry) → K' κ' → (i : ℕ) → values κ' t' i ≡ int (pos 0)
  unfolding mixed
  new_meets κ' m i = go (added κ' m) (le_or_lt (length t') i)
    where
      go : K κ' ⊎ (κ ≡ κ') → (length t' ≤ i) ⊎ (i < length t') → values κ' t' i ≡ int (pos 0)
      go k (inl h) = values-past κ' t' i h
      go (inl k) (inr h) = values_mixed κ' i ∙ ap₂ (λ u v. S.w i *ᵠ u +ᵠ (int (pos 1) -ᵠ S.w (suc i)) *ᵠ v) (B.meets κ' k i) (B.meets κ' k (suc i))
          ∙ zeros_mixed (S.w i) (int (pos 1) -ᵠ S.w (suc i))
      go (inr e) (inr h) = let n = S.rows in ap (λ λ'. values λ' t' i) (sym e) ∙ values_mixed κ i ∙ mixed_null S.null i (omega arith)

  new_spans : (z : ℕ → ℚ) → ((c : ℕ) → width ≤ c → z c ≡ int (pos 0)) → ((κ' : List Entry) → K' κ' → applied κ' z ≡ int (pos 0)) → (a : ℕ → ℚ) × ((c : ℕ) → combined a t' c ≡ z c)
  new_spans z out met = go (B.spans z out (λ κ' k. met κ' (kept κ' k)))
    where
      go : (a : ℕ → ℚ) × ((c : ℕ) → combined a t c ≡ z c) → (a : ℕ → ℚ) × ((c : ℕ) → combined a t' c ≡ z c)
      go s = (λ i. c (suc i), λ col. combined_lifts c col ∙ sum_ext (length t) (λ i h. ap (λ u. u *ᵠ cell t i col) (coefficient_lifts S.null s.0 annihilated i h)) ∙ s.1 col)
        where
          annihilated : sum (length t) (λ i. s.0 i *ᵠ values κ t i) ≡ int (pos 0)
          annihilated = sym (applied-sum κ (length t) s.0 (cell t)) ∙ applied_ext κ s.1 ∙ met κ new

          c : ℕ → ℚ
          c = coefficient S.null s.0 annihilated

  new_unique : (a b : ℕ → ℚ) → ((c : ℕ) → combined a t' c ≡ combined b t' c) → (i : ℕ) → i < length t' → a i ≡ b i
  unfolding shifted
  new_unique a b e i h = let n = S.rows in lifted_unique S.null (shifted a) (shifted b)
      (λ k m. B.unique (lifted S.w (shifted a)) (lifted S.w (shifted b)) (λ c. sym (combined_lifts (shifted a) c) ∙ e c ∙ combined_lifts (shifted b) c) k m) i (omega arith)

  -- a basis for K and the step's own condition
  pub step_keeps : Basis K' width t'
  step_keeps = record {
    wide = S.wide;
    not_negative = new_not_negative;
    column_sums = new_column_sums;
    meets = new_meets;
    spans = new_spans;
    unique = new_unique;
  }

-- A step that answers, on a basis.
pub basis_stepped : (K : List Entry → Type 0) (width j : ℕ) (κ : List Entry) (t : Table) {t' : Table} → Basis K width t → Inside width κ → applied κ (λ c. int (pos 1)) ≡ int (pos 0)
    → step j κ t ≡ answer t' → Stepped κ width t t'
basis_stepped K width j κ t B I z e = step_inverts κ width j t B.wide (jumps-sum-zero width κ t I z B.column_sums) e
