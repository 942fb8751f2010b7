-- The weights that a join leaves as formulas, and the factors of the next step from them: what the join's ordinate has in its
-- last row, and what the join before has taken of the ordinate where a step of order 2 begins, are such weights.
use mathlib.Core.Path.{◌≡◌, refl, sym, ◌∙◌, ap, ap₂}
use mathlib.Core.Bool.{cond, ◌&&◌, false}
use Prim.Native.Nat.{ℕ, zero, suc, ◌+◌, ◌-◌, ◌<◌, ◌≤◌}
use native.Mathlib.Omega.{arith}
use native.Mathlib.Decide.{ℕ_discrete}
use borrow.Author.Tests.{eq-eqb, ne_eqb}
use lib.Dec.{eqb}
use lib.IntN.{pos}
use Rattle.base_exact.specs.Rational.{ℚ, ◌*ᵠ◌, -ᵠ◌, ◌-ᵠ◌, int}
use Rattle.base_exact.proofs.Decide.{cond_true, cond_false, and-false}
use Rattle.base_exact.proofs.Rational.{one-mul}
use Rattle.spec_spline.specs.Space.{Space, segments, degree, condition_count, first_column}
use Rattle.spec_spline.specs.Table.{Table, cell}
use Rattle.theorems_acceptance.specs.WeightCount.{left_conditions}
use Rattle.theorems_acceptance.specs.ClosedForms.{share, upper_factor, lower_factor, taken_before, cubic}
use Rattle.theorems_stages.specs.Counts.{full_count}
use Rattle.theorems_stages.proofs.Rows.{first_row, left_count, highest, Stage}
use Rattle.theorems_stages.proofs.RowMoves.{first_spanned, before-join}
use Rattle.theorems_stages.proofs.Stages.{met, met_here, met_before, At, room, room', few, spanning}
use Rattle.theorems_stages.proofs.Reached.{Reached, Advance}
use Rattle.theorems_acceptance.proofs.StepFactors.{last_at_two, first_at_two}

-- The last row of segment i's last ordinate where e counts the conditions met.
abbrev pub top : Space → (ℕ → ℕ) → ℕ → ℕ
top s e i = first_row (degree s) e i + degree s i

-- What the next join leaves of a last weight, by the conditions met there so far.
unfoldable pub over : Space → (ℕ → ℕ) → ℕ → ℚ
over s e i = cond (eqb (degree s (suc i)) cubic && eqb (e (suc i)) full_count) (lower_factor s (suc i)) (int (pos 1))

-- The weights at each join as formulas.
pub record Closed (s : Space) (e : ℕ → ℕ) (t : Table) : Type 0 where
  pub once : (i : ℕ) → suc i < segments s → e i ≡ 2 → cell t (top s e i) (first_column s i + degree s i) ≡ share s i
  pub first : (i : ℕ) → suc i < segments s → e i ≡ full_count → cell t (top s e i - 2) (first_column s i + degree s i) ≡ (int (pos 1) -ᵠ lower_factor s i) *ᵠ (int (pos 1) -ᵠ share s i)
  pub last : (i : ℕ) → suc i < segments s → e i ≡ full_count → cell t (top s e i) (first_column s i + degree s i) ≡ over s e i *ᵠ (upper_factor s i *ᵠ share s i)
  pub near : (i : ℕ) → suc i < segments s → e i ≡ full_count → cell t (top s e i - 1) (first_column s i + (degree s i - 1)) ≡ lower_factor s i
  pub beyond : (i : ℕ) → suc i < segments s → e i ≡ full_count → cell t (top s e i) (first_column s (suc i) + 1) ≡ over s e i *ᵠ upper_factor s i

module _ {s : Space} {join k : ℕ} {t t' : Table} (A : At s join k) (R : Reached s join k t) (N : Advance s join k t t')
    (Q : Closed s (met s join k) t) where
  abbrev pub p : ℕ → ℕ
  p = degree s

  abbrev pub e : ℕ → ℕ
  e = met s join k

  abbrev pub e' : ℕ → ℕ
  e' = met s join (suc k)

  abbrev pub f : ℕ
  f = first_spanned p e join k

  abbrev pub w : ℕ → ℚ
  w = N.stepped.w

  S : Stage p e join k
  S = (spanning A).stage

  room-left : k < p join
  room-left = room A

  room-right : k < p (suc join)
  room-right = room' A

  few_orders : k ≤ 2
  few_orders = few A

  pub past : (j u r : ℕ) → j < segments s → u ≤ p j → highest p e j u ≡ r → cell t (suc r) (first_column s j + u) ≡ int (pos 0)
  past j u r a b z = (R.shape.supported j u a b).above (suc r) (omega arith)

  -- ---- the factors of this step

  -- the join's ordinate in its last row, at order 2
  pub join-weight : k ≡ 2 → cell t (suc (suc f)) (first_column s join + (p join - k + 2)) ≡ share s join
  unfolding first_spanned
  join-weight z = ap₂ (λ r c. cell t r (first_column s join + c)) (let y : suc (suc f) ≡ top s e join = omega (arith, room-left) in y) (let y : p join - k + 2 ≡ p join = omega (arith, room-left) in y)
      ∙ Q.once join (omega arith) (met_here s join k ∙ z)

  pub over_none : (i : ℕ) → suc i ≡ join → over s e i ≡ int (pos 1)
  unfolding over
  over_none i z = cond_false _ _ (ap (λ b. eqb (p (suc i)) cubic && b) (ne_eqb (e (suc i)) full_count (λ y. omega (arith, ap e z, met_here s join k, few_orders))) ∙ and-false (eqb (p (suc i)) cubic))

  -- nothing is taken where the ordinate's rows end at f
  none-taken : k ≡ 2 → (eqb (p join) cubic && eqb (left_conditions s join) full_count) ≡ false → left_count e join ≤ p join - 1
      → cell t (suc f) (first_column s join + (p join - k + 0)) ≡ taken_before s join
  unfolding taken_before first_spanned highest
  none-taken z test b = past join (p join - k + 0) f (omega arith) (omega (arith, room-left)) (omega (arith, room-left)) ∙ sym (cond_false _ _ test)

  begin-weight : k ≡ 2 → cell t (suc f) (first_column s join + (p join - k + 0)) ≡ taken_before s join
  unfolding taken_before first_spanned
  begin-weight z = go join refl
    where
      -- the join before
      after-join : (i : ℕ) → suc i ≡ join → e i ≡ condition_count s i → Dec (p join ≡ cubic) → Dec (condition_count s i ≡ full_count)
          → cell t (suc f) (first_column s join + (p join - k + 0)) ≡ taken_before s join
      after-join i y c (yes d) (yes q) =
          ap₂ (λ r u. cell t r u) (let x = before-join (spanning A) i y in let v : suc f ≡ top s e i = omega arith in v)
          (ap₂ (λ j u. first_column s j + u) (sym y) (let v : p join - k + 0 ≡ 1 = omega arith in v))
          ∙ Q.beyond i (omega arith) (c ∙ q) ∙ ap (λ x. x *ᵠ upper_factor s i) (over_none i y) ∙ one-mul (upper_factor s i) ∙ ap (upper_factor s) (let v : i ≡ join - 1 = omega arith in v)
          ∙ sym (cond_true _ _ (ap₂ ◌&&◌ (eq-eqb (p join) cubic d) (eq-eqb (left_conditions s join) full_count (ap (left_conditions s) (sym y) ∙ q))))
      after-join i y c (no d) q =
          none-taken z (ap (λ b. b && eqb (left_conditions s join) full_count) (ne_eqb (p join) cubic d))
          (omega (arith, room-left, c, ap (left_count e) (sym y), A.limits.few_conditions i (omega arith)))
      after-join i y c (yes d) (no q) =
          none-taken z (ap₂ ◌&&◌ (eq-eqb (p join) cubic d) (ne_eqb (left_conditions s join) full_count (λ v. q (ap (left_conditions s) y ∙ v))))
          (omega (arith, c, ap (left_count e) (sym y), A.limits.few_conditions i (omega arith)))

      go : (n : ℕ) → join ≡ n → cell t (suc f) (first_column s join + (p join - k + 0)) ≡ taken_before s join
      go zero y =
          none-taken z (ap (λ b. eqb (p join) cubic && b) (ne_eqb (left_conditions s join) full_count (λ v. omega (arith, ap (left_conditions s) y)))
          ∙ and-false (eqb (p join) cubic)) (omega (arith, ap (left_count e) y))
      go (suc i) y = after-join i (sym y) (met_before s join k i (omega arith)) (ℕ_discrete (p join) cubic) (ℕ_discrete (condition_count s i) full_count)

  pub lower_is : k ≡ 2 → w (suc f) ≡ lower_factor s join
  lower_is z = first_at_two A R N z (join-weight z) (begin-weight z)

  pub upper_is : k ≡ 2 → w (suc (suc f)) ≡ upper_factor s join
  upper_is z = last_at_two A R N z (join-weight z)
