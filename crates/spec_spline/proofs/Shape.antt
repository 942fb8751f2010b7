-- The rows and columns of the tables of a build: all rows have one entry for each column, and each condition has taken one
-- row. This holds of any space, legal or not.
use mathlib.Core.Path.{◌≡◌, ◌∙◌, ap, subst}
use mathlib.Core.List.{List}
use Prim.Native.Nat.{ℕ, suc, ◌+◌, ◌-◌, ◌<◌}
use native.Mathlib.Omega.{arith}
use lib.ListN.{length}
use Rattle.base_outcome.specs.Outcome.{answer}
use Rattle.spec_spline.specs.Space.{Space, segments, column_count, condition_count, conditions_before, row_count}
use Rattle.spec_spline.specs.Conditions.{Entry, conditions}
use Rattle.spec_spline.specs.Table.{Table, row, identity}
use Rattle.spec_spline.specs.Step.{step}
use Rattle.spec_spline.specs.Build.{order_steps, join_steps, weights}
use Rattle.base_outcome.proofs.Outcome.{collect_inverts, repeat-keeps}
use Rattle.spec_spline.proofs.Table.{identity-rows, identity_wide}
use Rattle.spec_spline.proofs.Stepped.{StepParts, step-parts, one_less, Source, kept, new, later, source}

-- All rows have this many entries.
pub record Wide (width : ℕ) (t : Table) : Type 0 where
  pub each : (i : ℕ) → i < length t → length (row t i) ≡ width

-- A table of this width and this many rows.
pub record Shaped (width count : ℕ) (t : Table) : Type 0 where
  pub wide : Wide width t
  pub rows : length t ≡ count

-- a step: one row less, the same width
pub step_shaped : (width n j : ℕ) (κ : List Entry) (t : Table) {t' : Table} → Shaped width n t → step j κ t ≡ answer t' → Shaped width (n - 1) t'
step_shaped width n j κ t {t'} S e = record { wide = record { each = λ i h. place i h (source p i) }; rows = omega (arith, one_less p, S.rows) }
  where
    p : StepParts j κ t t'
    p = step-parts j κ t e

    place : (i : ℕ) → i < length t' → Source p i → length (row t' i) ≡ width
    place i h (kept k q) = ap length q ∙ S.wide.each i (omega (arith, one_less p))
    place i h (new k l q) = (collect_inverts (length (row t i)) _ q).size ∙ S.wide.each i (omega (arith, one_less p))
    place i h (later k q) = ap length q ∙ S.wide.each (suc i) (omega (arith, one_less p))

pub orders_shaped : (s : Space) (width n j k : ℕ) (t : Table) {t' : Table} → Shaped width n t → order_steps s j k t ≡ answer t' → Shaped width (n - k) t'
unfolding order_steps
orders_shaped s width n j k t {t'} S e = repeat-keeps (λ i b. Shaped width (n - i) b) k (λ i. step j (conditions s j i)) t (subst (λ m. Shaped width m t) (let z : n ≡ n - 0 = omega arith in z) S)
    (λ i b c h P r. subst (λ m. Shaped width m c) (let z : n - i - 1 ≡ n - suc i = omega arith in z) (step_shaped width (n - i) j (conditions s j i) b P r)) t' e

pub joins_shaped : (s : Space) (n : ℕ) {t : Table} → join_steps s n ≡ answer t → Shaped (column_count s) (column_count s - conditions_before s n) t
unfolding join_steps conditions_before
joins_shaped s n {t} e = repeat-keeps (λ i b. Shaped (column_count s) (column_count s - conditions_before s i) b) n (λ j. order_steps s j (condition_count s j)) (identity (column_count s))
    (record { wide = record { each = λ i h. identity_wide (column_count s) i (rw (identity-rows (column_count s)) at h) }; rows = identity-rows (column_count s) ∙ omega arith })
    (λ i b c h P r. subst (λ m. Shaped (column_count s) m c)
    (let z : column_count s - conditions_before s i - condition_count s i ≡ column_count s - (conditions_before s i + condition_count s i) = omega arith in z)
    (orders_shaped s (column_count s) (column_count s - conditions_before s i) i (condition_count s i) b P r))
    t e

pub weights_shaped : (s : Space) {t : Table} → weights s ≡ answer t → Shaped (column_count s) (row_count s) t
unfolding weights
weights_shaped s e = joins_shaped s (segments s - 1) e
