-- Tables whose entries all fit: the identity, and what a step leaves of such a table, whose new rows were counted.
use mathlib.Core.Path.{◌≡◌, ◌∙◌, ap, subst}
use mathlib.Core.Logic.{◌⊎◌, inl, inr}
use mathlib.Core.Bool.{true}
use mathlib.Core.List.{List}
use Prim.Native.Nat.{ℕ, suc, ◌-◌, ◌<◌, ◌≤◌}
use native.Mathlib.Omega.{arith}
use native.Mathlib.Decide.{dec_lt, ℕ_discrete}
use lib.IntN.{pos}
use lib.ListN.{length}
use Rattle.base_exact.specs.Rational.{ℚ, int}
use Rattle.base_exact.proofs.Decide.{le_or_lt}
use Rattle.base_fraction.specs.Size.{fits}
use Rattle.base_fraction.proofs.Size.{int-fits}
use Rattle.base_outcome.specs.Outcome.{answer}
use Rattle.base_outcome.proofs.Outcome.{Collected, collect_inverts}
use Rattle.spec_spline.specs.Conditions.{Entry}
use Rattle.spec_spline.specs.Table.{Row, Table, entry, row, cell, identity}
use Rattle.spec_spline.specs.Step.{new_entry, new_row, step}
use Rattle.spec_spline.proofs.Table.{entry_past, identity_on, identity_off, identity_low}
use Rattle.spec_spline.proofs.NewRows.{new_entry-answers}
use Rattle.spec_spline.proofs.Stepped.{StepParts, step-parts, Source, kept, new, later, source}

abbrev pub TableFits : Table → Type 0
TableFits t = (i c : ℕ) → fits (cell t i c) ≡ true

pub zero-fits : fits (int (pos 0)) ≡ true
zero-fits = int-fits (pos 0) (omega arith)

pub one_fits : fits (int (pos 1)) ≡ true
one_fits = int-fits (pos 1) (omega arith)

pub identity-fits : (n : ℕ) → TableFits (identity n)
identity-fits n i c = go (ℕ_discrete i c) (dec_lt i n)
  where
    go : Dec (i ≡ c) → Dec (i < n) → fits (cell (identity n) i c) ≡ true
    go (no h) d = ap fits (identity_off n i c h) ∙ zero-fits
    go (yes h) (no k) = ap fits (identity_low n i c (omega arith)) ∙ zero-fits
    go (yes h) (yes k) = subst (λ j. fits (cell (identity n) i j) ≡ true) h (ap fits (identity_on n i k) ∙ one_fits)

pub new_row-fits : (j : ℕ) (w v : ℚ) (r r' : Row) {q : Row} → new_row j w v r r' ≡ answer q → (c : ℕ) → fits (entry q c) ≡ true
new_row-fits j w v r r' {q} e c = go (le_or_lt (length r) c)
  where
    parts : Collected (length r) (λ c. new_entry j w v (entry r c) (entry r' c)) q
    parts = collect_inverts (length r) (λ c. new_entry j w v (entry r c) (entry r' c)) e

    go : (length r ≤ c) ⊎ (c < length r) → fits (entry q c) ≡ true
    go (inl h) = ap fits (entry_past q c (rw parts.size h)) ∙ zero-fits
    go (inr h) = (new_entry-answers j w v (entry r c) (entry r' c) (parts.at c h (int (pos 0)))).1

pub step_fits : (j : ℕ) (κ : List Entry) (t : Table) {t' : Table} → TableFits t → step j κ t ≡ answer t' → TableFits t'
step_fits j κ t {t'} F e i c = go (source p i)
  where
    p : StepParts j κ t t'
    p = step-parts j κ t e

    go : Source p i → fits (cell t' i c) ≡ true
    go (kept h q) = ap (λ r. fits (entry r c)) q ∙ F i c
    go (new h k q) = new_row-fits j (entry p.ws (i - p.g.f)) (entry p.ws (suc (i - p.g.f))) (row t i) (row t (suc i)) q c
    go (later h q) = ap (λ r. fits (entry r c)) q ∙ F (suc i) c
