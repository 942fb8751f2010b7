-- What a new row that a step answers is, as equations between exact numbers: its entries are the mixtures of two rows, and
-- each of them fits.
use mathlib.Core.Path.{◌≡◌, refl, sym, ◌∙◌, ap, ap₂}
use mathlib.Core.Logic.{◌⊎◌, inl, inr}
use mathlib.Core.Bool.{true}
use mathlib.Core.List.{[], ◌∷◌}
use Prim.Native.Nat.{ℕ, ◌<◌, ◌≤◌}
use lib.IntN.{pos}
use lib.ListN.{length}
use Rattle.base_exact.specs.Rational.{ℚ, ◌+ᵠ◌, ◌*ᵠ◌, -ᵠ◌, ◌-ᵠ◌, int}
use Rattle.base_exact.proofs.Decide.{le_or_lt}
use Rattle.base_exact.proofs.Ring.{ring}
use Rattle.base_exact.proofs.Rational.{ℚ-ring, readsℚ}
use Rattle.base_fraction.specs.Size.{fits}
use Rattle.base_outcome.specs.Outcome.{answer, ◌then◌}
use Rattle.spec_spline.specs.Table.{Row, entry}
use Rattle.spec_spline.specs.Step.{count, new_entry, new_row}
use Rattle.base_outcome.proofs.Outcome.{then_inverts, Collected, collect_inverts}
use Rattle.spec_spline.proofs.Table.{entry_past}
use Rattle.spec_spline.proofs.Step.{count-answers}

pub new_entry-answers : (j : ℕ) (w v x y : ℚ) {z : ℚ} → new_entry j w v x y ≡ answer z → (z ≡ w *ᵠ x +ᵠ (int (pos 1) -ᵠ v) *ᵠ y) × (fits z ≡ true)
unfolding new_entry
new_entry-answers j w v x y e =
    let c = then_inverts (count j (w *ᵠ x)) (λ p. count j ((int (pos 1) -ᵠ v) *ᵠ y) then λ q. count j (p +ᵠ q)) e in
    let d = then_inverts (count j ((int (pos 1) -ᵠ v) *ᵠ y)) (λ q. count j (c.middle +ᵠ q)) c.after in
    let k = count-answers j (c.middle +ᵠ d.middle) d.after in
    (k.0 ∙ ap₂ ◌+ᵠ◌ (count-answers j (w *ᵠ x) c.before).0 (count-answers j ((int (pos 1) -ᵠ v) *ᵠ y) d.before).0, ap fits k.0 ∙ k.1)

pub record Mixed (w v : ℚ) (r r' q : Row) : Type 0 where
  pub size : length q ≡ length r
  pub at : (c : ℕ) → entry q c ≡ w *ᵠ entry r c +ᵠ (int (pos 1) -ᵠ v) *ᵠ entry r' c

pub new_row_inverts : (j : ℕ) (w v : ℚ) (r r' : Row) {q : Row} → length r' ≡ length r → new_row j w v r r' ≡ answer q → Mixed w v r r' q
new_row_inverts j w v r r' {q} same e = record { size = parts.size; at = λ c. place c (le_or_lt (length r) c) }
  where
    parts : Collected (length r) (λ c. new_entry j w v (entry r c) (entry r' c)) q
    parts = collect_inverts (length r) (λ c. new_entry j w v (entry r c) (entry r' c)) e

    nothing : (a b : ℚ) → int (pos 0) ≡ a *ᵠ int (pos 0) +ᵠ b *ᵠ int (pos 0)
    nothing a b = ring ℚ-ring (a ∷ b ∷ []) (search readsℚ) (search readsℚ) refl

    place : (c : ℕ) → (length r ≤ c) ⊎ (c < length r) → entry q c ≡ w *ᵠ entry r c +ᵠ (int (pos 1) -ᵠ v) *ᵠ entry r' c
    place c (inl h) = entry_past q c (rw parts.size h) ∙ nothing w (int (pos 1) -ᵠ v)
        ∙ ap₂ (λ x y. w *ᵠ x +ᵠ (int (pos 1) -ᵠ v) *ᵠ y) (sym (entry_past r c h)) (sym (entry_past r' c (rw same h)))
    place c (inr h) = (new_entry-answers j w v (entry r c) (entry r' c) (parts.at c h (int (pos 0)))).0
