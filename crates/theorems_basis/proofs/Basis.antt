-- The published construction is a basis for every legal space: from its last stage to lists of ordinates and multipliers. And a
-- legal space is refused with 8 alone.
use mathlib.Core.Path.{◌≡◌, refl, sym, ◌∙◌, ap}
use mathlib.Core.Logic.{◌⊎◌, inl, inr}
use mathlib.Core.Bool.{false}
use Prim.Native.Nat.{ℕ, ◌-◌, ◌<◌, ◌≤◌}
use lib.Arith.{le→nltb}
use lib.Dec.{ltb}
use lib.ListN.{length}
use Rattle.base_exact.specs.Sum.{sum}
use Rattle.base_exact.proofs.Decide.{true_not_false, fails_false, cond_false}
use Rattle.base_exact.proofs.Order.{nn_zero_le}
use Rattle.base_outcome.specs.Outcome.{Outcome, answer, refusal, refuse, ◌then◌, with_answer}
use Rattle.spec_spline.specs.Space.{Space, segments, checked, column_count, row_count}
use Rattle.spec_spline.specs.Conditions.{conditions}
use Rattle.spec_spline.specs.Table.{Table, row, cell, table_cells}
use Rattle.spec_spline.specs.Build.{weights, space_weights, built, build_end}
use Rattle.spec_published.specs.Published.{extraction}
use Rattle.spec_spline.specs.Piecewise.{MeetsAll}
use Rattle.base_outcome.proofs.Outcome.{then_answers, then_breaks, Broken, first-refuses, second-refuses}
use Rattle.spec_spline.proofs.Legal.{Checked, checked_inverts, checked_codes}
use Rattle.spec_spline.proofs.Refusals.{step-refuses}
use Rattle.theorems_weights.proofs.Basis.{Basis}
use Rattle.theorems_weights.proofs.Built.{Done, earlier}
use Rattle.theorems_weights.proofs.Published.{weights_are_published}
use Rattle.theorems_weights.proofs.Cells.{cells_hold_published_weights}
use Rattle.theorems_weights.proofs.PublishedBasis.{pairing-applied, basis_meets, basis_gives_one}
use Rattle.theorems_stages.proofs.Reached.{weights_refused}
use Rattle.theorems_acceptance.proofs.NineNever.{weights_not_nine}
use Rattle.theorems_basis.specs.Basis.{IsBasis, PublishedIsABasis, PublishedOrTooLarge, published, too_large, LegalIsPublishedOrTooLarge, BuiltOrTooLarge}
use Rattle.theorems_basis.specs.Basis.{holds, refused, LegalIsBuiltOrTooLarge, EightHasABasis}
use Rattle.theorems_basis.proofs.Stages.{last_stage, extraction-rows}

-- n rows that are a basis for the conditions of all joins are one in the words of theorems_weights/specs/PublishedBasis
module _ (s : Space) (t : Table) (n : length t ≡ row_count s) (B : Basis (Done s (segments s - 1) 0) (column_count s) t) where
  rows_meet : (i : ℕ) → i < row_count s → MeetsAll s (row t i)
  rows_meet i h = record {
    columns = B.wide.each i (rw n h);
    meets = λ j k p q. pairing-applied (row t i) (conditions s j k) ∙ B.meets (conditions s j k) (earlier j k p q refl) i;
  }

  is_basis : IsBasis s t
  is_basis = record {
    rows = n;
    columns = λ i h. B.wide.each i (rw n h);
    not_negative = λ i c. nn_zero_le (B.not_negative i c);
    column_sums = λ c h. ap (λ m. sum m (λ i. cell t i c)) (sym n) ∙ B.column_sums c h;
    rows_meet = rows_meet;
    combinations_meet = basis_meets s t B;
    one_combination = basis_gives_one s t B n;
  }

pub published_is_a_basis : PublishedIsABasis
published_is_a_basis s e = is_basis s (extraction s) (extraction-rows s e) (last_stage s e).basis

-- ---- code 8

-- a legal space is refused by a step, and no step gives 9
pub refused_with_eight : (s : Space) → Checked s → {code place : ℕ} → weights s ≡ refusal code place → code ≡ 8
refused_with_eight s c {code} {place} e = let R = weights_refused s c e in go (step-refuses R.join (conditions s R.join R.order) R.table code place R.refuses).0
  where
    go : (code ≡ 8) ⊎ (code ≡ 9) → code ≡ 8
    go (inl z) = z
    go (inr z) = absurd (weights_not_nine s c (e ∙ ap (λ n. refusal n place) z))

pub legal_is_published_or_too_large : LegalIsPublishedOrTooLarge
unfolding space_weights
legal_is_published_or_too_large s e = go (weights s) refl
  where
    go : (o : Outcome Table) → weights s ≡ o → PublishedOrTooLarge s (checked s then weights)
    go (answer t) w = let p = then_answers weights e ∙ w in published (p ∙ ap answer (weights_are_published s (record { table = t; is = p })))
    go (refusal code place) w = too_large place (then_answers weights e ∙ w ∙ ap (λ n. refusal n place) (refused_with_eight s (checked_inverts s e).1 w))

pub legal_is_built_or_too_large : LegalIsBuiltOrTooLarge
unfolding built
legal_is_built_or_too_large s e nums dens h k = go (legal_is_published_or_too_large s e)
  where
    long : {m : ℕ} → table_cells ≤ m → ltb m table_cells ≡ false
    long {m} l = fails_false (ltb m table_cells) (le→nltb m table_cells l)

    ends : (build_end s nums dens).answers ≡ with_answer (λ _. row_count s) (space_weights s)
    ends = ap (with_answer (λ _. row_count s)) (cond_false (refuse 1 0) _ (long h) ∙ cond_false (refuse 1 1) _ (long k))

    go : PublishedOrTooLarge s (space_weights s) → BuiltOrTooLarge s nums dens
    go (published p) = holds (ends ∙ ap (with_answer (λ _. row_count s)) p) (cells_hold_published_weights s (record { table = extraction s; is = p }) nums dens h k)
    go (too_large place p) = refused place (ends ∙ ap (with_answer (λ _. row_count s)) p)

pub eight_has_a_basis : EightHasABasis
unfolding space_weights
eight_has_a_basis s place e = go (then_breaks (checked s) weights e)
  where
    go : Broken (checked s) weights 8 place → IsBasis s (extraction s)
    go (first-refuses p) = absurd (true_not_false refl (checked_codes s p))
    go (second-refuses s' p q) = published_is_a_basis s (p ∙ ap answer (sym (checked_inverts s p).0))
