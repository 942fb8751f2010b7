-- The statements of specs/PublishedBasis, proved: from the basis that the build ends with to lists of ordinates and multipliers.
use mathlib.Core.Path.{◌≡◌, refl, sym, ◌∙◌, ap}
use mathlib.Core.Logic.{◌⊎◌, inl, inr}
use mathlib.Core.List.{List, [], ◌∷◌}
use Prim.Native.Nat.{ℕ, ◌-◌, ◌<◌, ◌≤◌}
use native.Mathlib.Omega.{arith}
use lib.IntN.{pos}
use lib.ListN.{length}
use lib.Seq.{ext_get_or}
use Rattle.base_exact.specs.Rational.{ℚ, int, ◌+ᵠ◌, ◌*ᵠ◌}
use Rattle.base_exact.specs.Sum.{sum}
use Rattle.base_exact.specs.Tabulate.{tab}
use Rattle.base_exact.proofs.Decide.{le_or_lt}
use Rattle.base_exact.proofs.Rational.{mul-zero}
use Rattle.base_exact.proofs.Sum.{sum_ext, sum-zero}
use Rattle.base_exact.proofs.Tabulate.{tab_length, tab_get_d}
use Rattle.spec_spline.specs.Space.{Space, segments, column_count, row_count, condition_count}
use Rattle.spec_spline.specs.Conditions.{Entry, conditions}
use Rattle.spec_spline.specs.Table.{Row, Table, entry, row, cell}
use Rattle.spec_spline.specs.Piecewise.{pairing, MeetsAll, combination}
use Rattle.spec_spline.proofs.Table.{entry_past, cell-past}
use Rattle.theorems_weights.specs.PublishedBasis.{RowsAndColumns, CombinationsMeetConditions, OneCombination, ConditionsGiveOneCombination}
use Rattle.theorems_weights.proofs.Functional.{applied, applied_ext, applied-sum}
use Rattle.spec_spline.proofs.Shape.{Wide}
use Rattle.theorems_weights.proofs.Basis.{Basis, combined}
use Rattle.theorems_weights.proofs.Built.{Done, earlier, here, built, row_count_lem}

pub rows_and_columns : RowsAndColumns
rows_and_columns s a = let b = built s a.table a.is in let n = row_count_lem s a.table b in (n, λ i h. b.basis.wide.each i (rw n h))

-- ---- lists and functions

-- the sum of ordinates times conditions is the functional's value
pub pairing-applied : (o : Row) (κ : List Entry) → pairing o κ ≡ applied κ (entry o)
unfolding pairing applied
pairing-applied o [] = refl
pairing-applied o (e ∷ es) = ap (λ t. entry o e.column *ᵠ int e.condition +ᵠ t) (pairing-applied o es)

module _ (columns : ℕ) (t : Table) (wide : Wide columns t) where
  -- past the last column all entries are zero
  pub cell-beside : (i c : ℕ) → columns ≤ c → cell t i c ≡ int (pos 0)
  cell-beside i c h = go (le_or_lt (length t) i)
    where
      go : (length t ≤ i) ⊎ (i < length t) → cell t i c ≡ int (pos 0)
      go (inl k) = cell-past t i c k
      go (inr k) = entry_past (row t i) c (rw (wide.each i k) h)

  pub combined_past : (a : ℕ → ℚ) (c : ℕ) → columns ≤ c → combined a t c ≡ int (pos 0)
  combined_past a c h = sum-zero (length t) (λ i k. ap (λ u. a i *ᵠ u) (cell-beside i c h) ∙ mul-zero (a i))

  pub combination_at : (multipliers : List ℚ) (c : ℕ) → entry (combination columns multipliers t) c ≡ combined (entry multipliers) t c
  unfolding combination
  combination_at multipliers c = go (le_or_lt columns c)
    where
      go : (columns ≤ c) ⊎ (c < columns) → entry (combination columns multipliers t) c ≡ combined (entry multipliers) t c
      go (inl h) =
          entry_past (combination columns multipliers t) c (rw (tab_length columns (λ c. sum (length t) (λ i. entry multipliers i *ᵠ cell t i c))) h)
          ∙ sym (combined_past (entry multipliers) c h)
      go (inr h) = tab_get_d columns (λ c. sum (length t) (λ i. entry multipliers i *ᵠ cell t i c)) c (int (pos 0)) h

pub combination_length : (columns : ℕ) (multipliers : List ℚ) (t : Table) → length (combination columns multipliers t) ≡ columns
unfolding combination
combination_length columns multipliers t = tab_length columns _

-- A table with n rows that is a basis for all join conditions of the space.
module _ (s : Space) (t : Table) (B : Basis (Done s (segments s - 1) 0) (column_count s) t) where
  pub basis_meets : (multipliers : List ℚ) → MeetsAll s (combination (column_count s) multipliers t)
  basis_meets multipliers = record { columns = combination_length (column_count s) multipliers t; meets = met }
    where
      met : (j k : ℕ) → j < segments s - 1 → k < condition_count s j → pairing (combination (column_count s) multipliers t) (conditions s j k) ≡ int (pos 0)
      met j k h l = pairing-applied (combination (column_count s) multipliers t) (conditions s j k)
          ∙ applied_ext (conditions s j k) (combination_at (column_count s) t B.wide multipliers)
          ∙ applied-sum (conditions s j k) (length t) (entry multipliers) (cell t)
          ∙ sum-zero (length t) (λ i m. ap (λ u. entry multipliers i *ᵠ u) (B.meets (conditions s j k) (earlier j k h l refl) i) ∙ mul-zero (entry multipliers i))

  pub basis_gives_one : length t ≡ row_count s → (o : Row) → MeetsAll s o → OneCombination s t o
  basis_gives_one n o M = finish (B.spans (entry o) (λ c h. entry_past o c (rw M.columns h)) met)
    where
      met : (κ : List Entry) → Done s (segments s - 1) 0 κ → applied κ (entry o) ≡ int (pos 0)
      met κ (earlier j k h l e) = ap (λ λ'. applied λ' (entry o)) (sym e) ∙ sym (pairing-applied o (conditions s j k)) ∙ M.meets j k h l
      met κ (here k h e) = absurd (omega arith)

      finish : (f : ℕ → ℚ) × ((c : ℕ) → combined f t c ≡ entry o c) → OneCombination s t o
      finish f = record {
        multipliers = multipliers;
        count = tab_length (row_count s) f.0;
        gives = ext_get_or (int (pos 0)) (combination (column_count s) multipliers t) o (combination_length (column_count s) multipliers t ∙ sym M.columns)
            (λ c h. combination_at (column_count s) t B.wide multipliers c ∙ same c ∙ f.1 c);
        only = λ others h e. ext_get_or (int (pos 0)) others multipliers (h ∙ sym (tab_length (row_count s) f.0))
            (λ i l. B.unique (entry others) (entry multipliers)
            (λ c. sym (combination_at (column_count s) t B.wide others c) ∙ ap (λ r. entry r c) e ∙ sym (f.1 c) ∙ sym (same c)) i (rw n (rw h at l)));
      }
        where
          multipliers : List ℚ
          multipliers = tab (row_count s) f.0

          same : (c : ℕ) → combined (entry multipliers) t c ≡ combined f.0 t c
          same c = sum_ext (length t) (λ i h. ap (λ u. u *ᵠ cell t i c) (tab_get_d (row_count s) f.0 i (int (pos 0)) (rw n at h)))

pub combinations_meet_conditions : CombinationsMeetConditions
combinations_meet_conditions s a multipliers = basis_meets s a.table (built s a.table a.is).basis multipliers

pub conditions_give_one_combination : ConditionsGiveOneCombination
conditions_give_one_combination s a o M = let b = built s a.table a.is in basis_gives_one s a.table b.basis (row_count_lem s a.table b) o M
