-- The new rows of a step: that the factors are as they ask, and that a table with a new row fits.
use mathlib.Core.Path.{◌≡◌, ◌∙◌, ap}
use mathlib.Core.Bool.{true}
use mathlib.Core.List.{List, []}
use Prim.Native.Nat.{ℕ, ◌<◌}
use native.Mathlib.Decide.{ℕ_discrete}
use lib.ListN.{length, set}
use lib.Seq.{get_or-set_same, get_or-set_other}
use Rattle.base_exact.specs.Rational.{ℚ}
use Rattle.base_fraction.specs.Size.{fits}
use Rattle.base_outcome.specs.Outcome.{answer}
use Rattle.spec_spline.specs.Table.{Row, Table, entry, cell}
use Rattle.spec_spline.specs.Step.{Span, factors}
use Rattle.spec_spline.proofs.Answers.{factors_unit}
use Rattle.base_fraction.specs.Fractions.{fractions}
use Rattle.base_fraction.specs.declared.arrays.Fractions.{Fractions}
use Rattle.build_rows.specs.Rows.{UnitFactors}

pub unit_factors : (j : ℕ) (qs : List ℚ) (g : Span) (us : List ℚ) {ws : Fractions} → factors j qs g ≡ answer us → ws ≡ fractions us → UnitFactors ws
unit_factors j qs g us e is = record {
  of = us;
  is = is;
  fit = λ i. (factors_unit j qs g e i).fit;
  low = λ i. (factors_unit j qs g e i).low;
  high = λ i. (factors_unit j qs g e i).high;
}

-- a table whose entries fit, with a row that fits in the place of another
pub set_fits : (t : Table) (i : ℕ) (s : Row) → i < length t → ((k c : ℕ) → fits (cell t k c) ≡ true) → ((c : ℕ) → fits (entry s c) ≡ true) → (k c : ℕ) → fits (cell (set t i s) k c) ≡ true
set_fits t i s h old new k c = go (ℕ_discrete k i)
  where
    go : Dec (k ≡ i) → fits (cell (set t i s) k c) ≡ true
    go (yes e) = ap (λ n. fits (cell (set t i s) n c)) e ∙ ap (λ r. fits (entry r c)) (get_or-set_same t i s [] h) ∙ new c
    go (no e) = ap (λ r. fits (entry r c)) (get_or-set_other t i k s [] e) ∙ old k c
