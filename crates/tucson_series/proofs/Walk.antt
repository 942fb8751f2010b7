-- The series in the four lists, one after another: those from the k-th on, whose names begin at one index and whose widths at
-- another.
use mathlib.Core.Path.{◌≡◌, sym, ap, ap₂, ◌∙◌}
use mathlib.Core.List.{List, [], ◌∷◌}
use Prim.Native.Nat.{ℕ, ◌+◌, ◌*◌, ◌-◌, ◌<◌, ◌≤◌}
use native.Mathlib.Omega.{arith}
use lib.IntN.{ℤ, pos}
use lib.ListN.{length, get_or, drop}
use lib.Seq.{slice, drop-drop}
use Rattle.base_text.specs.Bytes.{Text}
use Rattle.base_text.proofs.Slice.{slice_take}
use Rattle.spec_tucson.specs.Line.{name_columns}
use Rattle.spec_tucson.specs.Series.{Series}
use Rattle.spec_tucson.specs.WriteCall.{total, series_of}
use Rattle.theorems_tucson.proofs.TucsonCells.{ListsFit}
use Rattle.tucson_series.specs.Sizes.{series}
use Rattle.tucson_series.proofs.Tests.{drop-step, drop_end, total-step}

module _ (names : Text) (years : List ℤ) (counts : List ℕ) (widths : List ℤ) where
  -- The series from the k-th on.
  abbrev pub series_from : ℕ → ℕ → ℕ → List Series
  series_from at from k = series_of (drop at names) (drop k years) (drop k counts) (drop from widths)

  -- The k-th series.
  abbrev pub series_at : ℕ → ℕ → ℕ → Series
  series_at at from k = series (slice at (at + name_columns) names) (get_or years k (pos 0)) (slice from (from + get_or counts k 0) widths)

  -- So far the walk has come.
  pub record Walked (at from k : ℕ) : Type 0 where
    pub passed : k ≤ length years
    pub counted : length counts ≡ length years
    pub names-left : length names ≡ at + (length years - k) * name_columns
    pub widths_left : from + total (drop k counts) ≡ length widths

module _ {names : Text} {years : List ℤ} {counts : List ℕ} {widths : List ℤ} where
  pub walk_begins : ListsFit names years counts widths → Walked names years counts widths 0 0 0
  walk_begins f = record {
    passed = omega arith;
    counted = f.counts_fit;
    names-left = omega (arith, f.names_fit);
    widths_left = omega (arith, f.widths_fit);
  }

  module _ {at from k : ℕ} (w : Walked names years counts widths at from k) (h : k < length years) where
    pub name-within : at + name_columns ≤ length names
    name-within = omega (arith, w.names-left)

    pub widths_within : from + get_or counts k 0 ≤ length widths
    widths_within = omega (arith, w.widths_left, w.counted, total-step counts k (omega (arith, w.counted)))

    pub walk_more : Walked names years counts widths (at + name_columns) (from + get_or counts k 0) (k + 1)
    walk_more = record {
      passed = omega arith;
      counted = w.counted;
      names-left = omega (arith, w.names-left);
      widths_left = omega (arith, w.widths_left, w.counted, total-step counts k (omega (arith, w.counted)));
    }

    pub series-step : series_from names years counts widths at from k
        ≡ series_at names years counts widths at from k
        ∷ series_from names years counts widths (at + name_columns) (from + get_or counts k 0) (k + 1)
    unfolding series_of
    series-step =
        let y = get_or years k (pos 0) in
        let n = get_or counts k 0 in
        let ys = drop (k + 1) years in
        let ns = drop (k + 1) counts in
        let rest = series_of (drop name_columns (drop at names)) ys ns (drop n (drop from widths)) in
        ap₂ (λ (us : List ℤ) (ms : List ℕ). series_of (drop at names) us ms (drop from widths))
        (drop-step years k (pos 0) h) (drop-step counts k 0 (omega (arith, w.counted)))
        ∙ ap₂ (λ (t : Text) (ws : List ℤ). series t y ws ∷ rest) (sym (slice_take at name_columns names)) (sym (slice_take from n widths))
        ∙ ap₂ (λ (t : Text) (ws : List ℤ). series_at names years counts widths at from k ∷ series_of t ys ns ws)
        (drop-drop name_columns at names) (drop-drop n from widths)

  pub series_end : {at from k : ℕ} → Walked names years counts widths at from k → length years ≤ k
      → series_from names years counts widths at from k ≡ []
  unfolding series_of
  series_end {at} {from} {k} w h =
      ap (λ (ys : List ℤ). series_of (drop at names) ys (drop k counts) (drop from widths)) (drop_end years k h w.passed)
