-- The bytes of series by their years and counts, one series after another.
use mathlib.Core.Path.{◌≡◌, refl, sym, ap, ap₂, ◌∙◌}
use mathlib.Core.Bool.{Bool, true, ◌&&◌}
use mathlib.Core.List.{List, [], ◌∷◌}
use mathlib.Core.Option.{none}
use Prim.Native.Nat.{ℕ, suc, ◌+◌, ◌<◌, ◌≤◌}
use native.Mathlib.Omega.{arith}
use lib.IntN.{ℤ, pos}
use lib.ListN.{length, get_or, take, drop, length-append, length-drop}
use lib.Seq.{length-take-le}
use Rattle.base_exact.proofs.Decide.{and-true}
use Rattle.base_text.specs.Bytes.{Text}
use Rattle.spec_tucson.specs.Line.{name_columns}
use Rattle.spec_tucson.specs.Series.{Series}
use Rattle.spec_tucson.specs.Writing.{first_unwritable, series_lines, lines_text, written}
use Rattle.spec_tucson.specs.WriteCall.{total, series_of}
use Rattle.theorems_tucson.proofs.TucsonCells.{ListsFit}
use Rattle.theorems_tucson.proofs.ReadsBack.{first-parts}
use Rattle.tucson_series.specs.Sizes.{series, closing_fits, closings_fit, series_bytes, text_bytes}
use Rattle.tucson_series.proofs.Tests.{drop-step, drop_end}
use Rattle.tucson_series.proofs.Sizes.{series_years, series_length}

module _ (years : List ℤ) (counts : List ℕ) (k : ℕ) where
  pub bytes-step : k < length years → k < length counts
      → text_bytes (drop k years) (drop k counts) ≡ series_bytes (get_or years k (pos 0)) (get_or counts k 0) + text_bytes (drop (k + 1) years) (drop (k + 1) counts)
  unfolding text_bytes
  bytes-step h l = ap₂ text_bytes (drop-step years k (pos 0) h) (drop-step counts k 0 l)

  pub bytes_end : length years ≤ k → k ≤ length years → text_bytes (drop k years) (drop k counts) ≡ 0
  unfolding text_bytes
  bytes_end h l = ap (λ (ys : List ℤ). text_bytes ys (drop k counts)) (drop_end years k h l)

  pub closings_step : k < length years → k < length counts → closings_fit (drop k years) (drop k counts) ≡ true
      → (closing_fits (get_or years k (pos 0)) (get_or counts k 0) ≡ true) × (closings_fit (drop (k + 1) years) (drop (k + 1) counts) ≡ true)
  unfolding closings_fit
  closings_step h l e =
      and-true (closing_fits (get_or years k (pos 0)) (get_or counts k 0)) (closings_fit (drop (k + 1) years) (drop (k + 1) counts))
      (rw (drop-step years k (pos 0) h, drop-step counts k 0 l) at e)

-- ---- the bytes of the text of series that can all be written

pub record Counted (years : List ℤ) (counts : List ℕ) (ss : List Series) : Type 0 where
  pub closed : closings_fit years counts ≡ true
  pub bytes : length (written ss) ≡ text_bytes years counts

none-counted : (counts : List ℕ) → Counted [] counts []
unfolding closings_fit text_bytes written
none-counted counts = record { closed = refl; bytes = refl }

more_counted : (y : ℤ) (ys : List ℤ) (n : ℕ) (ns : List ℕ) (s : Series) (ss : List Series)
    → closing_fits y n ≡ true → length (lines_text (series_lines s)) ≡ series_bytes y n → Counted ys ns ss → Counted (y ∷ ys) (n ∷ ns) (s ∷ ss)
unfolding closings_fit text_bytes written
more_counted y ys n ns s ss e b c = record {
  closed = ap₂ (λ (p q : Bool). p && q) e c.closed;
  bytes = length-append (lines_text (series_lines s)) (written ss) ∙ ap₂ (λ (p q : ℕ). p + q) b c.bytes;
}

pub all_counted : (years : List ℤ) (names : Text) (counts : List ℕ) (widths : List ℤ) (k : ℕ) (before : Text)
    → ListsFit names years counts widths → first_unwritable k before (series_of names years counts widths) ≡ none
    → Counted years counts (series_of names years counts widths)
unfolding series_of total
all_counted [] names counts widths k before f e = none-counted counts
all_counted (y ∷ years) names [] widths k before f e = absurd (omega (arith, f.counts_fit))
all_counted (y ∷ years) names (n ∷ counts) widths k before f e =
    let name = take name_columns names in
    let ws = take n widths in
    let parts = first-parts k before (series name y ws) (series_of (drop name_columns names) years counts (drop n widths)) e in
    let w = parts.0 in
    let size : length ws ≡ n = length-take-le n widths (omega (arith, f.widths_fit)) in
    let dated : closing_fits y (length ws) ≡ true = sym (series_years name y ws w.measured) ∙ w.dated in
    let rest : ListsFit (drop name_columns names) years counts (drop n widths) = record {
      names_fit = length-drop name_columns names ∙ omega (arith, f.names_fit);
      counts_fit = omega (arith, f.counts_fit);
      widths_fit = omega (arith, f.widths_fit, length-drop n widths);
    } in
    more_counted y years n counts (series name y ws) (series_of (drop name_columns names) years counts (drop n widths))
    (ap (closing_fits y) (sym size) ∙ dated) (series_length name w.named y ws w.measured dated ∙ ap (series_bytes y) size)
    (all_counted years (drop name_columns names) counts (drop n widths) (suc k) name rest parts.1)
