-- Series put one after another: what is written and the text of the series to come are the whole text.
use mathlib.Core.Path.{◌≡◌, sym, ◌∙◌, ap}
use mathlib.Core.List.{List, ◌∷◌, ◌++◌, append_assoc, append-nil}
use mathlib.Core.Option.{none}
use Prim.Native.Nat.{ℕ, ◌+◌, ◌<◌, ◌≤◌}
use native.Mathlib.Omega.{arith}
use lib.IntN.{ℤ, pos}
use lib.ListN.{length, get_or, length-append}
use lib.Seq.{slice}
use Rattle.base_text.specs.Bytes.{Text}
use Rattle.spec_tucson.specs.Line.{name_columns}
use Rattle.spec_tucson.specs.Series.{Series}
use Rattle.spec_tucson.specs.Writing.{first_unwritable, series_lines, lines_text, written}
use Rattle.spec_tucson.specs.WriteCall.{series_of}
use Rattle.theorems_tucson.proofs.ReadsBack.{CanBeWritten}
use Rattle.tucson_series.proofs.Sizes.{series_years}
use Rattle.tucson_series.proofs.Walk.{Walked, series_from, series_at, walk_more, series-step, series_end}
use Rattle.tucson_series.proofs.Unwritable.{writable_next, written_step, written_none}
use Rattle.tucson_putting.specs.Putting.{Wrote, SeriesFits}
use Rattle.tucson_putting.proofs.Wrote.{wrote_then, wrote_as, wrote_length}

pub record SoFar (names : Text) (years : List ℤ) (counts : List ℕ) (widths : List ℤ) (text₀ text : List ℕ)
    (next at from k : ℕ) : Type 0 where
  pub walked : Walked names years counts widths at from k
  pub before : Text
  pub allowed : first_unwritable k before (series_from names years counts widths at from k) ≡ none
  pub so_far : Text
  pub whole : so_far ++ written (series_from names years counts widths at from k) ≡ written (series_of names years counts widths)
  pub wrote : Wrote 0 so_far text₀ text next

module _ {names : Text} {years : List ℤ} {counts : List ℕ} {widths : List ℤ} {text₀ text : List ℕ} {next at from k : ℕ}
    (i : SoFar names years counts widths text₀ text next at from k) where
  -- a turn's series, and those behind it
  abbrev count : ℕ
  count = get_or counts k 0

  abbrev here : Series
  here = series_at names years counts widths at from k

  abbrev later : List Series
  later = series_from names years counts widths (at + name_columns) (from + count) (k + 1)

  module _ (h : k < length years) where
    step : series_from names years counts widths at from k ≡ here ∷ later
    step = series-step i.walked h

    text-step : written (series_from names years counts widths at from k) ≡ lines_text (series_lines here) ++ written later
    text-step = ap written step ∙ written_step here later

    writable : CanBeWritten i.before here × (first_unwritable (k + 1) here.name later ≡ none)
    writable = writable_next k i.before here later (ap (first_unwritable k i.before) (sym step) ∙ i.allowed)

    pub series-asks : length (written (series_of names years counts widths)) ≤ length text₀
        → SeriesFits (slice at (at + name_columns) names) (get_or years k (pos 0)) (slice from (from + count) widths) next (length text)
    series-asks room =
        let w = writable.0 in
        let rest = series_from names years counts widths at from k in
        record {
          named = w.named;
          dated = sym (series_years _ _ _ w.measured) ∙ w.dated;
          allowed = w.measured;
          fits = omega (
            arith,
            i.wrote.behind,
            wrote_length i.wrote,
            ap length i.whole,
            length-append i.so_far (written rest),
            ap length text-step,
            length-append (lines_text (series_lines here)) (written later),
          );
        }

    pub series-put : {text' : List ℕ} {next' : ℕ} → Wrote next (lines_text (series_lines here)) text text' next'
        → SoFar names years counts widths text₀ text' next' (at + name_columns) (from + count) (k + 1)
    series-put put = record {
      walked = walk_more i.walked h;
      before = here.name;
      allowed = writable.1;
      so_far = i.so_far ++ lines_text (series_lines here);
      whole =
          append_assoc i.so_far (lines_text (series_lines here)) (written later)
          ∙ ap (λ (u : Text). i.so_far ++ u) (sym text-step)
          ∙ i.whole;
      wrote = wrote_then i.wrote put;
    }

  pub all_put : length years ≤ k → Wrote 0 (written (series_of names years counts widths)) text₀ text next
  all_put h =
      let none_left = ap written (series_end i.walked h) ∙ written_none in
      wrote_as (sym (append-nil i.so_far) ∙ ap (λ (t : Text). i.so_far ++ t) (sym none_left) ∙ i.whole) i.wrote
