-- Code 11's tests one by one, and the first series that can't be written, one series after another.
use mathlib.Core.Path.{◌≡◌, refl, sym, ap, ◌∙◌}
use mathlib.Core.Bool.{true, false, not, and-false}
use mathlib.Core.List.{List, [], ◌∷◌, ◌++◌}
use mathlib.Core.Option.{some, none}
use Prim.Native.Nat.{ℕ, suc, ◌+◌}
use native.Mathlib.Numerals.{add-one}
use lib.IntN.{ℤ}
use lib.ListN.{length}
use Rattle.base_exact.proofs.Decide.{cond_true, cond_false}
use Rattle.base_text.specs.Bytes.{Text, begins_with}
use Rattle.spec_tucson.specs.Line.{is_name}
use Rattle.spec_tucson.specs.Series.{Series}
use Rattle.spec_tucson.specs.Writing.{all_widths, is_writable, first_unwritable, series_lines, lines_text, written}
use Rattle.theorems_tucson.proofs.ReadsBack.{CanBeWritten, first-parts}
use Rattle.tucson_series.specs.Sizes.{series, closing_fits}
use Rattle.tucson_series.proofs.Sizes.{series_years}

-- ---- one series

module _ (before name : Text) (y : ℤ) (ws : List ℤ) where
  pub not_named : is_name name ≡ false → is_writable before (series name y ws) ≡ false
  unfolding is_writable
  not_named h = simp (h)

  pub not_measured : all_widths ws ≡ false → is_writable before (series name y ws) ≡ false
  unfolding is_writable
  not_measured h = simp (h, and-false)

  pub not_dated : all_widths ws ≡ true → closing_fits y (length ws) ≡ false → is_writable before (series name y ws) ≡ false
  unfolding is_writable
  not_dated a h = simp (series_years name y ws a ∙ h, and-false)

  pub named-apart : is_name name ≡ true → all_widths ws ≡ true → closing_fits y (length ws) ≡ true
      → is_writable before (series name y ws) ≡ not (begins_with name before)
  unfolding is_writable
  named-apart n a h = simp (n, series_years name y ws a ∙ h, a)

-- ---- one series after another

module _ (k : ℕ) (before : Text) (s : Series) (ss : List Series) where
  pub unwritable-here : is_writable before s ≡ false → first_unwritable k before (s ∷ ss) ≡ some k
  unfolding first_unwritable
  unwritable-here h = cond_false (first_unwritable (suc k) s.name ss) (some k) h

  pub unwritable-later : is_writable before s ≡ true → first_unwritable k before (s ∷ ss) ≡ first_unwritable (k + 1) s.name ss
  unfolding first_unwritable
  unwritable-later h = cond_true (first_unwritable (suc k) s.name ss) (some k) h ∙ ap (λ (n : ℕ). first_unwritable n s.name ss) (sym (add-one k))

pub unwritable-none : (k : ℕ) (before : Text) → first_unwritable k before [] ≡ none
unfolding first_unwritable
unwritable-none k before = refl

-- ---- the text of series that can all be written

pub writable_next : (k : ℕ) (before : Text) (s : Series) (ss : List Series) → first_unwritable k before (s ∷ ss) ≡ none
    → CanBeWritten before s × (first_unwritable (k + 1) s.name ss ≡ none)
writable_next k before s ss e =
    let parts = first-parts k before s ss e in
    (parts.0, ap (λ (n : ℕ). first_unwritable n s.name ss) (add-one k) ∙ parts.1)

pub written_step : (s : Series) (ss : List Series) → written (s ∷ ss) ≡ lines_text (series_lines s) ++ written ss
unfolding written
written_step s ss = refl

pub written_none : written [] ≡ []
unfolding written
written_none = refl
