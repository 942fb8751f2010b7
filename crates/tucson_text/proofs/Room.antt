-- Series by the bytes of their text: each has at least 19, and 6 for each width. So a text that the filter holds has no more
-- series and widths than its buffers take.
use mathlib.Core.Path.{◌≡◌, sym, ◌∙◌}
use mathlib.Core.List.{List, [], ◌∷◌}
use mathlib.Core.Option.{none}
use Prim.Native.Nat.{ℕ, suc, ◌+◌, ◌*◌, ◌≤◌}
use native.Mathlib.Omega.{arith}
use lib.ListN.{length, length-append}
use Rattle.base_text.specs.Bytes.{Text}
use Rattle.spec_tucson.specs.Series.{Series}
use Rattle.spec_tucson.specs.Writing.{first_unwritable, series_lines, lines_text, written}
use Rattle.spec_tucson.specs.ReadCall.{widths_of}
use Rattle.theorems_tucson.proofs.ReadsBack.{CanBeWritten, first-parts}
use Rattle.tucson_series.specs.Sizes.{series_bytes}
use Rattle.tucson_series.proofs.Sizes.{series_years, series_length}

-- The sizes of the filter's buffers: series, the bytes of their names, and widths.
abbrev pub series_cells : ℕ
series_cells = 55188

abbrev pub name_bytes : ℕ
name_bytes = 441504

abbrev pub width_cells : ℕ
width_cells = 174762

-- one series
series_at_least : (before : Text) (s : Series) → CanBeWritten before s → 19 + 6 * length s.widths ≤ length (lines_text (series_lines s))
unfolding series_bytes
series_at_least before s w =
    omega (
      arith,
      series_length s.name w.named s.first_year s.widths w.measured
          (sym (series_years s.name s.first_year s.widths w.measured) ∙ w.dated),
    )

-- a list of them
pub bytes_at_least : (ss : List Series) (place : ℕ) (before : Text) → first_unwritable place before ss ≡ none
    → 19 * length ss + 6 * length (widths_of ss) ≤ length (written ss)
unfolding written widths_of
bytes_at_least [] place before e = omega arith
bytes_at_least (s ∷ ss) place before e =
    let parts = first-parts place before s ss e in
    omega (
      arith,
      series_at_least before s parts.0,
      bytes_at_least ss (suc place) s.name parts.1,
      length-append s.widths (widths_of ss),
      length-append (lines_text (series_lines s)) (written ss),
    )
