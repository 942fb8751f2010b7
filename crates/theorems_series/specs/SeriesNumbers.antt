-- What a series ends with in the program `rings` once sheet and file are accepted: its lines, or a refusal, "which can only be 2, 7 or
-- 14" (§ 18), at one of its own rings. The statements are proved in proofs/SeriesNumbers.
use Rattle.std.specs.Prelude.{◌≡◌, ◌≢◌, Bool, not, List, [], ◌∷◌, ◌++◌, ℕ, ◌<◌, ◌≤◌, ℤ, pos, ◌+ℤ◌, length, ◌≤ℤ◌}
use Rattle.std.proofs.Math.Option.{some, none}
use Rattle.base_outcome.specs.Codes as codes
use Rattle.base_outcome.specs.Outcome.{Outcome, answer, refusal, ◌then◌}
use Rattle.base_outcome.specs.Search.{first}
use Rattle.base_outcome.specs.Tests.{between}
use Rattle.base_text.specs.Bytes.{Text}
use Rattle.spec_spline.specs.Space.{Space, segments, break}
use Rattle.spec_spline.specs.Reading.{side_by_side}
use Rattle.spec_spline.specs.CurveCall.{position_limit, CurveResult}
use Rattle.spec_calls.specs.Indices.{ring_width, ring_value, bad_ring, rings_indexed}
use Rattle.spec_sheet.specs.Sheet.{arguments_of, space_of}
use Rattle.spec_tucson.specs.Series.{Series}
use Rattle.spec_table.specs.RingLines.{ring_lines}
use Rattle.spec_rings.specs.Ready.{Ready, ready}
use Rattle.spec_rings.specs.Rings.{indexed_series, series_values, fault_line, series_text}

-- ---- a series with the sheet's curve

-- The sheet's space.
abbrev pub sheet_space : Ready → Space
sheet_space r = space_of (arguments_of r.lists)

-- The sheet's coefficients.
abbrev pub sheet_coefs : Ready → List ℤ
sheet_coefs r = side_by_side r.lists.coefs

-- "the index call of its widths with its first year as the first ring" (§ 18).
abbrev pub index_call : Ready → Series → Outcome (List ℤ)
index_call r s = series_values (sheet_space r) (sheet_coefs r) s then rings_indexed r.wood s.widths

-- The bytes that the program prints of it.
abbrev pub printed : Ready → Series → Text
printed r s = series_text r.wood (sheet_space r) (sheet_coefs r) s

-- The year of ring i: "Rings are years" (§ 18).
abbrev pub year_of : Series → ℕ → ℤ
year_of s i = s.first_year +ℤ pos i

-- It is before the first breakpoint or behind the last.
abbrev pub is_outside : Ready → Series → ℕ → Bool
is_outside r s i = not (between (break (sheet_space r) 0) (break (sheet_space r) (segments (sheet_space r))) (year_of s i))

-- ---- its end

-- No more than 4,096 rings, none of them outside, and their values.
pub record Valued (r : Ready) (s : Series) (v : CurveResult) : Type 0 where
  pub few : length s.widths ≤ position_limit
  pub inside : first (length s.widths) (is_outside r s) ≡ none
  pub values : series_values (sheet_space r) (sheet_coefs r) s ≡ answer v

-- The ends of a series with the bytes printed: the lines of its rings, or one line with the year of a ring that it has. That is the
-- 4,097th for 2, which comes with more than 4,096 widths; the first ring outside the breakpoints for 7; the first that the index call
-- refuses for 14.
pub data SeriesEnd (r : Ready) (s : Series) : Outcome (List ℤ) → Text → Type 0 where
  answered : (v : CurveResult) → Valued r s v → (zs : List ℤ) → rings_indexed r.wood s.widths v ≡ answer zs
      → SeriesEnd r s (answer zs) (ring_lines r.wood (indexed_series s v zs))
  many_widths : position_limit < length s.widths
      → SeriesEnd r s (refusal codes.lengths 1) (fault_line s.name (year_of s position_limit) codes.lengths)
  outside : length s.widths ≤ position_limit → (i : ℕ) → i < length s.widths → first (length s.widths) (is_outside r s) ≡ some i
      → SeriesEnd r s (refusal codes.position i) (fault_line s.name (year_of s i) codes.position)
  at_ring : (v : CurveResult) → Valued r s v → (i : ℕ) → i < length s.widths
      → first (length s.widths) (bad_ring r.wood s.widths v.values) ≡ some i
      → SeriesEnd r s (refusal codes.ring i) (fault_line s.name (year_of s i) codes.ring)

-- Each series ends so, whatever its name, its first year and its widths are.
abbrev pub SeriesNumbers : Type 0
SeriesNumbers = (t : Text) (r : Ready) → ready t ≡ answer r → (s : Series) → SeriesEnd r s (index_call r s) (printed r s)

-- "none where it has no widths" (§ 18): such a series is never refused.
abbrev pub EmptySeriesPrintNothing : Type 0
EmptySeriesPrintNothing = (t : Text) (r : Ready) → ready t ≡ answer r → (s : Series) → s.widths ≡ []
    → (index_call r s ≡ answer []) × (printed r s ≡ [])

-- No width of the file brings 14: the ring is present, and its curve is zero or less.
abbrev pub FourteenIsLow : Type 0
FourteenIsLow = (t : Text) (r : Ready) → ready t ≡ answer r
    → (before later : List Series) (s : Series) → r.series ≡ before ++ (s ∷ later)
    → (v : CurveResult) (i : ℕ) → first (length s.widths) (bad_ring r.wood s.widths v.values) ≡ some i
    → (ring_width s.widths i ≢ pos 0) × (ring_value r.wood v.values i ≤ℤ pos 0)
