-- Coefficients of a beam (§ 12): one call takes a whole beam, its parts from the left. What is recovered of a beam cut at a
-- discontinuity is what is recovered of its sections by themselves.
use Rattle.std.specs.Prelude.{◌≡◌, List, ◌++◌, ℕ, ◌+◌, ℤ, length, take, drop}
use Rattle.base_outcome.specs.Outcome.{answer, ◌then◌}
use Rattle.spec_spline.specs.Space.{Space, segments, checked, column_count}
use Rattle.theorems_beams.specs.Sections.{section, beside, later}
use Rattle.theorems_beams.specs.Parts.{Starts}
use Rattle.spec_calls.specs.Recovery.{Combination, recovered}

-- The tables of the two spaces side by side, and their coefficients in a row.
abbrev pub together : Space → Space → Combination → Combination → Combination
together before behind r q = record {
  table = beside (column_count before) (column_count behind) r.table q.table;
  coefficients = r.coefficients
      ++ q.coefficients;
}

-- A beam cut before segment a, each section with the ordinates of its own columns: its coefficients are those of the two
-- sections, or the refusal of the first section that is refused, its place counted over the beam.
abbrev pub CutRecovered : Type 0
CutRecovered = (s : Space) → checked s ≡ answer s → (a n : ℕ) → Starts s a → segments s ≡ a + n → (ordinates : List ℤ)
    → length ordinates ≡ column_count s
    → recovered s ordinates ≡ (recovered (section s 0 a) (take (column_count (section s 0 a)) ordinates) then λ r.
    later a (recovered (section s a n) (drop (column_count (section s 0 a)) ordinates)) then λ q. answer
    (together (section s 0 a) (section s a n) r q))
