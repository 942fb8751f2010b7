-- The rings by the value cells, where the two parts stand side by side.
use Rattle.std.specs.Prelude.{Bool, false, List, ◌≡◌, ℕ, ◌+◌, ◌*◌, ◌<◌, ◌≤◌, ℤ, pos, length, get_or}
use Rattle.spec_calls.specs.Indices.{ring_width, is_refused, index_of}

-- Code 14 of ring i, by the cell of its value.
unfoldable pub bad_cell : List ℤ → List ℤ → ℕ → ℕ → Bool
bad_cell widths cells offset i = is_refused (ring_width widths i) (get_or cells (2 * i + offset) (pos 0))

-- The index of ring i, by the cell of its value.
unfoldable pub cell_index : List ℤ → List ℤ → ℕ → ℕ → ℤ
cell_index widths cells offset i = index_of (ring_width widths i) (get_or cells (2 * i + offset) (pos 0))

-- ---- what is asked

-- Ring i has a width and a value cell.
pub record RingAt (widths values : List ℤ) (offset i : ℕ) : Type 0 where
  pub within : i < length widths
  pub valued : 2 * i + offset < length values

-- Code 14 passes it.
pub record GoodRing (widths values : List ℤ) (offset i : ℕ) : Type 0 where
  pub ring : RingAt widths values offset i
  pub good : bad_cell widths values offset i ≡ false

-- Two cells for each ring, of which the one at the offset is its value.
pub record RingsAt (widths values : List ℤ) (offset : ℕ) : Type 0 where
  pub valued : 2 * length widths ≤ length values
  pub offset_low : offset < 2

-- Code 14 passes every ring, and there is room for the indices.
pub record GoodRings (widths values : List ℤ) (offset : ℕ) (indices : List ℤ) : Type 0 where
  pub rings : RingsAt widths values offset
  pub room : length widths ≤ length indices
  pub good : (i : ℕ) → i < length widths → bad_cell widths values offset i ≡ false
