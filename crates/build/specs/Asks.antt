-- What the build of a part of a beam, and of all its parts, asks.
use Rattle.std.specs.Prelude.{List, ◌≡◌, ℕ, ℤ}
use Rattle.spec_spline.specs.Space.{Space, part_end}
use Rattle.theorems_beams.specs.Parts.{Starts}
use Rattle.build_space.specs.Machine.{space}
use Rattle.build_space.specs.Legal.{ListsLegal}
use Rattle.build_joins.specs.Asks.{BuffersFit, UsedRows}

-- The segments from a up to b are a part of the space.
pub record PartIs (s : Space) (a b : ℕ) : Type 0 where
  pub starts : Starts s a
  pub ends : b ≡ part_end s a

-- A part of legal lists, and buffers that are clear from row `used` on.
pub record PartAsks (breaks degrees orders : List ℤ) (a b : ℕ) (num den : List ℤ) (used : ℕ) : Type 0 where
  pub legal : ListsLegal breaks degrees orders
  pub part : PartIs (space breaks degrees orders) a b
  pub room : BuffersFit num den
  pub rest : UsedRows num den used

-- All parts of legal lists, and buffers for the table of one.
pub record PartsAsk (breaks degrees orders num den : List ℤ) : Type 0 where
  pub legal : ListsLegal breaks degrees orders
  pub room : BuffersFit num den
