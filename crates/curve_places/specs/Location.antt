-- The location of a position, which both wood parts share, and the value that a list of ordinates has there.
use Rattle.std.specs.Prelude.{List, [], ◌≡◌, ℕ, ◌+◌, ◌<◌, ◌≤◌, ℤ, pos, nat_abs, get_or}
use Rattle.spec_spline.specs.Space as splines
use Rattle.spec_spline.specs.Reading as reading
use Rattle.build_space.specs.Machine.{space}
use Rattle.build_space.specs.Legal.{ListsLegal}
use Rattle.curve_rate.specs.Rate.{Offset, Inverted, Rated, SomeRate}
use Rattle.curve_places.specs.Offsets.{column_limit, columns_of, BeamOrdinates, Within}
use Rattle.curve_places.specs.declared.Pair.{Pair}
use Rattle.curve_places.specs.declared.Location.{Location}

-- The location of position x.
unfoldable pub location_of : splines.Space → ℤ → Location
location_of s x = let i = reading.segment_at s x in record {
  column = splines.first_column s i;
  degree = splines.degree s i;
  offset = reading.offset s i x;
  width = pos (reading.fine_width s i);
}

-- At most six columns, all within an array of 288, and an offset within the segment.
pub record Sound (p : Location) : Type 0 where
  pub low : p.degree ≤ splines.degree_limit
  pub within : p.column + p.degree < column_limit
  pub inside : Offset p.offset p.width

-- The triangle of the ordinates from the location's column on.
unfoldable pub value_of : List ℤ → Location → ℤ
value_of os p = reading.triangle (nat_abs p.width) p.offset (λ k. get_or os (p.column + k) (pos 0)) p.degree 0

-- ---- what is asked

-- Position x in segment i of legal lists, with the first columns of their segments.
pub record LocationAsks (breaks degrees : List ℤ) (columns : List ℕ) (i : ℕ) (x : ℤ) : Type 0 where
  pub orders : List ℤ
  pub legal : ListsLegal breaks degrees orders
  pub within : Within (space breaks degrees orders) x
  pub found : i ≡ reading.segment_at (space breaks degrees orders) x
  pub columns_are : columns ≡ columns_of (space [] degrees [])

-- The p + 1 ordinates from column c on, and a rate.
pub record ValueAsks (os : List ℤ) (c p : ℕ) (high low : ℤ) : Type 0 where
  pub degree_low : p ≤ splines.degree_limit
  pub columns-within : c + p < column_limit
  pub rate : SomeRate high low
  pub ordinates : BeamOrdinates os

-- A location, and the ordinates of one wood part.
pub record ValueAtAsks (os : List ℤ) (p : Location) : Type 0 where
  pub sound : Sound p
  pub ordinates : BeamOrdinates os

-- A location, the ordinates of both, and the inverse of the length.
pub record PairAsks (earlywood latewood : List ℤ) (p : Location) (whole tail : ℤ) : Type 0 where
  pub sound : Sound p
  pub inverted : Inverted whole tail p.width
  pub early_ordinates : BeamOrdinates earlywood
  pub late_ordinates : BeamOrdinates latewood

-- ---- what is left

-- The location of position x in segment i, whatever the orders are by which it lies there.
pub record LocationIs (breaks degrees : List ℤ) (i : ℕ) (x : ℤ) (r : Location) : Type 0 where
  pub is : (o : List ℤ) → i ≡ reading.segment_at (space breaks degrees o) x → r ≡ location_of (space breaks degrees o) x
  pub sound : Sound r

-- The triangle of these ordinates, for every offset of this rate.
abbrev pub ValueIs : List ℤ → ℕ → ℕ → ℤ → ℤ → ℤ → Type 0
ValueIs os c p high low r = (u d : ℤ) → Rated high low u d → r ≡ reading.triangle (nat_abs d) u (λ k. get_or os (c + k) (pos 0)) p 0

-- The value of each wood part.
pub record PairIs (earlywood latewood : List ℤ) (p : Location) (r : Pair) : Type 0 where
  pub early_is : r.early ≡ value_of earlywood p
  pub late_is : r.late ≡ value_of latewood p
