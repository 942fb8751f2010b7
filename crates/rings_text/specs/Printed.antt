-- What printing a series asks: a name of the form, widths and years as files have them, lists that fit each other, and room.
use Rattle.std.specs.Prelude.{true, List, ◌≡◌, ℕ, ◌*◌, ◌≤◌, length}
use Rattle.base_text.specs.Bytes.{Text}
use Rattle.spec_spline.specs.Space.{Space, lengths_fit}
use Rattle.spec_spline.specs.CurveCall.{position_limit}
use Rattle.spec_spline.specs.Reading.{Wood}
use Rattle.spec_tucson.specs.Line.{is_name}
use Rattle.spec_table.specs.RingLines.{IndexedSeries, ring_lines}
use Rattle.spec_table.specs.RingLinesCall.{ring_lists_fit}

-- The most bytes of a line, of a ring or of a refusal: 18 of the name and 100 of the rest.
abbrev pub line_limit : ℕ
line_limit = 118

-- The most bytes of a series' lines, 483,328.
abbrev pub series_limit : ℕ
series_limit = line_limit * position_limit

-- A line of a refusal asks a name of the form, and room for a line.
pub record FaultAsks (name : Text) (out : List ℕ) : Type 0 where
  pub named : is_name name ≡ true
  pub room : line_limit ≤ length out

-- The lines of rings ask lists that fit each other, a name of the form, and room.
pub record LinesAsk (wood : Wood) (i : IndexedSeries) (out : List ℕ) : Type 0 where
  pub fit : ring_lists_fit i ≡ true
  pub named : is_name i.name ≡ true
  pub room : length (ring_lines wood i) ≤ length out

-- A series asks more: lists whose lengths fit, and room for all its lines.
pub record SeriesAsks (s : Space) (name : Text) (out : List ℕ) : Type 0 where
  pub fitting : lengths_fit s ≡ true
  pub named : is_name name ≡ true
  pub room : series_limit ≤ length out
