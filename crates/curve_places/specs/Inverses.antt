-- The inverses of the lengths of all segments, worked out once for a list of positions.
use Rattle.std.specs.Prelude.{cond, List, ltb, ℤ, pos}
use Rattle.base_exact.specs.Tabulate.{tab}
use Rattle.spec_spline.specs.Space.{Space, segment_limit, segments}
use Rattle.spec_spline.specs.Reading.{fine_width}
use Rattle.build_space.specs.Legal.{ListsLegal}
use Rattle.curve_rate.specs.Rate.{whole_of, tail_of}

-- One number for each segment, by its length, in an array; 0 past the segments.
unfoldable pub by_length : (ℤ → ℤ) → Space → List ℤ
by_length f s = tab segment_limit (λ i. cond (ltb i (segments s)) (f (pos (fine_width s i))) (pos 0))

-- The first numbers of the inverses.
abbrev pub wholes_of : Space → List ℤ
wholes_of = by_length whole_of

-- The second ones.
abbrev pub tails_of : Space → List ℤ
tails_of = by_length tail_of

-- Breakpoints and degrees of legal lists.
pub record InversesAsk (breaks degrees : List ℤ) : Type 0 where
  pub orders : List ℤ
  pub legal : ListsLegal breaks degrees orders
