-- Ring indices (§ 9): each measured ring divided by the curve of a named wood. The rings are consecutive, the first one's number is
-- given. What the call ends with is said by the curve call's own definitions, and by code 14 and the indices after them.
use Rattle.std.specs.Prelude.{Bool, cond, not, ◌&&◌, ◌||◌, List, ◌++◌, ℕ, eqb, ltb, ℤ, pos, negsuc, nat_abs, ◌+ℤ◌, ◌*ℤ◌, length, get_or, drop}
use Rattle.std.proofs.Math.Option.{Option, some, none}
use Rattle.std.specs.Int.Signed.{le_z, lt_z}
use Rattle.base_exact.specs.Floor.{floor_div}
use Rattle.base_exact.specs.Tabulate.{tab}
use Rattle.base_outcome.specs.Codes as codes
use Rattle.base_outcome.specs.Outcome.{Outcome, answer, refusal, refuse, ◌then◌}
use Rattle.base_outcome.specs.Search.{first}
use Rattle.spec_spline.specs.Space.{Space}
use Rattle.base_outcome.specs.Tests.{between, refuse_first}
pub use Rattle.base_outcome.specs.Limits.{width_limit}
use Rattle.spec_spline.specs.Reading.{Wood, earlywood, latewood, Pair, fine}
use Rattle.spec_spline.specs.CurveCall.{CurveResult, all_long_enough, curve_outcome, curve_numerators, curve_denominators, values_after}

-- ---- the rings

-- "Ring r is read at position 256·r" (§ 9): the positions of n rings from the first on.
unfoldable pub ring_positions : ℤ → ℕ → List ℤ
ring_positions first_ring n = tab n (λ i. fine (first_ring +ℤ pos i))

-- The width of ring i, in thousandths of a millimetre.
abbrev pub ring_width : List ℤ → ℕ → ℤ
ring_width widths i = get_or widths i (pos 0)

-- No values.
abbrev pub no_pair : Pair
no_pair = record { early = pos 0; late = pos 0 }

-- "Whatever names a wood (indices, reach, pieces) works by that wood's coefficients or values alone" (§ 8): its number of a pair.
abbrev pub of_wood : Wood → Pair → ℤ
of_wood earlywood p = p.early
of_wood latewood p = p.late

-- The named part's value under ring i.
abbrev pub ring_value : Wood → List Pair → ℕ → ℤ
ring_value wood values i = of_wood wood (get_or values i no_pair)

-- ---- code 14

-- "an absent ring, width 0" (§ 9).
abbrev pub is_absent : ℤ → Bool
is_absent width = eqb (nat_abs width) 0

-- 14: "a width below 0 or over 99,999, or a value of zero or less under a present ring" (§ 3).
unfoldable pub is_refused : ℤ → ℤ → Bool
is_refused width value = not (between (pos 0) (pos width_limit) width) || (not (is_absent width) && le_z value (pos 0))

-- Ring i is such an entry.
unfoldable pub bad_ring : Wood → List ℤ → List Pair → ℕ → Bool
bad_ring wood widths values i = is_refused (ring_width widths i) (ring_value wood values i)

-- ---- the indices

-- 256 for the values' units, 1,000 for three decimals.
abbrev pub index_scale : ℤ
index_scale = pos 256000

-- "floor(256,000·width/value)", and "an absent ring, width 0, has -1 whatever its value" (§ 9).
unfoldable pub index_of : ℤ → ℤ → ℤ
index_of width value = cond (is_absent width) (negsuc 0) (floor_div (index_scale *ℤ width) (nat_abs value))

-- The indices of all rings, in list order.
unfoldable pub ring_indices : Wood → List ℤ → List Pair → List ℤ
ring_indices wood widths values = tab (length widths) (λ i. index_of (ring_width widths i) (ring_value wood values i))

-- ---- the call

-- Up to the values: "Number 1 is tested for the places 0, 1, 2, 3 in this order, by lengths only", "then 2 to 9 and 15 as in the
-- curve call at the rings' positions" (§ 9).
unfoldable pub rings_read : Space → List ℤ → ℤ → List ℤ → ℕ → ℕ → ℕ → ℕ → Outcome CurveResult
rings_read s coefs first_ring widths num_length den_length values_length indices_length =
    let positions = ring_positions first_ring (length widths) in
    all_long_enough positions num_length den_length values_length
    (cond (ltb indices_length (length widths)) (refuse codes.short_buffer 3)
    (curve_outcome s coefs positions num_length den_length values_length))

-- "then 14, one pass over all rings before the first index is written" (§ 9), or the indices.
unfoldable pub rings_indexed : Wood → List ℤ → CurveResult → Outcome (List ℤ)
rings_indexed wood widths r = refuse_first codes.ring (first (length widths) (bad_ring wood widths r.values))
    (answer (ring_indices wood widths r.values))

-- It "answers with the count of rings" (§ 9).
abbrev pub indices_returned : Outcome (List ℤ) → Outcome ℕ
indices_returned (answer zs) = answer (length zs)
indices_returned (refusal code place) = refusal code place

-- The index buffer after the call: it "keeps index cells past it" (§ 9), and "No refusal touches indices." (§ 3)
unfoldable pub indices_after : Outcome (List ℤ) → List ℤ → List ℤ
indices_after (answer zs) before = zs ++ drop (length zs) before
indices_after (refusal code place) before = before

-- What the call ends with: the answer and all four lent buffers. "After 14, 16 and 17 the weight buffers are as after an answer;
-- after 14 the values too." (§ 3)
pub record IndicesEnd : Type 0 where
  pub answers : Outcome ℕ
  pub numerators : List ℤ
  pub denominators : List ℤ
  pub values : List ℤ
  pub indices : List ℤ

-- What the call is given: a wood, the three lists, the coefficients, the first ring's number, the widths, and four lent buffers.
pub record RingsCall : Type 0 where
  pub wood : Wood
  pub space : Space
  pub coefs : List ℤ
  pub first_ring : ℤ
  pub widths : List ℤ
  pub num : List ℤ
  pub den : List ℤ
  pub values : List ℤ
  pub indices : List ℤ

-- The end of the call.
abbrev pub indices_end : RingsCall → IndicesEnd
indices_end c =
    let o = rings_read c.space c.coefs c.first_ring c.widths (length c.num) (length c.den) (length c.values)
    (length c.indices) in
    let i = o then rings_indexed c.wood c.widths in
    record {
      answers = indices_returned i;
      numerators = curve_numerators c.space o c.num;
      denominators = curve_denominators c.space o c.den;
      values = values_after o c.values;
      indices = indices_after i c.indices;
    }
