-- The cases W1 to W10 (§ 13 for W1 and § 15 for the others), two in which a limit of step 1 acts and some in which the wood parts
-- differ (§ 8), as one table of inputs and outcomes; and the segments of positions on joins of each kind and beside them. The
-- statements at the end are proved by computation in proofs/Cases.
use Rattle.std.specs.Prelude.{◌≡◌, List, [], ◌∷◌, map, ℕ, ◌*◌, ◌-◌, ℤ, pos, neg_ℤ, length}
use Rattle.base_exact.specs.Tabulate.{tab}
use Rattle.base_outcome.specs.Outcome.{Outcome, answer, refusal, with_answer}
use Rattle.spec_spline.specs.Space.{Space}
use Rattle.spec_spline.specs.Table.{Table, table_cells}
use Rattle.spec_spline.specs.Build.{built}
use Rattle.spec_spline.specs.Reading.{Pair, side_by_side, segment_at}
use Rattle.spec_spline.specs.CurveCall.{curve_outcome}
use Rattle.spec_spline.specs.Listing.{Weight, table_weights}

-- What a call shows when it answers: n, the weights and the values.
pub record Answered : Type 0 where
  pub rows : ℕ
  pub weights : List Weight
  pub values : List Pair

-- That of a table and a list of values; n is the number of the table's rows.
abbrev pub shown : Table → List Pair → Answered
shown t values = record { rows = length t; weights = table_weights 0 t; values = values }

-- Building alone, or the curve call with the numbers of its coefficients, side by side, and its positions.
pub data Call : Type 0 where
  building : Call
  curve : List ℤ → List ℤ → Call

-- What the definitions say of a call on a space, with buffers just long enough.
unfoldable pub outcome : Space → Call → Outcome Answered
outcome s building = with_answer (λ t. shown t []) (built s table_cells table_cells)
outcome s (curve coefs positions) = with_answer (λ r. shown r.table r.values)
    (curve_outcome s coefs positions table_cells table_cells (2 * length positions))

-- One line of the table of cases.
pub record Case : Type 0 where
  pub space : Space
  pub call : Call
  pub ends : Outcome Answered

-- A space, a call on it and its outcome.
abbrev pub line : Space → Call → Outcome Answered → Case
line s c o = record { space = s; call = c; ends = o }

-- Breakpoints, degrees and orders.
abbrev pub space : List ℕ → List ℕ → List ℤ → Space
space breaks degrees orders = record { breaks = map pos breaks; degrees = map pos degrees; orders = orders }

-- The curve call with these pairs of coefficients.
abbrev pub reading_pairs : List Pair → List ℤ → Call
reading_pairs coefs positions = curve (side_by_side coefs) positions

-- An answer with this n, these weights and these pairs of values.
abbrev pub answer_pairs : ℕ → List Weight → List Pair → Outcome Answered
answer_pairs n weights values = answer (record { rows = n; weights = weights; values = values })

-- A number for each wood part.
abbrev pub pair : ℤ → ℤ → Pair
pair early late = record { early = early; late = late }

-- "In each, every coefficient stands for both woods." (§ 15)
abbrev pub for_both : List ℤ → List Pair
for_both zs = map (λ z. pair z z) zs

-- The curve call with these coefficients, each for both parts.
abbrev pub reading : List ℤ → List ℤ → Call
reading coefs positions = reading_pairs (for_both coefs) positions

-- An answer with this n, these weights and these values, each for both parts.
abbrev pub answers : ℕ → List Weight → List ℤ → Outcome Answered
answers n weights values = answer_pairs n weights (for_both values)

-- n over d in row r and column c.
abbrev pub weight_at : ℕ → ℕ → ℕ → ℕ → Weight
weight_at r c n d = record { row = r; column = c; numerator = pos n; denominator = d }

-- ---- the spaces, and their weights where they are accepted

-- W1, W2, W3 and W10: the weights are those that the specification prints.
abbrev pub space1 : Space
space1 = space (0 ∷ 1 ∷ 3 ∷ []) (2 ∷ 2 ∷ []) (pos 1 ∷ [])

abbrev pub weights1 : List Weight
weights1 =
    weight_at 0 0 1 1 ∷
    weight_at 1 1 1 1 ∷ weight_at 1 2 2 3 ∷ weight_at 1 3 2 3 ∷
    weight_at 2 2 1 3 ∷ weight_at 2 3 1 3 ∷ weight_at 2 4 1 1 ∷
    weight_at 3 5 1 1 ∷ []

-- W4: "the join's ordinate has the weights 4/7, 3/7" (§ 15), in columns 2 and 3.
abbrev pub space4 : Space
space4 = space (0 ∷ 1 ∷ 3 ∷ []) (2 ∷ 3 ∷ []) (pos 1 ∷ [])

abbrev pub weights4 : List Weight
weights4 =
    weight_at 0 0 1 1 ∷
    weight_at 1 1 1 1 ∷ weight_at 1 2 4 7 ∷ weight_at 1 3 4 7 ∷
    weight_at 2 2 3 7 ∷ weight_at 2 3 3 7 ∷ weight_at 2 4 1 1 ∷
    weight_at 3 5 1 1 ∷
    weight_at 4 6 1 1 ∷ []

-- W5: "n = 5; the join's ordinate 1/4, 1/2, 1/4" (§ 15), in columns 3 and 4.
abbrev pub space5 : Space
space5 = space (0 ∷ 1 ∷ 2 ∷ []) (3 ∷ 3 ∷ []) (pos 2 ∷ [])

abbrev pub weights5 : List Weight
weights5 =
    weight_at 0 0 1 1 ∷
    weight_at 1 1 1 1 ∷ weight_at 1 2 1 2 ∷ weight_at 1 3 1 4 ∷ weight_at 1 4 1 4 ∷
    weight_at 2 2 1 2 ∷ weight_at 2 3 1 2 ∷ weight_at 2 4 1 2 ∷ weight_at 2 5 1 2 ∷
    weight_at 3 3 1 4 ∷ weight_at 3 4 1 4 ∷ weight_at 3 5 1 2 ∷ weight_at 3 6 1 1 ∷
    weight_at 4 7 1 1 ∷ []

-- W6 and W7: one segment of degree 1, of this length.
abbrev pub line_space : ℕ → Space
line_space length = space (0 ∷ length ∷ []) (1 ∷ []) []

abbrev pub line_weights : List Weight
line_weights = weight_at 0 0 1 1 ∷ weight_at 1 1 1 1 ∷ []

-- W8, with this order.
abbrev pub space8 : ℕ → Space
space8 order = space (0 ∷ 1 ∷ 2 ∷ []) (1 ∷ 2 ∷ []) (pos order ∷ [])

abbrev pub weights8 : List Weight
weights8 = weight_at 0 0 1 1 ∷ weight_at 1 1 1 1 ∷ weight_at 1 2 1 1 ∷ weight_at 2 3 1 1 ∷ weight_at 3 4 1 1 ∷ []

-- W9: a join of order -1, so that every weight is the identity's.
abbrev pub space9 : Space
space9 = space (0 ∷ 1 ∷ 2 ∷ []) (1 ∷ 1 ∷ []) (neg_ℤ (pos 1) ∷ [])

abbrev pub weights9 : List Weight
weights9 = weight_at 0 0 1 1 ∷ weight_at 1 1 1 1 ∷ weight_at 2 2 1 1 ∷ weight_at 3 3 1 1 ∷ []

-- Three segments of degree 1, one ring each, with these orders at their two joins.
abbrev pub three_lines : ℤ → ℤ → Space
three_lines first second = space (0 ∷ 1 ∷ 2 ∷ 3 ∷ []) (1 ∷ 1 ∷ 1 ∷ []) (first ∷ second ∷ [])

-- With two discontinuities every weight is the identity's.
abbrev pub three_lines_weights : List Weight
three_lines_weights = weight_at 0 0 1 1 ∷ weight_at 1 1 1 1 ∷ weight_at 2 2 1 1 ∷ weight_at 3 3 1 1 ∷ weight_at 4 4 1 1 ∷ weight_at 5 5 1 1 ∷ []

-- Two segments of degree 1 with breakpoints 0, 2,000 and this one, and this order between them.
abbrev pub two_long : ℕ → ℤ → Space
two_long end order = space (0 ∷ 2000 ∷ end ∷ []) (1 ∷ 1 ∷ []) (order ∷ [])

-- 14 segments of degree 1, one ring each, with this order at the first join and 0 at the others.
abbrev pub fourteen_lines : ℤ → Space
fourteen_lines first = record { breaks = tab 15 pos; degrees = tab 14 (λ i. pos 1); orders = first ∷ tab 12 (λ i. pos 0) }

-- Where the upper limit of step 1 acts: with coefficients 1 the terms of the join's ordinate, 511/2 and 1/2, both go up.
abbrev pub upper_limit_space : Space
upper_limit_space = space (0 ∷ 1 ∷ 512 ∷ []) (2 ∷ 2 ∷ []) (pos 1 ∷ [])

abbrev pub upper_limit_weights : List Weight
upper_limit_weights =
    weight_at 0 0 1 1 ∷
    weight_at 1 1 1 1 ∷ weight_at 1 2 511 512 ∷ weight_at 1 3 511 512 ∷
    weight_at 2 2 1 512 ∷ weight_at 2 3 1 512 ∷ weight_at 2 4 1 1 ∷
    weight_at 3 5 1 1 ∷ []

-- Where the lower limit acts: with coefficients 1 the three terms of the join's ordinate all go down.
abbrev pub lower_limit_space : Space
lower_limit_space = space (0 ∷ 1 ∷ 2 ∷ []) (3 ∷ 4 ∷ []) (pos 2 ∷ [])

abbrev pub lower_limit_weights : List Weight
lower_limit_weights =
    weight_at 0 0 1 1 ∷
    weight_at 1 1 1 1 ∷ weight_at 1 2 7 17 ∷ weight_at 1 3 3 17 ∷ weight_at 1 4 3 17 ∷
    weight_at 2 2 10 17 ∷ weight_at 2 3 25 51 ∷ weight_at 2 4 25 51 ∷ weight_at 2 5 5 12 ∷
    weight_at 3 3 1 3 ∷ weight_at 3 4 1 3 ∷ weight_at 3 5 7 12 ∷ weight_at 3 6 1 1 ∷
    weight_at 4 7 1 1 ∷
    weight_at 5 8 1 1 ∷ []

-- ---- the table

-- W1 to W10, in the words of § 15, a space beside W9 with two discontinuities, beams, and
-- the two limits.
unfoldable pub cases : List Case
cases =
    -- W1
    line space1 (reading (pos 0 ∷ pos 100 ∷ pos 0 ∷ pos 0 ∷ []) (pos 256 ∷ pos 512 ∷ [])) (answers 4 weights1 (pos 17067 ∷ pos 4267 ∷ [])) ∷
    -- W2: "W1 with -100 for 100", "at 512: -4266" (§ 15)
    line space1 (reading (pos 0 ∷ neg_ℤ (pos 100) ∷ pos 0 ∷ pos 0 ∷ []) (pos 512 ∷ [])) (answers 4 weights1 (neg_ℤ (pos 4266) ∷ [])) ∷
    -- W3: "W1 with four coefficients 1", "256, 256" (§ 15)
    line space1 (reading (pos 1 ∷ pos 1 ∷ pos 1 ∷ pos 1 ∷ []) (pos 256 ∷ pos 512 ∷ [])) (answers 4 weights1 (pos 256 ∷ pos 256 ∷ [])) ∷
    -- W4
    line space4 building (answers 5 weights4 []) ∷
    -- W5
    line space5 building (answers 5 weights5 []) ∷
    -- W6: "coefficients 0,10", "at 1: 1" (§ 15)
    line (line_space 10) (reading (pos 0 ∷ pos 10 ∷ []) (pos 1 ∷ [])) (answers 2 line_weights (pos 1 ∷ [])) ∷
    -- W7: "breaks 0,2000; 0,2001", "accepted; 3, place 1" (§ 15)
    line (line_space 2000) building (answers 2 line_weights []) ∷
    line (line_space 2001) building (refusal 3 1) ∷
    -- W8: "order 0; order 1", "accepted; 5, place 0" (§ 15)
    line (space8 0) building (answers 4 weights8 []) ∷
    line (space8 1) building (refusal 5 0) ∷
    -- W9: "coefficients 0,10,20,30", "at 256: 2560" (§ 15)
    line space9 (reading (pos 0 ∷ pos 10 ∷ pos 20 ∷ pos 30 ∷ []) (pos 256 ∷ [])) (answers 4 weights9 (pos 2560 ∷ [])) ∷
    -- two discontinuities with one segment between them, each read from the segment that ends there
    line (three_lines (neg_ℤ (pos 1)) (neg_ℤ (pos 1))) (reading (pos 0 ∷ pos 10 ∷ pos 20 ∷ pos 30 ∷ pos 40 ∷ pos 50 ∷ [])
    (pos 256 ∷ pos 512 ∷ [])) (answers 6 three_lines_weights (pos 2560 ∷ pos 7680 ∷ [])) ∷
    -- parts with spans of 2,000 each; of 2,001 in the second; a join of order 0 does not cut
    line (two_long 4000 (neg_ℤ (pos 1))) building (answers 4 weights9 []) ∷
    line (two_long 4001 (neg_ℤ (pos 1))) building (refusal 3 2) ∷
    line (two_long 4000 (pos 0)) building (refusal 3 2) ∷
    -- a part of 14 segments, and one of 13 after a part of one; an order that is not legal comes first
    line (fourteen_lines (pos 0)) building (refusal 15 0) ∷
    line (fourteen_lines (neg_ℤ (pos 1))) building (refusal 15 1) ∷
    line (fourteen_lines (pos 1)) building (refusal 5 0) ∷
    -- W10: "W1 with three coefficients; with the one position 769; 768", "6, largest place; 7, place 0; accepted" (§ 15)
    line space1 (reading (pos 0 ∷ pos 100 ∷ pos 0 ∷ []) (pos 256 ∷ pos 512 ∷ [])) (refusal 6 4294967295) ∷
    line space1 (reading (pos 0 ∷ pos 100 ∷ pos 0 ∷ pos 0 ∷ []) (pos 769 ∷ [])) (refusal 7 0) ∷
    line space1 (reading (pos 0 ∷ pos 100 ∷ pos 0 ∷ pos 0 ∷ []) (pos 768 ∷ [])) (answers 4 weights1 (pos 0 ∷ [])) ∷
    -- W1 for earlywood and W2 for latewood
    line space1 (reading_pairs (pair (pos 0) (pos 0) ∷ pair (pos 100) (neg_ℤ (pos 100)) ∷ pair (pos 0) (pos 0) ∷ pair (pos 0) (pos 0) ∷ [])
    (pos 512 ∷ [])) (answer_pairs 4 weights1 (pair (pos 4267) (neg_ℤ (pos 4266)) ∷ [])) ∷
    -- the latewood number of the second pair is out of range: "each number of a pair by itself" (§ 3)
    line space1 (reading_pairs (pair (pos 0) (pos 0) ∷ pair (pos 100) (pos 1000001) ∷ pair (pos 0) (pos 0) ∷ pair (pos 0) (pos 0) ∷ [])
    (pos 512 ∷ [])) (refusal 6 3) ∷
    -- an odd count
    line space1 (curve (pos 0 ∷ pos 0 ∷ pos 100 ∷ pos 100 ∷ pos 0 ∷ pos 0 ∷ pos 0 ∷ []) (pos 512 ∷ [])) (refusal 6 4294967295) ∷
    -- the plain sum of the join's ordinate is 257, above 256 times the greatest coefficient
    line upper_limit_space (reading (pos 1 ∷ pos 1 ∷ pos 1 ∷ pos 1 ∷ []) (pos 256 ∷ [])) (answers 4 upper_limit_weights (pos 256 ∷ [])) ∷
    -- the plain sum of the join's ordinate is 255, under 256 times the least coefficient
    line lower_limit_space (reading (pos 1 ∷ pos 1 ∷ pos 1 ∷ pos 1 ∷ pos 1 ∷ pos 1 ∷ []) (pos 256 ∷ []))
    (answers 6 lower_limit_weights (pos 256 ∷ [])) ∷ []

-- ---- the segments of positions

-- A space, positions and the segment of each.
pub record Segments : Type 0 where
  pub space : Space
  pub positions : List ℕ
  pub belong : List ℕ

-- One line of the table of positions.
abbrev pub among : Space → List ℕ → List ℕ → Segments
among s positions segments = record { space = s; positions = positions; belong = segments }

-- On the first and the last breakpoint, on the joins and beside them. Both sides of a join of order 0 or more have the same
-- value there, so that no value shows which segment the join itself belongs to.
unfoldable pub position_cases : List Segments
position_cases =
    -- orders 1 and 0: the segment that starts there
    among space1 (0 ∷ 255 ∷ 256 ∷ 257 ∷ 768 ∷ []) (0 ∷ 0 ∷ 1 ∷ 1 ∷ 1 ∷ []) ∷
    among (space8 0) (0 ∷ 255 ∷ 256 ∷ 257 ∷ 512 ∷ []) (0 ∷ 0 ∷ 1 ∷ 1 ∷ 1 ∷ []) ∷
    -- order -1: the segment that ends there
    among space9 (0 ∷ 255 ∷ 256 ∷ 257 ∷ 512 ∷ []) (0 ∷ 0 ∷ 0 ∷ 1 ∷ 1 ∷ []) ∷
    -- two joins with one segment between them
    among (three_lines (neg_ℤ (pos 1)) (neg_ℤ (pos 1))) (256 ∷ 257 ∷ 511 ∷ 512 ∷ 513 ∷ []) (0 ∷ 1 ∷ 1 ∷ 1 ∷ 2 ∷ []) ∷
    among (three_lines (neg_ℤ (pos 1)) (pos 0)) (256 ∷ 257 ∷ 511 ∷ 512 ∷ 513 ∷ []) (0 ∷ 1 ∷ 1 ∷ 2 ∷ 2 ∷ []) ∷
    among (three_lines (pos 0) (neg_ℤ (pos 1))) (255 ∷ 256 ∷ 511 ∷ 512 ∷ 513 ∷ []) (0 ∷ 1 ∷ 1 ∷ 1 ∷ 2 ∷ []) ∷ []

-- ---- the statements

-- P holds of every line of a table.
abbrev pub Every : {A : Type 0} → (A → Type 0) → List A → Type 0
Every P [] = Unit {0}
Every P (c ∷ cs) = P c × Every P cs

-- The case ends as its line says.
abbrev pub Holds : Case → Type 0
Holds c = outcome c.space c.call ≡ c.ends

-- With one value cell less than two a position the call ends with code 1, place 2.
abbrev pub NeedsTwoCellsEach : Space → Call → Type 0
NeedsTwoCellsEach s building = Unit {0}
NeedsTwoCellsEach s (curve coefs positions) = curve_outcome s coefs positions table_cells table_cells (2 * length positions - 1) ≡ refusal 1 2

-- Each position belongs to the segment that its line says.
abbrev pub Belongs : Segments → Type 0
Belongs c = map (λ x. segment_at c.space (pos x)) c.positions ≡ c.belong

-- All that § 15 says of its cases.
abbrev pub EveryCaseHolds : Type 0
EveryCaseHolds = Every Holds cases

-- Their curve calls, each with at least one position, need two cells a position.
abbrev pub EveryCaseNeedsTwoCellsEach : Type 0
EveryCaseNeedsTwoCellsEach = Every (λ c. NeedsTwoCellsEach c.space c.call) cases

-- The segments of positions are these.
abbrev pub EveryPositionBelongs : Type 0
EveryPositionBelongs = Every Belongs position_cases
