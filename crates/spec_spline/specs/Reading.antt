-- Reading the curve (§ 6; § 8 for the two woods): the segment of a position, the ordinates, the de Casteljau triangle and the
-- values. Two rules stand in one definition each: `segmentAt` says which segment a position belongs to, and `rounded` how a quotient
-- becomes a whole number. Coefficients come as a function of the row.
use Rattle.std.specs.Prelude.{Bool, false, cond, not, List, [], ◌∷◌, map, ℕ, zero, suc, ◌+◌, ◌*◌, ℤ, pos, ◌+ℤ◌, ◌-ℤ◌, ◌*ℤ◌, length, get_or}
use Rattle.std.proofs.Math.Option
use Rattle.std.proofs.Math.Option.{Option, some, none}
use Rattle.std.specs.Int.Signed.{le_z, lt_z}
use Rattle.base_exact.specs.Rational.{ℚ, den}
use Rattle.base_exact.specs.Order.{is_zero}
use Rattle.base_exact.specs.Floor.{nearest}
use Rattle.base_exact.specs.Tabulate.{tab}
use Rattle.base_outcome.specs.Search.{last}
use Rattle.spec_spline.specs.Space.{Space, segments, break, degree, width, is_discontinuity, first_column, column_count}
use Rattle.spec_spline.specs.Table.{Table, cell}

-- Positions count 256ths of a ring, values 256ths of a thousandth of a millimetre.
abbrev pub fineness : ℕ
fineness = 256

-- The fine number of a whole one.
abbrev pub fine : ℤ → ℤ
fine z = pos fineness *ℤ z

-- Segment i starts at a discontinuity; the first breakpoint is no join.
unfoldable pub starts_at_discontinuity : Space → ℕ → Bool
starts_at_discontinuity s zero = false
starts_at_discontinuity s (suc i) = is_discontinuity s i

-- Segment i is one that "starts at or before it", the position (§ 6); where it starts at a discontinuity, before it.
unfoldable pub starts_by : Space → ℤ → ℕ → Bool
starts_by s x i = cond (starts_at_discontinuity s i) (lt_z (fine (break s i)) x) (le_z (fine (break s i)) x)

-- "A position belongs to the last segment that starts at or before it; exactly on a discontinuity, to the segment that ends there;
-- on the last breakpoint, to the last segment." (§ 6) No segment starts at the last breakpoint, so it needs no rule of its own.
-- Before the first breakpoint, where code 7 refuses, it is segment 0.
unfoldable pub segment_at : Space → ℤ → ℕ
segment_at s x = Option.get_or (last (segments s) (starts_by s x)) 0

-- "rounding to the nearest whole number, halves upwards" (before § 1): the whole number that stands for z / d.
unfoldable pub rounded : ℤ → ℕ → ℤ
rounded z d = nearest z d

-- ---- the two wood parts

-- "The two woods have a curve each over the same weights." (§ 8)
pub data Wood : Type 0 where
  earlywood : Wood
  latewood : Wood

-- "entry 2i (earlywood) and entry 2i + 1 (latewood)" (§ 1).
abbrev pub wood_index : Wood → ℕ
wood_index earlywood = 0
wood_index latewood = 1

-- The two numbers of a row or of a position, earlywood first (§ 1, § 2).
pub record Pair : Type 0 where
  pub early : ℤ
  pub late : ℤ

-- A list of pairs as its numbers, side by side.
unfoldable pub side_by_side : List Pair → List ℤ
side_by_side [] = []
side_by_side (p ∷ ps) = p.early ∷ p.late ∷ side_by_side ps

-- ---- the ordinates (step 1)

-- The coefficient of row i for a wood: "Those of row i are entry 2i (earlywood) and entry 2i + 1 (latewood)." (§ 1)
abbrev pub coefficient : Wood → List ℤ → ℕ → ℤ
coefficient wood coefs i = get_or coefs (2 * i + wood_index wood) (pos 0)

-- The weight of row i on column c is not zero.
abbrev pub has_weight : Table → ℕ → ℕ → Bool
has_weight t c i = not (is_zero (cell t i c))

-- "nearest(256·coefficient·numerator/denominator)" (§ 6).
unfoldable pub term : ℚ → ℤ → ℤ
term weight a = rounded (fine a *ℤ weight.num) (den weight)

-- "over the rows with non-zero weight in it, add" (§ 6): the sum of the terms of the first n rows.
unfoldable pub term_sum : Table → (ℕ → ℤ) → ℕ → ℕ → ℤ
term_sum t a c zero = pos 0
term_sum t a c (suc n) = term_sum t a c n +ℤ cond (has_weight t c n) (term (cell t n c) (a n)) (pos 0)

-- The number before, if there is one and the test prefers it to z; else z.
abbrev pub preferred : (ℤ → ℤ → Bool) → Option ℤ → ℤ → ℤ
preferred prefers none z = z
preferred prefers (some y) z = cond (prefers y z) y z

-- The number that the test prefers among the a i whose i, below n, passes; none if no i passes.
unfoldable pub best : (ℤ → ℤ → Bool) → ℕ → (ℕ → Bool) → (ℕ → ℤ) → Option ℤ
best prefers zero passes a = none
best prefers (suc n) passes a = let before = best prefers n passes a in cond (passes n) (some (preferred prefers before (a n))) before

-- The least of the numbers a i with i below n that pass.
abbrev pub least : ℕ → (ℕ → Bool) → (ℕ → ℤ) → Option ℤ
least = best le_z

-- The greatest of them.
abbrev pub greatest : ℕ → (ℕ → Bool) → (ℕ → ℤ) → Option ℤ
greatest = best (λ y z. le_z z y)

-- "If the sum is below 256 times the least coefficient of these rows, take that instead" (§ 6).
abbrev pub at_least : Option ℤ → ℤ → ℤ
at_least none z = z
at_least (some a) z = cond (lt_z z (fine a)) (fine a) z

-- "if above 256 times the greatest, that" (§ 6).
abbrev pub at_most : Option ℤ → ℤ → ℤ
at_most none z = z
at_most (some a) z = cond (lt_z (fine a) z) (fine a) z

-- The ordinate of column c: its terms' sum within the limits of the coefficients with weight on it.
unfoldable pub ordinate : Table → (ℕ → ℤ) → ℕ → ℤ
ordinate t a c =
    at_most (greatest (length t) (has_weight t c) a)
    (at_least (least (length t) (has_weight t c) a)
    (term_sum t a c (length t)))

-- The ordinates of all columns.
unfoldable pub ordinates : Space → Table → (ℕ → ℤ) → List ℤ
ordinates s t a = tab (column_count s) (ordinate t a)

-- ---- the triangle (step 2)

-- D: the length of segment i in 256ths of a ring.
abbrev pub fine_width : Space → ℕ → ℕ
fine_width s i = fineness * width s i

-- u: the position minus 256 times the segment's start.
abbrev pub offset : Space → ℕ → ℤ → ℤ
offset s i x = x -ℤ fine (break s i)

-- "neighbours g and h become nearest(((D - u)·g + u·h)/D)" (§ 6).
unfoldable pub blend : ℕ → ℤ → ℤ → ℤ → ℤ
blend d u g h = rounded ((pos d -ℤ u) *ℤ g +ℤ u *ℤ h) d

-- Number k after n blends of the numbers g 0, g 1, ..
unfoldable pub triangle : ℕ → ℤ → (ℕ → ℤ) → ℕ → ℕ → ℤ
triangle d u g zero k = g k
triangle d u g (suc n) k = blend d u (triangle d u g n k) (triangle d u g n (suc k))

-- "blend p times" (§ 6): the ordinates of segment i, given the ordinates of all columns.
unfoldable pub blended : Space → List ℤ → ℕ → ℤ → ℤ
blended s os i x = triangle (fine_width s i) (offset s i x) (λ k. get_or os (first_column s i + k) (pos 0)) (degree s i) 0

-- The value of a wood part at a position.
unfoldable pub value_at : Space → Table → Wood → List ℤ → ℤ → ℤ
value_at s t wood coefs x = blended s (ordinates s t (coefficient wood coefs)) (segment_at s x) x

-- "both values of each position" (§ 6).
unfoldable pub pair_at : Space → Table → List ℤ → ℤ → Pair
pair_at s t coefs x = record { early = value_at s t earlywood coefs x; late = value_at s t latewood coefs x }

-- Both values for each position, in list order.
unfoldable pub values : Space → Table → List ℤ → List ℤ → List Pair
values s t coefs positions = map (pair_at s t coefs) positions
