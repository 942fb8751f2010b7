-- Which spaces are always answered (§ 5): where no join asks for more than order 1 building is never refused
-- for a size or a shape, code 9 never comes, and code 8 comes at a step of order 2 alone.
use Rattle.std.specs.Prelude.{◌≡◌, List, ◌∷◌, ◌++◌, ℕ, ◌-◌, ◌<◌, ◌≤◌, ℤ, pos, nat_abs, ◌≤ℤ◌}
use Rattle.base_exact.specs.Rational.{ℚ, den}
use Rattle.base_outcome.specs.Codes as codes
use Rattle.base_outcome.specs.Outcome.{answer, refusal, capped, ◌then◌}
use Rattle.spec_spline.specs.Space.{Space, segments, order, checked}
use Rattle.spec_spline.specs.Conditions.{conditions}
use Rattle.spec_spline.specs.Table.{Table, table_cells}
use Rattle.spec_spline.specs.Step.{step}
use Rattle.spec_spline.specs.Build.{order_steps, join_steps, space_weights, built}
use Rattle.spec_spline.specs.CurveCall.{curve_outcome}
use Rattle.spec_spline.specs.Piecewise.{Accepted}
use Rattle.theorems_weights.specs.Counted.{Test, counted, build_tests}

-- The greatest order that is always answered.
abbrev pub safe_order : ℤ
safe_order = pos 1

-- No order is above 1.
abbrev pub OrdersAtMostOne : Space → Type 0
OrdersAtMostOne s = (j : ℕ) → j < segments s - 1 → order s j ≤ℤ safe_order

-- A space whose lists are legal and whose orders are all at most 1 is accepted: neither 8 nor 9 comes.
abbrev pub LowOrdersAreAccepted : Type 0
LowOrdersAreAccepted = (s : Space) → checked s ≡ answer s → OrdersAtMostOne s → Accepted s

-- So building it in buffers that are long enough answers.
abbrev pub LowOrdersAreBuilt : Type 0
LowOrdersAreBuilt = (s : Space) → checked s ≡ answer s → OrdersAtMostOne s
    → (num_length den_length : ℕ) → table_cells ≤ num_length → table_cells ≤ den_length
    → (t : Table) × (built s num_length den_length ≡ answer t)

-- The greatest numerator and denominator that the build of such a space counts: 5 times 2,000.
abbrev pub counted_limit : ℕ
counted_limit = 10000

-- Every fraction that the build of such a space counts is that small, far below the limit of code 8.
abbrev pub CountedFractionsAreSmall : Type 0
CountedFractionsAreSmall = (s : Space) → checked s ≡ answer s → OrdersAtMostOne s
    → (before after : List Test) (join : ℕ) (q : ℚ) → build_tests s ≡ before ++ (counted join q ∷ after)
    → (nat_abs q.num ≤ counted_limit) × (den q ≤ counted_limit)

-- Code 9 never comes, whatever the lists.
abbrev pub NineNeverComes : Type 0
NineNeverComes = (s : Space) (place : ℕ) → space_weights s ≡ refusal codes.jumps place → ⊥

-- Nor from building, whatever the buffers.
abbrev pub BuildingNeverGivesNine : Type 0
BuildingNeverGivesNine = (s : Space) (place num_length den_length : ℕ) → built s num_length den_length ≡ refusal codes.jumps place → ⊥

-- Nor from a curve call, whatever it is given.
abbrev pub CurvesNeverGiveNine : Type 0
CurvesNeverGiveNine = (s : Space) (coefs positions : List ℤ) (place num_length den_length values_length : ℕ)
    → curve_outcome s coefs positions num_length den_length values_length ≡ refusal codes.jumps place → ⊥

-- A step of order 2 that the build reaches, and that refuses with 8.
pub record EightAtOrderTwo (s : Space) (place : ℕ) : Type 0 where
  pub join : ℕ
  pub below : join < segments s - 1
  pub order_two : order s join ≡ pos 2
  pub table : Table
  pub reached : (join_steps s join then order_steps s join 2) ≡ answer table
  pub refuses : step join (conditions s join 2) table ≡ refusal codes.tooLarge place
  pub place_is : place ≡ capped join

-- Code 8 comes from such a step, and from no other.
abbrev pub EightComesAtOrderTwo : Type 0
EightComesAtOrderTwo = (s : Space) (place : ℕ) → space_weights s ≡ refusal codes.tooLarge place → EightAtOrderTwo s place
