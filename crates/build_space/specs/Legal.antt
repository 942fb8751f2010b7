-- What the codes 3 to 5 and 15 leave of legal lists, entry by entry and part by part.
use Rattle.std.specs.Prelude.{true, List, ◌≡◌, ℕ, suc, ◌+◌, ◌-◌, ◌<◌, ◌≤◌, ℤ, pos, negsuc, nat_abs, ◌-ℤ◌, length, get_or, ◌<ℤ◌, ◌≤ℤ◌}
use Rattle.spec_spline.specs.Space.{segment_limit, part_segment_limit, break_limit, span_limit, degree_limit, break, starts_part, part_end}
use Rattle.build_space.specs.Machine.{space}

-- Breakpoints that rise within their range.
pub record BreaksLegal (breaks : List ℤ) : Type 0 where
  pub size : (i : ℕ) → i < length breaks → nat_abs (get_or breaks i (pos 0)) ≤ break_limit
  pub rise : (i : ℕ) → suc i < length breaks → get_or breaks i (pos 0) <ℤ get_or breaks (suc i) (pos 0)

-- Degrees from 1 to 5.
pub record DegreesLegal (degrees : List ℤ) : Type 0 where
  pub low : (i : ℕ) → i < length degrees → pos 1 ≤ℤ get_or degrees i (pos 0)
  pub high : (i : ℕ) → i < length degrees → get_or degrees i (pos 0) ≤ℤ pos degree_limit

-- Orders from -1 to 2.
pub record OrdersLegal (orders : List ℤ) : Type 0 where
  pub low : (i : ℕ) → i < length orders → negsuc 0 ≤ℤ get_or orders i (pos 0)
  pub high : (i : ℕ) → i < length orders → get_or orders i (pos 0) ≤ℤ pos 2

-- Degrees and orders that pass their tests: at each join the order is below both neighbouring degrees.
pub record JoinsLegal (degrees orders : List ℤ) : Type 0 where
  pub few : length degrees ≤ segment_limit
  pub count : length degrees ≡ length orders + 1
  pub degrees_legal : DegreesLegal degrees
  pub orders_legal : OrdersLegal orders
  pub left : (i : ℕ) → i < length orders → get_or orders i (pos 0) <ℤ get_or degrees i (pos 0)
  pub right : (i : ℕ) → i < length orders → get_or orders i (pos 0) <ℤ get_or degrees (suc i) (pos 0)

-- Three lists that pass every test: a beam whose parts each have a span of at most 2,000 and at most 12 segments.
pub record ListsLegal (breaks degrees orders : List ℤ) : Type 0 where
  pub some : 1 ≤ length degrees
  pub few : length degrees ≤ segment_limit
  pub break-count : length breaks ≡ length degrees + 1
  pub order-count : length orders + 1 ≡ length degrees
  pub breaks_legal : BreaksLegal breaks
  pub degrees_legal : DegreesLegal degrees
  pub orders_legal : OrdersLegal orders
  pub left : (i : ℕ) → i < length orders → get_or orders i (pos 0) <ℤ get_or degrees i (pos 0)
  pub right : (i : ℕ) → i < length orders → get_or orders i (pos 0) <ℤ get_or degrees (suc i) (pos 0)
  pub spans : (i : ℕ) → i < length degrees → let s = space breaks degrees orders in starts_part s i ≡ true
      → (break s (part_end s i) -ℤ break s i) ≤ℤ pos span_limit
  pub part-counts : (i : ℕ) → i < length degrees → let s = space breaks degrees orders in starts_part s i ≡ true
      → part_end s i - i ≤ part_segment_limit

-- The lists of one part: legal, and so few segments that the weights fit the buffers.
pub record PartLegal (breaks degrees orders : List ℤ) : Type 0 where
  pub lists : ListsLegal breaks degrees orders
  pub few : length degrees ≤ part_segment_limit
