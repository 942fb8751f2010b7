-- The blends, the stages and the whole triangle of at most six ordinates: what they ask and leave, for every offset of a rate.
use Rattle.std.specs.Prelude.{List, ◌≡◌, ℕ, suc, ◌<◌, ◌≤◌, ℤ, pos, nat_abs, get_or}
use Rattle.spec_spline.specs.Space.{degree_limit}
use Rattle.spec_spline.specs.Reading.{blend, triangle}
use Rattle.curve_ordinates.specs.Ordinates.{Bounded, ordinate_limit}
use Rattle.curve_rate.specs.Rate.{Rated, SomeRate}

-- ---- what is asked

-- Two ordinates, and a rate.
pub record BlendAsks (g h high low : ℤ) : Type 0 where
  pub first_small : nat_abs g ≤ ordinate_limit
  pub second-small : nat_abs h ≤ ordinate_limit
  pub rate : SomeRate high low

-- At most six ordinates, of which the first n are blended with their neighbours, and a rate.
pub record StageAsks (o : List ℤ) (n : ℕ) (high low : ℤ) : Type 0 where
  pub few : n ≤ degree_limit
  pub bounded : Bounded o
  pub rate : SomeRate high low

-- ---- what is left

-- The blend of two ordinates, for every offset of this rate.
pub record BlendIs (g h high low r : ℤ) : Type 0 where
  pub is : (u d : ℤ) → Rated high low u d → r ≡ blend (nat_abs d) u g h
  pub small : nat_abs r ≤ ordinate_limit

-- The first n numbers blended with their neighbours, for every offset of this rate.
pub record StageIs (o : List ℤ) (n : ℕ) (high low : ℤ) (r : List ℤ) : Type 0 where
  pub is : (u d : ℤ) → Rated high low u d
      → (k : ℕ) → k < n → get_or r k (pos 0) ≡ blend (nat_abs d) u (get_or o k (pos 0)) (get_or o (suc k) (pos 0))
  pub bounded : Bounded r

-- What is left of p + 1 ordinates, for every offset of this rate.
pub record TriangleIs (o : List ℤ) (p : ℕ) (high low r : ℤ) : Type 0 where
  pub is : (u d : ℤ) → Rated high low u d → r ≡ triangle (nat_abs d) u (λ k. get_or o k (pos 0)) p 0
  pub small : nat_abs r ≤ ordinate_limit
