-- What the functions over the ordinates ask and leave.
use Rattle.std.specs.Prelude.{Bool, true, false, List, ◌≡◌, ℕ, ◌+◌, ◌*◌, ◌^◌, ◌<◌, ◌≤◌, ℤ, pos, nat_abs, ◌+ℤ◌, ◌*ℤ◌, length, get_or, ◌<ℤ◌}
use Rattle.std.proofs.Math.Option
use Rattle.std.proofs.Math.Option.{Option, some, none}
use Rattle.std.specs.Int.Signed.{le_z}
use Rattle.base_exact.specs.Rational.{den}
use Rattle.spec_spline.specs.Table.{Table, cell, row_cells}
use Rattle.spec_spline.specs.Reading.{fineness, fine, rounded, preferred, least, greatest, has_weight, term_sum}
use Rattle.spec_spline.specs.CurveCall.{coefficient_limit}
use Rattle.build_cells.specs.Held.{Holds}
use Rattle.curve_ordinates.specs.declared.Terms.{Terms}

-- 256 times the largest coefficient: no ordinate and no value is larger in size.
abbrev pub ordinate_limit : ℕ
ordinate_limit = fineness * coefficient_limit

-- Whether there is a number.
abbrev pub known : Option ℤ → Bool
known none = false
known (some z) = true

-- The number that a flag says is known.
abbrev pub given : Bool → ℤ → Option ℤ
given true z = some z
given false z = none

-- The terms of column c over the first n rows.
unfoldable pub terms_of : Table → (ℕ → ℤ) → ℕ → ℕ → Terms
terms_of t a c n = record {
  some = known (least n (has_weight t c) a);
  sum = term_sum t a c n;
  least = Option.get_or (least n (has_weight t c) a) (pos 0);
  greatest = Option.get_or (greatest n (has_weight t c) a) (pos 0);
}

-- One coefficient a more, with weight num / den: what it does to the terms, and that its term is within the limit.
pub record Added (before : Terms) (a num den : ℤ) (after : Terms) : Type 0 where
  pub is_some : after.some ≡ true
  pub is_sum : after.sum ≡ before.sum +ℤ rounded (fine a *ℤ num) (nat_abs den)
  pub is_least : after.least ≡ preferred le_z (given before.some before.least) a
  pub is_greatest : after.greatest ≡ preferred (λ y z. le_z z y) (given before.some before.greatest) a
  pub small : nat_abs (rounded (fine a *ℤ num) (nat_abs den)) ≤ ordinate_limit

-- Every entry has a size of at most one.
abbrev pub AtMostOne : Table → Type 0
AtMostOne t = (i c : ℕ) → nat_abs (cell t i c).num ≤ den (cell t i c)

-- The buffers hold n rows of weights.
pub record Weighs (num den : List ℤ) (n : ℕ) : Type 0 where
  pub table : Table
  pub holds : Holds num den table
  pub rows : length table ≡ n
  pub few : n ≤ row_cells
  pub unit : AtMostOne table

-- The coefficients at this index among each row's two.
abbrev pub entries : List ℤ → ℕ → ℕ → ℤ
entries coefs index i = get_or coefs (2 * i + index) (pos 0)

-- n pairs of coefficients, each of the 2 n numbers in their range.
pub record Coefficients (coefs : List ℤ) (n : ℕ) : Type 0 where
  pub count : length coefs ≡ 2 * n
  pub small : (i : ℕ) → nat_abs (get_or coefs i (pos 0)) ≤ coefficient_limit

-- Every number of the list is within that limit.
abbrev pub Bounded : List ℤ → Type 0
Bounded os = (k : ℕ) → nat_abs (get_or os k (pos 0)) ≤ ordinate_limit

-- ---- what is asked

-- A coefficient a with weight num / den, for a sum so far: sizes with which the next sum is formed.
pub record TermAsks (sum a num den : ℤ) : Type 0 where
  pub coefficient-small : nat_abs a ≤ coefficient_limit
  pub den-short : nat_abs den < 2 ^ 31
  pub den_positive : pos 0 <ℤ den
  pub unit : nat_abs num ≤ nat_abs den
  pub sum-short : nat_abs sum < 2 ^ 62

-- The least and the greatest coefficient so far are in their range.
pub record LimitsSmall (terms : Terms) : Type 0 where
  pub least-small : nat_abs terms.least ≤ coefficient_limit
  pub greatest-small : nat_abs terms.greatest ≤ coefficient_limit

-- n rows of weights, with their coefficients.
pub record WeighedRows (num den coefs : List ℤ) (n : ℕ) : Type 0 where
  pub weights : Weighs num den n
  pub coefficients : Coefficients coefs n

-- A column of them, and one of each row's two coefficients.
pub record ColumnAsks (num den coefs : List ℤ) (index n c : ℕ) : Type 0 where
  pub rows : WeighedRows num den coefs n
  pub column-within : c < row_cells
  pub index-within : index < 2

-- No more columns than they have.
pub record OrdinatesAsk (num den coefs : List ℤ) (n : ℕ) (os : List ℤ) : Type 0 where
  pub rows : WeighedRows num den coefs n
  pub columns_few : length os ≤ row_cells
