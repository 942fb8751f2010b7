-- The entries of a column of conditions as the machine reckons them: two scales without common divisor, and signed binomials.
use Rattle.std.specs.Prelude.{cond, List, ◌≡◌, ℕ, suc, ◌+◌, ◌-◌, ◌*◌, ◌/◌, ◌^◌, ◌<◌, ◌≤◌, leb, ℤ, pos, neg_ℤ, nat_abs, ◌*ℤ◌, get_or}
use Rattle.base_exact.specs.Gcd.{gcd}
use Rattle.base_exact.specs.Tabulate.{tab}
use Rattle.spec_spline.specs.Space.{Space, degree, width}
use Rattle.spec_spline.specs.Conditions.{Entry, scale, binomial, alternating}
use Rattle.build_conditions.specs.declared.Scaled.{Scaled}

-- Entry e, from the scales of the left and of the right side.
unfoldable pub scale_of : ℤ → ℤ → ℕ → ℕ → ℤ
scale_of left right k e = cond (leb e k) (left *ℤ (pos (binomial k e) *ℤ alternating (k - e)))
    (neg_ℤ (right *ℤ (pos (binomial k (e - k - 1)) *ℤ alternating (k - (e - k - 1)))))

-- The two scales of join j and order k, divided by their greatest common divisor.
pub record ScaledOf (r : Scaled) (s : Space) (j k : ℕ) : Type 0 where
  pub left_is : r.left ≡ pos (scale (degree s j) k (width s (suc j)) / gcd (scale (degree s j) k (width s (suc j)))
      (scale (degree s (suc j)) k (width s j)))
  pub right_is : r.right ≡ pos (scale (degree s (suc j)) k (width s j) / gcd (scale (degree s j) k (width s (suc j)))
      (scale (degree s (suc j)) k (width s j)))

-- Both scales have a size below 2^31, and e is the index of an entry for order k.
pub record ConditionAsks (sides : Scaled) (k e : ℕ) : Type 0 where
  pub left-small : nat_abs sides.left < 2 ^ 31
  pub right-small : nat_abs sides.right < 2 ^ 31
  pub order : k ≤ 2
  pub within : e < 2 * k + 2

-- No entry.
abbrev pub no_entry : Entry
no_entry = record { column = 0; condition = pos 0 }

-- The conditions of at most six entries, 0 past their number.
unfoldable pub entries_of : List Entry → List ℤ
entries_of es = tab 6 (λ e. (get_or es e no_entry).condition)

-- The column of entry e.
abbrev pub column_of : List Entry → ℕ → ℕ
column_of es e = (get_or es e no_entry).column
