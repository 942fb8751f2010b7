-- The first and the last index below a bound that meets a test, and how many do: the first entry that breaks a rule (§ 3), the
-- first and the last row with a non-zero jump (§ 5).
use Rattle.std.specs.Prelude.{Bool, true, false, cond, ℕ, zero, suc, ◌+◌}
use Rattle.std.proofs.Math.Option.{Option, some, none}

abbrev pub or_else : Option ℕ → Option ℕ → Option ℕ
or_else none other = other
or_else (some i) other = some i

-- The least i below n that meets the test.
unfoldable pub first : ℕ → (ℕ → Bool) → Option ℕ
first zero test = none
first (suc n) test = or_else (first n test) (cond (test n) (some n) none)

-- The greatest i below n that meets the test.
unfoldable pub last : ℕ → (ℕ → Bool) → Option ℕ
last zero test = none
last (suc n) test = cond (test n) (some n) (last n test)

-- Whether there is one.
abbrev pub found : Option ℕ → Bool
found none = false
found (some i) = true

-- How many i below n meet the test.
unfoldable pub how_many : ℕ → (ℕ → Bool) → ℕ
how_many zero test = 0
how_many (suc n) test = how_many n test + cond (test n) 1 0
