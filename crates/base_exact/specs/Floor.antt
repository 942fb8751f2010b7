-- Rounding down, and to the nearest (before § 1). For -(a + 1) the quotient rounded down is -(a / d + 1), which never leaves the integers:
-- nothing is rounded towards zero and put right afterwards. At divisor 0, where a / 0 = 0, it is 0 or -1.
use Rattle.std.specs.Prelude.{ℕ, ◌*◌, ◌/◌, ℤ, pos, negsuc, ◌+ℤ◌, ◌*ℤ◌}
use Rattle.base_exact.specs.Rational.{ℚ, den}

-- the greatest integer at or below z / d
abbrev pub floor_div : ℤ → ℕ → ℤ
floor_div (pos a) d = pos (a / d)
floor_div (negsuc a) d = negsuc (a / d)

-- the integer nearest to z / d, a half going up: the greatest integer at or below z / d + 1/2
unfoldable pub nearest : ℤ → ℕ → ℤ
nearest z d = floor_div (pos 2 *ℤ z +ℤ pos d) (2 * d)

-- the greatest integer at or below q
unfoldable pub floor : ℚ → ℤ
floor q = floor_div q.num (den q)
