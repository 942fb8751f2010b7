-- Examples by computation: lowest terms, the limit from both sides, a quotient's sign, rounding down below zero.
use mathlib.Core.Path.{◌≡◌, refl}
use lib.IntN.{pos, negsuc}
use Rattle.base_exact.specs.Gcd.{gcd, gcd_f}
use Rattle.base_exact.specs.Rational.{mk, int, inv, ◌+ᵠ◌, ◌*ᵠ◌, ◌/ᵠ◌}
use Rattle.base_exact.specs.Floor.{floor_div}
use Rattle.base_fraction.specs.Size.{fits, too_large, count}
use Rattle.base_fraction.specs.Machine.{fraction, ratio, answer}
use Rattle.std.specs.Prelude.{Some, None}

-- 1/6 + 1/3 = 1/2
sum_in_lowest_terms : answer (count (ratio (pos 1) (pos 6) +ᵠ ratio (pos 1) (pos 3))) ≡ Some (record { num = pos 1; den = pos 2 })
unfolding answer count fits fraction ratio ◌+ᵠ◌ mk gcd gcd_f
sum_in_lowest_terms = refl

-- (3/4) / (-9/8) = -2/3
quotient-below-zero : answer (count (ratio (pos 3) (pos 4) /ᵠ ratio (negsuc 8) (pos 8))) ≡ Some (record { num = negsuc 1; den = pos 3 })
unfolding answer count fits fraction ratio ◌*ᵠ◌ inv mk gcd gcd_f
quotient-below-zero = refl

-- 2^31 - 1 fits and 2^31 does not, above and below zero and as a denominator
largest-fits : answer (count (int (pos 2147483647))) ≡ Some (record { num = pos 2147483647; den = pos 1 })
unfolding answer count fits fraction int mk gcd gcd_f
largest-fits = refl

next_is_too_large : answer (count (int (negsuc 2147483647))) ≡ None
unfolding answer count fits fraction int mk gcd gcd_f
next_is_too_large = refl

denominator_too_large : count (ratio (pos 1) (pos 2147483648)) ≡ too_large
unfolding count fits ratio mk gcd gcd_f
denominator_too_large = refl

-- what cancels does not count: 2^31 / 2 fits
cancelled_fits : answer (count (ratio (pos 2147483648) (pos 2))) ≡ Some (record { num = pos 1073741824; den = pos 1 })
unfolding answer count fits fraction ratio mk gcd gcd_f
cancelled_fits = refl

-- -7 / 2 rounded down is -4
floor-below-zero : floor_div (negsuc 6) 2 ≡ negsuc 3
floor-below-zero = refl
