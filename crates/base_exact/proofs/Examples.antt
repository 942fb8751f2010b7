-- Worked values, each proved by computing both sides: the definitions give what a reader expects of them.
-- `n // d` is the fraction n / (d + 1), and `negsuc n` the integer -(n + 1).
use mathlib.Core.Path.{◌≡◌, refl}
use mathlib.Core.Bool.{true, false}
use mathlib.Core.List.{[], ◌∷◌}
use lib.IntN.{pos, negsuc}
use Rattle.base_exact.specs.Gcd.{gcd_f, gcd}
use Rattle.base_exact.specs.Rational.{mk, int, ◌+ᵠ◌, ◌*ᵠ◌, -ᵠ◌, ◌-ᵠ◌, inv, ◌/ᵠ◌, ◌//◌}
use Rattle.base_exact.specs.Order.{leᵠ, ltᵠ, is_zero, absᵠ}
use Rattle.base_exact.specs.Sum.{sum}
use Rattle.base_exact.specs.Floor.{floor_div, nearest, floor}
use Rattle.base_exact.specs.Tabulate.{tab, updated}

gcd_84_30 : gcd 84 30 ≡ 6
unfolding gcd gcd_f
gcd_84_30 = refl

-- 1/2 + 1/3 = 5/6
sum_of_fractions : (pos 1 // 1) +ᵠ (pos 1 // 2) ≡ pos 5 // 5
unfolding ◌//◌ ◌+ᵠ◌ mk gcd gcd_f
sum_of_fractions = refl

-- 6 / -4 = -3/2
quotient_of_integers : int (pos 6) /ᵠ int (negsuc 3) ≡ negsuc 2 // 1
unfolding ◌//◌ ◌*ᵠ◌ inv int mk gcd gcd_f
quotient_of_integers = refl

-- 1/2 - 3/6 = 0
difference_is_zero : is_zero ((pos 1 // 1) -ᵠ (pos 3 // 5)) ≡ true
unfolding is_zero ◌//◌ ◌+ᵠ◌ -ᵠ◌ mk gcd gcd_f
difference_is_zero = refl

-- -1/2 < -1/3, and -1/3 is not at or below -1/2
order-below-zero : ltᵠ (negsuc 0 // 1) (negsuc 0 // 2) ≡ true
unfolding ltᵠ ◌//◌ mk gcd gcd_f
order-below-zero = refl

order_refuted : leᵠ (negsuc 0 // 2) (negsuc 0 // 1) ≡ false
unfolding leᵠ ◌//◌ mk gcd gcd_f
order_refuted = refl

-- |-7/3| = 7/3
absolute_value : absᵠ (negsuc 6 // 2) ≡ pos 7 // 2
unfolding absᵠ ◌//◌ mk gcd gcd_f
absolute_value = refl

-- 1/1 + 1/2 + 1/3 = 11/6
harmonic_sum : sum 3 (λ i. pos 1 // i) ≡ pos 11 // 5
unfolding sum int ◌//◌ ◌+ᵠ◌ mk gcd gcd_f
harmonic_sum = refl

-- down, and not towards zero: -7 / 2 is -4, the floor of -1/2 is -1
quotient-rounds_down : floor_div (negsuc 6) 2 ≡ negsuc 3
quotient-rounds_down = refl

floor-rounds_down : floor (negsuc 0 // 1) ≡ negsuc 0
unfolding floor ◌//◌ mk gcd gcd_f
floor-rounds_down = refl

-- to the nearest, above and below zero: 7/3 is 2, 8/3 is 3, -7/3 is -2, -8/3 is -3
nearest_of_thirds : nearest (pos 7) 3 ∷ nearest (pos 8) 3 ∷ nearest (negsuc 6) 3 ∷ nearest (negsuc 7) 3 ∷ [] ≡ pos 2 ∷ pos 3 ∷ negsuc 1 ∷ negsuc 2 ∷ []
unfolding nearest
nearest_of_thirds = refl

-- a half goes up: 1/2 is 1, -1/2 is 0, -3/2 is -1
nearest_of_halves : nearest (pos 1) 2 ∷ nearest (negsuc 0) 2 ∷ nearest (negsuc 2) 2 ∷ [] ≡ pos 1 ∷ pos 0 ∷ negsuc 0 ∷ []
unfolding nearest
nearest_of_halves = refl

-- 0, 1, 2, 3 with 9 stored at place 2
table-after_store : tab 4 (updated (λ i. i) 2 9) ≡ 0 ∷ 1 ∷ 9 ∷ 3 ∷ []
unfolding tab updated
table-after_store = refl
