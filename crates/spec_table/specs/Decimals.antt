-- The numbers of the table of indices (§ 17): millimetres with three and with six decimals, and an index or nothing. Years and
-- indices are the whole numbers of base_text.
use Rattle.std.specs.Prelude.{[], ◌∷◌, ◌++◌, ℕ, zero, suc, ◌+◌, ◌/◌, ◌%◌, ◌^◌, ℤ, pos, negsuc, nat_abs, ◌*ℤ◌}
use Rattle.base_exact.specs.Floor.{nearest}
use Rattle.base_text.specs.Bytes.{Text, minus, digit_zero}
use Rattle.base_text.specs.Numeral.{digits, decimal}

-- The decimal point.
abbrev pub point : ℕ
point = 46

-- So many of the last decimal digits of n, with zeros in front where n has fewer.
unfoldable pub last_digits : ℕ → ℕ → Text
last_digits zero n = []
last_digits (suc i) n = last_digits i (n / 10) ++ ((digit_zero + n % 10) ∷ [])

-- "a minus where the number is below zero" (§ 17).
abbrev pub sign : ℤ → Text
sign (pos n) = []
sign (negsuc n) = minus ∷ []

-- A number of parts, of which 10 to the so many-th make a whole, written in wholes with so many decimals: "Both have a minus where
-- the number is below zero, and at least one digit before the point." (§ 17)
unfoldable pub with_decimals : ℕ → ℤ → Text
with_decimals places z = sign z ++ (digits (nat_abs z / 10 ^ places) ++ (point ∷ last_digits places (nat_abs z)))

-- A width in thousandths: "WIDTH is in millimetres with three decimals." (§ 17)
abbrev pub width_text : ℤ → Text
width_text width = with_decimals 3 width

-- "nearest(value·125/32) millionths of a millimetre" (§ 17): a value is in 256ths of a thousandth.
unfoldable pub millionths : ℤ → ℤ
millionths value = nearest (value *ℤ pos 125) 32

-- CURVE is these millionths, "written in millimetres with six decimals" (§ 17).
abbrev pub curve_text : ℤ → Text
curve_text value = with_decimals 6 (millionths value)

-- "INDEX is the whole number of the index list; nothing stands there for -1, an absent ring." (§ 17)
unfoldable pub index_text : ℤ → Text
index_text (pos n) = decimal (pos n)
index_text (negsuc zero) = []
index_text (negsuc (suc n)) = decimal (negsuc (suc n))
