-- What the specification's sentence on numbers allows and refuses, by computation on the definitions: "decimal, with a minus or
-- without a sign, 1 to 7 digits (the minus not counted), no spare zeros, no -0" (§ 13).
use mathlib.Core.Option.{some, none}
use mathlib.Core.Path.{◌≡◌, refl}
use Prim.Native.String.{String}
use native.Mathlib.Omega.{arith}
use lib.IntN.{ℤ, pos, neg_ℤ}
use Rattle.base_text.specs.Bytes.{bytes}
use Rattle.base_text.specs.Numeral.{all_digits, digits_value, is_natural, numeral, decimal}
use Rattle.base_text.proofs.RoundTrip.{numeral-reads-back}

abbrev IsNumeral : String → ℤ → Type 0
IsNumeral s z = numeral (bytes s) ≡ some z

abbrev NoNumeral : String → Type 0
NoNumeral s = numeral (bytes s) ≡ none

numerals : IsNumeral "0" (pos 0) × IsNumeral "7" (pos 7) × IsNumeral "-7" (neg_ℤ (pos 7)) × IsNumeral "9999999" (pos 9999999)
    × IsNumeral "-9999999" (neg_ℤ (pos 9999999))
unfolding all_digits digits_value is_natural numeral bytes
numerals = (refl, refl, refl, refl, refl)

no_numerals : NoNumeral "" × NoNumeral "-" × NoNumeral "-0" × NoNumeral "00" × NoNumeral "01" × NoNumeral "-01" × NoNumeral "+1" × NoNumeral " 1"
    × NoNumeral "1 " × NoNumeral "1\r" × NoNumeral "10000000" × NoNumeral "--1" × NoNumeral "1-" × NoNumeral "1.0"
unfolding all_digits digits_value is_natural numeral bytes
no_numerals = (refl, refl, refl, refl, refl, refl, refl, refl, refl, refl, refl, refl, refl, refl)

-- the least number that a sheet can hold, written and read back
least-reads-back : numeral (decimal (neg_ℤ (pos 9999999))) ≡ some (neg_ℤ (pos 9999999))
least-reads-back = numeral-reads-back (neg_ℤ (pos 9999999)) (omega arith)
