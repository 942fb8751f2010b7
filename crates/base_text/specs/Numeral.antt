-- Whole numbers as the sheet writes them (§ 13): decimal, minus allowed, no spare zeros, no -0.
use Rattle.std.specs.Prelude.{Bool, true, false, cond, ◌&&◌, not, [], ◌∷◌, ◌++◌, ◌≡◌, ℕ, zero, suc, ◌+◌, ◌*◌, ◌-◌, ◌/◌, ◌%◌, ◌<◌, eqb, leb, ltb, ℤ, pos, negsuc, nat_abs, length}
use Rattle.std.proofs.Math.Option.{Option, some, none}
use Rattle.std.proofs.Math.Seq.{slice}
use Rattle.base_text.specs.Bytes.{Text, minus, digit_zero, Range}

-- ---- reading

-- One of the ten digits.
abbrev pub is_digit : ℕ → Bool
is_digit c = leb digit_zero c && ltb c (digit_zero + 10)

-- All bytes are digits.
unfoldable pub all_digits : Text → Bool
all_digits [] = true
all_digits (c ∷ cs) = is_digit c && all_digits cs

-- The number of these digits, the first the highest, after the number v of the digits before.
unfoldable pub digits_value : ℕ → Text → ℕ
digits_value v [] = v
digits_value v (c ∷ cs) = digits_value (v * 10 + (c - digit_zero)) cs

-- "no spare zeros" (§ 13): a 0 begins a numeral only as its one digit.
abbrev pub spare_zero : Text → Bool
spare_zero [] = false
spare_zero (c ∷ []) = false
spare_zero (c ∷ d ∷ cs) = eqb c digit_zero

-- "1 to 7 digits (the minus not counted), no spare zeros" (§ 13).
unfoldable pub is_natural : Text → Bool
is_natural t = leb 1 (length t) && leb (length t) 7 && all_digits t && not (spare_zero t)

abbrev pub negated : Bool → ℕ → Option ℤ
negated true zero = none
negated true (suc n) = some (negsuc n)
negated false n = none

-- The number that a field stands for, if it is a numeral; "no -0" (§ 13).
unfoldable pub numeral : Text → Option ℤ
numeral [] = none
numeral (c ∷ cs) = cond (eqb c minus) (negated (is_natural cs) (digits_value 0 cs))
    (cond (is_natural (c ∷ cs)) (some (pos (digits_value 0 (c ∷ cs)))) none)

-- ---- printing

-- The digits of n, for at most f + 1 of them.
unfoldable pub digits_up_to : ℕ → ℕ → Text
digits_up_to zero n = (digit_zero + n % 10) ∷ []
digits_up_to (suc f) n = elim (ltb n 10) [ true ↦ (digit_zero + n) ∷ [] | false ↦ digits_up_to f (n / 10) ++ ((digit_zero + n % 10) ∷ []) ]

-- The decimal digits of n.
unfoldable pub digits : ℕ → Text
digits n = digits_up_to n n

-- A whole number, with a minus where it is below zero.
unfoldable pub decimal : ℤ → Text
decimal (pos n) = digits n
decimal (negsuc n) = minus ∷ digits (suc n)

-- ---- reading what was printed

-- "1 to 7 digits" (§ 13): the least number that has more.
abbrev pub numeral_limit : ℕ
numeral_limit = 10000000

-- A number reads back; proved in proofs/RoundTrip.
abbrev pub NumeralReadsBack : Type 0
NumeralReadsBack = (z : ℤ) → nat_abs z < numeral_limit → numeral (decimal z) ≡ some z

-- ---- what is asked

-- A range of a text that is 1 to 7 digits without a spare zero.
pub record DigitsAsks (text : Text) (from to : ℕ) : Type 0 where
  pub range : Range text from to
  pub natural : is_natural (slice from to text) ≡ true
