-- Laws of the table's numbers: the last digits of the definitions are those of base_text's laws, a whole number is its sign and the
-- digits of its size, and how many bytes a number has.
use mathlib.Core.Path.{◌≡◌, refl, sym, ap, ◌∙◌}
use mathlib.Core.List.{[], ◌∷◌, ◌++◌}
use Prim.Native.Nat.{ℕ, zero, suc, ◌+◌, ◌/◌, ◌^◌, ◌<◌, ◌≤◌}
use native.Mathlib.Omega.{arith}
use lib.IntN.{ℤ, pos, negsuc, nat_abs}
use lib.ListN.{length, length-append}
use lib.Signed.{◌<ℤ◌, ◌≤ℤ◌}
use lib.Dec.{leb-suc-zero}
use Rattle.base_text.specs.Bytes.{Text, minus}
use Rattle.base_text.specs.Numeral.{digits, decimal}
use Rattle.base_text.proofs.Decimal as text
use Rattle.spec_table.specs.Decimals.{point, last_digits, sign, with_decimals, index_text}

pub last-same : (i n : ℕ) → text.last_digits i n ≡ last_digits i n
unfolding text.last_digits last_digits
last-same zero n = refl
last-same (suc i) n = ap (λ (t : Text). t ++ text.last_digit n) (last-same i (n / 10))

pub last_length : (i n : ℕ) → length (last_digits i n) ≡ i
unfolding last_digits
last_length zero n = refl
last_length (suc i) n = length-append (last_digits i (n / 10)) (text.last_digit n) ∙ omega (arith, last_length i (n / 10))

-- the digits are as many of the last as there are
pub digits_all : (n : ℕ) → last_digits (length (digits n)) n ≡ digits n
digits_all n = sym (last-same (length (digits n)) n) ∙ sym (text.digits_last n)

pub decimal-parts : (z : ℤ) → sign z ++ digits (nat_abs z) ≡ decimal z
unfolding decimal
decimal-parts (pos n) = refl
decimal-parts (negsuc n) = refl

pub sign_below : (z : ℤ) → z <ℤ pos 0 → minus ∷ [] ≡ sign z
sign_below (pos n) h = absurd (rw (leb-suc-zero n) at h.lt)
sign_below (negsuc n) h = refl

pub sign-none : (z : ℤ) → pos 0 ≤ℤ z → [] ≡ sign z
sign-none (pos n) h = refl
sign-none (negsuc n) h = absurd h.le

pub decimal_length : (z : ℤ) → length (decimal z) ≡ length (sign z) + length (digits (nat_abs z))
decimal_length z = ap length (sym (decimal-parts z)) ∙ length-append (sign z) (digits (nat_abs z))

pub decimals_length : (places : ℕ) (z : ℤ) → length (with_decimals places z) ≡ length (sign z) + (length (digits (nat_abs z / 10 ^ places)) + 1 + places)
unfolding with_decimals
decimals_length places z =
    length-append (sign z) (digits (nat_abs z / 10 ^ places) ++ (point ∷ last_digits places (nat_abs z)))
    ∙ omega (
      arith,
      length-append (digits (nat_abs z / 10 ^ places)) (point ∷ last_digits places (nat_abs z)),
      last_length places (nat_abs z),
    )

-- ---- how many bytes a number below a power of ten has at most

sign-short : (z : ℤ) → length (sign z) ≤ 1
sign-short (pos n) = omega arith
sign-short (negsuc n) = omega arith

module _ (k : ℕ) where
  pub whole-short : (z : ℤ) → nat_abs z < 10 ^ suc k → length (decimal z) ≤ suc (suc k)
  whole-short z h = omega (arith, decimal_length z, sign-short z, text.digits_length_le k (nat_abs z) h)

  pub decimals_short : (places : ℕ) (z : ℤ) → nat_abs z / 10 ^ places < 10 ^ suc k → length (with_decimals places z) ≤ suc (suc (suc k)) + places
  decimals_short places z h = omega (arith, decimals_length places z, sign-short z, text.digits_length_le k (nat_abs z / 10 ^ places) h)

  pub index_short : (z : ℤ) → nat_abs z < 10 ^ suc k → length (index_text z) ≤ suc (suc k)
  unfolding index_text
  index_short (pos n) h = whole-short (pos n) h
  index_short (negsuc zero) h = omega arith
  index_short (negsuc (suc n)) h = whole-short (negsuc (suc n)) h

-- ---- how many digits a number has, by powers of ten

pub one_digit : (n : ℕ) → n < 10 → length (digits n) ≡ 1
one_digit n h = text.digits_length_small n h

pub two_digits : (n : ℕ) → 10 ≤ n → n < 100 → length (digits n) ≡ 2
two_digits n l h = omega (arith, text.digits_length_large n l, one_digit (n / 10) (omega arith))

pub three_digits : (n : ℕ) → 100 ≤ n → n < 1000 → length (digits n) ≡ 3
three_digits n l h = omega (arith, text.digits_length_large n (omega arith), two_digits (n / 10) (omega arith) (omega arith))

pub four_digits : (n : ℕ) → 1000 ≤ n → n < 10000 → length (digits n) ≡ 4
four_digits n l h = omega (arith, text.digits_length_large n (omega arith), three_digits (n / 10) (omega arith) (omega arith))
