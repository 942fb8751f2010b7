-- What is written for a number reads back to it: the digits of a number are a numeral without a spare zero, of its value.
use mathlib.Core.Path.{◌≡◌, refl, ◌∙◌, ap, ap₂}
use mathlib.Core.Bool.{Bool, true, false, cond, ◌&&◌}
use mathlib.Core.List.{[], ◌∷◌, ◌++◌}
use mathlib.Core.Option.{some, none}
use mathlib.Core.Logic.{◌⊎◌, inl, inr}
use Prim.Native.Nat.{ℕ, zero, suc, ◌+◌, ◌*◌, ◌-◌, ◌/◌, ◌%◌, ◌<◌, ◌≤◌}
use native.Mathlib.Omega.{arith}
use borrow.Author.Tests.{ne_eqb}
use lib.IntN.{ℤ, pos, negsuc}
use lib.ListN.{length, length-append}
use Rattle.base_exact.proofs.Decide.{and-true, le_or_lt}
use Rattle.base_text.specs.Bytes.{Text, digit_zero}
use Rattle.base_text.specs.Numeral.{is_digit, all_digits, digits_value, spare_zero, is_natural, negated, numeral, digits_up_to, digits, decimal, numeral_limit, NumeralReadsBack}
use Rattle.base_text.proofs.Decimal.{last_digit, up_to-small, up_to_large, digits_length_le}
use Rattle.base_text.proofs.Digits.{digit_yes, digit-bounds, natural_parts, natural_digits}
use Rattle.base_text.proofs.Numerals.{numeral-plain}

-- The text is digits, at least one, of the number.
record DigitsOf (n : ℕ) (t : Text) : Type 0 where
  all : all_digits t ≡ true
  value : digits_value 0 t ≡ n
  any : 1 ≤ length t

digit_is : (n : ℕ) → is_digit (digit_zero + n % 10) ≡ true
digit_is n = digit_yes (digit_zero + n % 10) (omega arith) (omega arith)

single : (n : ℕ) → n < 10 → DigitsOf n (last_digit n)
unfolding all_digits digits_value
single n h = record { all = ap (λ (b : Bool). b && true) (digit_is n); value = omega arith; any = omega arith }

all_snoc : (s : Text) (c : ℕ) → all_digits s ≡ true → is_digit c ≡ true → all_digits (s ++ (c ∷ [])) ≡ true
unfolding all_digits
all_snoc [] c e h = ap (λ (b : Bool). b && true) h
all_snoc (x ∷ s) c e h =
    let both = and-true (is_digit x) (all_digits s) e in
    ap₂ (λ (a b : Bool). a && b) both.0 (all_snoc s c both.1 h)

value_snoc : (v : ℕ) (s : Text) (c : ℕ) → digits_value v (s ++ (c ∷ [])) ≡ digits_value v s * 10 + (c - digit_zero)
unfolding digits_value
value_snoc v [] c = refl
value_snoc v (x ∷ s) c = value_snoc (v * 10 + (x - digit_zero)) s c

up_to_are : (f n : ℕ) → n ≤ f → DigitsOf n (digits_up_to f n)
up_to_are zero n h = rw (up_to-small 0 n (omega arith)) (single n (omega arith))
up_to_are (suc f) n h = go (le_or_lt 10 n) (up_to_are f (n / 10))
  where
    go : (10 ≤ n) ⊎ (n < 10) → (n / 10 ≤ f → DigitsOf (n / 10) (digits_up_to f (n / 10))) → DigitsOf n (digits_up_to (suc f) n)
    go (inr k) ih = rw (up_to-small (suc f) n k) (single n k)
    go (inl k) ih =
        let front = ih (omega arith) in
        let last = digit_zero + n % 10 in
        let s = digits_up_to f (n / 10) in
        rw (up_to_large f n k)
        (record {
          all = all_snoc s last front.all (digit_is n);
          value = value_snoc 0 s last ∙ omega (arith, front.value);
          any = omega (arith, length-append s (last ∷ []));
        })

-- the first digit is not 0
abbrev Leads : Text → Type 0
Leads [] = ⊥
Leads (c ∷ cs) = c ≡ digit_zero → ⊥

leads_append : (s t : Text) → Leads s → Leads (s ++ t)
leads_append [] t h = absurd h
leads_append (c ∷ s) t h = h

up_to-lead : (f n : ℕ) → 0 < n → n ≤ f → Leads (digits_up_to f n)
up_to-lead zero n h l = absurd (omega arith)
up_to-lead (suc f) n h l = go (le_or_lt 10 n) (up_to-lead f (n / 10))
  where
    go : (10 ≤ n) ⊎ (n < 10) → (0 < n / 10 → n / 10 ≤ f → Leads (digits_up_to f (n / 10))) → Leads (digits_up_to (suc f) n)
    go (inr k) ih = rw (up_to-small (suc f) n k) (λ e. omega arith)
    go (inl k) ih = rw (up_to_large f n k) (leads_append (digits_up_to f (n / 10)) _ (ih (omega arith) (omega arith)))

spare_snoc : (s : Text) (d : ℕ) → Leads s → spare_zero (s ++ (d ∷ [])) ≡ false
spare_snoc [] d h = absurd h
spare_snoc (c ∷ []) d h = ne_eqb c digit_zero h
spare_snoc (c ∷ x ∷ s) d h = ne_eqb c digit_zero h

up_to-spare : (f n : ℕ) → n ≤ f → spare_zero (digits_up_to f n) ≡ false
up_to-spare zero n h = ap spare_zero (up_to-small 0 n (omega arith))
up_to-spare (suc f) n h = go (le_or_lt 10 n)
  where
    go : (10 ≤ n) ⊎ (n < 10) → spare_zero (digits_up_to (suc f) n) ≡ false
    go (inr k) = ap spare_zero (up_to-small (suc f) n k)
    go (inl k) = ap spare_zero (up_to_large f n k) ∙ spare_snoc (digits_up_to f (n / 10)) _ (up_to-lead f (n / 10) (omega arith) (omega arith))

-- ---- the digits of a number
digits_are : (n : ℕ) → DigitsOf n (digits n)
unfolding digits
digits_are n = up_to_are n n (omega arith)

digits-spare : (n : ℕ) → spare_zero (digits n) ≡ false
unfolding digits
digits-spare n = up_to-spare n n (omega arith)

pub digits_all : (n : ℕ) → all_digits (digits n) ≡ true
digits_all n = (digits_are n).all

digits_value_lem : (n : ℕ) → digits_value 0 (digits n) ≡ n
digits_value_lem n = (digits_are n).value

digits_natural : (n : ℕ) → n < numeral_limit → is_natural (digits n) ≡ true
digits_natural n h = natural_digits (digits n) (digits_are n).any (digits_length_le 6 n h) (digits-spare n) ∙ digits_all n

-- a number is no empty text
pub decimal_any : (z : ℤ) → 1 ≤ length (decimal z)
unfolding decimal
decimal_any (pos n) = (digits_are n).any
decimal_any (negsuc n) = omega arith

-- ---- numbers
natural_numeral : (t : Text) → is_natural t ≡ true → numeral t ≡ some (pos (digits_value 0 t))
unfolding all_digits
natural_numeral [] e = absurd (omega (arith, (natural_parts [] e).0))
natural_numeral (c ∷ cs) e =
    let digit = digit-bounds c (and-true (is_digit c) (all_digits cs) (natural_parts (c ∷ cs) e).2).0 in
    numeral-plain c cs (λ h. omega arith) ∙ ap (λ (b : Bool). cond b (some (pos (digits_value 0 (c ∷ cs)))) none) e

pub numeral-reads-back : NumeralReadsBack
unfolding decimal numeral
numeral-reads-back (pos n) h = natural_numeral (digits n) (digits_natural n h) ∙ ap (λ (v : ℕ). some (pos v)) (digits_value_lem n)
numeral-reads-back (negsuc n) h = ap₂ negated (digits_natural (suc n) h) (digits_value_lem (suc n))
