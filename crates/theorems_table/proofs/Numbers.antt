-- The numbers of the table read back: whole numbers of any size, and numbers with three and six decimals.
use mathlib.Core.Path.{◌≡◌, refl, sym, ap, ap₂, ◌∙◌}
use mathlib.Core.Logic.{◌⊎◌, inl, inr}
use mathlib.Core.Bool.{Bool, true, false, cond, ◌&&◌}
use mathlib.Core.List.{[], ◌∷◌, ◌++◌, append_assoc}
use mathlib.Core.Option.{Option, some, none}
use Prim.Native.Nat.{ℕ, zero, suc, ◌+◌, ◌*◌, ◌-◌, ◌/◌, ◌%◌, ◌^◌, ◌<◌, ◌≤◌}
use native.Mathlib.Omega.{arith}
use borrow.Author.Tests.{eq-eqb, ne_eqb, le-leb}
use lib.IntN.{ℤ, pos, negsuc, nat_abs}
use lib.ListN.{length, length-append}
use Rattle.base_exact.proofs.Decide.{and-true, le_or_lt}
use Rattle.base_text.specs.Bytes.{Text, minus, digit_zero, Cut, cut}
use Rattle.base_text.specs.Numeral.{is_digit, all_digits, digits_value, digits, decimal}
use Rattle.base_text.proofs.Decimal.{last_digit, digits-small, digits_large}
use Rattle.base_text.proofs.Digits.{digit_yes, digit-bounds}
use Rattle.base_text.proofs.RoundTrip.{digits_all, decimal_any}
use Rattle.base_text.proofs.Lacking.{lacks, lacks_append, byte, byte-outside, decimal-lacks, cut-first}
use Rattle.spec_table.specs.Decimals.{point, last_digits, sign, with_decimals, index_text}
use Rattle.theorems_table.specs.Reader.{natural_of, above, below, whole_of, joined, parts_of, index_in}

-- ---- digits one after another

value_append : (v : ℕ) (s t : Text) → digits_value v (s ++ t) ≡ digits_value (digits_value v s) t
unfolding digits_value
value_append v [] t = refl
value_append v (c ∷ s) t = value_append (v * 10 + (c - digit_zero)) s t

all_append : (s t : Text) → all_digits s ≡ true → all_digits t ≡ true → all_digits (s ++ t) ≡ true
unfolding all_digits
all_append [] t e h = h
all_append (c ∷ s) t e h =
    let both = and-true (is_digit c) (all_digits s) e in
    ap₂ (λ (a b : Bool). a && b) both.0 (all_append s t both.1 h)

last_all : (n : ℕ) → all_digits (last_digit n) ≡ true
unfolding all_digits
last_all n = ap (λ (b : Bool). b && true) (digit_yes (digit_zero + n % 10) (omega arith) (omega arith))

last-value : (v n : ℕ) → digits_value v (last_digit n) ≡ v * 10 + n % 10
unfolding digits_value
last-value v n = omega arith

-- the digits of a number have its value
value_up_to : (f n : ℕ) → n ≤ f → digits_value 0 (digits n) ≡ n
value_up_to zero n h = ap (digits_value 0) (digits-small n (omega arith)) ∙ last-value 0 n ∙ omega arith
value_up_to (suc f) n h = go (le_or_lt 10 n) (value_up_to f (n / 10))
  where
    go : (10 ≤ n) ⊎ (n < 10) → (n / 10 ≤ f → digits_value 0 (digits (n / 10)) ≡ n / 10) → digits_value 0 (digits n) ≡ n
    go (inr l) ih = ap (digits_value 0) (digits-small n l) ∙ last-value 0 n ∙ omega arith
    go (inl l) ih =
        ap (digits_value 0) (digits_large n l) ∙ value_append 0 (digits (n / 10)) (last_digit n) ∙ last-value (digits_value 0 (digits (n / 10))) n
        ∙ omega (arith, ih (omega arith))

digits_value_lem : (n : ℕ) → digits_value 0 (digits n) ≡ n
digits_value_lem n = value_up_to n n (omega arith)

lasts_all : (i n : ℕ) → all_digits (last_digits i n) ≡ true
unfolding last_digits all_digits
lasts_all zero n = refl
lasts_all (suc i) n = all_append (last_digits i (n / 10)) (last_digit n) (lasts_all i (n / 10)) (last_all n)

lasts_length : (i n : ℕ) → length (last_digits i n) ≡ i
unfolding last_digits
lasts_length zero n = refl
lasts_length (suc i) n = length-append (last_digits i (n / 10)) (last_digit n) ∙ omega (arith, lasts_length i (n / 10))

-- ---- whole numbers

digits_any : (n : ℕ) → 1 ≤ length (digits n)
unfolding decimal
digits_any n = decimal_any (pos n)

natural_read : (t : Text) → 1 ≤ length t → all_digits t ≡ true → natural_of t ≡ some (digits_value 0 t)
unfolding natural_of
natural_read t h e = rw (le-leb 1 (length t) h, e)

-- a text of digits is no negative number
plain-read : (t : Text) → 1 ≤ length t → all_digits t ≡ true → whole_of t ≡ some (pos (digits_value 0 t))
unfolding whole_of all_digits
plain-read [] h e = absurd (omega arith)
plain-read (c ∷ cs) h e =
    let digit = digit-bounds c (and-true (is_digit c) (all_digits cs) e).0 in
    rw (ne_eqb c minus (λ q. omega (arith, digit.0))) (ap above (natural_read (c ∷ cs) h e))

minus-read : (t : Text) (n : ℕ) → 1 ≤ length t → all_digits t ≡ true → digits_value 0 t ≡ suc n → whole_of (minus ∷ t) ≡ some (negsuc n)
unfolding whole_of
minus-read t n h e v = ap below (natural_read t h e ∙ ap some v)

pub whole-reads : (z : ℤ) → whole_of (decimal z) ≡ some z
unfolding decimal
whole-reads (pos n) = plain-read (digits n) (digits_any n) (digits_all n) ∙ ap (λ (m : ℕ). some (pos m)) (digits_value_lem n)
whole-reads (negsuc n) = minus-read (digits (suc n)) n (digits_any (suc n)) (digits_all (suc n)) (digits_value_lem (suc n))

-- ---- numbers with decimals

-- the digits of the wholes and the last of the parts are the parts
three_value : (m : ℕ) → digits_value (m / 1000) (last_digits 3 m) ≡ m
unfolding last_digits digits_value
three_value m = omega arith

six_value : (m : ℕ) → digits_value (m / 1000000) (last_digits 6 m) ≡ m
unfolding last_digits digits_value
six_value m =
    let h = m / 10 / 10 / 10 in
    ap (λ (v : ℕ). digits_value v (last_digits 6 m)) (let e : m / 1000000 ≡ h / 1000 = omega arith in e)
    ∙ ap (λ (v : ℕ). digits_value v (last_digits 3 m)) (three_value h ∙ (let e : h ≡ m / 1000 = omega arith in e))
    ∙ three_value m

module _ (places : ℕ) (value : (m : ℕ) → digits_value (m / 10 ^ places) (last_digits places m) ≡ m) where
  module _ (m : ℕ) where
    abbrev wholes : Text
    wholes = digits (m / 10 ^ places)

    abbrev parts : Text
    parts = last_digits places m

    joint_all : all_digits (wholes ++ parts) ≡ true
    joint_all = all_append wholes parts (digits_all (m / 10 ^ places)) (lasts_all places m)

    joint_any : 1 ≤ length (wholes ++ parts)
    joint_any = omega (arith, length-append wholes parts, digits_any (m / 10 ^ places))

    joint-value : digits_value 0 (wholes ++ parts) ≡ m
    joint-value = value_append 0 wholes parts ∙ ap (λ (v : ℕ). digits_value v parts) (digits_value_lem (m / 10 ^ places)) ∙ value m

  sign-lacks : (z : ℤ) → lacks (byte point) (sign z) ≡ true
  sign-lacks (pos n) = refl
  sign-lacks (negsuc n) = refl

  wholes_lack : (n : ℕ) → lacks (byte point) (digits n) ≡ true
  unfolding decimal
  wholes_lack n = decimal-lacks (byte point) (byte-outside point refl refl) (pos n)

  joint-reads : (z : ℤ) → whole_of ((sign z ++ wholes (nat_abs z)) ++ parts (nat_abs z)) ≡ some z
  joint-reads (pos n) = plain-read (wholes n ++ parts n) (joint_any n) (joint_all n) ∙ ap (λ (m : ℕ). some (pos m)) (joint-value n)
  joint-reads (negsuc n) = minus-read (wholes (suc n) ++ parts (suc n)) n (joint_any (suc n)) (joint_all (suc n)) (joint-value (suc n))

  pub parts-read : (z : ℤ) → parts_of places (with_decimals places z) ≡ some z
  unfolding parts_of with_decimals
  parts-read z =
      let front = sign z ++ wholes (nat_abs z) in
      ap (λ (t : Text). joined places (cut point t)) (sym (append_assoc (sign z) (wholes (nat_abs z)) (point ∷ parts (nat_abs z))))
      ∙ ap (joined places) (cut-first point front (parts (nat_abs z)) (lacks_append (byte point) (sign z) (wholes (nat_abs z)) (sign-lacks z) (wholes_lack (nat_abs z / 10 ^ places))))
      ∙ rw (eq-eqb (length (parts (nat_abs z))) places (lasts_length places (nat_abs z))) (joint-reads z)

pub three_read : (z : ℤ) → parts_of 3 (with_decimals 3 z) ≡ some z
three_read z = parts-read 3 three_value z

pub six_read : (z : ℤ) → parts_of 6 (with_decimals 6 z) ≡ some z
six_read z = parts-read 6 six_value z

-- ---- an index or nothing

index-whole : (t : Text) (z : ℤ) → 1 ≤ length t → whole_of t ≡ some z → index_in t ≡ some z
unfolding index_in
index-whole [] z h e = absurd (omega arith)
index-whole (c ∷ cs) z h e = e

pub index_reads : (z : ℤ) → index_in (index_text z) ≡ some z
unfolding index_text index_in
index_reads (pos n) = index-whole (decimal (pos n)) (pos n) (decimal_any (pos n)) (whole-reads (pos n))
index_reads (negsuc zero) = refl
index_reads (negsuc (suc n)) = index-whole (decimal (negsuc (suc n))) (negsuc (suc n)) (decimal_any (negsuc (suc n))) (whole-reads (negsuc (suc n)))
