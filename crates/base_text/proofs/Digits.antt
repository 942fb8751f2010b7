-- Digits of a part of a text, read one by one, and the size of a number of at most seven digits.
use mathlib.Core.Path.{◌≡◌, refl, sym, ◌∙◌, ap}
use mathlib.Core.Bool.{Bool, true, false, ◌&&◌, not, and-false, and-true as and-true-right}
use mathlib.Core.List.{[], ◌∷◌}
use Prim.Native.Nat.{ℕ, ◌+◌, ◌*◌, ◌-◌, ◌^◌, ◌<◌, ◌≤◌}
use native.Mathlib.Nat.{mul-le-mul_right, pow-le-pow_right, pow-succ'}
use native.Mathlib.Omega.{arith}
use borrow.Author.Tests.{le-leb, lt-leb, lt-ltb, le-ltb, leb-true, ltb-true, not-true}
use lib.Dec.{leb, ltb, eqb}
use lib.ListN.{length, get_or, drop}
use lib.Seq.{slice, slice_empty}
use Rattle.std.specs.List.{list_all}
use Rattle.std.proofs.lemmas.List.{drop_more, drop_all}
use Rattle.base_exact.proofs.Decide.{and-true}
use Rattle.base_text.specs.Bytes.{Text, digit_zero}
use Rattle.base_text.specs.Numeral.{is_digit, all_digits, digits_value, spare_zero, is_natural}
use Rattle.base_text.proofs.Slice.{slice-step}

-- ---- one byte
pub digit_yes : (c : ℕ) → 48 ≤ c → c ≤ 57 → is_digit c ≡ true
digit_yes c h k = rw (le-leb 48 c h, lt-ltb c 58 (omega arith))

digit_low : (c : ℕ) → c < 48 → is_digit c ≡ false
digit_low c h = rw (lt-leb 48 c h)

digit-high : (c : ℕ) → 57 < c → is_digit c ≡ false
digit-high c h = rw (le-leb 48 c (omega arith), le-ltb c 58 (omega arith))

pub digit-bounds : (c : ℕ) → is_digit c ≡ true → (48 ≤ c) × (c ≤ 57)
digit-bounds c e = let both = and-true (leb 48 c) (ltb c 58) e in (leb-true 48 c both.0, omega (arith, ltb-true c 58 both.1))

-- ---- one step through a part
module _ (text : Text) (i to : ℕ) (before : i < to) (within : to ≤ length text) where
  digits-here : all_digits (slice i to text) ≡ (is_digit (get_or text i 0) && all_digits (slice (i + 1) to text))
  unfolding all_digits
  digits-here = ap all_digits (slice-step i to text 0 before within)

  pub digits-next : 48 ≤ get_or text i 0 → get_or text i 0 ≤ 57 → all_digits (slice i to text) ≡ all_digits (slice (i + 1) to text)
  digits-next h k = digits-here ∙ ap (λ (d : Bool). d && all_digits (slice (i + 1) to text)) (digit_yes _ h k)

  pub digits_low : get_or text i 0 < 48 → all_digits (slice i to text) ≡ false
  digits_low h = digits-here ∙ ap (λ (d : Bool). d && all_digits (slice (i + 1) to text)) (digit_low _ h)

  pub digits-high : 57 < get_or text i 0 → all_digits (slice i to text) ≡ false
  digits-high h = digits-here ∙ ap (λ (d : Bool). d && all_digits (slice (i + 1) to text)) (digit-high _ h)

pub digits_end : (text : Text) (to : ℕ) → all_digits (slice to to text) ≡ true
unfolding all_digits
digits_end text to = ap all_digits (slice_empty to text)

-- ---- all digits of a part, as a slice's iterator tests them
pub all_is : (t : Text) → list_all is_digit t ≡ all_digits t
unfolding all_digits
all_is [] = refl
all_is (c ∷ cs) = ap (λ (b : Bool). is_digit c && b) (all_is cs)

-- ---- the size of the number
pub value_grows : (v : ℕ) (t : Text) → v ≤ digits_value v t
unfolding digits_value
value_grows v [] = omega arith
value_grows v (c ∷ cs) = omega (arith, value_grows (v * 10 + (c - 48)) cs)

pub value-below : (v : ℕ) (t : Text) → all_digits t ≡ true → digits_value v t < (v + 1) * 10 ^ length t
unfolding digits_value all_digits
value-below v [] e = omega arith
value-below v (c ∷ cs) e =
    let both = and-true (is_digit c) (all_digits cs) e in
    let digit = digit-bounds c both.0 in
    let step : v * 10 + (c - 48) + 1 ≤ (v + 1) * 10 = omega arith in
    rw (pow-succ' 10 (length cs)) (omega (arith, value-below (v * 10 + (c - 48)) cs both.1, mul-le-mul_right (10 ^ length cs) step))

-- what a numeral without its minus is
pub natural_parts : (t : Text) → is_natural t ≡ true → (1 ≤ length t) × (length t ≤ 7) × (all_digits t ≡ true) × (spare_zero t ≡ false)
unfolding is_natural
natural_parts t e =
    let outer = and-true (leb 1 (length t) && leb (length t) 7 && all_digits t) (not (spare_zero t)) e in
    let inner = and-true (leb 1 (length t) && leb (length t) 7) (all_digits t) outer.0 in
    let size = and-true (leb 1 (length t)) (leb (length t) 7) inner.0 in
    (leb-true 1 (length t) size.0, leb-true (length t) 7 size.1, inner.1, not-true _ outer.1)

-- and below ten million
pub natural_small : (t : Text) → is_natural t ≡ true → digits_value 0 t < 10000000
natural_small t e =
    let parts = natural_parts t e in
    omega (arith, value-below 0 t parts.2, pow-le-pow_right {n = 10} (omega arith) {i = length t} {j = 7} parts.1)

-- ---- a number of at most seven digits read digit by digit: v from those before place i
pub record Reading (xs : Text) (i v : ℕ) : Type 0 where
  pub value-left : digits_value 0 xs ≡ digits_value v (drop i xs)
  pub digits-left : all_digits (drop i xs) ≡ true
  pub small : digits_value 0 xs < 10000000

pub reading_none : (xs : Text) → is_natural xs ≡ true → Reading xs 0 0
reading_none xs e = record { value-left = refl; digits-left = (natural_parts xs e).2; small = natural_small xs e }

-- one digit more: it is one, the number with it is small, and the rest stays to read
module _ {xs : Text} {i v : ℕ} (r : Reading xs i v) (more : i < length xs) where
  abbrev next : ℕ
  next = v * 10 + (get_or xs i 0 - 48)

  rest-is : drop i xs ≡ get_or xs i 0 ∷ drop (i + 1) xs
  rest-is = drop_more xs i 0 more

  digits-are : (is_digit (get_or xs i 0) ≡ true) × (all_digits (drop (i + 1) xs) ≡ true)
  unfolding all_digits
  digits-are = and-true (is_digit (get_or xs i 0)) (all_digits (drop (i + 1) xs)) (sym (ap all_digits rest-is) ∙ r.digits-left)

  pub reading_digit : (48 ≤ get_or xs i 0) × (get_or xs i 0 ≤ 57)
  reading_digit = digit-bounds (get_or xs i 0) digits-are.0

  value-is : digits_value 0 xs ≡ digits_value next (drop (i + 1) xs)
  unfolding digits_value
  value-is = r.value-left ∙ ap (digits_value v) rest-is

  pub reading_small : next < 10000000
  reading_small = omega (arith, value-is, value_grows next (drop (i + 1) xs), r.small)

  pub reading_more : Reading xs (i + 1) next
  reading_more = record { value-left = value-is; digits-left = digits-are.1; small = r.small }

pub reading_all : {xs : Text} {i v : ℕ} → Reading xs i v → length xs ≤ i → digits_value 0 xs ≡ v
unfolding digits_value
reading_all {xs} {i} {v} r h = r.value-left ∙ ap (digits_value v) (drop_all i xs h)

-- ---- the tests for a numeral without its minus, by its length and its first digit
pub natural_short : (t : Text) → length t < 1 → is_natural t ≡ false
unfolding is_natural
natural_short t h = rw (lt-leb 1 (length t) h)

pub natural_long : (t : Text) → 7 < length t → is_natural t ≡ false
unfolding is_natural
natural_long t h = rw (le-leb 1 (length t) (omega arith), lt-leb (length t) 7 h)

pub natural_spare : (t : Text) → spare_zero t ≡ true → is_natural t ≡ false
unfolding is_natural
natural_spare t e = ap (λ (s : Bool). leb 1 (length t) && leb (length t) 7 && all_digits t && not s) e ∙ and-false (leb 1 (length t) && leb (length t) 7 && all_digits t)

pub natural_digits : (t : Text) → 1 ≤ length t → length t ≤ 7 → spare_zero t ≡ false → is_natural t ≡ all_digits t
unfolding is_natural
natural_digits t h k e = rw (le-leb 1 (length t) h, le-leb (length t) 7 k, e) (and-true-right (all_digits t))

pub spare-short : (t : Text) → length t ≤ 1 → spare_zero t ≡ false
spare-short [] h = refl
spare-short (c ∷ []) h = refl
spare-short (c ∷ d ∷ cs) h = absurd (omega arith)

-- a part of two bytes or more has a spare zero where it begins with one
pub spare-first : (text : Text) (from to : ℕ) → from + 1 < to → to ≤ length text → spare_zero (slice from to text) ≡ eqb (get_or text from 0) digit_zero
spare-first text from to h k =
    ap spare_zero (slice-step from to text 0 (omega arith) k ∙ ap (λ (t : Text). get_or text from 0 ∷ t) (slice-step (from + 1) to text 0 h k))
