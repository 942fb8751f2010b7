-- Laws of the decimal digits of a number: the digits of n are those of n / 10 and the last one behind them; they are the
-- last `length (digits n)` digits, which a loop writes from the last to the first; and a number below 10 ^ k has at most k.
use mathlib.Core.Path.{◌≡◌, refl, sym, ap, ◌∙◌}
use mathlib.Core.Logic.{◌⊎◌, inl, inr}
use mathlib.Core.List.{[], ◌∷◌, ◌++◌}
use Prim.Native.Nat.{ℕ, zero, suc, ◌+◌, ◌*◌, ◌-◌, ◌/◌, ◌%◌, ◌^◌, ◌<◌, ◌≤◌}
use native.Mathlib.Omega.{arith}
use native.Mathlib.Nat.{pow-suc}
use lib.Dec.{leb-suc-zero}
use lib.IntN.{ℤ, pos, negsuc, nat_abs}
use lib.ListN.{length, length-append}
use lib.Signed.{◌<ℤ◌, ◌≤ℤ◌}
use borrow.Author.Tests.{lt-ltb, le-ltb}
use Rattle.base_exact.proofs.Decide.{le_or_lt}
use Rattle.base_text.specs.Bytes.{Text, digit_zero, minus}
use Rattle.base_text.specs.Numeral.{digits, digits_up_to, decimal}

-- The last digit of n.
abbrev pub last_digit : ℕ → Text
last_digit n = (digit_zero + n % 10) ∷ []

pub up_to-small : (f n : ℕ) → n < 10 → digits_up_to f n ≡ last_digit n
unfolding digits_up_to
up_to-small zero n h = refl
up_to-small (suc f) n h = rw (lt-ltb n 10 h, digits_up_to) (ap (λ k. (digit_zero + k) ∷ []) (let e : n ≡ n % 10 = omega arith in e))

pub up_to_large : (f n : ℕ) → 10 ≤ n → digits_up_to (suc f) n ≡ digits_up_to f (n / 10) ++ last_digit n
unfolding digits_up_to
up_to_large f n h = rw (le-ltb n 10 h, digits_up_to)

-- more fuel than n changes nothing
up_to_enough : (f g n : ℕ) → n ≤ f → n ≤ g → digits_up_to f n ≡ digits_up_to g n
up_to_enough zero g n h k = up_to-small 0 n (omega arith) ∙ sym (up_to-small g n (omega arith))
up_to_enough (suc f) zero n h k = up_to-small (suc f) n (omega arith) ∙ sym (up_to-small 0 n (omega arith))
up_to_enough (suc f) (suc g) n h k = go (le_or_lt 10 n) (up_to_enough f g (n / 10))
  where
    go : (10 ≤ n) ⊎ (n < 10) → (n / 10 ≤ f → n / 10 ≤ g → digits_up_to f (n / 10) ≡ digits_up_to g (n / 10)) → digits_up_to (suc f) n ≡ digits_up_to (suc g) n
    go (inl l) ih = up_to_large f n l ∙ ap (λ t. t ++ last_digit n) (ih (omega arith) (omega arith)) ∙ sym (up_to_large g n l)
    go (inr l) ih = up_to-small (suc f) n l ∙ sym (up_to-small (suc g) n l)

pub digits-small : (n : ℕ) → n < 10 → digits n ≡ last_digit n
unfolding digits
digits-small n h = up_to-small n n h

pub digits_large : (n : ℕ) → 10 ≤ n → digits n ≡ digits (n / 10) ++ last_digit n
unfolding digits
digits_large zero h = absurd (omega arith)
digits_large (suc n) h = up_to_large n (suc n) h ∙ ap (λ t. t ++ last_digit (suc n)) (up_to_enough n (suc n / 10) (suc n / 10) (omega arith) (omega arith))

-- ---- how many there are
pub digits_length_small : (n : ℕ) → n < 10 → length (digits n) ≡ 1
digits_length_small n h = ap length (digits-small n h)

pub digits_length_large : (n : ℕ) → 10 ≤ n → length (digits n) ≡ length (digits (n / 10)) + 1
digits_length_large n h = ap length (digits_large n h) ∙ length-append (digits (n / 10)) (last_digit n)

pub digits_length_le : (k n : ℕ) → n < 10 ^ suc k → length (digits n) ≤ suc k
digits_length_le zero n h = omega (arith, digits_length_small n h)
digits_length_le (suc k) n h = go (le_or_lt 10 n) (digits_length_le k (n / 10))
  where
    go : (10 ≤ n) ⊎ (n < 10) → (n / 10 < 10 ^ suc k → length (digits (n / 10)) ≤ suc k) → length (digits n) ≤ suc (suc k)
    go (inl l) ih = let m : n < 10 ^ suc k * 10 = rw (pow-suc 10 (suc k)) at h in omega (arith, digits_length_large n l, ih (omega arith))
    go (inr l) ih = omega (arith, digits_length_small n l)

-- ---- the last digits, which a loop writes from the last on

-- The last i decimal digits of n, with zeros in front where n has fewer.
unfoldable pub last_digits : ℕ → ℕ → Text
last_digits zero n = []
last_digits (suc i) n = last_digits i (n / 10) ++ last_digit n

-- the last digits of n are those of n / 10, as many as there are, and the last one
last_more : (n : ℕ) (s t : Text) → t ≡ s ++ last_digit n → s ≡ last_digits (length s) (n / 10) → t ≡ last_digits (length t) n
unfolding last_digits
last_more n s t e h =
    let l : suc (length s) ≡ length t = omega (arith, ap length e, length-append s (last_digit n)) in
    e ∙ ap (λ u. u ++ last_digit n) h ∙ ap (λ k. last_digits k n) l

up_to-none : (n : ℕ) → digits_up_to 0 n ≡ last_digit n
unfolding digits_up_to
up_to-none n = refl

last_none : (n : ℕ) → [] ≡ last_digits 0 n
unfolding last_digits
last_none n = refl

up_to-last : (f n : ℕ) → digits_up_to f n ≡ last_digits (length (digits_up_to f n)) n
up_to-last zero n = last_more n [] _ (up_to-none n) (last_none (n / 10))
up_to-last (suc f) n = go (le_or_lt 10 n) (up_to-last f (n / 10))
  where
    go : (10 ≤ n) ⊎ (n < 10) → digits_up_to f (n / 10) ≡ last_digits (length (digits_up_to f (n / 10))) (n / 10) → digits_up_to (suc f) n ≡ last_digits (length (digits_up_to (suc f) n)) n
    go (inl l) ih = last_more n _ _ (up_to_large f n l) ih
    go (inr l) ih = last_more n [] _ (up_to-small (suc f) n l) (last_none (n / 10))

pub digits_last : (n : ℕ) → digits n ≡ last_digits (length (digits n)) n
unfolding digits
digits_last n = up_to-last n n

pub last_digits_more : (i n : ℕ) → 0 < i → last_digits i n ≡ last_digits (i - 1) (n / 10) ++ last_digit n
unfolding last_digits
last_digits_more zero n h = absurd (omega arith)
last_digits_more (suc i) n h = ap (λ k. last_digits k (n / 10) ++ last_digit n) (let e : i ≡ suc i - 1 = omega arith in e)

-- ---- signed numbers
pub decimal_negative : (z : ℤ) → z <ℤ pos 0 → decimal z ≡ minus ∷ digits (nat_abs z)
unfolding decimal
decimal_negative (pos n) h = absurd (rw (leb-suc-zero n) at h.lt)
decimal_negative (negsuc n) h = refl

pub decimal_natural : (z : ℤ) → pos 0 ≤ℤ z → decimal z ≡ digits (nat_abs z)
unfolding decimal
decimal_natural (pos n) h = refl
decimal_natural (negsuc n) h = absurd h.le
