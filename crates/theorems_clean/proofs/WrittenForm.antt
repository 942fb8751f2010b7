-- A number that is read from some columns stands there as it is written into them: each number has one form.
use mathlib.Core.Path.{◌≡◌, refl, sym, ◌∙◌, ap, ap₂}
use mathlib.Core.Bool.{Bool, true, false, cond}
use mathlib.Core.List.{[], ◌∷◌, ◌++◌, append_assoc, append-nil}
use mathlib.Core.Option.{some, none, some-injective}
use Prim.Native.Nat.{ℕ, zero, suc, ◌+◌, ◌*◌, ◌-◌, ◌/◌, ◌%◌, ◌≤◌}
use native.Mathlib.Omega.{arith}
use borrow.Author.Tests.{eqb-true, eqb-false}
use lib.Dec.{eqb}
use lib.IntN.{ℤ, pos, negsuc}
use lib.ListN.{length, replicate, length-append, length-replicate}
use Rattle.base_exact.proofs.Decide.{clash, and-true}
use Rattle.base_text.specs.Bytes.{Text, minus, digit_zero}
use Rattle.base_text.specs.Numeral.{is_digit, all_digits, digits_value, is_natural, negated, numeral, digits, decimal}
use Rattle.base_text.proofs.Decimal.{digits-small, digits_large}
use Rattle.base_text.proofs.Digits.{digit-bounds, natural_parts}
use Rattle.spec_tucson.specs.Columns.{blank, in_columns, columns}

-- digits behind a number that is not 0
digits-behind : (v : ℕ) (t : Text) → 1 ≤ v → all_digits t ≡ true → digits (digits_value v t) ≡ digits v ++ t
unfolding all_digits digits_value
digits-behind v [] h e = sym (append-nil (digits v))
digits-behind v (c ∷ cs) h e =
    let both = and-true (is_digit c) (all_digits cs) e in
    let bounds = digit-bounds c both.0 in
    let n = v * 10 + (c - digit_zero) in
    let front : n / 10 ≡ v = omega (arith, bounds) in
    let last : digit_zero + n % 10 ≡ c = omega (arith, bounds) in
    digits-behind n cs (omega arith) both.1
    ∙ ap (λ (s : Text). s ++ cs) (digits_large n (omega arith) ∙ ap₂ (λ (m d : ℕ). digits m ++ (d ∷ [])) front last)
    ∙ append_assoc (digits v) (c ∷ []) cs

digits-first : (c : ℕ) → is_digit c ≡ true → digits (c - digit_zero) ≡ c ∷ []
digits-first c e =
    let bounds = digit-bounds c e in
    digits-small (c - digit_zero) (omega arith) ∙ ap (λ (d : ℕ). d ∷ []) (let z : digit_zero + (c - digit_zero) % 10 ≡ c = omega arith in z)

first-value : (c : ℕ) → 0 * 10 + (c - digit_zero) ≡ c - digit_zero
first-value c = omega arith

natural_form : (t : Text) → is_natural t ≡ true → digits (digits_value 0 t) ≡ t
unfolding all_digits digits_value
natural_form [] e = absurd (omega (arith, (natural_parts [] e).0))
natural_form (c ∷ []) e = ap digits (first-value c) ∙ digits-first c (and-true (is_digit c) true (natural_parts (c ∷ []) e).2).0
natural_form (c ∷ d ∷ cs) e =
    let parts = natural_parts (c ∷ d ∷ cs) e in
    let both = and-true (is_digit c) (all_digits (d ∷ cs)) parts.2 in
    let bounds = digit-bounds c both.0 in
    let leads : c ≡ digit_zero → ⊥ = eqb-false c digit_zero parts.3 in
    ap (λ (v : ℕ). digits (digits_value v (d ∷ cs))) (first-value c)
    ∙ digits-behind (c - digit_zero) (d ∷ cs) (positive c leads bounds.0) both.1 ∙ ap (λ (s : Text). s ++ (d ∷ cs)) (digits-first c both.0)
  where
    positive : (c : ℕ) → (c ≡ digit_zero → ⊥) → digit_zero ≤ c → 1 ≤ c - digit_zero
    positive c h l = omega (arith, h)

numeral_form : (t : Text) (z : ℤ) → numeral t ≡ some z → t ≡ decimal z
unfolding numeral decimal
numeral_form [] z e = clash cc
numeral_form (c ∷ cs) z e = go (eqb c minus) refl e
  where
    negative : (n v : ℕ) → v ≡ suc n → digits v ≡ cs → c ≡ minus → c ∷ cs ≡ minus ∷ digits (suc n)
    negative n v w d m = ap₂ (λ (x : ℕ) (xs : Text). x ∷ xs) m (sym d ∙ ap digits w)

    behind-minus : c ≡ minus → (b : Bool) → is_natural cs ≡ b → (v : ℕ) → digits_value 0 cs ≡ v → negated b v ≡ some z → c ∷ cs ≡ decimal z
    behind-minus m false n v w e = clash cc
    behind-minus m true n zero w e = clash cc
    behind-minus m true n (suc v) w e =
        negative v (digits_value 0 cs) w (natural_form cs n) m ∙ ap decimal (some-injective (negsuc v) z e)

    plain : (b : Bool) → is_natural (c ∷ cs) ≡ b → cond b (some (pos (digits_value 0 (c ∷ cs)))) none ≡ some z → c ∷ cs ≡ decimal z
    plain false n e = clash cc
    plain true n e = sym (natural_form (c ∷ cs) n) ∙ ap decimal (some-injective (pos (digits_value 0 (c ∷ cs))) z e)

    go : (m : Bool) → eqb c minus ≡ m → cond m (negated (is_natural cs) (digits_value 0 cs)) (cond (is_natural (c ∷ cs)) (some (pos (digits_value 0 (c ∷ cs)))) none) ≡ some z
        → c ∷ cs ≡ decimal z
    go true m e = behind-minus (eqb-true c minus m) (is_natural cs) refl (digits_value 0 cs) refl e
    go false m e = plain (is_natural (c ∷ cs)) refl e

pub columns_form : (t : Text) (z : ℤ) → in_columns t ≡ some z → t ≡ columns (length t) z
unfolding in_columns columns
columns_form [] z e = clash cc
columns_form (c ∷ cs) z e = go (eqb c blank) refl e (columns_form cs z)
  where
    full : (t : Text) (d : Text) → t ≡ d → t ≡ replicate (length t - length d) blank ++ d
    full t d e = e ∙ ap (λ (n : ℕ). replicate n blank ++ d) (let z : 0 ≡ length t - length d = omega (arith, ap length e) in z)

    more : (d : Text) → c ≡ blank → cs ≡ replicate (length cs - length d) blank ++ d → c ∷ cs ≡ replicate (suc (length cs) - length d) blank ++ d
    more d b ih =
        let size = ap length ih ∙ length-append (replicate (length cs - length d) blank) d in
        let count : suc (length cs - length d) ≡ suc (length cs) - length d = omega (arith, size, length-replicate (length cs - length d) blank) in
        ap₂ (λ (x : ℕ) (xs : Text). x ∷ xs) b ih ∙ ap (λ (n : ℕ). replicate n blank ++ d) count

    go : (b : Bool) → eqb c blank ≡ b → cond b (in_columns cs) (numeral (c ∷ cs)) ≡ some z → (in_columns cs ≡ some z → cs ≡ columns (length cs) z)
        → c ∷ cs ≡ columns (suc (length cs)) z
    go true b e ih = more (decimal z) (eqb-true c blank b) (ih e)
    go false b e ih = full (c ∷ cs) (decimal z) (numeral_form (c ∷ cs) z e)
