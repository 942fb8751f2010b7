-- Texts without the bytes that a test picks: such a text is one part where a text is cut at those bytes. A numeral, read or
-- written, has no byte but digits and a minus.
use mathlib.Core.Path.{◌≡◌, refl, ◌∙◌, ap, ap₂}
use mathlib.Core.Bool.{Bool, true, false, cond, ◌&&◌, ◌||◌, not}
use mathlib.Core.List.{[], ◌∷◌, ◌++◌}
use mathlib.Core.Option.{some, none}
use Prim.Native.Nat.{ℕ, suc}
use borrow.Author.Tests.{eq-eqb, ne_eqb, not-true, eqb-true}
use lib.Dec.{eqb}
use lib.IntN.{ℤ, pos, negsuc}
use Rattle.base_exact.proofs.Decide.{and-true, clash}
use Rattle.base_text.specs.Bytes.{Text, minus, with_byte, cut, on_first, fields_between, stripped}
use Rattle.base_text.specs.Numeral.{is_digit, all_digits, is_natural, digits_value, negated, numeral, digits, decimal}
use Rattle.base_text.proofs.Digits.{natural_parts}
use Rattle.base_text.proofs.RoundTrip.{digits_all}

abbrev pub lacks : (ℕ → Bool) → Text → Bool
lacks picks [] = true
lacks picks (c ∷ cs) = not (picks c) && lacks picks cs

-- The test for one byte.
abbrev pub byte : ℕ → ℕ → Bool
byte b c = eqb c b

module _ (picks : ℕ → Bool) where
  pub lacks_append : (s t : Text) → lacks picks s ≡ true → lacks picks t ≡ true → lacks picks (s ++ t) ≡ true
  lacks_append [] t h k = k
  lacks_append (c ∷ s) t h k =
      let both = and-true (not (picks c)) (lacks picks s) h in
      ap₂ (λ (x y : Bool). x && y) both.0 (lacks_append s t both.1 k)

  pub lacks-first : (c : ℕ) (cs : Text) → lacks picks (c ∷ cs) ≡ true → (picks c ≡ false) × (lacks picks cs ≡ true)
  lacks-first c cs h = let both = and-true (not (picks c)) (lacks picks cs) h in (not-true (picks c) both.0, both.1)

-- ---- numbers

-- The test picks no byte of a numeral.
pub record Outside (picks : ℕ → Bool) : Type 0 where
  pub digit : (c : ℕ) → is_digit c ≡ true → picks c ≡ false
  pub sign : picks minus ≡ false

module _ (picks : ℕ → Bool) (o : Outside picks) where
  digits-lack : (t : Text) → all_digits t ≡ true → lacks picks t ≡ true
  unfolding all_digits
  digits-lack [] e = refl
  digits-lack (c ∷ cs) e =
      let both = and-true (is_digit c) (all_digits cs) e in
      ap₂ (λ (x y : Bool). not x && y) (o.digit c both.0) (digits-lack cs both.1)

  pub decimal-lacks : (z : ℤ) → lacks picks (decimal z) ≡ true
  unfolding decimal
  decimal-lacks (pos n) = digits-lack (digits n) (digits_all n)
  decimal-lacks (negsuc n) = ap₂ (λ (x y : Bool). not x && y) o.sign (digits-lack (digits (suc n)) (digits_all (suc n)))

  pub numeral-lacks : (t : Text) (z : ℤ) → numeral t ≡ some z → lacks picks t ≡ true
  unfolding numeral
  numeral-lacks [] z e = clash cc
  numeral-lacks (c ∷ cs) z e = go (eqb c minus) refl e
    where
      minus-lacks : c ≡ minus → (b : Bool) → is_natural cs ≡ b → negated b (digits_value 0 cs) ≡ some z → lacks picks (c ∷ cs) ≡ true
      minus-lacks m true n f = ap₂ (λ (x y : Bool). not x && y) (ap picks m ∙ o.sign) (digits-lack cs (natural_parts cs n).2)
      minus-lacks m false n f = clash cc

      plain-lacks : (b : Bool) → is_natural (c ∷ cs) ≡ b → cond b (some (pos (digits_value 0 (c ∷ cs)))) none ≡ some z → lacks picks (c ∷ cs) ≡ true
      plain-lacks true n f = digits-lack (c ∷ cs) (natural_parts (c ∷ cs) n).2
      plain-lacks false n f = clash cc

      go : (b : Bool) → eqb c minus ≡ b
          → cond b (negated (is_natural cs) (digits_value 0 cs)) (cond (is_natural (c ∷ cs)) (some (pos (digits_value 0 (c ∷ cs)))) none) ≡ some z
          → lacks picks (c ∷ cs) ≡ true
      go true m f = minus-lacks (eqb-true c minus m) (is_natural cs) refl f
      go false m f = plain-lacks (is_natural (c ∷ cs)) refl f

pub byte-outside : (b : ℕ) → is_digit b ≡ false → eqb minus b ≡ false → Outside (byte b)
byte-outside b d m = record { digit = λ c e. ne_eqb c b (λ q. let same = ap is_digit q in clash cc); sign = m }

pub either-outside : (p q : ℕ → Bool) → Outside p → Outside q → Outside (λ c. p c || q c)
either-outside p q o r =
    record { digit = λ c e. ap₂ (λ (x y : Bool). x || y) (o.digit c e) (r.digit c e); sign = ap₂ (λ (x y : Bool). x || y) o.sign r.sign }

-- ---- cutting
pub cut-first : (b : ℕ) (s t : Text) → lacks (byte b) s ≡ true → cut b (s ++ (b ∷ t)) ≡ some (record { before = s; after = t })
unfolding cut
cut-first b [] t h = rw (eq-eqb b b refl)
cut-first b (c ∷ s) t h = let first = lacks-first (byte b) c s h in rw first.0 (ap (with_byte c) (cut-first b s t first.1))

module _ (picks : ℕ → Bool) where
  pub fields-only : (t : Text) → lacks picks t ≡ true → fields_between picks t ≡ t ∷ []
  unfolding fields_between
  fields-only [] h = refl
  fields-only (c ∷ cs) h = let first = lacks-first picks c cs h in rw first.0 (ap (on_first c) (fields-only cs first.1))

  pub fields-first : (s : Text) (b : ℕ) (t : Text) → picks b ≡ true → lacks picks s ≡ true → fields_between picks (s ++ (b ∷ t)) ≡ s ∷ fields_between picks t
  unfolding fields_between
  fields-first [] b t p h = rw p
  fields-first (c ∷ s) b t p h = let first = lacks-first picks c s h in rw first.0 (ap (on_first c) (fields-first s b t p first.1))

pub stripped-key : (key t : Text) → stripped key (key ++ t) ≡ some t
unfolding stripped
stripped-key [] t = refl
stripped-key (c ∷ key) t = rw (eq-eqb c c refl) (stripped-key key t)
