-- The number that a part of a text stands for, by its first byte and by whether the digits behind it are a numeral's.
use mathlib.Core.Path.{◌≡◌, refl, sym, ◌∙◌, ap}
use mathlib.Core.Bool.{Bool, true, false, cond}
use mathlib.Core.List.{◌∷◌}
use mathlib.Core.Option.{Option, some, none}
use Prim.Native.Nat.{ℕ, zero, suc, ◌+◌, ◌<◌, ◌≤◌}
use borrow.Author.Tests.{eq-eqb, ne_eqb}
use lib.IntN.{ℤ, pos, ◌-ℤ◌}
use lib.ListN.{length, get_or}
use lib.Seq.{slice, slice_empty}
use Rattle.std.specs.Prelude.{Some, None}
use Rattle.base_exact.proofs.Decide.{clash}
use Rattle.base_exact.proofs.Word.{zero_sub}
use Rattle.base_text.specs.Bytes.{Text, minus}
use Rattle.base_text.specs.Numeral.{is_natural, digits_value, negated, numeral}
use Rattle.base_text.specs.Machine.{field}
use Rattle.base_text.proofs.Slice.{slice-step}

-- ---- of a text
numeral-minus : (c : ℕ) (cs : Text) → c ≡ minus → numeral (c ∷ cs) ≡ negated (is_natural cs) (digits_value 0 cs)
unfolding numeral
numeral-minus c cs e = rw (eq-eqb c minus e)

pub numeral-plain : (c : ℕ) (cs : Text) → (c ≡ minus → ⊥) → numeral (c ∷ cs) ≡ cond (is_natural (c ∷ cs)) (some (pos (digits_value 0 (c ∷ cs)))) none
unfolding numeral
numeral-plain c cs h = rw (ne_eqb c minus h)

negated_some : (n : ℕ) → (n ≡ 0 → ⊥) → negated true n ≡ some (pos 0 -ℤ pos n)
negated_some zero h = absurd (h refl)
negated_some (suc n) h = ap some (sym (zero_sub (pos (suc n))))

-- ---- of a part
pub numeral-empty : (text : Text) (to : ℕ) → numeral (slice to to text) ≡ none
unfolding numeral
numeral-empty text to = ap numeral (slice_empty to text)

module _ (text : Text) (from to : ℕ) (before : from < to) (within : to ≤ length text) where
  abbrev rest : Text
  rest = slice (from + 1) to text

  minus_is : get_or text from 0 ≡ minus → numeral (slice from to text) ≡ negated (is_natural rest) (digits_value 0 rest)
  minus_is e = ap numeral (slice-step from to text 0 before within) ∙ numeral-minus _ rest e

  pub minus-bad : get_or text from 0 ≡ minus → is_natural rest ≡ false → numeral (slice from to text) ≡ none
  minus-bad e d = minus_is e ∙ ap (λ (b : Bool). negated b (digits_value 0 rest)) d

  pub minus-zero : get_or text from 0 ≡ minus → is_natural rest ≡ true → digits_value 0 rest ≡ 0 → numeral (slice from to text) ≡ none
  minus-zero e d z = minus_is e ∙ ap (λ (b : Bool). negated b (digits_value 0 rest)) d ∙ ap (negated true) z

  pub minus-numeral : get_or text from 0 ≡ minus → is_natural rest ≡ true → (digits_value 0 rest ≡ 0 → ⊥)
      → numeral (slice from to text) ≡ some (pos 0 -ℤ pos (digits_value 0 rest))
  minus-numeral e d z = minus_is e ∙ ap (λ (b : Bool). negated b (digits_value 0 rest)) d ∙ negated_some (digits_value 0 rest) z

  plain_is : (get_or text from 0 ≡ minus → ⊥)
      → numeral (slice from to text) ≡ cond (is_natural (slice from to text)) (some (pos (digits_value 0 (slice from to text)))) none
  plain_is h = rw (slice-step from to text 0 before within) (numeral-plain _ rest h)

  pub plain-numeral : (get_or text from 0 ≡ minus → ⊥) → is_natural (slice from to text) ≡ true
      → numeral (slice from to text) ≡ some (pos (digits_value 0 (slice from to text)))
  plain-numeral h d = plain_is h ∙ ap (λ (b : Bool). cond b (some (pos (digits_value 0 (slice from to text)))) none) d

  pub plain-bad : (get_or text from 0 ≡ minus → ⊥) → is_natural (slice from to text) ≡ false → numeral (slice from to text) ≡ none
  plain-bad h d = plain_is h ∙ ap (λ (b : Bool). cond b (some (pos (digits_value 0 (slice from to text)))) none) d

-- ---- what the answer for a field says of it
pub field-none : (o : Option ℤ) → field o ≡ None → o ≡ none
unfolding field
field-none none e = refl
field-none (some z) e = clash cc

pub field_some : (o : Option ℤ) (z : ℤ) → field o ≡ Some z → o ≡ some z
unfolding field
field_some none z e = clash cc
field_some (some y) z e = cc
