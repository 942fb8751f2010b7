-- A part whose first digit is not 0 is a number where it has digits alone, but for a minus before them.
use mathlib.Core.Path.{◌≡◌, refl, sym, ◌∙◌, ap, subst}
use mathlib.Core.Bool.{Bool, true, false, cond}
use mathlib.Core.Logic.{⊎_elim}
use mathlib.Core.List.{◌∷◌}
use mathlib.Core.Option.{some, none}
use Prim.Native.Nat.{ℕ, zero, suc, ◌+◌, ◌*◌, ◌-◌, ◌<◌, ◌≤◌}
use native.Mathlib.Omega.{arith}
use borrow.Author.Tests.{eq-eqb, ne_eqb}
use lib.IntN.{ℤ}
use lib.ListN.{length, get_or}
use lib.Seq.{slice, length-slice}
use Rattle.base_exact.proofs.Decide.{le_or_lt}
use Rattle.base_text.specs.Bytes.{Text, digit_zero, minus}
use Rattle.base_text.specs.Numeral.{all_digits, digits_value, spare_zero, is_natural, negated, numeral}
use Rattle.base_text.proofs.Slice.{slice-step}
use Rattle.base_text.proofs.Digits.{value_grows, natural_digits, spare-short, spare-first}
use Rattle.base_text.proofs.Numerals.{numeral-plain}
use Rattle.spec_tucson.specs.StrictLine.{is_some}
use Rattle.tucson_strict.specs.Machine.{Negative}

some_when : (b : Bool) (z : ℤ) → is_some (cond b (some z) none) ≡ b
some_when true z = refl
some_when false z = refl

module _ (text : Text) (from to : ℕ) (before : from < to) (within : to ≤ length text) (digit : digit_zero < get_or text from 0) where
  no_spare : spare_zero (slice from to text) ≡ false
  no_spare = ⊎_elim
      (λ (h : to ≤ from + 1). spare-short (slice from to text) (omega (arith, length-slice from to text within)))
      (λ (h : from + 1 < to). spare-first text from to h within ∙ ne_eqb (get_or text from 0) digit_zero (λ e. omega (arith, e, digit)))
      (le_or_lt to (from + 1))

  pub number_digits : to - from ≤ 7 → is_some (numeral (slice from to text)) ≡ all_digits (slice from to text)
  number_digits few =
      let step = slice-step from to text 0 before within in
      ap (λ (t : Text). is_some (numeral t)) step
      ∙ ap is_some (numeral-plain (get_or text from 0) (slice (from + 1) to text) (λ e. omega (arith, e, digit)))
      ∙ some_when _ _
      ∙ ap is_natural (sym step)
      ∙ natural_digits (slice from to text) (omega (arith, length-slice from to text within, before)) (omega (arith, length-slice from to text within, few)) no_spare

-- ---- behind a minus
some_negated : (b : Bool) (v : ℕ) → 1 ≤ v → is_some (negated b v) ≡ b
some_negated true zero h = absurd (omega (arith, h))
some_negated true (suc n) h = refl
some_negated false v h = refl

numeral-minus : (c : ℕ) (cs : Text) → c ≡ minus → numeral (c ∷ cs) ≡ negated (is_natural cs) (digits_value 0 cs)
unfolding numeral
numeral-minus c cs e = rw (eq-eqb c minus e)

value-first : (c : ℕ) (cs : Text) → digit_zero < c → 1 ≤ digits_value 0 (c ∷ cs)
unfolding digits_value
value-first c cs h = omega (arith, h, value_grows (0 * 10 + (c - digit_zero)) cs)

pub number-minus : (text : Text) (from to : ℕ) → to ≤ length text → (t : Negative text from to) → is_some (numeral (slice from to text)) ≡ all_digits (slice (from + 1) to text)
number-minus text from to within t =
    let rest = slice (from + 1) to text in
    let first = slice-step (from + 1) to text 0 (omega (arith, t.some)) within in
    let value : 1 ≤ digits_value 0 rest = subst (λ (u : Text). 1 ≤ digits_value 0 u) (sym first) (value-first (get_or text (from + 1) 0) (slice (from + 1 + 1) to text) t.digit) in
    ap (λ (u : Text). is_some (numeral u)) (slice-step from to text 0 (omega (arith, t.some)) within)
    ∙ ap is_some (numeral-minus (get_or text from 0) rest t.sign)
    ∙ some_negated (is_natural rest) (digits_value 0 rest) value
    ∙ natural_digits rest (omega (arith, length-slice (from + 1) to text within, t.some)) (omega (arith, length-slice (from + 1) to text within, t.few))
    (no_spare text (from + 1) to (omega (arith, t.some)) within t.digit)
