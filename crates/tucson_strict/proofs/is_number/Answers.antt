-- Digits alone behind a first digit other than 0, or what reading the number gives.
use Rattle.std.proofs.Common.{◌≡◌, refl, sym, ◌∙◌, ap, ℤ}
use Rattle.std.proofs.Math.Option as math
use Rattle.std.specs.Option as machine
use Rattle.base_text.specs.Machine.{field}
use Rattle.spec_tucson.specs.StrictLine.{is_some}
use Rattle.tucson_strict.proofs.Numbers.{number_digits, number-minus}
use Rattle.tucson_strict.proofs.is_number.Goals as goal

pub returns-then-to-from-le-MOST_DIGITS : goal.returns-then-to-from-le-MOST_DIGITS
returns-then-to-from-le-MOST_DIGITS c =
    let a = c.args in
    let digit = c.if-text-from-gt48.true in
    c.all_digits.ensures
    ∙ sym (number_digits a.text.now a.from a.to c.requires.1 c.requires.0.within digit c.if-to-from-le-MOST_DIGITS.true)

pub returns-then-is_negative : goal.returns-then-is_negative
returns-then-is_negative c =
    let a = c.args in
    c.all_digits-then-is_negative.ensures
    ∙ sym (number-minus a.text.now a.from a.to c.requires.0.within (c.is_negative.ensures c.if-is_negative.true))

some_field : (o : math.Option ℤ) → machine.is_some (field o) ≡ is_some o
unfolding field
some_field math.none = refl
some_field (math.some z) = refl

pub returns : goal.returns
returns c = c.is_some.ensures ∙ ap machine.is_some c.numeral.ensures ∙ some_field _
