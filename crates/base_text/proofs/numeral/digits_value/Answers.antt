-- The number with a turn's digit is small, as the whole number is, and the whole number is what is read in the end.
use Rattle.std.proofs.Common.{arith, ap, sym, ◌∙◌}
use Rattle.std.proofs.lemmas.Slice.{between_is}
use Rattle.base_text.specs.Numeral.{is_natural, digits_value}
use Rattle.base_text.proofs.Digits.{reading_none, reading_digit, reading_small, reading_more, reading_all}
use Rattle.base_text.proofs.numeral.digits_value.Goals as goal

pub loop-c-init : goal.loop-c-init
loop-c-init c = reading_none _ (ap is_natural (between_is c.args.text.now c.args.from c.args.to) ∙ c.requires.natural)

pub overflow_mul-v : goal.overflow_mul-v
overflow_mul-v c = omega (arith, reading_small c.loop-c.invariant c.loop-c-test.true)

pub overflow_sub-v : goal.overflow_sub-v
overflow_sub-v c = (reading_digit c.loop-c.invariant c.loop-c-test.true).0

pub overflow_add-v : goal.overflow_add-v
overflow_add-v c = omega (arith, reading_small c.loop-c.invariant c.loop-c-test.true)

pub loop-c-preserved : goal.loop-c-preserved
loop-c-preserved c = reading_more c.loop-c.invariant c.loop-c-test.true

pub returns : goal.returns
returns c =
    sym (reading_all c.loop-c.invariant c.loop-c-test.false)
    ∙ ap (digits_value 0) (between_is c.args.text.now c.args.from c.args.to)
