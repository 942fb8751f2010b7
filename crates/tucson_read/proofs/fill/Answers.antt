-- A turn's field is the next of the numbers, which are known to be numbers.
use Rattle.std.proofs.Common.{rules, sym, ◌∙◌, w32}
use mir.Val.{SFits}
use Rattle.base_exact.proofs.Word.{to_z-of_z}
use Rattle.base_text.specs.Machine.{field}
use Rattle.base_text.proofs.Numerals.{field_some}
use Rattle.tucson_read.proofs.Filling.{filling_number, filling_next, filling_ends}
use Rattle.tucson_read.proofs.fill.Goals as goal

pub unwrap-requires : goal.unwrap-requires
unfolding field
unwrap-requires c =
    rw (c.numeral-field.ensures, (filling_number c.loop-i.invariant c.loop-i-test.true c.requires.longer).1) (search rules)

pub loop-i-preserved : goal.loop-i-preserved
loop-i-preserved c =
    let fits : SFits w32 c.unwrap.result = search rules in
    let number = field_some _ c.unwrap.result (sym c.numeral-field.ensures ∙ c.unwrap.ensures) in
    simp to_z-of_z (filling_next c.loop-i.invariant c.loop-i-test.true c.requires.longer number)

pub returns : goal.returns
returns c = filling_ends c.loop-i.invariant c.loop-i-test.false
