-- A width that is multiplied leaves the widths behind it.
use Rattle.std.proofs.Common.{◌-◌, ◌∙◌, ap, take, drop, get_or, pos, arith, rules}
use Rattle.std.proofs.Math.Seq.{slice, length-slice}
use Rattle.std.proofs.lemmas.Int.{to_z-of_z}
use mir.Syntax.{w32}
use mir.Val.{SFits}
use Rattle.spec_tucson.specs.Series.{from_hundredths}
use Rattle.spec_tucson.specs.Writing.{all_widths}
use Rattle.tucson_read.proofs.Filling.{tenfold_fits, scale-width, scale-next, scale_length, scale_none, scale_all}
use Rattle.tucson_read.proofs.Sets.{part_is, sets_copy}
use Rattle.tucson_read.proofs.scale.Goals as goal

pub loop-w-init : goal.loop-w-init
loop-w-init c = scale_none _

pub overflow_mul-w : goal.overflow_mul-w
overflow_mul-w c =
    let a = c.args in
    let l = c.loop-w in
    let part = take (a.to - a.from) (drop a.from a.widths.now) in
    let all = ap all_widths (part_is a.from a.to a.widths.now c.requires.rising) ∙ c.requires.all in
    let f : SFits w32 (get_or l.w-items l.w-index (pos 0)) = search rules in
    simp to_z-of_z (tenfold_fits _ (scale-width part l.w-items l.w-index c.loop-w-test.true l.invariant all))

pub loop-w-preserved : goal.loop-w-preserved
loop-w-preserved c =
    let a = c.args in
    let l = c.loop-w in
    let part = take (a.to - a.from) (drop a.from a.widths.now) in
    let all = ap all_widths (part_is a.from a.to a.widths.now c.requires.rising) ∙ c.requires.all in
    let f : SFits w32 (get_or l.w-items l.w-index (pos 0)) = search rules in
    let g = tenfold_fits _ (scale-width part l.w-items l.w-index c.loop-w-test.true l.invariant all) in
    simp to_z-of_z (scale-next part l.w-items l.w-index c.loop-w-test.true l.invariant)

pub returns : goal.returns
returns c =
    let a = c.args in
    let l = c.loop-w in
    let ws = slice a.from a.to a.widths.now in
    let part = part_is a.from a.to a.widths.now c.requires.rising in
    let n = scale_length ws ∙ length-slice a.from a.to a.widths.now c.requires.within in
    let scaled = l.invariant ∙ scale_all _ l.w-index c.loop-w-test.false ∙ ap from_hundredths part in
    sets_copy a.widths.now a.from (a.to - a.from) (from_hundredths ws) l.w-items (omega arith) n scaled
