-- Each turn writes one field more.
use Rattle.std.proofs.Common.{get_or, pos, sym, arith, rules}
use Rattle.std.proofs.lemmas.Int.{to_z-of_z}
use mir.Syntax.{w32}
use mir.Val.{SFits}
use Rattle.tucson_putting.proofs.Fields.{fields-none, fields_more, taken_length, width_length}
use Rattle.tucson_putting.proofs.Wrote.{wrote_none, wrote_then, wrote_as, wrote_length}
use Rattle.tucson_putting.proofs.put_fields.Goals as goal

pub loop-width-init : goal.loop-width-init
loop-width-init c = wrote_as (fields-none c.args.widths.now) (wrote_none _ _)

pub put_columns-next-requires : goal.put_columns-next-requires
put_columns-next-requires c =
    let l = c.loop-width in
    let i = l.width-index in
    let ws = c.args.widths.now in
    let f : SFits w32 (get_or ws i (pos 0)) = search rules in
    let n = taken_length ws i (omega arith) c.requires.allowed in
    simp to_z-of_z (record {
      short = width_length ws i (omega arith) c.requires.allowed;
      fits = omega (arith, wrote_length l.invariant);
    })

pub loop-width-preserved : goal.loop-width-preserved
loop-width-preserved c =
    let l = c.loop-width in
    let i = l.width-index in
    let ws = c.args.widths.now in
    let f : SFits w32 (get_or ws i (pos 0)) = search rules in
    wrote_as (sym (fields_more ws i (omega arith))) (wrote_then l.invariant (simp to_z-of_z at c.put_columns-next.ensures))
