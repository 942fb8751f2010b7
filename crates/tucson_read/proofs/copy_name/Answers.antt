-- The part of the names holds the copied part of the text.
use Rattle.std.proofs.Common.{◌+◌, ◌-◌, ◌∙◌, arith}
use Rattle.std.proofs.Math.Seq.{slice, length-slice}
use Rattle.spec_tucson.specs.Line.{name_columns}
use Rattle.tucson_read.proofs.Sets.{part_is, sets_copy}
use Rattle.tucson_read.proofs.copy_name.Goals as goal

pub returns : goal.returns
returns c =
    let a = c.args in
    let to = a.from + name_columns in
    let n = length-slice a.from to a.text.now c.requires.within in
    let copied = c.copy_from_slice.ensures.after ∙ part_is a.from to a.text.now (omega arith) in
    sets_copy a.names.now a.at (a.at + name_columns - a.at) (slice a.from to a.text.now) _ (omega arith) (omega arith) copied
