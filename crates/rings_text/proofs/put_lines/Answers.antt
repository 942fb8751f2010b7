-- The call of the table never refuses these lists, and what it answers is the front of the buffer.
use Rattle.std.proofs.Common.{w32}
use mir.Val.{SFits}
use Rattle.base_exact.proofs.Word.{to_z-of_z}
use Rattle.spec_table.specs.RingLines.{IndexedSeries}
use Rattle.curve_ordinates.specs.Wood.{wood_of}
use Rattle.rings_text.proofs.Indexed.{lines_ok, lines-front}
use Rattle.rings_text.proofs.put_lines.Goals as goal

pub unwrap-requires : goal.unwrap-requires
unwrap-requires c =
    let a = c.args in
    let q = c.requires in
    let f : SFits w32 a.first = c.ranges.first in
    let e = simp to_z-of_z at c.ring_lines.ensures in
    let i : IndexedSeries = record {
      name = a.name.now;
      first_year = a.first;
      widths = a.widths.now;
      values = a.values.now;
      indices = a.indices.now;
    } in
    lines_ok (wood_of a.wood) i q.fit q.named a.out.now q.room c.ring_lines.result e.0

pub returns : goal.returns
returns c =
    let a = c.args in
    let q = c.requires in
    let f : SFits w32 a.first = c.ranges.first in
    let e = simp to_z-of_z at c.ring_lines.ensures in
    let i : IndexedSeries = record {
      name = a.name.now;
      first_year = a.first;
      widths = a.widths.now;
      values = a.values.now;
      indices = a.indices.now;
    } in
    lines-front (wood_of a.wood) i q.fit q.named a.out.now q.room c.ring_lines.result e.0 c.unwrap.ensures e.1
