-- The room's test, and the lines where it passes.
use Rattle.std.proofs.Common.{◌∙◌, sym}
use Rattle.base_exact.proofs.Word.{to_z-of_z}
use Rattle.table_lines.specs.Machine.{rows}
use Rattle.table_lines.proofs.Call.{rows_short, rows_written}
use Rattle.table_lines.proofs.write_rows.Goals as goal

pub returns-then-not-rows_fit : goal.returns-then-not-rows_fit
returns-then-not-rows_fit c =
    let a = c.args in
    let f = c.ranges.first in
    let test = simp to_z-of_z at c.rows_fit.ensures in
    rows_short (rows a.label.now a.first a.cell a.widths.now a.values.now a.indices.now) a.out.now (sym test ∙ c.if-not-rows_fit.true)

pub returns : goal.returns
returns c =
    let a = c.args in
    let f = c.ranges.first in
    let test = simp to_z-of_z at c.rows_fit.ensures in
    rows_written (rows a.label.now a.first a.cell a.widths.now a.values.now a.indices.now) a.out.now (sym test ∙ c.if-not-rows_fit.false)
    (simp to_z-of_z at c.put_rows-count.ensures)
