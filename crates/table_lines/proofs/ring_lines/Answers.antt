-- The tests in the specification's order, and the lines where all pass.
use Rattle.std.proofs.Common.{◌∙◌, sym, List, ℕ, ℤ}
use Rattle.base_exact.proofs.Word.{to_z-of_z}
use Rattle.spec_table.specs.RingLines.{IndexedSeries}
use Rattle.curve_ordinates.specs.Wood.{wood_of}
use Rattle.table_lines.proofs.Call.{lengths-test, lists_misfit, not_named, rows_decide, ends_refused, ends-rows, lengths-fit, name-whole}
use Rattle.table_lines.proofs.ring_lines.Goals as goal

abbrev given : List ℕ → ℤ → List ℤ → List ℤ → List ℤ → IndexedSeries
given name first widths values indices = record { name = name; first_year = first; widths = widths; values = values; indices = indices }

pub returns-then-not-lists_fit : goal.returns-then-not-lists_fit
returns-then-not-lists_fit c =
    let a = c.args in
    let s : IndexedSeries = given a.name.now a.first a.widths.now a.values.now a.indices.now in
    let w = wood_of a.wood in
    ends_refused w s a.out.now (lists_misfit w s a.out.now (lengths-test w s a.out.now ∙ sym c.lists_fit.ensures ∙ c.if-not-lists_fit.true))

pub returns-then-not-is_name : goal.returns-then-not-is_name
returns-then-not-is_name c =
    let a = c.args in
    let s : IndexedSeries = given a.name.now a.first a.widths.now a.values.now a.indices.now in
    let w = wood_of a.wood in
    let fit = lengths-test w s a.out.now ∙ sym c.lists_fit.ensures ∙ c.if-not-lists_fit.false in
    let named = sym (c.is_name.ensures ∙ name-whole s.name (lengths-fit s fit).named) in
    ends_refused w s a.out.now (not_named w s a.out.now fit (named ∙ c.if-not-is_name.true))

pub returns : goal.returns
returns c =
    let a = c.args in
    let s : IndexedSeries = given a.name.now a.first a.widths.now a.values.now a.indices.now in
    let w = wood_of a.wood in
    let f = c.ranges.first in
    let fit = lengths-test w s a.out.now ∙ sym c.lists_fit.ensures ∙ c.if-not-lists_fit.false in
    let named = sym (c.is_name.ensures ∙ name-whole s.name (lengths-fit s fit).named) ∙ c.if-not-is_name.false in
    ends-rows w s a.out.now (rows_decide w s a.out.now fit named)
    (rw (c.put_name-size.ensures.is, c.wood_cell-cell.ensures) at (simp to_z-of_z at c.write_rows.ensures))
