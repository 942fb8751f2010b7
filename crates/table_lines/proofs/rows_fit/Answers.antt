-- The room has all lines if and only if each has room in what those before it leave.
use Rattle.std.proofs.Common.{◌≡◌, ℕ, ◌+◌, length, sym, ap, ◌∙◌, rules, arith}
use borrow.Author.Tests.{le-leb, lt-leb}
use Rattle.base_exact.proofs.Word.{to_z-of_z}
use Rattle.table_lines.specs.Machine.{Rows, rows, rows_text}
use Rattle.table_lines.proofs.Rows.{rows_none, rows_length, rows-within, numbers_are}
use Rattle.table_lines.proofs.rows_fit.Goals as goal

pub loop-j-init : goal.loop-j-init
loop-j-init c =
    let f = c.ranges.first in
    let r : Rows = rows c.args.label.now c.args.first c.args.cell c.args.widths.now c.args.values.now c.args.indices.now in
    simp to_z-of_z (omega (arith, ap length (rows_none r)))

pub returns-then-size-left : goal.returns-then-size-left
returns-then-size-left c =
    let f = c.ranges.first in
    let r : Rows = rows c.args.label.now c.args.first c.args.cell c.args.widths.now c.args.values.now c.args.indices.now in
    let j = c.loop-j.j in
    let whole = simp to_z-of_z at c.loop-j.invariant in
    let line = numbers_are r j c.year_at-year.result f (search rules) (search rules) (search rules) (search rules) c.year_at-year.ensures in
    sym (lt-leb (length (rows_text r (length r.widths))) c.args.room (omega (
      arith,
      whole,
      c.numbers_size-numbers.ensures.value ∙ ap length line,
      rows_length r j,
      rows-within r (j + 1) (length r.widths) (omega arith),
    )))

pub loop-j-preserved : goal.loop-j-preserved
loop-j-preserved c =
    let f = c.ranges.first in
    let r : Rows = rows c.args.label.now c.args.first c.args.cell c.args.widths.now c.args.values.now c.args.indices.now in
    let j = c.loop-j.j in
    let whole = simp to_z-of_z at c.loop-j.invariant in
    let line = numbers_are r j c.year_at-year.result f (search rules) (search rules) (search rules) (search rules) c.year_at-year.ensures in
    simp to_z-of_z (omega (arith, whole, c.numbers_size-numbers.ensures.value ∙ ap length line, rows_length r j))

pub returns : goal.returns
returns c =
    let f = c.ranges.first in
    let r : Rows = rows c.args.label.now c.args.first c.args.cell c.args.widths.now c.args.values.now c.args.indices.now in
    let whole = simp to_z-of_z at c.loop-j.invariant in
    let all : c.loop-j.j ≡ length r.widths = omega arith in
    sym (le-leb (length (rows_text r (length r.widths))) c.args.room (omega (arith, whole, ap (λ (n : ℕ). length (rows_text r n)) all)))
