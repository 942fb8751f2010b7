-- A turn writes one line more behind those before it, and all have room.
use Rattle.std.proofs.Common.{◌≡◌, ℕ, ◌+◌, List, ◌++◌, length, ap, rules, arith}
use Rattle.base_exact.proofs.Word.{to_z-of_z}
use Rattle.tucson_putting.proofs.Wrote.{wrote_none, wrote_then, wrote_as, wrote_length}
use Rattle.table_lines.specs.Machine.{Rows, rows, rows_text}
use Rattle.table_lines.proofs.Rows.{rows_none, rows_more, rows_length, rows-within, numbers_are}
use Rattle.table_lines.proofs.put_rows.Goals as goal

pub loop-j-init : goal.loop-j-init
loop-j-init c =
    let f = c.ranges.first in
    let r : Rows = rows c.args.label.now c.args.first c.args.cell c.args.widths.now c.args.values.now c.args.indices.now in
    simp to_z-of_z (wrote_as (rows_none r) (wrote_none _ _))

pub put_row-next-requires : goal.put_row-next-requires
put_row-next-requires c =
    let f = c.ranges.first in
    let r : Rows = rows c.args.label.now c.args.first c.args.cell c.args.widths.now c.args.values.now c.args.indices.now in
    let j = c.loop-j.j in
    let k = simp to_z-of_z at c.loop-j.invariant in
    let line = numbers_are r j c.year_at-year.result f (search rules) (search rules) (search rules) (search rules) c.year_at-year.ensures in
    omega (
      arith,
      ap length line,
      k.behind,
      wrote_length k,
      rows_length r j,
      rows-within r (j + 1) (length r.widths) (omega arith),
      c.requires.fits,
    )

pub loop-j-preserved : goal.loop-j-preserved
loop-j-preserved c =
    let f = c.ranges.first in
    let r : Rows = rows c.args.label.now c.args.first c.args.cell c.args.widths.now c.args.values.now c.args.indices.now in
    let j = c.loop-j.j in
    let k = simp to_z-of_z at c.loop-j.invariant in
    let line = numbers_are r j c.year_at-year.result f (search rules) (search rules) (search rules) (search rules) c.year_at-year.ensures in
    simp to_z-of_z (wrote_as (rows_more r j) (wrote_then k (wrote_as (ap (λ (t : List ℕ). r.label ++ t) line) c.put_row-next.ensures)))

pub returns : goal.returns
returns c =
    let f = c.ranges.first in
    let r : Rows = rows c.args.label.now c.args.first c.args.cell c.args.widths.now c.args.values.now c.args.indices.now in
    let all : c.loop-j.j ≡ length r.widths = omega arith in
    wrote_as (ap (rows_text r) all) (simp to_z-of_z at c.loop-j.invariant)
