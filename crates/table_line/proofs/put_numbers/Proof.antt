-- `put_numbers` meets its contract: four texts, one behind the other.
use borrow.Author.Rules.{rules}
use native.Mathlib.Omega.{arith}
use Prim.Native.Nat.{◌+◌, ◌≤◌}
use lib.ListN.{length}
use Rattle.base_exact.proofs.Word.{to_z-of_z}
use Rattle.base_text.specs.Numeral.{decimal}
use Rattle.spec_table.specs.Decimals.{width_text, curve_text, index_text}
use Rattle.spec_table.specs.RingLines.{numbers_text}
use Rattle.tucson_putting.proofs.Wrote.{wrote_then, wrote_length}
use Rattle.table_line.proofs.Numbers.{numbers_length}
use Rattle.table_line.proofs.put_numbers.Statement.{statement}
use Rattle.table_line.proofs.put_numbers.Tie as tie

module _ (s : tie.Start) where
  room : s.args.at + (length (decimal s.args.year) + length (width_text s.args.width) + length (curve_text s.args.value)
      + length (index_text s.args.index) + 5) ≤ length s.args.out.now
  room = omega (arith, s.requires, numbers_length s.args.year s.args.width s.args.value s.args.index)

put-year-requires : tie.Need-put_year-a-requires
put-year-requires c κs =
    let s = c in
    let f = s.ranges.year in
    simp to_z-of_z (omega (arith, room s.before.before))

put-width-requires : tie.Need-put_width-b-requires
put-width-requires c κs =
    let y = c in
    let s = y in
    let f = s.ranges.year in
    let g = s.ranges.width in
    let p = simp to_z-of_z at y.put_year-a.ensures in
    simp to_z-of_z (omega (arith, room s.before.before.before.before.before.before, p.behind, wrote_length p))

put-curve-requires : tie.Need-put_curve-c-requires
put-curve-requires c κs =
    let w = c in
    let y = w in
    let s = y in
    let f = s.ranges.year in
    let g = s.ranges.width in
    let h = s.ranges.value in
    let p = simp to_z-of_z at y.put_year-a.ensures in
    let q = simp to_z-of_z at w.put_width-b.ensures in
    simp to_z-of_z (omega (arith, room s.before.before.before.before.before.before.before.before.before.before, p.behind, wrote_length p, q.behind, wrote_length q))

put-end-requires : tie.Need-put_end-requires
put-end-requires c κs =
    let v = c in
    let w = v in
    let y = w in
    let s = y in
    let f = s.ranges.year in
    let g = s.ranges.width in
    let h = s.ranges.value in
    let i = s.ranges.index in
    let p = simp to_z-of_z at y.put_year-a.ensures in
    let q = simp to_z-of_z at w.put_width-b.ensures in
    let r = simp to_z-of_z at v.put_curve-c.ensures in
    simp to_z-of_z (omega (arith, room s.before.before.before.before.before.before.before.before.before.before.before.before.before.before, p.behind, wrote_length p, q.behind, wrote_length q, r.behind, wrote_length r))

returns : tie.Need-returns
unfolding numbers_text
returns c =
    let e = c in
    let v = e in
    let w = v in
    let y = w in
    let s = y in
    let f = s.ranges.year in
    let g = s.ranges.width in
    let h = s.ranges.value in
    let i = s.ranges.index in
    wrote_then (simp to_z-of_z at y.put_year-a.ensures)
    (wrote_then (simp to_z-of_z at w.put_width-b.ensures)
    (wrote_then (simp to_z-of_z at v.put_curve-c.ensures)
    (simp to_z-of_z at e.put_end.ensures)))

pub put_numbers_spec : {M : Type 1} → statement M
put_numbers_spec =
    tie.close
    (tie.spec put-year-requires put-width-requires put-curve-requires put-end-requires (λ c. search rules) returns)
