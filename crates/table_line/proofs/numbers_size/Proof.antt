-- `numbers_size` meets its contract: the bytes of the four numbers, four commas and byte 10.
use borrow.Author.Rules.{rules}
use native.Mathlib.Omega.{arith}
use mathlib.Core.Path.{◌≡◌, ap, ◌∙◌}
use lib.IntN.{ℤ}
use lib.ListN.{length}
use mir.Syntax.{w32, w64}
use mir.Val.{SFits}
use Rattle.base_exact.proofs.Word.{to_z-of_z, sfits_widen}
use Rattle.spec_table.specs.Decimals.{with_decimals}
use Rattle.table_line.proofs.Numbers.{numbers_length}
use Rattle.table_line.proofs.numbers_size.Statement.{statement}
use Rattle.table_line.proofs.numbers_size.Tie as tie

cast-thousandths-size : tie.Need-overflow_cast-width
cast-thousandths-size c = let f = c.ranges.width in simp to_z-of_z (sfits_widen f)

returns : tie.Need-returns
returns c =
    let s = c in
    let a = s.args in
    let fy : SFits w64 a.year = s.ranges.year in
    let fw : SFits w32 a.width = s.ranges.width in
    let ww : SFits w64 a.width = sfits_widen fw in
    let fv : SFits w32 a.value = s.ranges.value in
    let fi : SFits w64 a.index = s.ranges.index in
    let m = c.millionths-millionths in
    let fm : SFits w64 m.result = record { sfits = m.type_inv } in
    let years = simp to_z-of_z at c.whole_size-years.ensures in
    let widths = simp to_z-of_z at c.thousandths_size-widths.ensures in
    let curves = simp to_z-of_z at c.millionths_size-curves.ensures in
    let curve = simp to_z-of_z at m.ensures in
    let indices = simp to_z-of_z at c.index_size.ensures in (
      omega (arith, years.0, widths.0, curves.0, ap (λ (z : ℤ). length (with_decimals 6 z)) curve, indices.0, numbers_length a.year a.width a.value a.index),
      omega (arith, years.1, widths.1, curves.1, indices.1),
    )

pub numbers_size_spec : {M : Type 1} → statement M
numbers_size_spec =
    tie.close
    (tie.spec
    (λ c κs. search rules)
    (λ c κs. search rules)
    cast-thousandths-size
    (λ c κs. search rules)
    (λ c κs. search rules)
    (λ c. search rules)
    (λ c. search rules)
    (λ c κs. search rules)
    (λ c. search rules)
    (λ c. search rules)
    returns)
