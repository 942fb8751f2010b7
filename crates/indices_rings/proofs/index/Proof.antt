-- `indices_rings::index` meets its contract: a ring that passed code 14 has a width of few digits and, where it is present, a value
-- above zero. Assumes nothing.
use borrow.Author.Rules.{rules}
use native.Mathlib.Omega.{arith}
use mathlib.Core.Path.{◌∙◌, ap}
use mathlib.Core.Logic.{◌≢◌}
use Prim.Native.Nat.{◌+◌, ◌*◌}
use lib.IntN.{ℤ, pos, ◌*ℤ◌}
use lib.ListN.{get_or}
use lib.Signed.{quot_z, ◌<ℤ◌, ◌≤ℤ◌}
use mir.Syntax.{w32, w64}
use mir.Val.{SFits, of_z}
use mir.ValLaws.{to_z-of_z, sfits_le}
use Rattle.base_exact.proofs.Integer.{abs_mul, ≤_in, *_pos}
use Rattle.base_exact.proofs.Word.{of_z_inj, of_z_pos, sfits_nat, sfits_widen, sfits_abs, quot_mag, quot_floor}
use Rattle.spec_calls.specs.Indices.{index_scale}
use Rattle.indices_rings.specs.Cells.{bad_cell, cell_index}
use Rattle.theorems_indices.proofs.Ring.{passes-width, passes-small, passes-value, index-absent, index_present}
use Rattle.indices_rings.proofs.index.Statement.{statement}
use Rattle.indices_rings.proofs.index.Tie as tie

width_fits : (c : tie.After-width-1) → SFits w32 (get_or c.args.widths.now c.args.i (pos 0))
width_fits c = record { sfits = c.width-1.given }

returns : tie.Need-returns-then-width-eq0
unfolding cell_index
returns c = let f = width_fits c.before in index-absent _ _ (of_z_inj w32 _ (pos 0) f (sfits_nat 0 (omega arith)) c.if-width-eq0.true)

module _ (c : tie.After-value-1) where
  abbrev start : tie.Start
  start = c.before.before.before

  abbrev width : ℤ
  width = get_or start.args.widths.now start.args.i (pos 0)

  abbrev value : ℤ
  value = get_or start.args.values.now (2 * start.args.i + start.args.offset) (pos 0)

  width_small : SFits w32 width
  width_small = width_fits c.before.before

  value-small : SFits w32 value
  value-small = record { sfits = c.value-1.given }

  present : width ≢ pos 0
  present e = c.if-width-eq0.false (ap (of_z w32) e)

  value_positive : pos 0 <ℤ value
  unfolding bad_cell
  value_positive = passes-value width value start.requires.good present

  dividend_fits : SFits w64 (index_scale *ℤ width)
  unfolding bad_cell
  dividend_fits = sfits_abs (omega (arith, abs_mul index_scale width, passes-small width value start.requires.good))

  dividend_above : pos 0 ≤ℤ (index_scale *ℤ width)
  unfolding bad_cell
  dividend_above = *_pos index_scale width (≤_in (pos 0) index_scale (omega arith)) (passes-width width value start.requires.good).0

  quotient_fits : SFits w64 (quot_z (index_scale *ℤ width) value)
  quotient_fits = sfits_le (quot_mag (index_scale *ℤ width) value dividend_above value_positive) dividend_fits

div-result : tie.Need-nonzero_div-result
div-result c =
    let f = width_small c in
    let g = sfits_widen f in
    let h = value-small c in
    let i = sfits_widen h in
    let d = dividend_fits c in
    (simp to_z-of_z (of_z_pos w64 (value c) (value_positive c)), simp to_z-of_z (quotient_fits c))

returns-2 : tie.Need-returns
unfolding cell_index
returns-2 c =
    let f = width_small c in
    let g = sfits_widen f in
    let h = value-small c in
    let i = sfits_widen h in
    let d = dividend_fits c in
    let q = quotient_fits c in
    simp to_z-of_z (quot_floor _ _ (dividend_above c) (value_positive c) ∙ index_present (width c) (value c) (present c))

pub index_spec : {M : Type 1} → statement M
index_spec =
    tie.close (tie.spec (λ c. search rules) (λ c. search rules) returns (λ c. search rules) (λ c. search rules) (λ c. search rules)
    (λ c. search rules) (λ c. let f = width_small c in simp to_z-of_z (sfits_widen f))
    (λ c. let f = width_small c in let g = sfits_widen f in simp to_z-of_z (dividend_fits c))
    (λ c. let f = value-small c in simp to_z-of_z (sfits_widen f)) div-result returns-2)
