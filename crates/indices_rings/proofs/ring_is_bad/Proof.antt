-- `indices_rings::ring_is_bad` meets its contract. Assumes nothing.
use borrow.Author.Rules.{rules}
use mathlib.Core.Path.{ap}
use lib.IntN.{pos}
use lib.ListN.{get_or}
use mir.Syntax.{w32}
use mir.Val.{SFits, of_z}
use Prim.Native.Nat.{◌+◌, ◌*◌}
use native.Mathlib.Omega.{arith}
use Rattle.base_exact.proofs.Word.{to_z-of_z, of_z_inj, sfits_nat}
use Rattle.indices_rings.specs.Cells.{bad_cell}
use Rattle.theorems_indices.proofs.Ring.{refused_below, refused_above, absent-passes, present_by_value}
use Rattle.indices_rings.proofs.ring_is_bad.Statement.{statement}
use Rattle.indices_rings.proofs.ring_is_bad.Tie as tie

width_fits : (c : tie.After-width-1) → SFits w32 (get_or c.args.widths.now c.args.i (pos 0))
width_fits c = record { sfits = c.width-1.given }

returns : tie.Need-returns-then-width-lt0
unfolding bad_cell
returns c = let f = width_fits c.before in refused_below _ _ (simp to_z-of_z at c.if-width-lt0.true)

returns-2 : tie.Need-returns-then-width-gt-WIDTH_LIMIT
unfolding bad_cell
returns-2 c = let f = width_fits c.before.before in refused_above _ _ (simp to_z-of_z at c.if-width-lt0.false) (simp to_z-of_z at c.if-width-gt-WIDTH_LIMIT.true)

returns-3 : tie.Need-returns-then-width-eq0
unfolding bad_cell
returns-3 c = let f = width_fits c.before.before.before in absent-passes _ _ (of_z_inj w32 _ (pos 0) f (sfits_nat 0 (omega arith)) c.if-width-eq0.true)

returns-4 : tie.Need-returns
unfolding bad_cell
returns-4 c =
    let e = c in
    let a = e in
    let f = width_fits a.before.before.before.before in
    let g : SFits w32 (get_or a.args.values.now (2 * a.args.i + a.args.offset) (pos 0)) = record { sfits = c.value-1.given } in
    simp to_z-of_z (present_by_value _ _ (simp to_z-of_z at e.if-width-lt0.false) (simp to_z-of_z at e.if-width-gt-WIDTH_LIMIT.false)
    (λ z. e.if-width-eq0.false (ap (of_z w32) z)))

pub ring_is_bad_spec : {M : Type 1} → statement M
ring_is_bad_spec =
    tie.close (tie.spec (λ c. search rules) (λ c. search rules) returns returns-2 returns-3 (λ c. search rules) (λ c. search rules)
    (λ c. search rules) (λ c. search rules) returns-4)
