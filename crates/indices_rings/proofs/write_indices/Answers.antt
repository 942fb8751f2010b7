-- A turn writes the index of one ring more.
use Rattle.std.proofs.Common.{◌≡◌, ◌++◌, ℕ, List, length, drop, ap, ap₂, ◌∙◌, rules, arith, ℤ, w64, FitsSigned}
use lib.ListN.{set}
use mir.ValLaws.{to_z-of_z}
use Rattle.base_exact.specs.Tabulate.{tab}
use Rattle.base_exact.proofs.Tabulate.{tab-none, tab_more}
use Rattle.indices_rings.specs.Cells.{cell_index}
use Rattle.indices_rings.proofs.write_indices.Goals as goal

pub loop-i-init : goal.loop-i-init
loop-i-init c = tab-none _ _

pub loop-i-preserved : goal.loop-i-preserved
loop-i-preserved c =
    let a = c.args in
    let i = c.loop-i.i in
    let f : FitsSigned w64 c.index.result = search rules in
    ap₂ (λ (t : List ℤ) (v : ℤ). set t i v) c.loop-i.invariant (to_z-of_z w64 c.index.result f ∙ c.index.ensures)
    ∙ tab_more (cell_index a.widths.now a.values.now a.offset) i a.indices.now (omega arith)

pub returns : goal.returns
returns c =
    let a = c.args in
    let all : c.loop-i.i ≡ length a.widths.now = omega arith in
    c.loop-i.invariant ∙ ap (λ (k : ℕ). tab k (cell_index a.widths.now a.values.now a.offset) ++ drop k a.indices.now) all
