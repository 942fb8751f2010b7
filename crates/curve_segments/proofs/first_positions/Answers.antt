-- A segment's first position is that of the whole space, and past the last segment the array holds 0.
use Rattle.std.proofs.Common.{rules, ◌≡◌, ◌++◌, ap, ap₂, ◌∙◌, arith, ℕ, List, ℤ, pos, length, set, drop, replicate, w32}
use mir.Val.{SFits}
use Rattle.base_exact.specs.Tabulate.{tab}
use Rattle.base_exact.proofs.Tabulate.{tab-none, tab_more}
use Rattle.base_exact.proofs.Word.{to_z-of_z}
use Rattle.build_space.specs.Machine.{space}
use Rattle.curve_segments.specs.Segments.{first_position}
use Rattle.curve_segments.proofs.First.{first_partial, firsts-filled}
use Rattle.curve_segments.proofs.first_positions.Goals as goal

pub loop-i-init : goal.loop-i-init
loop-i-init c = tab-none _ _

pub loop-i-preserved : goal.loop-i-preserved
loop-i-preserved c =
    let a = c.args in
    let i = c.loop-i.i in
    let f : SFits w32 c.first_position.result = search rules in
    let is = c.first_position.ensures ∙ first_partial a.breaks.now a.degrees.now a.orders.now i in
    simp to_z-of_z (
    ap₂ (λ (fs : List ℤ) (v : ℤ). set fs i v) c.loop-i.invariant is
    ∙ tab_more (first_position (space a.breaks.now a.degrees.now a.orders.now)) i (replicate 48 (pos 0)) (omega (arith, c.requires.few)))

pub returns : goal.returns
returns c =
    let a = c.args in
    let d = a.degrees.now in
    let all : c.loop-i.i ≡ length d = omega arith in
    c.loop-i.invariant
    ∙ ap (λ (i : ℕ). tab i (first_position (space a.breaks.now d a.orders.now)) ++ drop i (replicate 48 (pos 0))) all
    ∙ firsts-filled a.breaks.now d a.orders.now c.requires.few
