-- A turn writes one first column more, and adds the columns of its segment.
use Rattle.std.proofs.Common.{◌≡◌, ℕ, suc, ◌+◌, List, [], ◌++◌, length, drop, sym, ap, ap₂, ◌∙◌, arith}
use lib.ListN.{set, replicate}
use Rattle.base_exact.specs.Tabulate.{tab}
use Rattle.base_exact.proofs.Tabulate.{tab-none, tab_more}
use Rattle.spec_spline.specs.Space.{first_column}
use Rattle.build_space.specs.Machine.{space}
use Rattle.build_space.proofs.Bounds.{degree-high, first-column-zero, first-column-next, first-column-high}
use Rattle.curve_places.proofs.Position.{columns-filled}
use Rattle.curve.proofs.first_columns.Goals as goal

pub loop-i-init : goal.loop-i-init
loop-i-init c = (sym (first-column-zero _), tab-none _ _)

pub overflow_add-column-in-loop-i : goal.overflow_add-column-in-loop-i
overflow_add-column-in-loop-i c =
    let s = space [] c.args.degrees.now [] in
    let i = c.loop-i.i in
    omega (
      arith,
      c.loop-i.invariant.0,
      c.degree_at.ensures,
      degree-high s c.requires.legal i (omega arith),
      first-column-high s c.requires.legal i (omega arith),
    )

pub loop-i-preserved : goal.loop-i-preserved
loop-i-preserved c =
    let s = space [] c.args.degrees.now [] in
    let i = c.loop-i.i in
    let next : i + 1 ≡ suc i = omega arith in (
      omega (arith, c.loop-i.invariant.0, c.degree_at.ensures, first-column-next s i, ap (first_column s) next),
      ap₂ (λ (cs : List ℕ) (v : ℕ). set cs i v) c.loop-i.invariant.1 c.loop-i.invariant.0
          ∙ tab_more (first_column s) i (replicate 48 0) (omega arith),
    )

pub returns : goal.returns
returns c =
    let d = c.args.degrees.now in
    let all : c.loop-i.i ≡ length d = omega arith in
    c.loop-i.invariant.1
    ∙ ap (λ (i : ℕ). tab i (first_column (space [] d [])) ++ drop i (replicate 48 0)) all
    ∙ columns-filled d c.requires.few
