-- `build_space::segment_length` meets its contract: breakpoints in their range differ by no more than 20,000, and rise. Assumes nothing.
use borrow.Author.Rules.{rules}
use native.Mathlib.Omega.{arith}
use native.Mathlib.Numerals.{add-one}
use mathlib.Core.Path.{◌≡◌, ap, ◌∙◌}
use mathlib.Core.List.{[]}
use Prim.Native.Nat.{ℕ, ◌+◌, ◌≤◌}
use lib.IntN.{ℤ, pos, nat_abs, ◌-ℤ◌}
use lib.ListN.{get_or}
use mir.Syntax.{w32, w64}
use mir.Val.{SFits}
use Rattle.base_exact.proofs.Word.{to_z-of_z, sfits_abs}
use Rattle.spec_spline.specs.Space.{width}
use Rattle.build_space.specs.Machine.{space}
use Rattle.build_space.proofs.Bounds.{breaks_apart, width-difference}
use Rattle.build_space.proofs.segment_length.Statement.{statement}
use Rattle.build_space.proofs.segment_length.Tie as tie

start_fits : (c : tie.After-start-1) → SFits w32 (get_or c.before.args.breaks.now c.before.args.i (pos 0))
start_fits c = record { sfits = c.start-1.given }

end_fits : (c : tie.After-end-1) → SFits w32 (get_or c.before.before.args.breaks.now (c.before.before.args.i + 1) (pos 0))
end_fits c = record { sfits = c.end-1.given }

abbrev difference : tie.Start → ℤ
difference c = get_or c.args.breaks.now (c.args.i + 1) (pos 0) -ℤ get_or c.args.breaks.now c.args.i (pos 0)

difference-size : (c : tie.Start) → nat_abs (difference c) ≤ 20000
difference-size c = breaks_apart (get_or c.args.breaks.now (c.args.i + 1) (pos 0)) (get_or c.args.breaks.now c.args.i (pos 0))
    (c.requires.1.size (c.args.i + 1) c.requires.0) (c.requires.1.size c.args.i (omega arith))

difference_is : (c : tie.Start) → difference c ≡ pos (width (space c.args.breaks.now [] []) c.args.i)
difference_is c = ap (λ (k : ℕ). get_or c.args.breaks.now k (pos 0) -ℤ get_or c.args.breaks.now c.args.i (pos 0)) (add-one c.args.i)
    ∙ width-difference (space c.args.breaks.now [] []) c.requires.1 c.args.i (omega arith)

fits-32 : (c : tie.Start) → SFits w32 (difference c)
fits-32 c = sfits_abs (omega (arith, difference-size c))

fits-64 : (c : tie.Start) → SFits w64 (difference c)
fits-64 c = sfits_abs (omega (arith, difference-size c))

cast-result : tie.Need-overflow_cast-result
cast-result c = let f = start_fits c.before in let g = end_fits c in let h = fits-32 c.before.before in simp to_z-of_z (fits-64 c.before.before)

returns : tie.Need-returns
returns c = let f = start_fits c.before in let g = end_fits c in let h = fits-32 c.before.before in let k = fits-64 c.before.before in simp to_z-of_z (difference_is c.before.before)

pub segment_length_spec : {M : Type 1} → statement M
segment_length_spec =
    tie.close (tie.spec (λ c. search rules) (λ c. search rules) (λ c. search rules) (λ c. search rules) (λ c. search rules)
    (λ c. let f = start_fits c.before in let g = end_fits c in simp to_z-of_z (fits-32 c.before.before)) cast-result returns)
