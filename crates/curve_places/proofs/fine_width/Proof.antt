-- `curve_places::fine_width` meets its contract: breakpoints in their range differ by no more than 20,000. Assumes nothing.
use borrow.Author.Rules.{rules}
use native.Mathlib.Omega.{arith}
use mathlib.Core.List.{[]}
use mathlib.Core.Path.{◌≡◌, ap, ◌∙◌}
use Prim.Native.Nat.{ℕ, suc, ◌*◌, ◌≤◌}
use lib.IntN.{ℤ, pos, ◌*ℤ◌}
use lib.ListN.{get_or}
use mir.Syntax.{w64}
use mir.Val.{SFits, of_z, to_z}
use Rattle.base_exact.proofs.Word.{to_z-of_z, sfits_abs}
use Rattle.spec_spline.specs.Space.{width}
use Rattle.build_space.specs.Machine.{space}
use Rattle.build_space.proofs.Bounds.{breaks_apart}
use Rattle.curve_places.proofs.fine_width.Statement.{statement}
use Rattle.curve_places.proofs.fine_width.Tie as tie

module _ (s : tie.Start) where
  abbrev rings : ℕ
  rings = width (space s.args.breaks.now [] []) s.args.i

  rings_few : rings ≤ 20000
  rings_few =
      breaks_apart (get_or s.args.breaks.now (suc s.args.i) (pos 0)) (get_or s.args.breaks.now s.args.i (pos 0))
      (s.requires.legal.size (suc s.args.i) (omega arith)) (s.requires.legal.size s.args.i (omega arith))

module _ (c : tie.After-segment_length-length) where
  length_is : to_z w64 (of_z w64 c.segment_length-length.result) ≡ pos (rings c.before)
  length_is = to_z-of_z w64 _ (record { sfits = c.segment_length-length.type_inv }) ∙ c.segment_length-length.ensures

  fine-fits : SFits w64 (pos (256 * rings c.before))
  fine-fits = sfits_abs (omega (arith, rings_few c.before))

returns : tie.Need-returns
returns c = ap (λ (z : ℤ). to_z w64 (of_z w64 (pos 256 *ℤ z))) (length_is c) ∙ to_z-of_z w64 _ (fine-fits c)

pub fine_width_spec : {M : Type 1} → statement M
fine_width_spec = tie.close (tie.spec (λ c κs. search rules) (λ c. rw (length_is c) (fine-fits c)) returns)
