-- The first position out of the span is refused; both ends of the span fit their words.
use Rattle.std.proofs.Common.{◌≡◌, ◌<◌, ◌∙◌, ap, ap₂, arith, ℕ, ℤ, List, pos, length, get_or, ◌*ℤ◌, to_z, of_z}
use mir.Syntax.{w32}
use mir.Val.{SFits}
use mir.ValLaws.{to_z-of_z}
use Rattle.base_exact.proofs.Integer.{abs_mul_le}
use Rattle.base_exact.proofs.Word.{sfits_abs}
use Rattle.base_outcome.specs.Machine.{found}
use Rattle.base_outcome.specs.Search.{first}
use Rattle.build_space.specs.Legal.{BreaksLegal}
use Rattle.spec_spline.specs.Reading.{fine}
use Rattle.curve_entries.specs.Limits.{outside, positions_checked}
use Rattle.curve_entries.proofs.check_positions.Goals as goal

-- an end of the span, read back from its word
bound : {breaks : List ℤ} → BreaksLegal breaks → (i : ℕ) → i < length breaks
    → to_z w32 (of_z w32 (pos 256 *ℤ to_z w32 (of_z w32 (get_or breaks i (pos 0))))) ≡ fine (get_or breaks i (pos 0))
bound {breaks} legal i l =
    let b = get_or breaks i (pos 0) in
    let f : SFits w32 b = sfits_abs (omega (arith, legal.size i l)) in
    let g : SFits w32 (fine b) = sfits_abs (omega (arith, abs_mul_le (pos 256) b 256 10000 (omega arith) (legal.size i l))) in
    ap (λ (z : ℤ). to_z w32 (of_z w32 (pos 256 *ℤ z))) (to_z-of_z w32 b f) ∙ to_z-of_z w32 (fine b) g

pub returns : goal.returns
unfolding positions_checked
returns c =
    let xs = c.args.positions.now in
    c.refuse_first.ensures _ (c.first_outside.ensures
    ∙ ap₂ (λ (l h : ℤ). found (first (length xs) (outside xs l h)))
    (bound c.requires.legal 0 (omega arith)) (bound c.requires.legal c.args.m (omega arith)))
