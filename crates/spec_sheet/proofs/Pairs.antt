-- The pairs of numbers side by side: how many, which they are, and that they are those that were laid so.
use mathlib.Core.Path.{◌≡◌, refl, ap, ap₂, ◌∙◌}
use mathlib.Core.List.{List, [], ◌∷◌}
use Prim.Native.Nat.{ℕ, zero, suc, ◌+◌, ◌*◌, ◌/◌, ◌<◌}
use native.Mathlib.Omega.{arith}
use lib.IntN.{ℤ, pos}
use lib.ListN.{length, get_or}
use Rattle.spec_spline.specs.Reading.{Pair, side_by_side}
use Rattle.spec_sheet.specs.Pairs.{paired}
use Rattle.spec_sheet.proofs.Printout.{zeros}

pub paired_length : (vs : List ℤ) → length (paired vs) ≡ length vs / 2
unfolding paired
paired_length [] = refl
paired_length (a ∷ []) = omega arith
paired_length (a ∷ b ∷ vs) = omega (arith, paired_length vs)

pub paired_at : (vs : List ℤ) (k : ℕ) → k < length vs / 2 → get_or (paired vs) k zeros ≡ record { early = get_or vs (2 * k) (pos 0); late = get_or vs (2 * k + 1) (pos 0) }
unfolding paired
paired_at [] k h = absurd (omega arith)
paired_at (a ∷ []) k h = absurd (omega arith)
paired_at (a ∷ b ∷ vs) zero h = refl
paired_at (a ∷ b ∷ vs) (suc k) h =
    let early-next : suc (suc (2 * k)) ≡ 2 * suc k = omega arith in
    let late-next : suc (suc (2 * k + 1)) ≡ 2 * suc k + 1 = omega arith in
    paired_at vs k (omega arith)
    ∙ ap₂ (λ (i j : ℕ). record { early = get_or (a ∷ b ∷ vs) i (pos 0); late = get_or (a ∷ b ∷ vs) j (pos 0) }) early-next late-next

pub paired-side_by_side : (ps : List Pair) → paired (side_by_side ps) ≡ ps
unfolding paired side_by_side
paired-side_by_side [] = refl
paired-side_by_side (p ∷ ps) = ap (λ (qs : List Pair). p ∷ qs) (paired-side_by_side ps)
