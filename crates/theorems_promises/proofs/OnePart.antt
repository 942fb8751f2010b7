-- A space without discontinuities is one part, proved: no segment but the first starts one, and nothing is dropped before it.
use mathlib.Core.Path.{◌≡◌, refl, ◌∙◌, ap, subst}
use mathlib.Core.Bool.{true, false, ◌&&◌}
use mathlib.Core.List.{[], ◌∷◌, map}
use mathlib.Core.Option.{get_or}
use Prim.Native.Nat.{ℕ, zero, suc, ◌+◌, ◌*◌, ◌-◌, ◌<◌}
use native.Mathlib.Omega.{arith}
use borrow.Author.Tests.{lt-ltb}
use lib.Dec.{ltb}
use lib.ListN.{drop}
use Rattle.base_exact.proofs.Decide.{true_not_false}
use Rattle.base_outcome.specs.Search.{last}
use Rattle.spec_spline.specs.Space.{Space, segments, starts_part, part_end, last_part_start, first_column, conditions_before}
use Rattle.spec_spline.specs.Table.{Table, cell, row_cells}
use Rattle.spec_spline.specs.Build.{last_part, build_end}
use Rattle.spec_published.specs.Published.{extraction}
use Rattle.base_outcome.proofs.Search.{first-none, nowhere, at, SearchedBack, search_last}
use Rattle.spec_spline.proofs.Space.{is_no_discontinuity}
use Rattle.spec_spline.proofs.Legal.{checked_inverts, lengths_fit_inverts}
use Rattle.theorems_weights.specs.Cells.{HoldsFraction}
use Rattle.theorems_weights.proofs.Cells.{cells_hold_published_weights}
use Rattle.theorems_beams.specs.Sections.{section}
use Rattle.theorems_beams.proofs.Fronts.{whole-front}
use Rattle.theorems_promises.specs.OnePart.{NoDiscontinuity, OnePartStarts, OnePartEnds, OnePartIsTheSpace, OnePartIsTheLast, OnePartFillsTheCells}

module _ (s : Space) (none : NoDiscontinuity s) where
  later-starts-none : (i : ℕ) → suc i < segments s → starts_part s (suc i) ≡ false
  unfolding starts_part
  later-starts-none i h = is_no_discontinuity s i (none i (omega arith))

  starts_first : (i : ℕ) → i < segments s → starts_part s i ≡ true → i ≡ 0
  starts_first zero h e = refl
  starts_first (suc i) h e = absurd (true_not_false e (later-starts-none i h))

  ends_last : part_end s 0 ≡ segments s
  unfolding part_end
  ends_last = ap (λ o. get_or o (segments s)) (first-none (λ k. ltb 0 k && starts_part s k) (segments s) later)
    where
      later : (k : ℕ) → k < segments s → (ltb 0 k && starts_part s k) ≡ false
      later zero h = refl
      later (suc k) h = ap (λ b. b && starts_part s (suc k)) (lt-ltb 0 (suc k) (omega arith)) ∙ later-starts-none k h

  last-starts-first : last_part_start s ≡ 0
  unfolding last_part_start
  last-starts-first = go (search_last (starts_part s) (segments s))
    where
      go : SearchedBack (starts_part s) (segments s) → get_or (last (segments s) (starts_part s)) 0 ≡ 0
      go (nowhere f e) = ap (λ o. get_or o 0) e
      go (at i L e) = ap (λ o. get_or o 0) e ∙ starts_first i L.below L.meets

  -- nothing stands before it
  whole-last : (t : Table) → last_part s t ≡ t
  unfolding last_part first_column conditions_before
  whole-last t = ap (λ c. map (drop (first_column s c)) (drop (first_column s c - conditions_before s c) t)) last-starts-first ∙ rows t
    where
      rows : (t : Table) → map (drop 0) t ≡ t
      rows [] = refl
      rows (r ∷ t) = ap (λ u. r ∷ u) (rows t)

pub one_part-starts : OnePartStarts
one_part-starts = starts_first

pub one_part-ends : OnePartEnds
one_part-ends = ends_last

pub one_part_is_the_space : OnePartIsTheSpace
one_part_is_the_space s e none =
    ap (section s 0) (let z : part_end s 0 - 0 ≡ part_end s 0 = omega arith in z)
    ∙ whole-front s (lengths_fit_inverts s (checked_inverts s e).1.lengths) 0 (ends_last s none)

pub one_part_is_the_last : OnePartIsTheLast
one_part_is_the_last s none = (last-starts-first s none, whole-last s none)

pub one_part_fills_the_cells : OnePartFillsTheCells
unfolding first_column conditions_before
one_part_fills_the_cells s a none nums dens h k i c p q =
    subst (λ (r : ℕ). Held r c) (let z : 0 + i ≡ i = omega arith in z)
    (subst (λ (d : ℕ). Held (0 + i) d) (let z : 0 + c ≡ c = omega arith in z)
    (subst (λ j. Held (first_column s j - conditions_before s j + i) (first_column s j + c)) (last-starts-first s none) (cells_hold_published_weights s a nums dens h k i c p q)))
  where
    Held : ℕ → ℕ → Type 0
    Held r d = HoldsFraction (cell (extraction s) r d) (build_end s nums dens).numerators (build_end s nums dens).denominators (row_cells * i + c)
