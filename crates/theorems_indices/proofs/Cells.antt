-- The positions of the rings, and the value cells of a curve call that answered, ring by ring.
use mathlib.Core.Path.{◌≡◌, refl, ◌∙◌}
use mathlib.Core.List.{List}
use Prim.Native.Nat.{ℕ, ◌+◌, ◌*◌, ◌<◌}
use lib.IntN.{ℤ, pos, ◌+ℤ◌}
use lib.ListN.{length, get_or, drop}
use Rattle.base_exact.specs.Tabulate.{tab}
use Rattle.base_exact.proofs.Tabulate.{tab_length, tab_get_d}
use Rattle.base_outcome.specs.Outcome.{answer}
use Rattle.spec_spline.specs.Reading.{fine, Wood, earlywood, latewood, wood_index, Pair}
use Rattle.spec_spline.specs.CurveCall.{CurveResult, values_after}
use Rattle.spec_spline.proofs.Pairs.{of_the_wood, get_d_pairs}
use Rattle.spec_calls.specs.Indices.{ring_positions, of_wood, no_pair, ring_value}

-- ---- the positions of the first n rings

module _ (first_ring : ℤ) (n : ℕ) where
  pub exact_length : length (ring_positions first_ring n) ≡ n
  unfolding ring_positions
  exact_length = tab_length n (λ i. fine (first_ring +ℤ pos i))

  pub exact_at : (i : ℕ) → i < n → get_or (ring_positions first_ring n) i (pos 0) ≡ fine (first_ring +ℤ pos i)
  unfolding ring_positions
  exact_at i h = tab_get_d n (λ k. fine (first_ring +ℤ pos k)) i (pos 0) h

-- ---- the value cells

part_same : (wood : Wood) (p : Pair) → of_the_wood wood p ≡ of_wood wood p
part_same earlywood p = refl
part_same latewood p = refl

module _ (wood : Wood) (widths : List ℤ) (r : CurveResult) (before : List ℤ) (count : length r.values ≡ length widths) where
  pub value_cell_lem : (i : ℕ) → i < length widths → get_or (values_after (answer r) before) (2 * i + wood_index wood) (pos 0) ≡ ring_value wood r.values i
  unfolding values_after
  value_cell_lem i h = get_d_pairs r.values (drop (2 * length r.values) before) wood i (pos 0) no_pair (rw count h) ∙ part_same wood (get_or r.values i no_pair)
