-- Two tables in one: its rows, and its cells, which are the one's, the other's, or zero.
use mathlib.Core.Path.{◌≡◌, sym, ◌∙◌, ap}
use mathlib.Core.Logic.{◌⊎◌, inl, inr}
use mathlib.Core.List.{[], ◌++◌, map}
use Prim.Native.Nat.{ℕ, ◌+◌, ◌<◌, ◌≤◌}
use native.Mathlib.Omega.{arith}
use lib.IntN.{pos}
use lib.ListN.{length, length-map, length-append, get_or-append}
use lib.Seq.{get_or-append-add}
use Rattle.base_exact.specs.Rational.{int}
use Rattle.base_exact.proofs.Decide.{le_or_lt}
use Rattle.spec_spline.specs.Table.{Table, entry, row, cell}
use Rattle.spec_spline.proofs.Table.{entry_past, cell-past}
use Rattle.spec_spline.proofs.Shape.{Wide}
use Rattle.theorems_beams.specs.Sections.{zeros, beside}
use Rattle.theorems_beams.proofs.Embedded.{mapped-row, zeros-behind, zeros-before, zeros_low}

-- entries past the end of a row of a wide table
pub wide_past : (n : ℕ) (t : Table) → Wide n t → (i c : ℕ) → n ≤ c → cell t i c ≡ int (pos 0)
wide_past n t W i c h = go (le_or_lt (length t) i)
  where
    go : (length t ≤ i) ⊎ (i < length t) → cell t i c ≡ int (pos 0)
    go (inl l) = cell-past t i c l
    go (inr l) = entry_past (row t i) c (rw (W.each i l) h)

module _ (left right : ℕ) (t u : Table) where
  abbrev upper : Table
  upper = map (λ r. r ++ zeros right) t

  abbrev lower : Table
  lower = map (λ r. zeros left ++ r) u

  upper_length : length upper ≡ length t
  upper_length = length-map t (λ r. r ++ zeros right)

  lower_length : length lower ≡ length u
  lower_length = length-map u (λ r. zeros left ++ r)

  pub beside_length : length (beside left right t u) ≡ length t + length u
  unfolding beside
  beside_length = length-append upper lower ∙ omega (arith, upper_length, lower_length)

  beside-upper : (i : ℕ) → i < length t → row (beside left right t u) i ≡ row t i ++ zeros right
  unfolding beside
  beside-upper i h = get_or-append upper lower [] i (omega (arith, upper_length)) ∙ mapped-row (λ r. r ++ zeros right) t i h

  beside-lower : (i : ℕ) → row (beside left right t u) (length t + i) ≡ row lower i
  unfolding beside
  beside-lower i = ap (λ n. row (upper ++ lower) (n + i)) (sym upper_length) ∙ get_or-append-add upper lower i []

  lower-row : (i : ℕ) → i < length u → row (beside left right t u) (length t + i) ≡ zeros left ++ row u i
  lower-row i h = beside-lower i ∙ mapped-row (λ r. zeros left ++ r) u i h

  lower-past : (i c : ℕ) → length u ≤ i → cell (beside left right t u) (length t + i) c ≡ int (pos 0)
  lower-past i c h = ap (λ r. entry r c) (beside-lower i) ∙ cell-past lower i c (rw lower_length h)

  -- the first table's cells
  pub cell-upper : (i c : ℕ) → i < length t → cell (beside left right t u) i c ≡ cell t i c
  cell-upper i c h = ap (λ r. entry r c) (beside-upper i h) ∙ zeros-behind (row t i) right c

  -- the second table's
  pub cell-lower : (i c : ℕ) → cell (beside left right t u) (length t + i) (left + c) ≡ cell u i c
  cell-lower i c = go (le_or_lt (length u) i)
    where
      go : (length u ≤ i) ⊎ (i < length u) → cell (beside left right t u) (length t + i) (left + c) ≡ cell u i c
      go (inl h) = lower-past i (left + c) h ∙ sym (cell-past u i c h)
      go (inr h) = ap (λ r. entry r (left + c)) (lower-row i h) ∙ zeros-before left (row u i) c

  -- zeros to its left
  pub cell-lower-left : (i c : ℕ) → c < left → cell (beside left right t u) (length t + i) c ≡ int (pos 0)
  cell-lower-left i c l = go (le_or_lt (length u) i)
    where
      go : (length u ≤ i) ⊎ (i < length u) → cell (beside left right t u) (length t + i) c ≡ int (pos 0)
      go (inl h) = lower-past i c h
      go (inr h) = ap (λ r. entry r c) (lower-row i h) ∙ zeros_low left (row u i) c l

  -- and above it
  pub cell-upper-right : Wide left t → (i c : ℕ) → i < length t → left ≤ c → cell (beside left right t u) i c ≡ int (pos 0)
  cell-upper-right W i c h l = cell-upper i c h ∙ wide_past left t W i c l
