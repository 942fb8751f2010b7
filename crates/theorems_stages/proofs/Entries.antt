-- A property of every entry of a table, of one whose rows are replaced as a step replaces them.
use mathlib.Core.List.{[], ◌∷◌, ◌++◌}
use Prim.Native.Nat.{ℕ, zero, suc}
use lib.IntN.{pos}
use lib.ListN.{take, drop}
use Rattle.base_exact.specs.Rational.{ℚ, int}
use Rattle.spec_spline.specs.Table.{Row, Table, entry, row}

-- All entries of a row, and of a table, have the property.
abbrev pub RowHas : (ℚ → Type 0) → Row → Type 0
RowHas Q r = (c : ℕ) → Q (entry r c)

abbrev pub TableHas : (ℚ → Type 0) → Table → Type 0
TableHas Q t = (i : ℕ) → RowHas Q (row t i)

module _ (Q : ℚ → Type 0) (none : Q (int (pos 0))) where
  append_has : (a b : Table) → TableHas Q a → TableHas Q b → TableHas Q (a ++ b)
  append_has [] b p q i c = q i c
  append_has (r ∷ a) b p q zero c = p zero c
  append_has (r ∷ a) b p q (suc i) c = append_has a b (λ n. p (suc n)) q i c

  take_has : (n : ℕ) (t : Table) → TableHas Q t → TableHas Q (take n t)
  take_has zero t p i c = none
  take_has (suc n) [] p i c = none
  take_has (suc n) (r ∷ t) p zero c = p zero c
  take_has (suc n) (r ∷ t) p (suc i) c = take_has n t (λ k. p (suc k)) i c

  drop_has : (n : ℕ) (t : Table) → TableHas Q t → TableHas Q (drop n t)
  drop_has zero t p i c = p i c
  drop_has (suc n) [] p i c = none
  drop_has (suc n) (r ∷ t) p i c = drop_has n t (λ k. p (suc k)) i c

  -- A table whose rows up to f and past l are those of another, with new rows between.
  pub spliced_has : (t rs : Table) (f l : ℕ) → TableHas Q t → TableHas Q rs → TableHas Q (take f t ++ (rs ++ drop (suc l) t))
  spliced_has t rs f l p q = append_has (take f t) (rs ++ drop (suc l) t) (take_has f t p) (append_has rs (drop (suc l) t) q (drop_has (suc l) t p))
