-- A part of a buffer written over, cell by cell.
use Rattle.std.specs.Prelude.{Bool, cond, ◌&&◌, List, ℕ, ◌+◌, ◌%◌, ◌/◌, eqb, leb, ltb, ℤ, pos, length, get_or}
use Rattle.base_exact.specs.Tabulate.{tab}
use Rattle.spec_spline.specs.Table.{row_cells}

-- Whether k lies from the one index up to the other.
abbrev pub inside : ℕ → ℕ → ℕ → Bool
inside from to k = leb from k && ltb k to

-- v in the cells from the one index up to the other, the rest as before.
unfoldable pub filled : ℕ → ℕ → ℤ → List ℤ → List ℤ
filled from to v xs = tab (length xs) (λ k. cond (inside from to k) v (get_or xs k (pos 0)))

-- What stands a row further on in the cells from the one index up to the other, the rest as before.
unfoldable pub moved : ℕ → ℕ → List ℤ → List ℤ
moved from to xs = tab (length xs) (λ k. get_or xs (cond (inside from to k) (k + row_cells) k) (pos 0))

-- From one place of the diagonal to the next: a row and a cell.
abbrev pub diagonal_step : ℕ
diagonal_step = row_cells + 1

-- 1 at the first n places of the diagonal, the rest as before.
unfoldable pub marked : ℕ → List ℤ → List ℤ
marked n xs = tab (length xs) (λ k. cond (eqb (k % diagonal_step) 0 && ltb (k / diagonal_step) n) (pos 1) (get_or xs k (pos 0)))
