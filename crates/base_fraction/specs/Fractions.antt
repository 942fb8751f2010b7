-- Fractions in two arrays of the machine.
use Rattle.std.specs.Prelude.{List, ℕ, pos, get_or}
use Rattle.base_exact.specs.Rational.{ℚ, den, int}
use Rattle.base_exact.specs.Tabulate.{tab}
use Rattle.base_fraction.specs.declared.arrays.Fractions.{Fractions}

-- A row of the buffers has 72 cells (§ 2), and an array of fractions a place for each row of a table.
abbrev pub row_cells : ℕ
row_cells = 72

-- The fraction at index i of a list: 0 past its end.
abbrev pub fraction_at : List ℚ → ℕ → ℚ
fraction_at qs i = get_or qs i (int (pos 0))

-- The numerators and the denominators of a list of fractions, 0/1 past its end.
unfoldable pub fractions : List ℚ → Fractions
fractions qs = record { num = tab row_cells (λ i. (fraction_at qs i).num); den = tab row_cells (λ i. pos (den (fraction_at qs i))) }
