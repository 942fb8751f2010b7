-- The rings' positions as the machine hands them on: brought into 32 bits, and no more of them than can matter.
use Rattle.std.specs.Prelude.{cond, List, ℕ, ◌+◌, min, ℤ, pos, negsuc, ◌+ℤ◌}
use Rattle.std.specs.Int.Signed.{lt_z}
use Rattle.base_exact.specs.Tabulate.{tab}
use Rattle.spec_spline.specs.Reading.{fine}
use Rattle.spec_spline.specs.CurveCall.{position_limit}

-- The least number of 32 bits.
abbrev pub least_word : ℤ
least_word = negsuc 2147483647

-- The greatest.
abbrev pub greatest_word : ℤ
greatest_word = pos 2147483647

-- The number of 32 bits nearest to z.
unfoldable pub nearest_word : ℤ → ℤ
nearest_word z = cond (lt_z z least_word) least_word (cond (lt_z greatest_word z) greatest_word z)

-- The position of ring i that is handed on.
unfoldable pub word_position : ℤ → ℕ → ℤ
word_position first_ring i = nearest_word (fine (first_ring +ℤ pos i))

-- As many rings as are read: one more than the curve call takes stands for anything larger.
abbrev pub rings_taken : ℕ → ℕ
rings_taken n = min n (position_limit + 1)

-- The positions of so many rings.
abbrev pub word_positions : ℤ → ℕ → List ℤ
word_positions first_ring n = tab n (word_position first_ring)
