-- How many bytes the lines of a series have at most: 100 for the numbers of a ring.
use mathlib.Core.Path.{◌≡◌, ap}
use mathlib.Core.Bool.{Bool, true, false, cond}
use Prim.Native.Nat.{ℕ, zero, suc, ◌+◌, ◌*◌, ◌^◌, ◌<◌, ◌≤◌}
use native.Mathlib.Omega.{arith}
use lib.IntN.{ℤ, pos, negsuc, nat_abs, ◌*ℤ◌}
use lib.ListN.{length}
use mir.Syntax.{w64}
use mir.Val.{SFits}
use Rattle.base_exact.specs.Floor.{floor_div}
use Rattle.base_exact.proofs.Floor.{nearest-abs}
use Rattle.base_exact.proofs.Integer.{abs_mul}
use Rattle.base_exact.proofs.Word.{sfits_abs, abs_sfits, floor-fits}
use Rattle.spec_calls.specs.Indices.{is_absent, index_scale, index_of}
use Rattle.spec_table.specs.Decimals.{millionths}
use Rattle.spec_table.specs.RingLines.{numbers_text}
use Rattle.table_numbers.proofs.Digits.{whole-short, decimals_short, index_short}
use Rattle.table_line.proofs.Numbers.{numbers_length}
use Rattle.table_lines.specs.Machine.{Rows, row_numbers, rows_text}
use Rattle.table_lines.proofs.Rows.{rows_none, rows_length}

-- ---- numbers
millionths-small : (v : ℤ) → nat_abs v ≤ 256000000 → nat_abs (millionths v) ≤ 1000000000
unfolding millionths
millionths-small v h = nearest-abs (v *ℤ pos 125) 32 1000000000 (omega arith) (omega (arith, abs_mul v (pos 125)))

pub numbers-short : (y w v i : ℤ) → nat_abs y ≤ 2 ^ 32 → nat_abs w ≤ 99999 → nat_abs v ≤ 256000000 → nat_abs i < 10 ^ 20
    → length (numbers_text y w v i) ≤ 100
numbers-short y w v i hy hw hv hi =
    omega (
      arith,
      numbers_length y w v i,
      whole-short 19 y (omega arith),
      decimals_short 19 3 w (omega arith),
      decimals_short 19 6 (millionths v) (omega (arith, millionths-small v hv)),
      index_short 19 i hi,
    )

pub index-size : (w v : ℤ) → nat_abs w ≤ 99999 → nat_abs (index_of w v) < 10 ^ 20
unfolding index_of
index-size w v h = go (is_absent w)
  where
    product : SFits w64 (index_scale *ℤ w)
    product = sfits_abs (omega (arith, abs_mul index_scale w))

    go : (b : Bool) → nat_abs (cond b (negsuc 0) (floor_div (index_scale *ℤ w) (nat_abs v))) < 10 ^ 20
    go true = omega arith
    go false = omega (arith, abs_sfits (floor-fits (nat_abs v) product))

-- ---- lines
pub rows_short : (r : Rows) (n : ℕ) → length r.label ≤ 18 → ((j : ℕ) → j < n → length (row_numbers r j) ≤ 100) → length (rows_text r n) ≤ 118 * n
rows_short r zero h k = omega (arith, ap length (rows_none r))
rows_short r (suc n) h k =
    omega (
      arith,
      ap (λ (m : ℕ). length (rows_text r m)) (let e : suc n ≡ n + 1 = omega arith in e),
      rows_length r n,
      k n (omega arith),
      rows_short r n h (λ j l. k j (omega arith)),
    )
