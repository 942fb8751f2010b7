-- `millionths_size` meets its contract: the bytes of the sign, the digits of the wholes, the point and six digits.
use borrow.Author.Rules.{rules}
use native.Mathlib.Omega.{arith}
use mathlib.Core.Path.{◌≡◌, ap}
use Prim.Native.Nat.{ℕ, ◌/◌}
use lib.IntN.{nat_abs}
use lib.ListN.{length}
use Rattle.base_exact.proofs.Word.{to_z-of_z}
use Rattle.base_text.specs.Numeral.{digits}
use Rattle.table_numbers.proofs.Digits.{decimals_length}
use Rattle.table_numbers.proofs.millionths_size.Statement.{statement}
use Rattle.table_numbers.proofs.millionths_size.Tie as tie

returns : tie.Need-returns
returns c =
    let s = c in
    let f = s.ranges.z in
    let signs = simp to_z-of_z at c.sign_size-signs.ensures in
    let size : c.magnitude-size.result ≡ nat_abs s.args.z = simp to_z-of_z at c.magnitude-size.ensures in
    let count = c.digit_count.ensures in
    (omega (arith, signs.0, count.0, ap (λ (k : ℕ). length (digits (k / 1000000))) size, decimals_length 6 s.args.z), omega (arith, signs.1, count.1))

pub millionths_size_spec : {M : Type 1} → statement M
millionths_size_spec =
    tie.close
    (tie.spec (λ c κs. search rules) (λ c κs. search rules) (λ c κs. search rules) (λ c. search rules) (λ c. search rules) (λ c. search rules) returns)
