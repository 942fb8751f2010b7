-- `whole_size` meets its contract: the bytes of the sign and the digits of the size.
use borrow.Author.Rules.{rules}
use native.Mathlib.Omega.{arith}
use mathlib.Core.Path.{◌≡◌, ap}
use Prim.Native.Nat.{ℕ}
use lib.IntN.{nat_abs}
use lib.ListN.{length}
use Rattle.base_exact.proofs.Word.{to_z-of_z}
use Rattle.base_text.specs.Numeral.{digits}
use Rattle.table_numbers.proofs.Digits.{decimal_length}
use Rattle.table_numbers.proofs.whole_size.Statement.{statement}
use Rattle.table_numbers.proofs.whole_size.Tie as tie

returns : tie.Need-returns
returns c =
    let s = c in
    let f = s.ranges.z in
    let signs = simp to_z-of_z at c.sign_size-signs.ensures in
    let size : c.magnitude-size.result ≡ nat_abs s.args.z = simp to_z-of_z at c.magnitude-size.ensures in
    let count = c.digit_count.ensures in
    (omega (arith, signs.0, count.0, ap (λ (k : ℕ). length (digits k)) size, decimal_length s.args.z), omega (arith, signs.1, count.1))

pub whole_size_spec : {M : Type 1} → statement M
whole_size_spec = tie.close (tie.spec (λ c κs. search rules) (λ c κs. search rules) (λ c κs. search rules) (λ c. search rules) returns)
