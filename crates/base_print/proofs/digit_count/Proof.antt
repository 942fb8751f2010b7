-- `digit_count` meets its contract: what is counted and the digits of what is left are the digits of n, the last one
-- twice. A 64-bit number has at most 20 digits.
use native.Mathlib.Omega.{arith}
use mathlib.Core.Path.{◌≡◌}
use Prim.Native.Nat.{◌+◌}
use lib.ListN.{length}
use Rattle.base_text.specs.Numeral.{digits}
use Rattle.base_text.proofs.Decimal.{digits_length_small, digits_length_large, digits_length_le}
use Rattle.base_print.proofs.digit_count.Statement.{statement}
use Rattle.base_print.proofs.digit_count.Tie as tie

abbrev invariant-loop : tie.invariant-loop-rest
invariant-loop n count₀ rest₀ count rest = length (digits n) + 1 ≡ count + length (digits rest)

abbrev decreases-loop : tie.decreases-loop-rest
decreases-loop n count₀ rest₀ count rest = rest

returns : tie.Need-returns invariant-loop decreases-loop
returns c =
    omega (arith, digits_length_small c.before.loop-rest.rest c.loop-rest-test.false, digits_length_le 19 c.before.before.args.n (omega arith))

pub digit_count_spec : {M : Type 1} → statement M
digit_count_spec =
    tie.close (tie.spec invariant-loop decreases-loop (λ c. omega arith)
    (λ c. omega (arith, digits_length_le 19 c.before.before.args.n (omega arith))) (λ c. omega arith)
    (λ c. omega (arith, digits_length_large c.before.loop-rest.rest c.loop-rest-test.true)) returns)
