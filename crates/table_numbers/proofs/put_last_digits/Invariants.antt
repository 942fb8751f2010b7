-- With i digits to go, those behind them are written, and the i to go are the last i digits of what is left of the number.
use Rattle.std.proofs.Common.{◌≡◌, ◌+◌, ◌++◌}
use Rattle.base_text.specs.Bytes.{Text}
use Rattle.base_text.proofs.Decimal as text
use Rattle.base_print.specs.Buffer.{written}
use Rattle.table_numbers.proofs.put_last_digits.Given as goal

abbrev pub invariant-loop-i : goal.invariant-loop-i
invariant-loop-i l =
    (behind : Text) × (text.last_digits l.i l.rest ++ behind ≡ text.last_digits l.count l.n)
    × (l.out ≡ written (l.at + l.i) behind l.fn.out)
