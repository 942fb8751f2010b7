-- `digit_count` meets its contract: below a power of ten a number has at most so many digits, and from the power before on no fewer.
use borrow.Author.Rules.{rules}
use native.Mathlib.Omega.{arith}
use mathlib.Core.Path.{sym}
use Rattle.table_numbers.proofs.Digits.{one_digit, two_digits, three_digits, four_digits}
use Rattle.table_numbers.proofs.digit_count.Statement.{statement}
use Rattle.table_numbers.proofs.digit_count.Tie as tie

returns : tie.Need-returns-then-n-lt10
returns c = (sym (one_digit c.args.n c.if-n-lt10.true), omega arith)

returns-2 : tie.Need-returns-then-n-lt100
returns-2 c = (sym (two_digits c.args.n c.if-n-lt10.false c.if-n-lt100.true), omega arith)

returns-3 : tie.Need-returns-then-n-lt1000
returns-3 c = (sym (three_digits c.args.n c.if-n-lt100.false c.if-n-lt1000.true), omega arith)

returns-4 : tie.Need-returns-then-n-lt10000
returns-4 c = (sym (four_digits c.args.n c.if-n-lt1000.false c.if-n-lt10000.true), omega arith)

pub digit_count_spec : {M : Type 1} → statement M
digit_count_spec = tie.close (tie.spec returns returns-2 returns-3 returns-4 (λ c κs. search rules) (λ c. search rules))
