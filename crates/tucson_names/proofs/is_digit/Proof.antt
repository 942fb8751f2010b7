-- Two tests of the byte.
use borrow.Author.Tests.{le-leb, lt-leb}
use Rattle.base_text.specs.Bytes.{digit_zero}
use Rattle.tucson_names.proofs.NameColumns.{digit_top}
use Rattle.tucson_names.proofs.is_digit.Statement.{statement}
use Rattle.tucson_names.proofs.is_digit.Tie as tie

returns-2 : tie.Need-returns
returns-2 c = rw (le-leb digit_zero _ c.if-c-lt48.false) (digit_top c.args.c)

pub is_digit_spec : {M : Type 1} → statement M
is_digit_spec = tie.close (tie.spec (λ c. rw (lt-leb digit_zero _ c.if-c-lt48.true)) returns-2)
