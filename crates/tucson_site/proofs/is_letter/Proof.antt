-- The ranges of the letters, from below.
use borrow.Author.Tests.{le-leb, lt-leb}
use mathlib.Core.Path.{sym}
use native.Mathlib.Omega.{arith}
use Rattle.tucson_site.proofs.is_letter.Statement.{statement}
use Rattle.tucson_site.proofs.is_letter.Tie as tie

returns : tie.Need-returns-then-byte-lt65
returns c = let b = c.args.byte in sym (rw (lt-leb 65 b c.if-byte-lt65.true, lt-leb 97 b (omega arith)))

returns-2 : tie.Need-returns-then-byte-le90
returns-2 c = let b = c.args.byte in sym (rw (le-leb 65 b c.if-byte-lt65.false, le-leb b 90 c.if-byte-le90.true))

returns-3 : tie.Need-returns-then-byte-lt97
returns-3 c =
    let b = c.args.byte in
    sym (rw (le-leb 65 b c.if-byte-lt65.false, lt-leb b 90 c.if-byte-le90.false, lt-leb 97 b c.if-byte-lt97.true))

returns-4 : tie.Need-returns
returns-4 c =
    let b = c.args.byte in
    sym (rw (le-leb 65 b c.if-byte-lt65.false, lt-leb b 90 c.if-byte-le90.false, le-leb 97 b c.if-byte-lt97.false))

pub is_letter_spec : {M : Type 1} → statement M
is_letter_spec = tie.close (tie.spec returns returns-2 returns-3 returns-4)
