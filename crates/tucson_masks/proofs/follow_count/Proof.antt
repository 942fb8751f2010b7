-- The count by the ranges of the first byte.
use borrow.Author.Tests.{lt-ltb, le-ltb}
use mathlib.Core.Path.{sym, ◌∙◌}
use Rattle.tucson_masks.proofs.Bytes256.{count_is}
use Rattle.tucson_masks.proofs.follow_count.Statement.{statement}
use Rattle.tucson_masks.proofs.follow_count.Tie as tie

returns : tie.Need-returns-then-byte-lt194
returns c = let s = c in let b = s.args.byte in sym (count_is b s.ranges.byte.fits ∙ rw (lt-ltb b 194 c.if-byte-lt194.true))

returns-2 : tie.Need-returns-then-byte-lt224
returns-2 c =
    let s = c in
    let b = s.args.byte in
    sym (count_is b s.ranges.byte.fits ∙ rw (le-ltb b 194 c.if-byte-lt194.false, lt-ltb b 224 c.if-byte-lt224.true))

returns-3 : tie.Need-returns-then-byte-lt240
returns-3 c =
    let s = c in
    let b = s.args.byte in
    sym (count_is b s.ranges.byte.fits ∙ rw (le-ltb b 194 c.if-byte-lt194.false, le-ltb b 224 c.if-byte-lt224.false, lt-ltb b 240 c.if-byte-lt240.true))

returns-4 : tie.Need-returns-then-byte-lt245
returns-4 c =
    let s = c in
    let b = s.args.byte in
    sym
    (count_is b s.ranges.byte.fits
    ∙ rw (le-ltb b 194 c.if-byte-lt194.false, le-ltb b 224 c.if-byte-lt224.false, le-ltb b 240 c.if-byte-lt240.false, lt-ltb b 245 c.if-byte-lt245.true))

returns-5 : tie.Need-returns
returns-5 c =
    let s = c in
    let b = s.args.byte in
    sym
    (count_is b s.ranges.byte.fits
    ∙ rw (le-ltb b 194 c.if-byte-lt194.false, le-ltb b 224 c.if-byte-lt224.false, le-ltb b 240 c.if-byte-lt240.false, le-ltb b 245 c.if-byte-lt245.false))

pub follow_count_spec : {M : Type 1} → statement M
follow_count_spec = tie.close (tie.spec returns returns-2 returns-3 returns-4 returns-5)
