-- The bound by the first byte.
use borrow.Author.Tests.{lt-ltb, le-ltb, eq-eqb, ne_eqb}
use mathlib.Core.Path.{sym, ◌∙◌}
use Rattle.tucson_masks.proofs.Bytes256.{low_is}
use Rattle.tucson_masks.proofs.follow_low.Statement.{statement}
use Rattle.tucson_masks.proofs.follow_low.Tie as tie

returns : tie.Need-returns-then-byte-lt194
returns c = let s = c in let b = s.args.byte in sym (low_is b s.ranges.byte.fits ∙ rw (lt-ltb b 194 c.if-byte-lt194.true))

returns-2 : tie.Need-returns-then-byte-gt244
returns-2 c =
    let s = c in
    let b = s.args.byte in
    sym (low_is b s.ranges.byte.fits ∙ rw (le-ltb b 194 c.if-byte-lt194.false, lt-ltb 244 b c.if-byte-gt244.true))

returns-3 : tie.Need-returns-then-byte-eq224
returns-3 c =
    let s = c in
    let b = s.args.byte in
    sym (low_is b s.ranges.byte.fits ∙ rw (le-ltb b 194 c.if-byte-lt194.false, le-ltb 244 b c.if-byte-gt244.false, eq-eqb b 224 c.if-byte-eq224.true))

returns-4 : tie.Need-returns-then-byte-eq240
returns-4 c =
    let s = c in
    let b = s.args.byte in
    sym
    (low_is b s.ranges.byte.fits
    ∙ rw (le-ltb b 194 c.if-byte-lt194.false, le-ltb 244 b c.if-byte-gt244.false, ne_eqb b 224 c.if-byte-eq224.false, eq-eqb b 240 c.if-byte-eq240.true))

returns-5 : tie.Need-returns
returns-5 c =
    let s = c in
    let b = s.args.byte in
    sym
    (low_is b s.ranges.byte.fits
    ∙ rw (le-ltb b 194 c.if-byte-lt194.false, le-ltb 244 b c.if-byte-gt244.false, ne_eqb b 224 c.if-byte-eq224.false, ne_eqb b 240 c.if-byte-eq240.false))

pub follow_low_spec : {M : Type 1} → statement M
follow_low_spec = tie.close (tie.spec returns returns-2 returns-3 returns-4 returns-5)
