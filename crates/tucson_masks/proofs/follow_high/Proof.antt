-- The bound by the first byte.
use borrow.Author.Tests.{lt-ltb, le-ltb, eq-eqb, ne_eqb}
use mathlib.Core.Path.{sym, ◌∙◌}
use Rattle.tucson_masks.proofs.Bytes256.{high_is}
use Rattle.tucson_masks.proofs.follow_high.Statement.{statement}
use Rattle.tucson_masks.proofs.follow_high.Tie as tie

returns : tie.Need-returns-then-byte-lt194
returns c = let s = c in let b = s.args.byte in sym (high_is b s.ranges.byte.fits ∙ rw (lt-ltb b 194 c.if-byte-lt194.true))

returns-2 : tie.Need-returns-then-byte-gt244
returns-2 c =
    let s = c in
    let b = s.args.byte in
    sym (high_is b s.ranges.byte.fits ∙ rw (le-ltb b 194 c.if-byte-lt194.false, lt-ltb 244 b c.if-byte-gt244.true))

returns-3 : tie.Need-returns-then-byte-eq237
returns-3 c =
    let s = c in
    let b = s.args.byte in
    sym (high_is b s.ranges.byte.fits ∙ rw (le-ltb b 194 c.if-byte-lt194.false, le-ltb 244 b c.if-byte-gt244.false, eq-eqb b 237 c.if-byte-eq237.true))

returns-4 : tie.Need-returns-then-byte-eq244
returns-4 c =
    let s = c in
    let b = s.args.byte in
    sym
    (high_is b s.ranges.byte.fits
    ∙ rw (le-ltb b 194 c.if-byte-lt194.false, le-ltb 244 b c.if-byte-gt244.false, ne_eqb b 237 c.if-byte-eq237.false, eq-eqb b 244 c.if-byte-eq244.true))

returns-5 : tie.Need-returns
returns-5 c =
    let s = c in
    let b = s.args.byte in
    sym
    (high_is b s.ranges.byte.fits
    ∙ rw (le-ltb b 194 c.if-byte-lt194.false, le-ltb 244 b c.if-byte-gt244.false, ne_eqb b 237 c.if-byte-eq237.false, ne_eqb b 244 c.if-byte-eq244.false))

pub follow_high_spec : {M : Type 1} → statement M
follow_high_spec = tie.close (tie.spec returns returns-2 returns-3 returns-4 returns-5)
