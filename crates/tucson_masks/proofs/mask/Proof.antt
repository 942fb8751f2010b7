-- A byte of ASCII stays.
use borrow.Author.Tests.{le-leb, lt-leb}
use mathlib.Core.Bool.{Bool, cond}
use mathlib.Core.Path.{sym, ap}
use Rattle.spec_tucson.specs.StrictLine.{question_mark}
use Rattle.tucson_masks.proofs.mask.Statement.{statement}
use Rattle.tucson_masks.proofs.mask.Tie as tie

returns : tie.Need-returns-then-byte-ge-HIGH
returns c = let byte = c.args.byte in sym (ap (λ (b : Bool). cond b question_mark byte) (le-leb 128 byte c.if-byte-ge-HIGH.true))

returns-2 : tie.Need-returns
returns-2 c = let byte = c.args.byte in sym (ap (λ (b : Bool). cond b question_mark byte) (lt-leb 128 byte c.if-byte-ge-HIGH.false))

pub mask_spec : {M : Type 1} → statement M
mask_spec = tie.close (tie.spec returns returns-2)
