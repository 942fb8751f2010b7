-- Fewer than six columns are all of them.
use borrow.Author.Tests.{lt-ltb, le-ltb}
use mathlib.Core.Bool.{Bool, cond}
use mathlib.Core.Path.{sym, ap}
use Rattle.tucson_caption.proofs.common.Statement.{statement}
use Rattle.tucson_caption.proofs.common.Tie as tie

returns : tie.Need-returns-then-count-lt-COMMON
returns c = let n = c.args.count in sym (ap (λ (b : Bool). cond b n 6) (lt-ltb n 6 c.if-count-lt-COMMON.true))

returns-2 : tie.Need-returns
returns-2 c = let n = c.args.count in sym (ap (λ (b : Bool). cond b n 6) (le-ltb n 6 c.if-count-lt-COMMON.false))

pub common_spec : {M : Type 1} → statement M
common_spec = tie.close (tie.spec returns returns-2)
