-- A column past the count has no byte.
use borrow.Author.Rules.{rules}
use mathlib.Core.Path.{sym}
use Rattle.tucson_caption.proofs.Captions.{column_in, column_out}
use Rattle.tucson_caption.proofs.byte_in.Statement.{statement}
use Rattle.tucson_caption.proofs.byte_in.Tie as tie

returns : tie.Need-returns-then-n-count
returns c = let s = c in sym (column_out s.args.bytes.now s.args.count s.args.n s.requires.some_column c.if-n-count.true)

returns-2 : tie.Need-returns
returns-2 c = let s = c in sym (column_in s.args.bytes.now s.args.count s.args.n s.requires.some_column c.if-n-count.false)

pub byte_in_spec : {M : Type 1} → statement M
byte_in_spec = tie.close (tie.spec returns (λ c. search rules) (λ c. search rules) returns-2)
