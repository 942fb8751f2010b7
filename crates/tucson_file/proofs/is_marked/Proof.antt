-- The three bytes of a mark.
use borrow.Author.Rules.{rules}
use mathlib.Core.Path.{◌∙◌, ap}
use lib.Seq.{take-length}
use Rattle.base_text.specs.Bytes.{begins_with}
use Rattle.spec_tucson.specs.FileText.{byte_order_mark, is_marked}
use Rattle.tucson_file.proofs.is_marked.Statement.{statement}
use Rattle.tucson_file.proofs.is_marked.Tie as tie

returns : tie.Need-returns
unfolding is_marked
returns c = c.begins.ensures ∙ ap (begins_with byte_order_mark) (take-length _)

pub is_marked_spec : {M : Type 1} → statement M
is_marked_spec = tie.close (tie.spec (λ c κs. search rules) returns)
