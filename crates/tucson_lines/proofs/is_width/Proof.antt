-- A width is a number between two bounds.
use borrow.Author.Rules.{rules}
use Rattle.base_exact.proofs.Word.{to_z-of_z}
use Rattle.spec_tucson.specs.Line.{is_width}
use Rattle.tucson_lines.proofs.is_width.Statement.{statement}
use Rattle.tucson_lines.proofs.is_width.Tie as tie

returns : tie.Need-returns
unfolding is_width
returns c = let f = c.ranges.field in simp to_z-of_z at c.both.ensures

pub is_width_spec : {M : Type 1} → statement M
is_width_spec = tie.close (tie.spec (λ c κs. search rules) returns)
