-- The first eight bytes of both.
use borrow.Author.Rules.{rules}
use mathlib.Core.Path.{sym}
use lib.Seq.{length-take-le}
use Rattle.tucson_walk.proofs.same_name.Statement.{statement}
use Rattle.tucson_walk.proofs.same_name.Tie as tie

slice-aggregate-same-text : tie.Need-slice_bounds-same_text-end
slice-aggregate-same-text c = let s = c in sym (length-take-le 8 s.args.line.now s.requires.0)

slice-aggregate-same-text-2 : tie.Need-slice_bounds-same_text-end-2
slice-aggregate-same-text-2 c = let s = c in sym (length-take-le 8 s.args.next.now s.requires.1)

pub same_name_spec : {M : Type 1} → statement M
same_name_spec = tie.close (tie.spec slice-aggregate-same-text slice-aggregate-same-text-2 (λ c κs. search rules) (λ c. search rules))
