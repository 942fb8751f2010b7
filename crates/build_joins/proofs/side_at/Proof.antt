-- The degree, length and first column of a segment, from the lists that give them. Assumes nothing.
use borrow.Author.Rules.{rules}
use mathlib.Core.Path.{◌∙◌}
use mathlib.Core.List.{[]}
use mir.Syntax.{w64}
use mir.Val.{SFits}
use mir.ValLaws.{to_z-of_z}
use Rattle.build_space.proofs.Partial.{first-column_partial}
use Rattle.build_joins.proofs.side_at.Statement.{statement}
use Rattle.build_joins.proofs.side_at.Tie as tie

returns : tie.Need-returns
returns c =
    let s = c in
    let l : SFits w64 c.segment_length-length.result = record { sfits = c.segment_length-length.type_inv } in
    record {
      degree_is = c.degree_at-degree.ensures;
      length_is = simp to_z-of_z c.segment_length-length.ensures;
      column_is = c.first_column-column.ensures ∙ first-column_partial s.args.breaks.now s.args.degrees.now [] s.args.i;
    }

pub side_at_spec : {M : Type 1} → statement M
side_at_spec = tie.close (tie.spec (λ c κs. search rules) (λ c κs. search rules) (λ c κs. search rules) returns)
