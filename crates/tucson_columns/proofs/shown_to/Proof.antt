-- What is shown of the line is what is shown of its bytes.
use borrow.Author.Rules.{rules}
use mathlib.Core.Path.{◌∙◌, ap}
use native.Mathlib.Omega.{arith}
use Rattle.base_text.specs.Bytes.{Text}
use Rattle.spec_tucson.specs.Shown.{expanded, trimmed, in_its_columns, shown}
use Rattle.tucson_lines.proofs.Lines.{end_within}
use Rattle.tucson_columns.proofs.shown_to.Statement.{statement}
use Rattle.tucson_columns.proofs.shown_to.Tie as tie

shown-end-requires : tie.Need-shown_end-requires
shown-end-requires c κs =
    let s = c in
    let told = c.line_stop-stop.ensures in
    record { ordered = told.after; within = omega (arith, told.before, end_within s.args.text.now s.args.from s.args.end s.requires) }

returns : tie.Need-returns
unfolding shown in_its_columns
returns c =
    let stop = c.line_stop-stop.ensures in
    let told = c.shown_end.ensures in
    record {
      after = told.after;
      before = omega (arith, told.before, stop.before);
      is = ap (λ (t : Text). trimmed (expanded 0 t)) stop.are ∙ told.is;
    }

pub shown_to_spec : {M : Type 1} → statement M
shown_to_spec = tie.close (tie.spec (λ c κs. search rules) shown-end-requires returns)
