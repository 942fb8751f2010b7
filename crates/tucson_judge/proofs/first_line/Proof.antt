-- The line that is there, this line, or none.
use mathlib.Core.Bool.{Bool, cond}
use mathlib.Core.Option.{some, none}
use mathlib.Core.Path.{sym, ◌∙◌, ap}
use Rattle.base_outcome.specs.Search.{or_else}
use Rattle.tucson_lines.specs.Machine.{line_found}
use Rattle.tucson_lines.proofs.Found.{line_kept, no_line, line_some, line-none}
use Rattle.tucson_judge.proofs.first_line.Statement.{statement}
use Rattle.tucson_judge.proofs.first_line.Tie as tie

returns-2 : tie.Need-returns-then-here
returns-2 c =
    let a = c.args in
    line_some a.number c.requires ∙ no_line a.line (some a.number) c.if-line-ne0.false
    ∙ ap (λ (b : Bool). or_else (line_found a.line) (cond b (some a.number) none)) (sym c.if-here.true)

returns-3 : tie.Need-returns
returns-3 c =
    let a = c.args in
    line-none ∙ no_line a.line none c.if-line-ne0.false
    ∙ ap (λ (b : Bool). or_else (line_found a.line) (cond b (some a.number) none)) (sym c.if-here.false)

pub first_line_spec : {M : Type 1} → statement M
first_line_spec = tie.close (tie.spec (λ c. line_kept c.args.line _ c.if-line-ne0.true) returns-2 returns-3)
