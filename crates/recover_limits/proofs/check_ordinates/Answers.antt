-- The count first, then the first ordinate out of range.
use Rattle.std.proofs.Common.{◌∙◌, sym, ap, [], length}
use Rattle.base_outcome.specs.Machine.{found}
use Rattle.base_outcome.specs.Search.{first}
use Rattle.build_space.specs.Machine.{space}
use Rattle.recover_limits.proofs.Ordinates.{ordinate-outside, ordinates-count, ordinates_sought}
use Rattle.recover_limits.proofs.check_ordinates.Goals as goal

pub returns-then-ordinates-first_column : goal.returns-then-ordinates-first_column
returns-then-ordinates-first_column c =
    sym (ordinates-count (space [] c.args.degrees.now []) c.args.ordinates.now
    (λ e. c.if-ordinates-first_column.true (e ∙ sym c.first_column.ensures)))

pub returns : goal.returns
returns c =
    let os = c.args.ordinates.now in
    c.refuse_first.ensures _ (c.first_outside-bad.ensures ∙ ap (λ t. found (first (length os) t)) (sym (ordinate-outside os)))
    ∙ sym (ordinates_sought (space [] c.args.degrees.now []) os (c.if-ordinates-first_column.false ∙ c.first_column.ensures))
