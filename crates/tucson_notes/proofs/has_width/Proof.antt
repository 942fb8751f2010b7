-- The closing is no width.
use mathlib.Core.Path.{ap, ◌∙◌}
use mathlib.Core.Bool.{Bool}
use Rattle.spec_tucson.specs.CleanNotes.{is_empty}
use Rattle.tucson_notes.specs.Machine.{widths_on}
use Rattle.tucson_notes.proofs.Remarks.{empty-last, empty_other}
use Rattle.tucson_notes.proofs.has_width.Statement.{statement}
use Rattle.tucson_notes.proofs.has_width.Tie as tie

returns : tie.Need-returns-then-last
returns c = record { told = λ fs s. ap (λ (b : Bool). is_empty (widths_on b fs)) c.if-last.true ∙ empty-last s }

returns-2 : tie.Need-returns
returns-2 c = record { told = λ fs s. ap (λ (b : Bool). is_empty (widths_on b fs)) c.if-last.false ∙ empty_other s }

pub has_width_spec : {M : Type 1} → statement M
has_width_spec = tie.close (tie.spec returns returns-2)
