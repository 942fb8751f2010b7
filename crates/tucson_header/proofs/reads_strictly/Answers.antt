-- What is told of the line says whether it is a strict line.
use Rattle.std.proofs.Common.{◌≡◌, sym, ◌∙◌, ap, ℕ, Result, Ok, Err}
use Rattle.std.specs.Result.{is_ok}
use Rattle.base_outcome.specs.Outcome.{Outcome}
use Rattle.base_text.specs.Bytes.{Text}
use Rattle.spec_tucson.specs.KeptLines.{is_answer, reads_strictly}
use Rattle.tucson_shown.specs.Machine.{StrictTold}
use Rattle.tucson_shown.specs.declared.StrictLine.{StrictLine}
use Rattle.tucson_header.proofs.reads_strictly.Goals as goal

reads : (raw shown line : Text) (r : Result StrictLine ℕ) → StrictTold raw r shown line → is_ok r ≡ reads_strictly raw
unfolding reads_strictly
reads raw shown line (Ok l) t = sym (ap (λ (o : Outcome Text). is_answer o) (t.is_line 0))
reads raw shown line (Err code) t = sym (ap (λ (o : Outcome Text). is_answer o) (t 0))

pub returns : goal.returns
returns c = c.is_ok.ensures.value ∙ reads _ _ _ c.strict_line.result c.strict_line.ensures
