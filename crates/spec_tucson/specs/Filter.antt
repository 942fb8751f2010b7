-- The filter as one function on texts: a Tucson text in, the same series in thousandths out, or the line of a refusal; "a longer
-- text is no=1,0, tested first" (§ 14).
use Rattle.std.specs.Prelude.{cond, List, ℕ, leb, length}
use Rattle.base_outcome.specs.Codes as codes
use Rattle.base_outcome.specs.Outcome.{Outcome, answer, refusal}
use Rattle.base_text.specs.Bytes.{Text}
use Rattle.base_print.specs.Refusal.{refusal_line}
use Rattle.spec_tucson.specs.Series.{Series}
use Rattle.spec_tucson.specs.TextReading.{read_text}
use Rattle.spec_tucson.specs.Writing.{written}

-- The most bytes that the filter holds.
abbrev pub text_limit : ℕ
text_limit = 1048576

-- The text of what was read: the series as writing gives them, or the line of the refusal.
unfoldable pub outcome_text : Outcome (List Series) → Text
outcome_text (answer ss) = written ss
outcome_text (refusal code place) = refusal_line code place

-- What the filter gives for a text. A longer one than it can hold is refused, never cut.
unfoldable pub filtered : Text → Text
filtered t = cond (leb (length t) text_limit) (outcome_text (read_text t)) (refusal_line codes.short_buffer 0)
