-- 16-bit characters first, then the first byte at fault behind a mark, which there is none of where no byte is special.
use Rattle.std.proofs.Common.{◌≡◌, ℕ, false, drop, sym, ◌∙◌, ap}
use Rattle.base_outcome.specs.Machine.{found}
use Rattle.base_text.specs.Bytes.{Text}
use Rattle.spec_tucson.specs.FileText.{is_wide, text_fault, fault_line}
use Rattle.tucson_file.specs.Machine.{StartIs}
use Rattle.tucson_file.proofs.Faults.{plain-fault}
use Rattle.tucson_file.proofs.fault.Goals as goal

narrow : (t : Text) (from : ℕ) → false ≡ is_wide t → StartIs t from → text_fault t ≡ fault_line 1 (drop from t)
unfolding text_fault
narrow t from e s = rw (← e, s.text_is)

pub returns-then-is_wide : goal.returns-then-is_wide
unfolding found text_fault
returns-then-is_wide c = rw (← c.if-is_wide.ensures)

pub returns-then-not-any_special : goal.returns-then-not-any_special
unfolding found
returns-then-not-any_special c =
    let t = c.args.text.now in
    let from = c.start-from.result in
    rw (narrow t from c.if-is_wide.ensures c.start-from.ensures, plain-fault 1 (drop from t) (sym c.if-not-any_special.ensures))

pub returns : goal.returns
returns c = c.fault_line.ensures ∙ ap found (sym (narrow c.args.text.now c.start-from.result c.if-is_wide.ensures c.start-from.ensures))
