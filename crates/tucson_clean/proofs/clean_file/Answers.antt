-- The first byte at fault, or what is made of the text.
use Rattle.std.proofs.Common.{sym, ap, length}
use Rattle.base_outcome.specs.Outcome.{Outcome, ◌then◌}
use Rattle.base_outcome.proofs.Machine.{found_some_inverts, found-none_inverts}
use Rattle.spec_tucson.specs.CleanCall.{Cleaned, if_room}
use Rattle.tucson_clean.proofs.Room.{ends_refused, ends_same}
use Rattle.tucson_clean.proofs.Calls.{file_fault, file_clear}
use Rattle.tucson_clean.proofs.clean_file.Goals as goal

pub returns-in-Some : goal.returns-in-Some
returns-in-Some c =
    let a = c.args in
    let is = found_some_inverts _ (sym c.in-Some.ensures) in
    rw c.place.ensures
    (ends_refused _ 21 _ a.out.now a.lines.now a.notes.now
    (ap (λ (o : Outcome Cleaned). o then if_room (length a.out.now) (length a.lines.now) (length a.notes.now))
    (file_fault a.text.now a.header a.unit _ is)))

pub returns : goal.returns
returns c =
    let a = c.args in
    let is = found-none_inverts _ (sym c.in_default.ensures) in
    ends_same
    (sym (ap (λ (o : Outcome Cleaned). o then if_room (length a.out.now) (length a.lines.now) (length a.notes.now))
    (file_clear a.text.now a.header a.unit is))) c.clean_text.ensures
