-- A part without a tab that is no longer than a strict line is shown as it stands; else it is put in its columns.
use Rattle.std.proofs.Common.{arith, sym, ◌∙◌, ◌-◌}
use lib.Seq.{slice, length-slice}
use Rattle.tucson_shown.proofs.Fields.{plain-fields}
use Rattle.tucson_shown.proofs.show.Goals as goal

pub returns-then-not-any_tab : goal.returns-then-not-any_tab
returns-then-not-any_tab c =
    let a = c.args in
    plain-fields (slice a.from a.to a.text.now) c.copy.new.bytes (a.to - a.from) (sym c.any_tab.ensures ∙ c.if-not-any_tab.true)
    (length-slice a.from a.to a.text.now c.requires.range.within) (omega arith) c.copy.ensures
