-- The test of each unit.
use borrow.Author.Rules.{rules}
use mathlib.Core.Path.{sym, ◌∙◌}
use Rattle.base_exact.proofs.Word.{to_z-of_z}
use Rattle.tucson_judge.proofs.Closing.{fault_unsaid, fault-hundredths, fault-thousandths}
use Rattle.tucson_judge.proofs.is_unit_fault.Statement.{statement}
use Rattle.tucson_judge.proofs.is_unit_fault.Tie as tie

returns : tie.Need-returns-then-unit-eq-UNIT_NOT_SAID
returns c =
    let s = c in
    let f = s.ranges.closing in
    (simp to_z-of_z at c.same.ensures) ∙ sym (fault_unsaid s.args.unit s.args.closing c.if-unit-eq-UNIT_NOT_SAID.true)

returns-2 : tie.Need-returns-then-unit-eq-HUNDREDTHS_SAID
returns-2 c =
    let s = c in
    let f = s.ranges.closing in
    (simp to_z-of_z at c.same-then-unit-eq-HUNDREDTHS_SAID.ensures) ∙ sym (fault-hundredths s.args.unit s.args.closing c.if-unit-eq-UNIT_NOT_SAID.false c.if-unit-eq-HUNDREDTHS_SAID.true)

returns-3 : tie.Need-returns
returns-3 c =
    let s = c in
    let f = s.ranges.closing in
    (simp to_z-of_z at c.same-2.ensures) ∙ sym (fault-thousandths s.args.unit s.args.closing c.if-unit-eq-UNIT_NOT_SAID.false c.if-unit-eq-HUNDREDTHS_SAID.false)

pub is_unit_fault_spec : {M : Type 1} → statement M
is_unit_fault_spec = tie.close (tie.spec (λ c κs. search rules) returns (λ c κs. search rules) returns-2 (λ c κs. search rules) returns-3)
