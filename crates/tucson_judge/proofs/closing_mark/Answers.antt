-- The mark that is there, a closing of another unit, 999 before the closing, or none.
use Rattle.std.proofs.Common.{◌≡◌, sym, ◌∙◌, ap, ℤ}
use mir.Syntax.{w32}
use mir.Val.{SFits}
use Rattle.base_exact.proofs.Word.{to_z-of_z}
use Rattle.spec_tucson.specs.Line.{same}
use Rattle.spec_tucson.specs.Series.{hundredths}
use Rattle.spec_tucson.specs.CleanSeries.{is_unit_fault, closing_after}
use Rattle.tucson_judge.proofs.Closing.{mark-kept, mark_unit, mark_unseen, mark-closed, mark-none}
use Rattle.tucson_judge.proofs.closing_mark.Goals as goal

pub returns-then-is_some : goal.returns-then-is_some
returns-then-is_some c = mark-kept c.args.m _ (sym c.is_some.ensures ∙ c.if-is_some.true)

pub returns-then-is_unit_fault : goal.returns-then-is_unit_fault
returns-then-is_unit_fault c =
    let a = c.args in
    let f = c.ranges.last in
    let none_so_far = sym c.is_some.ensures ∙ c.if-is_some.false in
    let other : c.is_unit_fault.result ≡ is_unit_fault a.unit a.last = simp to_z-of_z at c.is_unit_fault.ensures in
    mark_unit a.m a.unit a.seen a.number a.last none_so_far (sym other ∙ c.if-is_unit_fault.true)

pub returns-then-seen-eq0 : goal.returns-then-seen-eq0
returns-then-seen-eq0 c =
    let a = c.args in
    let f = c.ranges.last in
    let none_so_far = sym c.is_some.ensures ∙ c.if-is_some.false in
    let unit-test : c.is_unit_fault.result ≡ is_unit_fault a.unit a.last = simp to_z-of_z at c.is_unit_fault.ensures in
    mark_unseen a.m a.unit a.seen a.number a.last none_so_far (sym unit-test ∙ c.if-is_unit_fault.false) c.if-seen-eq0.true

pub returns-then-same : goal.returns-then-same
returns-then-same c =
    let a = c.args in
    let f = c.ranges.last in
    let r : SFits w32 c.closing_after.result = record { sfits = c.closing_after.type_inv } in
    let none_so_far = sym c.is_some.ensures ∙ c.if-is_some.false in
    let unit-test : c.is_unit_fault.result ≡ is_unit_fault a.unit a.last = simp to_z-of_z at c.is_unit_fault.ensures in
    let closing-test : c.same.result ≡ same (closing_after a.unit a.last) hundredths =
    (simp to_z-of_z at c.same.ensures) ∙ ap (λ (z : ℤ). same z hundredths) (simp to_z-of_z at c.closing_after.ensures) in
    mark-closed a.m a.unit a.seen a.number a.last none_so_far (sym unit-test ∙ c.if-is_unit_fault.false) c.if-seen-eq0.false
    (sym closing-test ∙ c.if-same.true)

pub returns : goal.returns
returns c =
    let a = c.args in
    let f = c.ranges.last in
    let r : SFits w32 c.closing_after.result = record { sfits = c.closing_after.type_inv } in
    let none_so_far = sym c.is_some.ensures ∙ c.if-is_some.false in
    let unit-test : c.is_unit_fault.result ≡ is_unit_fault a.unit a.last = simp to_z-of_z at c.is_unit_fault.ensures in
    let closing-test : c.same.result ≡ same (closing_after a.unit a.last) hundredths =
    (simp to_z-of_z at c.same.ensures) ∙ ap (λ (z : ℤ). same z hundredths) (simp to_z-of_z at c.closing_after.ensures) in
    mark-none a.m a.unit a.seen a.number a.last none_so_far (sym unit-test ∙ c.if-is_unit_fault.false) (sym closing-test ∙ c.if-same.false)
