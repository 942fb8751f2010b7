-- -999 and a unit that is said give the unit's closing, anything else stays.
use borrow.Author.Rules.{rules}
use mathlib.Core.Path.{◌≡◌, sym, ◌∙◌}
use mir.Syntax.{w32}
use mir.Val.{SFits}
use Rattle.base_exact.proofs.Word.{to_z-of_z}
use Rattle.spec_tucson.specs.Line.{same}
use Rattle.spec_tucson.specs.CleanSeries.{unknown_unit}
use Rattle.tucson_judge.proofs.Closing.{after_other, after_unsaid, after_said}
use Rattle.tucson_judge.proofs.closing_after.Statement.{statement}
use Rattle.tucson_judge.proofs.closing_after.Tie as tie

-- the test of the closing
closing-test : (c : tie.After-same) → c.same.result ≡ same c.args.closing unknown_unit
closing-test c = let f = c.ranges.closing in simp to_z-of_z at c.same.ensures

returns : tie.Need-returns-then-not-same
returns c =
    let s = c in
    let f = s.ranges.closing in
    simp to_z-of_z (sym (after_other s.args.unit s.args.closing (sym (closing-test c.before) ∙ c.if-not-same.true)))

returns-2 : tie.Need-returns-then-unit-eq-UNIT_NOT_SAID
returns-2 c =
    let s = c in
    let f = s.ranges.closing in
    simp to_z-of_z (sym (after_unsaid s.args.unit s.args.closing c.if-unit-eq-UNIT_NOT_SAID.true))

returns-3 : tie.Need-returns
returns-3 c =
    let k = c in
    let s = k in
    let yes = sym (closing-test k.before.before.before) ∙ k.if-not-same.false in
    let r : SFits w32 c.closing_of.result = record { sfits = c.closing_of.type_inv } in
    simp to_z-of_z c.closing_of.ensures ∙ sym (after_said s.args.unit s.args.closing yes c.if-unit-eq-UNIT_NOT_SAID.false)

pub closing_after_spec : {M : Type 1} → statement M
closing_after_spec = tie.close (tie.spec (λ c κs. search rules) returns returns-2 (λ c κs. search rules) returns-3)
