-- A line that is not good is refused; a good one is its series' last or not.
use Rattle.std.proofs.Common.{arith, Bool, sym, ◌∙◌, subst}
use mir.Syntax.{w32}
use mir.Val.{SFits}
use Rattle.base_exact.proofs.Word.{to_z-of_z}
use Rattle.spec_tucson.specs.TextReading.{read_line}
use Rattle.tucson_scan.specs.Scan.{Told}
use Rattle.tucson_scan.proofs.Passing.{line_refused}
use Rattle.tucson_judge.proofs.Reading.{bad-line, good-line}
use Rattle.tucson_judge.proofs.pass.Goals as goal

pub returns-then-not-is_good : goal.returns-then-not-is_good
returns-then-not-is_good c place b t l is reads tracks =
    let a = c.args in
    let y : SFits w32 a.f.year = record { sfits = omega arith } in
    let z = c.ranges.last in
    let good = sym (simp to_z-of_z at c.is_good.ensures) ∙ c.if-not-is_good.true in
    line_refused place b a.goes t (bad-line t l a.f a.last is reads c.requires.some_field good)

pub extend-requires : goal.extend-requires
extend-requires c =
    let y : SFits w32 c.args.f.year = record { sfits = omega arith } in
    simp to_z-of_z (record { year-small = c.requires.year-small; some_field = c.requires.some_field; few = c.requires.few })

pub returns-then-goes : goal.returns-then-goes
returns-then-goes c place b t l is reads tracks =
    let a = c.args in
    let y : SFits w32 a.f.year = record { sfits = omega arith } in
    let n : SFits w32 a.r.next = record { sfits = omega arith } in
    let z = c.ranges.last in
    let good = sym (simp to_z-of_z at c.is_good.ensures) ∙ c.if-not-is_good.false in
    let passed = simp to_z-of_z at c.extend.ensures in
    let told = good-line t l a.f a.last is reads c.requires.some_field good in
    subst (λ (m : Bool). Told place b (read_line place b m t) c.extend.result) (sym c.if-goes.true) (passed.told place b t tracks told)

pub returns : goal.returns
returns c place b t l is reads tracks =
    let a = c.args in
    let y : SFits w32 a.f.year = record { sfits = omega arith } in
    let n : SFits w32 a.r.next = record { sfits = omega arith } in
    let z = c.ranges.last in
    let good = sym (simp to_z-of_z at c.is_good.ensures) ∙ c.if-not-is_good.false in
    let passed = simp to_z-of_z at c.close.ensures in
    let told = good-line t l a.f a.last is reads c.requires.some_field good in
    subst (λ (m : Bool). Told place b (read_line place b m t) c.close.result) (sym c.if-goes.false) (passed.told place b t tracks told)
