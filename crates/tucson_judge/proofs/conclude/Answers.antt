-- The first of the three kinds that was found.
use Rattle.std.proofs.Common.{◌∙◌, ap, ℕ}
use Rattle.base_outcome.specs.Outcome.{refusal}
use Rattle.tucson_judge.proofs.Verdict.{concluded_year, concluded_fault, concluded_reader, concluded_legal}
use Rattle.tucson_judge.proofs.conclude.Goals as goal

pub returns-then-j-ne0 : goal.returns-then-j-ne0
returns-then-j-ne0 c unit b before =
    ap (λ (n : ℕ). refusal 23 n) c.place.ensures ∙ concluded_year unit c.args.j b before c.if-j-ne0.true

pub returns-in-Some : goal.returns-in-Some
returns-in-Some c unit b before =
    let m = c.in-Some.fault in
    ap (λ (n : ℕ). refusal m.code n) c.place-in-Some.ensures ∙ concluded_fault unit c.args.j b before c.if-j-ne0.false m c.in-Some.is

pub returns-in-Err : goal.returns-in-Err
returns-in-Err c unit b before =
    let m = c.in-Err.refused in
    ap (λ (n : ℕ). refusal m.code n) c.place-in-Err.ensures
    ∙ concluded_reader unit c.args.j b before c.if-j-ne0.false c.in_default.is m c.in-Err.is

pub returns : goal.returns
returns c unit b before =
    concluded_legal unit c.args.j b before c.if-j-ne0.false c.in_default.is c.in_default-reader.field-0 c.in_default-reader.is
