-- A field that is a number leaves the answer to the fields behind it.
use Rattle.std.proofs.Common.{◌≡◌, ◌+◌, ◌-◌, ℕ, sym, ◌∙◌, ap, arith}
use Rattle.std.proofs.Math.Seq.{slice}
use Rattle.spec_tucson.specs.Line.{field_numerals}
use Rattle.spec_tucson.specs.StrictLine.{is_some}
use Rattle.tucson_strict.proofs.Strict.{numerals-next, numerals_no, numerals_end}
use Rattle.tucson_strict.proofs.all_numerals.Goals as goal

pub returns-then-not-is_numeral : goal.returns-then-not-is_numeral
returns-then-not-is_numeral c =
    let s = c.args in
    let l = c.loop in
    let is = sym c.is_numeral.ensures ∙ c.if-not-is_numeral.true in
    let none = numerals_no (s.n - l.counter) s.text.now l.at s.to (omega arith) (omega arith) is in
    sym (l.invariant.1 ∙ none)

pub loop-preserved : goal.loop-preserved
loop-preserved c =
    let s = c.args in
    let l = c.loop in
    let is = sym c.is_numeral.ensures ∙ c.if-not-is_numeral.false in
    let next = numerals-next (s.n - l.counter) s.text.now l.at s.to (omega arith) (omega arith) is in
    let e : s.n - (l.counter + 1) ≡ s.n - l.counter - 1 = omega arith in
    (omega arith, rw e (l.invariant.1 ∙ next))

pub returns : goal.returns
returns c =
    let s = c.args in
    let l = c.loop in
    let e : s.n - l.counter ≡ 0 = omega arith in
    let rest = slice l.at s.to s.text.now in
    sym (l.invariant.1 ∙ ap (λ (n : ℕ). is_some (field_numerals n rest)) e ∙ numerals_end rest)
