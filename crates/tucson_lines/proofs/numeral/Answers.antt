-- A blank leaves the number to the columns behind it; the first other byte begins the number, and where there is none there is no number.
use Rattle.std.proofs.Common.{arith, ◌≡◌, sym, ◌∙◌, ap, ℕ}
use Rattle.std.proofs.Math.Seq.{slice}
use Rattle.base_text.specs.Machine.{field}
use Rattle.spec_tucson.specs.Columns.{in_columns}
use Rattle.tucson_lines.proofs.Steps.{columns-blank, columns-numeral, columns_end}
use Rattle.tucson_lines.proofs.numeral.Goals as goal

pub loop-i-preserved : goal.loop-i-preserved
loop-i-preserved c =
    c.loop-i.invariant ∙ columns-blank c.args.text.now c.loop-i.i c.args.to c.loop-i-test.true c.requires.within c.if-text-i-ne32.false

pub returns-then-text-i-ne32 : goal.returns-then-text-i-ne32
returns-then-text-i-ne32 c =
    let other = columns-numeral c.args.text.now c.loop-i.i c.args.to c.loop-i-test.true c.requires.within c.if-text-i-ne32.true in
    c.numeral.ensures ∙ sym (ap field (c.loop-i.invariant ∙ other))

pub returns : goal.returns
unfolding field
returns c =
    let e : c.loop-i.i ≡ c.args.to = omega arith in
    let none_left = ap (λ (n : ℕ). in_columns (slice n c.args.to c.args.text.now)) e ∙ columns_end c.args.text.now c.args.to in
    sym (ap field (c.loop-i.invariant ∙ none_left))
