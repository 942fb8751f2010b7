-- A blank leaves the number to the columns behind it.
use Rattle.std.proofs.Common.{◌≡◌, ℕ, sym, ◌∙◌, ap, arith}
use Rattle.std.proofs.Math.Seq.{slice}
use Rattle.spec_tucson.specs.Columns.{in_columns}
use Rattle.spec_tucson.specs.StrictLine.{is_some}
use Rattle.tucson_lines.proofs.Steps.{columns-blank, columns-numeral, columns_end}
use Rattle.tucson_strict.proofs.is_numeral.Goals as goal

pub returns-then-text-i-ne32 : goal.returns-then-text-i-ne32
returns-then-text-i-ne32 c =
    let s = c.args in
    let number = columns-numeral s.text.now c.loop-i.i s.to (omega arith) c.requires.within c.if-text-i-ne32.true in
    c.is_number.ensures ∙ sym (ap is_some (c.loop-i.invariant ∙ number))

pub loop-i-preserved : goal.loop-i-preserved
loop-i-preserved c =
    let s = c.args in c.loop-i.invariant ∙ columns-blank s.text.now c.loop-i.i s.to (omega arith) c.requires.within c.if-text-i-ne32.false

pub returns : goal.returns
returns c =
    let s = c.args in
    let e : c.loop-i.i ≡ s.to = omega (arith, c.requires) in
    sym (ap is_some (c.loop-i.invariant ∙ ap (λ (n : ℕ). in_columns (slice n s.to s.text.now)) e ∙ columns_end s.text.now s.to))
