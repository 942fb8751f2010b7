-- A digit leaves the answer to the bytes before it; another byte gives it.
use Rattle.std.proofs.Common.{◌≡◌, ℕ, ◌∙◌, sym, ap, arith}
use Rattle.spec_tucson.specs.CleanSeries.{digits_behind}
use Rattle.tucson_names.proofs.NameColumns.{behind_no, behind_yes, behind-over}
use Rattle.tucson_names.proofs.digits_behind.Goals as goal

pub returns-then-not-is_digit : goal.returns-then-not-is_digit
returns-then-not-is_digit c =
    let no = sym c.is_digit.ensures ∙ c.if-not-is_digit.true in
    c.either.ensures ∙ sym (c.loop-i.invariant ∙ behind_no c.loop-i.i c.args.line.now (omega arith) no)

pub loop-i-preserved : goal.loop-i-preserved
loop-i-preserved c =
    let yes = sym c.is_digit.ensures ∙ c.if-not-is_digit.false in
    c.loop-i.invariant ∙ behind_yes c.loop-i.i c.args.line.now (omega arith) yes

pub returns : goal.returns
returns c =
    let e : c.loop-i.i ≡ 0 = omega arith in
    sym (c.loop-i.invariant ∙ ap (λ (n : ℕ). digits_behind n c.args.line.now) e ∙ behind-over c.args.line.now)
