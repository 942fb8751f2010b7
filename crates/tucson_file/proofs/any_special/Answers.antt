-- Each turn joins the next byte to those before it.
use Rattle.std.proofs.Common.{◌+◌, ◌-◌, Bool, ◌||◌, ◌∙◌, sym, ap, length, take, drop, arith}
use Rattle.tucson_file.specs.Machine.{any_special}
use Rattle.tucson_file.proofs.Faults.{rest_lent, special-next, special_end}
use Rattle.tucson_file.proofs.any_special.Goals as goal

pub loop-byte-preserved : goal.loop-byte-preserved
loop-byte-preserved c =
    let l = c.loop-byte in
    let t = c.args.text.now in
    let rest = take (length t - c.args.from) (drop c.args.from t) in
    let others = any_special (drop (l.byte-index + 1) rest) in
    l.invariant ∙ special-next rest l.byte-index c.loop-byte-test.true l.any
    ∙ ap (λ (b : Bool). (l.any || b) || others) (sym c.is_special.ensures)
    ∙ ap (λ (b : Bool). b || others) (sym c.either-any.ensures)

pub returns : goal.returns
returns c =
    let l = c.loop-byte in
    let t = c.args.text.now in
    let from = c.args.from in
    let all = special_end l.any (take (length t - from) (drop from t)) l.byte-index (omega arith) in
    sym (ap any_special (sym (rest_lent t from)) ∙ l.invariant ∙ all)
