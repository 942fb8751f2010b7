-- The part that is filled holds as many blanks as it is long.
use Rattle.std.proofs.Common.{◌≡◌, ℕ, ◌+◌, ◌-◌, ◌∙◌, ap, length, take, drop, replicate, length-drop, length-take-le, arith}
use Rattle.base_print.proofs.Buffer.{written_copy}
use Rattle.spec_tucson.specs.Columns.{blank}
use Rattle.tucson_putting.proofs.Wrote.{blanks_all}
use Rattle.tucson_putting.proofs.put_blanks.Goals as goal

pub returns : goal.returns
returns c =
    let a = c.args in
    let k = a.at + a.count - a.at in
    let n = blanks_all a.count in
    let d = length-drop a.at a.text.now in
    let long : length (take k (drop a.at a.text.now)) ≡ a.count = length-take-le k (drop a.at a.text.now) (omega arith) ∙ omega arith in
    let filled = c.fill.ensures.after (λ y e. e) ∙ ap (λ (m : ℕ). replicate m blank) long in
    record {
      contents = written_copy a.at k (replicate a.count blank) _ a.text.now (omega arith) (omega arith) filled;
      behind = omega arith;
    }
