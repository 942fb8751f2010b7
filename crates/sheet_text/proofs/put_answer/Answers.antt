-- Four texts, one behind the other.
use Rattle.std.proofs.Common.{arith}
use Rattle.base_print.proofs.Buffer.{puts_then, puts_within, puts_as}
use Rattle.sheet_beam.proofs.Beam.{answer-joined}
use Rattle.sheet_text.proofs.put_answer.Goals as goal

pub returns : goal.returns
returns c =
    let p = c.requires in
    puts_within (omega (arith, p.few))
    (puts_as (answer-joined p.filled _ _)
    (puts_then c.put_count-a.ensures (puts_then c.put_beam-b.ensures (puts_then c.put_values-c.ensures c.put_lows.ensures))))
