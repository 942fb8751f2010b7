-- The last line, or the one before a last line that has the closing alone.
use borrow.Author.Tests.{eq-eqb, ne_eqb}
use native.Mathlib.Omega.{arith}
use Rattle.spec_tucson.specs.CleanNotes.{has_last_width}
use Rattle.tucson_notes.specs.Machine.{ahead_of}
use Rattle.tucson_notes.proofs.has_last_width.Statement.{statement}
use Rattle.tucson_notes.proofs.has_last_width.Tie as tie

returns : tie.Need-returns-then-ahead-eq1
unfolding has_last_width ahead_of
returns c = rw (eq-eqb c.args.ahead.count 1 c.if-ahead-eq1.true)

returns-2 : tie.Need-returns-then-ahead-eq2
unfolding has_last_width ahead_of
returns-2 c =
    let s = c in
    let n = s.args.ahead.count in
    rw (ne_eqb n 1 (omega arith), eq-eqb n 2 (omega arith))

returns-3 : tie.Need-returns
unfolding has_last_width ahead_of
returns-3 c = let n = c.args.ahead.count in rw (ne_eqb n 1 (omega arith), ne_eqb n 2 (omega arith))

pub has_last_width_spec : {M : Type 1} → statement M
has_last_width_spec = tie.close (tie.spec returns returns-2 returns-3)
