-- One of five bytes.
use borrow.Author.Tests.{eq-eqb, ne_eqb}
use native.Mathlib.Omega.{arith}
use Rattle.tucson_file.proofs.is_padding.Statement.{statement}
use Rattle.tucson_file.proofs.is_padding.Tie as tie

returns-2 : tie.Need-returns-then-byte-eq32
returns-2 c = let b = c.args.byte in rw (ne_eqb b 26 (omega arith), eq-eqb b 32 (omega arith))

returns-3 : tie.Need-returns-then-byte-eq9
returns-3 c = let b = c.args.byte in rw (ne_eqb b 26 (omega arith), ne_eqb b 32 (omega arith), eq-eqb b 9 (omega arith))

returns-4 : tie.Need-returns-then-byte-eq10
returns-4 c =
    let b = c.args.byte in
    rw (ne_eqb b 26 (omega arith), ne_eqb b 32 (omega arith), ne_eqb b 9 (omega arith), eq-eqb b 10 (omega arith))

returns-5 : tie.Need-returns
returns-5 c =
    let b = c.args.byte in
    rw (ne_eqb b 26 (omega arith), ne_eqb b 32 (omega arith), ne_eqb b 9 (omega arith), ne_eqb b 10 (omega arith))

pub is_padding_spec : {M : Type 1} → statement M
is_padding_spec = tie.close (tie.spec (λ c. rw (eq-eqb c.args.byte 26 (omega arith))) returns-2 returns-3 returns-4 returns-5)
