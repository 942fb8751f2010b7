-- The cast of a 32-bit number is exact. Assumes nothing.
use borrow.Author.Rules.{rules}
use native.Mathlib.Omega.{arith}
use Rattle.base_exact.proofs.Word.{to_z-of_z, abs_sfits}
use Rattle.curve_drawing.proofs.Floats.{cast_is}
use Rattle.curve_drawing.proofs.whole.Statement.{statement}
use Rattle.curve_drawing.proofs.whole.Tie as tie

returns : tie.Need-returns
returns c = let f = c.ranges.x in simp to_z-of_z (cast_is c.args.x (omega (arith, abs_sfits f)))

pub whole_spec : {M : Type 1} → statement M
whole_spec = tie.close (tie.spec (λ c. search rules) returns)
