-- The cast is exact and so is the product. Assumes nothing.
use borrow.Author.Rules.{rules}
use native.Mathlib.Omega.{arith}
use mathlib.Core.Path.{sym, subst}
use lib.Ieee.{Float, binary64, mul, of_int}
use Rattle.base_exact.proofs.Word.{to_z-of_z, abs_sfits}
use Rattle.curve_drawing.specs.Floats.{Is}
use Rattle.curve_drawing.proofs.Floats.{cast_is, scale_is, scaled_is}
use Rattle.curve_drawing.proofs.scaled.Statement.{statement}
use Rattle.curve_drawing.proofs.scaled.Tie as tie

returns : tie.Need-returns
returns c =
    let f = c.ranges.x in
    simp to_z-of_z (subst (λ (k : Float). Is (mul binary64 (of_int binary64 c.args.x) k) c.args.x 256) (sym scale_is)
    (scaled_is _ _ _ (omega (arith, abs_sfits f)) (cast_is c.args.x (omega (arith, abs_sfits f)))))

pub scaled_spec : {M : Type 1} → statement M
scaled_spec = tie.close (tie.spec (λ c. search rules) returns)
