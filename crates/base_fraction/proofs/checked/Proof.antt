-- Each return is picked by the tests on the two parts in lowest terms.
use borrow.Author.Rules.{rules}
use native.Mathlib.Omega.{arith}
use mathlib.Core.Path.{◌≡◌, sym, ap, ◌∙◌}
use lib.IntN.{nat_abs}
use mir.Syntax.{w64}
use mir.Val.{SFits}
use mir.ValLaws.{to_z-of_z}
use Rattle.base_exact.specs.Rational.{ℚ, den}
use Rattle.base_fraction.specs.Machine.{fraction, ratio}
use Rattle.std.specs.Prelude.{Some}
use Rattle.base_fraction.proofs.Size.{small-fits, num_large, den_large}
use Rattle.base_fraction.proofs.Answer.{answer-fits, answer_large}
use Rattle.base_fraction.proofs.checked.Statement.{statement}
use Rattle.base_fraction.proofs.checked.Tie as tie

-- the fraction that is counted
abbrev q : tie.After-lowest-f → ℚ
q c = ratio c.before.args.n c.before.args.d

lowest-is : (c : tie.After-lowest-f) → c.lowest-f.result ≡ fraction (q c)
lowest-is c = let f = c.before.ranges.n in let g = c.before.ranges.d in simp to_z-of_z at c.lowest-f.ensures

num_is : (c : tie.After-magnitude) → c.magnitude.result ≡ nat_abs (q c.before.before).num
unfolding fraction
num_is c =
    let l = c.before.before in
    let f : SFits w64 l.lowest-f.result.num = record { sfits = c.before.struct_told-1.given.0.1 } in
    (simp to_z-of_z at c.magnitude.ensures) ∙ ap (λ t. nat_abs t.num) (lowest-is l)

den_is : (c : tie.After-magnitude-2) → let l = c.before.before.before.before.before in c.magnitude-2.result ≡ den (q l)
unfolding fraction
den_is c =
    let l = c.before.before.before.before.before in
    let f : SFits w64 l.lowest-f.result.den = record { sfits = c.before.struct_told-2-1.given.1.0.1 } in
    (simp to_z-of_z at c.magnitude-2.ensures) ∙ ap (λ t. nat_abs t.den) (lowest-is l)

returns : tie.Need-returns-then-magnitude-ge-LIMIT
returns c = let p = q c.before.before.before in sym (answer_large p (num_large p (omega (arith, num_is c.before))))

returns-2 : tie.Need-returns-then-magnitude-ge-LIMIT-2
returns-2 c = let l = c.before.before.before.before.before.before in let p = q l in sym (answer_large p (den_large p (omega (arith, den_is c.before))))

returns-3 : tie.Need-returns
returns-3 c =
    let l = c.before.before.before.before.before.before in
    ap Some (lowest-is l)
    ∙ sym (answer-fits (q l) (small-fits (q l) (omega (arith, num_is c.before.before.before.before)) (omega (arith, den_is c.before))))

pub checked_spec : {M : Type 1} → statement M
checked_spec = tie.close (tie.spec (λ c κs. search rules) (λ c κs. search rules) returns (λ c κs. search rules) returns-2 returns-3)
