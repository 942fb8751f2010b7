-- `curve_ordinates::limited` meets its contract. Assumes nothing.
use borrow.Author.Rules.{rules}
use native.Mathlib.Omega.{arith}
use mathlib.Core.Path.{sym, ◌∙◌}
use lib.IntN.{pos, ◌*ℤ◌}
use mir.Syntax.{w64}
use mir.Val.{SFits}
use Rattle.base_exact.proofs.Decide.{not-true, not-false}
use Rattle.base_exact.proofs.Word.{to_z-of_z, sfits_abs, abs_mul_le}
use Rattle.curve_ordinates.proofs.Bounds.{limits_unknown, limits-below, limits-above}
use Rattle.curve_ordinates.proofs.limited.Statement.{statement}
use Rattle.curve_ordinates.proofs.limited.Tie as tie

module _ (s : tie.Start) where
  least_fits : SFits w64 s.args.terms.least
  least_fits = sfits_abs (omega (arith, s.requires.least-small))

  greatest-fits : SFits w64 s.args.terms.greatest
  greatest-fits = sfits_abs (omega (arith, s.requires.greatest-small))

  low_fits : SFits w64 (pos 256 *ℤ s.args.terms.least)
  low_fits = sfits_abs (omega (arith, abs_mul_le (pos 256) s.args.terms.least 256 1000000 (omega arith) s.requires.least-small))

  high_fits : SFits w64 (pos 256 *ℤ s.args.terms.greatest)
  high_fits = sfits_abs (omega (arith, abs_mul_le (pos 256) s.args.terms.greatest 256 1000000 (omega arith) s.requires.greatest-small))

sum_fits : (c : tie.After-struct_told-1) → SFits w64 c.before.args.terms.sum
sum_fits c = record { sfits = c.struct_told-1.given.1.0.1 }

returns : tie.Need-returns-then-not-terms
returns c =
    let f = sum_fits c.before.before in
    let t = c.before.before.before.args.terms in
    simp to_z-of_z (sym (limits_unknown t.some t.sum t.least t.greatest (not-true _ c.if-not-terms.true)))

mul_low : tie.Need-overflow_mul-low
mul_low c = let s = c.before.before.before.before.before in let f = least_fits s in simp to_z-of_z (low_fits s)

mul-high : tie.Need-overflow_mul-high
mul-high c = let s = c.before.before.before.before.before.before.before in let f = greatest-fits s in simp to_z-of_z (high_fits s)

returns-2 : tie.Need-returns-then-sum-low
returns-2 c =
    let d = c.before.before.before.before.before.before in let k = d.before in
    let s = k.before.before in
    let e = sum_fits k.before in
    let f = least_fits s in
    let g = greatest-fits s in
    let h = low_fits s in
    let l = high_fits s in
    let r : SFits w64 c.at_most.result = record { sfits = c.at_most.type_inv } in
    let t = s.args.terms in
    let some = not-false _ d.if-not-terms.false in
    let below = limits-below t.some t.sum t.least t.greatest some (simp to_z-of_z at c.before.if-sum-low.true) in
    simp to_z-of_z ((simp to_z-of_z at c.at_most.ensures) ∙ sym below)

returns-3 : tie.Need-returns
returns-3 c =
    let d = c.before.before.before.before.before.before in let k = d.before in
    let s = k.before.before in
    let e = sum_fits k.before in
    let f = least_fits s in
    let g = greatest-fits s in
    let h = low_fits s in
    let l = high_fits s in
    let r : SFits w64 c.at_most-2.result = record { sfits = c.at_most-2.type_inv } in
    let t = s.args.terms in
    let some = not-false _ d.if-not-terms.false in
    let above = limits-above t.some t.sum t.least t.greatest some (simp to_z-of_z at c.before.if-sum-low.false) in
    simp to_z-of_z ((simp to_z-of_z at c.at_most-2.ensures) ∙ sym above)

pub limited_spec : {M : Type 1} → statement M
limited_spec = tie.close (tie.spec returns mul_low mul-high (λ c κs. search rules) returns-2 (λ c κs. search rules) returns-3)
