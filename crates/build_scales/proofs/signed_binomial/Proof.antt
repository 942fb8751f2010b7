-- (-1)^n is 1 for an even n, and -1 for an odd one.
use borrow.Author.Rules.{rules}
use native.Mathlib.Omega.{arith}
use mathlib.Core.Path.{◌≡◌, sym, ap, ◌∙◌}
use Prim.Native.Nat.{◌-◌}
use lib.IntN.{ℤ, pos, negsuc, neg_ℤ, ◌-ℤ◌, ◌*ℤ◌, +ℤ_idl}
use mir.Syntax.{w64}
use mir.Val.{SFits}
use Rattle.base_exact.proofs.Integer.{*_one, *-comm, neg_is}
use Rattle.base_exact.proofs.Word.{to_z-of_z, sfits_abs}
use Rattle.spec_spline.specs.Conditions.{binomial}
use Rattle.build_scales.proofs.Sizes.{alternating_even, alternating_odd, signed_binomial, signed-binomial_le}
use Rattle.build_scales.proofs.signed_binomial.Statement.{statement}
use Rattle.build_scales.proofs.signed_binomial.Tie as tie

returns : tie.Need-returns-then-k-t-eq0
returns c =
    let b = c.before.before.args in
    to_z-of_z w64 _ (record { sfits = c.before.binomial-b.type_inv })
    ∙ c.before.binomial-b.ensures
    ∙ sym (ap (λ z. pos (binomial b.k b.t) *ℤ z) (alternating_even (b.k - b.t) (omega arith)) ∙ *_one (pos (binomial b.k b.t)))

module _ (c : tie.Else-k-t-eq0) where
  result_fits : SFits w64 c.before.binomial-b.result
  result_fits = record { sfits = c.before.binomial-b.type_inv }

  negated : pos 0 -ℤ c.before.binomial-b.result ≡ signed_binomial c.before.before.args.k c.before.before.args.t
  negated =
      let b = c.before.before.args in
      ap (λ (z : ℤ). pos 0 -ℤ z) c.before.binomial-b.ensures
      ∙ +ℤ_idl (neg_ℤ (pos (binomial b.k b.t)))
      ∙ neg_is (pos (binomial b.k b.t))
      ∙ *-comm (negsuc 0) (pos (binomial b.k b.t))
      ∙ ap (λ z. pos (binomial b.k b.t) *ℤ z) (sym (alternating_odd (b.k - b.t) (omega arith)))

  negated_fits : SFits w64 (pos 0 -ℤ c.before.binomial-b.result)
  negated_fits = let b = c.before.before in rw negated (sfits_abs (omega (arith, signed-binomial_le b.args.k b.args.t b.requires.1)))

pub signed_binomial_spec : {M : Type 1} → statement M
signed_binomial_spec =
    tie.close (tie.spec (λ c κs. search rules) (λ c. search rules) (λ c. let f = result_fits c in simp to_z-of_z (negated_fits c)) returns
    (λ c. let f = result_fits c in let g = negated_fits c in simp to_z-of_z (negated c)))
