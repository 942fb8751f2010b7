-- A scale below 2^31 times a signed binomial, of the left side or, negated, of the right.
use borrow.Author.Rules.{rules}
use native.Mathlib.Omega.{arith}
use mathlib.Core.Path.{◌≡◌, sym, ap, ◌∙◌}
use Prim.Native.Nat.{ℕ, ◌-◌, ◌^◌, ◌<◌, ◌≤◌}
use native.Mathlib.Nat.{le_of_lt}
use lib.IntN.{ℤ, pos, neg_ℤ, nat_abs, ◌-ℤ◌, ◌*ℤ◌, +ℤ_idl}
use mir.Syntax.{w64}
use mir.Val.{SFits}
use Rattle.base_exact.proofs.Word.{to_z-of_z, sfits_abs, abs_mul_le, abs_sub}
use Rattle.build_scales.proofs.Sizes.{signed_binomial, signed-binomial_le}
use Rattle.build_conditions.proofs.Terms.{scale-left, scale-right}
use Rattle.build_conditions.proofs.entry.Statement.{statement}
use Rattle.build_conditions.proofs.entry.Tie as tie

term-abs : (z u : ℤ) (k t : ℕ) → nat_abs z < 2 ^ 31 → k ≤ 2 → u ≡ signed_binomial k t → nat_abs (z *ℤ u) ≤ 2 ^ 33
term-abs z u k t h l e = rw e (abs_mul_le z (signed_binomial k t) (2 ^ 31) 4 (le_of_lt h) (signed-binomial_le k t l))

module _ (c : tie.After-struct_told-1) where
  abbrev left : ℤ
  left = c.args.sides.left

  abbrev b : ℤ
  b = c.signed_binomial-b.result

  left-fits : SFits w64 left
  left-fits = sfits_abs (omega (arith, c.requires.left-small))

  b_fits : SFits w64 b
  b_fits = record { sfits = c.signed_binomial-b.type_inv }

  term_fits : SFits w64 (left *ℤ b)
  term_fits =
      let s = c in
      sfits_abs (omega (arith, term-abs left b s.args.k s.args.e s.requires.left-small s.requires.order c.signed_binomial-b.ensures))

returns : tie.Need-returns-then-e-k
returns c =
    let a = c.args in
    simp (to_z-of_z, left-fits c, b_fits c, term_fits c)
    (ap (λ (z : ℤ). a.sides.left *ℤ z) c.signed_binomial-b.ensures ∙ sym (scale-left a.sides.left a.sides.right a.k a.e (omega arith)))

module _ (c : tie.After-struct_told-2-1) where
  abbrev right : ℤ
  right = c.args.sides.right

  abbrev d : ℤ
  d = c.signed_binomial-c.result

  right-fits : SFits w64 right
  right-fits = sfits_abs (omega (arith, c.requires.right-small))

  d_fits : SFits w64 d
  d_fits = record { sfits = c.signed_binomial-c.type_inv }

  size : nat_abs (right *ℤ d) ≤ 2 ^ 33
  size =
      let s = c in
      term-abs right d s.args.k (s.args.e - s.args.k - 1) s.requires.right-small s.requires.order c.signed_binomial-c.ensures

  product-fits : SFits w64 (right *ℤ d)
  product-fits = sfits_abs (omega (arith, size))

  negated_fits : SFits w64 (pos 0 -ℤ right *ℤ d)
  negated_fits = sfits_abs (omega (arith, size, abs_sub (pos 0) (right *ℤ d)))

sub-result : tie.Need-overflow_sub-result
sub-result c =
    simp (to_z-of_z, right-fits c, d_fits c, product-fits c)
    (sfits_abs (omega (arith, size c, abs_sub (pos 0) (right c *ℤ d c), abs_sub (right c *ℤ d c) (pos 0))))

returns-2 : tie.Need-returns
returns-2 c =
    let a = c.args in
    simp (to_z-of_z, right-fits c, d_fits c, product-fits c, negated_fits c) (
    +ℤ_idl (neg_ℤ (right c *ℤ d c))
    ∙ ap (λ (z : ℤ). neg_ℤ (right c *ℤ z)) c.signed_binomial-c.ensures
    ∙ sym (scale-right a.sides.left a.sides.right a.k a.e (omega arith)))

pub entry_spec : {M : Type 1} → statement M
entry_spec =
    tie.close (tie.spec (λ c κs. search rules) (λ c. let f = left-fits c in let g = b_fits c in simp to_z-of_z (term_fits c)) returns
    (λ c. search rules) (λ c. search rules) (λ c κs. search rules)
    (λ c. let f = right-fits c in let g = d_fits c in simp to_z-of_z (product-fits c)) sub-result returns-2)
