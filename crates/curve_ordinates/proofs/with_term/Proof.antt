-- `curve_ordinates::with_term` meets its contract: a weight of at most one leaves a term within 256 times the coefficient's
-- limit. Assumes nothing.
use borrow.Author.Rules.{rules}
use native.Mathlib.Omega.{arith}
use mathlib.Core.Path.{◌≡◌, refl, ap, ap₂, ◌∙◌}
use Prim.Native.Nat.{◌*◌, ◌≤◌}
use lib.IntN.{ℤ, pos, nat_abs, ◌+ℤ◌, ◌*ℤ◌}
use lib.Signed.{le_z}
use mir.Syntax.{w64}
use mir.Val.{SFits, of_z, to_z}
use Rattle.base_exact.specs.Floor.{nearest}
use Rattle.base_exact.proofs.Word.{to_z-of_z, sfits_abs, abs-add, abs_mul_le, pos_of}
use Rattle.spec_spline.specs.Reading.{fine, rounded, preferred}
use Rattle.curve_ordinates.specs.Ordinates.{given, ordinate_limit}
use Rattle.curve_ordinates.proofs.Bounds.{term-abs}
use Rattle.curve_ordinates.proofs.with_term.Statement.{statement}
use Rattle.curve_ordinates.proofs.with_term.Tie as tie

-- a number read back from its word
abbrev word : ℤ → ℤ
word z = to_z w64 (of_z w64 z)

module _ (s : tie.Start) where
  abbrev term : ℤ
  term = rounded (fine s.args.a *ℤ s.args.num) (nat_abs s.args.den)

  scaled-abs : nat_abs (pos 256 *ℤ s.args.a) ≤ 256000000
  scaled-abs = abs_mul_le (pos 256) s.args.a 256 1000000 (omega arith) s.requires.coefficient-small

  scaled_fits : SFits w64 (pos 256 *ℤ s.args.a)
  scaled_fits = sfits_abs (omega (arith, scaled-abs))

  product-abs : nat_abs (pos 256 *ℤ s.args.a *ℤ s.args.num) ≤ 256000000 * 2147483647
  product-abs =
      abs_mul_le (pos 256 *ℤ s.args.a) s.args.num 256000000 2147483647 scaled-abs (omega (arith, s.requires.den-short, s.requires.unit))

  product-fits : SFits w64 (pos 256 *ℤ s.args.a *ℤ s.args.num)
  product-fits = sfits_abs (omega (arith, product-abs))

  term-small : nat_abs term ≤ ordinate_limit
  term-small =
      term-abs s.args.a s.args.num (nat_abs s.args.den) (pos_of s.args.den s.requires.den_positive).1
      s.requires.coefficient-small s.requires.unit

round-div-requires : tie.Need-round_div-term-requires
round-div-requires c κs =
    simp (to_z-of_z, c.ranges.a, c.ranges.num, c.ranges.den, scaled_fits c, product-fits c)
    (omega (arith, product-abs c), (c.requires.den_positive, omega (arith, c.requires.den-short)))

module _ (c : tie.After-round_div-term) where
  -- the nearest number is the rounded term
  divided : c.round_div-term.result ≡ term c.before
  unfolding rounded
  divided =
      let s = c.before in
      let e : word (word (pos 256 *ℤ word s.args.a) *ℤ word s.args.num) ≡ pos 256 *ℤ s.args.a *ℤ s.args.num =
      simp (to_z-of_z, s.ranges.a, s.ranges.num, scaled_fits s, product-fits s) in
      c.round_div-term.ensures ∙ ap₂ (λ (a b : ℤ). nearest a (nat_abs b)) e (to_z-of_z w64 s.args.den s.ranges.den)

  summed : c.before.args.before.sum +ℤ c.round_div-term.result ≡ c.before.args.before.sum +ℤ term c.before
  summed = ap (λ (z : ℤ). c.before.args.before.sum +ℤ z) divided

  sum_fits : SFits w64 (c.before.args.before.sum +ℤ c.round_div-term.result)
  sum_fits =
      let s = c.before in
      rw summed (sfits_abs (omega (arith, abs-add s.args.before.sum (term s), term-small s, s.requires.sum-short)))

  before-fits : SFits w64 c.before.args.before.sum
  before-fits = sfits_abs (omega (arith, c.before.requires.sum-short))

  result_fits : SFits w64 c.round_div-term.result
  result_fits = record { sfits = c.round_div-term.type_inv }

add-t8 : tie.Need-overflow_add-result
add-t8 c = let d = c.before.before.before.before.before.before in simp (to_z-of_z, before-fits d, result_fits d) (sum_fits d)

-- the least and the greatest before, as they were passed on
least_fits : (c : tie.After-struct_told-1) → SFits w64 c.before.before.args.before.least
least_fits c = record { sfits = c.struct_told-1.given.1.1.0.1 }

greatest-fits : (c : tie.After-struct_told-2-1) → SFits w64 c.before.before.before.before.args.before.greatest
greatest-fits c = record { sfits = c.struct_told-2-1.given.1.1.1.0.1 }

returns : tie.Need-returns
returns c =
    let b = c.before.before.before.before.before in let d = b.before in
    let s = d.before in
    let l = c.before.before.before.before.lesser-least in
    let g = c.before.before.greater-greatest in
    let known = s.args.before.some in
    let least = least_fits b in
    let greatest = greatest-fits c.before.before.before in
    record {
      is_some = refl;
      is_sum = simp (to_z-of_z, before-fits d, result_fits d, sum_fits d) (summed d);
      is_least = to_z-of_z w64 l.result (record { sfits = l.type_inv }) ∙ l.ensures
          ∙ ap₂ (λ (y z : ℤ). preferred le_z (given known y) z) (to_z-of_z w64 _ least) (to_z-of_z w64 _ s.ranges.a);
      is_greatest = to_z-of_z w64 g.result (record { sfits = g.type_inv }) ∙ g.ensures
          ∙ ap₂ (λ (y z : ℤ). preferred (λ p q. le_z q p) (given known y) z) (to_z-of_z w64 _ greatest) (to_z-of_z w64 _ s.ranges.a);
      small = term-small s;
    }

pub with_term_spec : {M : Type 1} → statement M
with_term_spec =
    tie.close (tie.spec (λ c. let f = c.ranges.a in simp to_z-of_z (scaled_fits c))
    (λ c. let f = c.ranges.a in let g = c.ranges.num in let h = scaled_fits c in simp to_z-of_z (product-fits c)) round-div-requires
    (λ c κs. search rules) (λ c κs. search rules) add-t8 returns)
