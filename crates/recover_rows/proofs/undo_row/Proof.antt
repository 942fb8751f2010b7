-- Row f keeps its coefficient; the others take the share of the row before. Assumes nothing.
use borrow.Author.Rules.{rules}
use mathlib.Core.Path.{◌≡◌, sym, ◌∙◌, ap, ap₂}
use mathlib.Core.List.{List}
use Prim.Native.Nat.{ℕ, suc, ◌+◌, ◌-◌, ◌<◌}
use native.Mathlib.Omega.{arith}
use lib.IntN.{pos}
use lib.ListN.{drop}
use lib.Seq.{get_or-drop}
use Rattle.base_exact.specs.Rational.{ℚ, int}
use Rattle.base_exact.proofs.Rational.{zero_is}
use Rattle.base_fraction.specs.Machine.{fraction}
use Rattle.base_fraction.specs.declared.Fraction.{Fraction}
use Rattle.std.specs.Prelude.{Some}
use Rattle.base_fraction.proofs.Answer.{fits-sized}
use Rattle.base_outcome.specs.Outcome.{answer}
use Rattle.spec_spline.specs.Table.{entry}
use Rattle.base_fraction.specs.Fractions.{fractions}
use Rattle.build_counted.specs.Machine.{counted}
use Rattle.spec_calls.specs.Recovery.{undone_coefficient, undone_row}
use Rattle.recover_rows.proofs.undo_row.Statement.{statement}
use Rattle.recover_rows.proofs.undo_row.Tie as tie

module _ (j : ℕ) (us ps : List ℚ) (f i : ℕ) where
  first-row : i ≡ f → undone_row j us ps f (i - f) (drop f ps) ≡ answer (entry ps i)
  first-row e = ap (λ n. undone_row j us ps f n (drop f ps)) (let z : i - f ≡ 0 = omega (arith, e) in z) ∙ ap (λ k. answer (entry ps k)) (sym e)

  later-row : f < i → undone_row j us ps f (i - f) (drop f ps) ≡ undone_coefficient j (entry us (i - f)) (entry ps i) (entry ps (i - 1))
  later-row h =
      ap (λ n. undone_row j us ps f n (drop f ps)) next
      ∙ ap₂ (undone_coefficient j (entry us (suc (i - f - 1)))) (ap (entry ps) (let z : f + suc (i - f - 1) ≡ i = omega (arith, h) in z))
      (get_or-drop f ps (i - f - 1) (int (pos 0)) ∙ ap (entry ps) (let z : f + (i - f - 1) ≡ i - 1 = omega (arith, h) in z))
      ∙ ap (λ n. undone_coefficient j (entry us n) (entry ps i) (entry ps (i - 1))) (sym next)
    where
      next : i - f ≡ suc (i - f - 1)
      next = omega (arith, h)

-- where the function begins, before the row's own coefficient is read
abbrev begun : tie.After-fraction_at-coefficient → tie.Start
begun a = a.before.before.before

returns : tie.Need-returns-then-i-f
unfolding counted
returns c j us ps e h =
    let a = c in
    let s = (begun a.before).args in
    ap Some (a.fraction_at-coefficient.ensures ps h) ∙ sym (ap counted (first-row j us ps s.f s.i c.if-i-f.true))

-- the row's coefficient, its factor and the coefficient of the row before are read
module _ (c : tie.After-fraction_at-before) where
  abbrev factor-read : tie.After-fraction_at-factor
  factor-read = c.before.before.before

  abbrev own : tie.After-fraction_at-coefficient
  own = factor-read.before.before.before.before

  abbrev start : tie.Start
  start = begun own

  abbrev f : ℕ
  f = start.args.f

  abbrev i : ℕ
  i = start.args.i

  later : f < i
  later = omega (arith, start.requires.order, factor-read.if-i-f.false)

  coefficient_is : (ps : List ℚ) → start.args.cs ≡ fractions ps → own.fraction_at-coefficient.result ≡ fraction (entry ps i)
  coefficient_is ps h = own.fraction_at-coefficient.ensures ps h

  factor_is : (us : List ℚ) → start.args.ws ≡ fractions us → factor-read.fraction_at-factor.result ≡ fraction (entry us (i - f))
  factor_is us e = factor-read.fraction_at-factor.ensures us e

  before_is : (ps : List ℚ) → start.args.cs ≡ fractions ps → c.fraction_at-before.result ≡ fraction (entry ps (i - 1))
  before_is ps h = c.fraction_at-before.ensures ps h

undo-coefficient-requires : tie.Need-undo_coefficient-requires
unfolding fraction
undo-coefficient-requires c κs =
    let p = (start c).requires in
    let n = p.coefficients in
    let u = p.factors in
    let d = i c - f c in
    let e = factor_is c u.of u.is in
    record {
      factor = record { of = entry u.of d; is = e; fit = u.fit d; low = u.low d; high = u.high d };
      factor_nonzero = λ z. p.nonzero u.of u.is d (omega arith) (zero_is (entry u.of d) (sym (ap (λ (x : Fraction). x.num) e) ∙ z));
      coefficient-fits = rw (coefficient_is c n.of n.is) (fits-sized _ (n.fit (i c)));
      before-fits = rw (before_is c n.of n.is) (fits-sized _ (n.fit (i c - 1)));
    }

returns-2 : tie.Need-returns
returns-2 c j us ps e h =
    let b = c in
    c.undo_coefficient.ensures j (entry us (i b.before - f b.before)) (entry ps (i b.before)) (entry ps (i b.before - 1))
    (factor_is b.before us e) (coefficient_is b.before ps h) (before_is b.before ps h)
    ∙ sym (ap counted (later-row j us ps (f b.before) (i b.before) (later b.before)))

pub undo_row_spec : {M : Type 1} → statement M
undo_row_spec =
    tie.close (tie.spec (λ c κs. search rules) returns (λ c. search rules) (λ c κs. search rules) (λ c. search rules)
    (λ c κs. search rules) undo-coefficient-requires returns-2)
