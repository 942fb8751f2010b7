-- What an answer says of the fraction that was counted: for `checked`, which picks it, and for callers, who match on it.
use mathlib.Core.Path.{◌≡◌, refl, sym, ap, ◌∙◌}
use mathlib.Core.Bool.{true, false}
use Rattle.base_exact.specs.Rational.{ℚ}
use Rattle.base_exact.proofs.Decide.{clash}
use Rattle.base_fraction.specs.Size.{fits, Counting, counted, too_large, count}
use Rattle.base_fraction.specs.Machine.{fraction, value, answer, FractionFits}
use Rattle.base_fraction.specs.declared.Fraction.{Fraction}
use Rattle.std.specs.Prelude.{Option, Some, None, Result, Err}
use Rattle.std.specs.Option.{ok_or}
use Rattle.base_fraction.proofs.Value.{ratio_is, den_positive, value-fraction}
use Rattle.base_fraction.proofs.Size.{fits_num, fits-den, is_fits, count_fits, count_large, counted_is, too_large_is}

-- ---- sizes

pub fits-sized : (q : ℚ) → fits q ≡ true → FractionFits (fraction q)
unfolding fraction
fits-sized q e = record { num_small = fits_num q e; den_pos = den_positive q; den-small = fits-den q e }

pub sized-fits : {f : Fraction} → FractionFits f → fits (value f) ≡ true
unfolding value
sized-fits {f} s = is_fits (ratio_is f.num f.den s.den_pos) s.num_small s.den-small

-- ---- answers

pub answer-fits : (q : ℚ) → fits q ≡ true → answer (count q) ≡ Some (fraction q)
unfolding answer
answer-fits q e = rw (count_fits q e)

pub answer_large : (q : ℚ) → fits q ≡ false → answer (count q) ≡ None
unfolding answer
answer_large q e = rw (count_large q e)

-- `Some f`: the fraction is counted, and f stands for it in lowest terms
pub fits-answer : (x : Counting ℚ) (f : Fraction) → answer x ≡ Some f → (x ≡ counted (value f)) × (f ≡ fraction (value f))
unfolding answer
fits-answer (counted q) f e =
    let w : fraction q ≡ f = cc in
    let v : q ≡ value f = sym (value-fraction q) ∙ ap value w in
    (ap counted v, sym w ∙ ap fraction v)
fits-answer too_large f e = clash cc

-- `None`: it is not
pub large_answer : (x : Counting ℚ) → answer x ≡ None → x ≡ too_large
unfolding answer
large_answer (counted q) e = clash cc
large_answer too_large e = refl

-- ---- one counted fraction

-- what `Some f` says of the fraction q that was counted
pub record Kept (q : ℚ) (f : Fraction) : Type 0 where
  pub value_is : value f ≡ q
  pub fraction_is : f ≡ fraction q
  pub small : fits q ≡ true
  pub fitted : FractionFits f

pub kept : (q : ℚ) (f : Fraction) → answer (count q) ≡ Some f → Kept q f
kept q f e =
    let a = fits-answer (count q) f e in
    let k = counted_is q (value f) a.0 in
    let w : f ≡ fraction q = a.1 ∙ ap fraction k.0 in
    record { value_is = k.0; fraction_is = w; small = k.1; fitted = rw w (fits-sized q k.1) }

pub not_kept : (q : ℚ) → answer (count q) ≡ None → fits q ≡ false
not_kept q e = too_large_is q (large_answer (count q) e)

-- ---- a refusal in its place: what `ok_or` makes of None
pub reason_is : {A E : Type 0} {x e : E} {o : Option A} → Err x ≡ ok_or o e → o ≡ None → x ≡ e
reason_is {A} {E} {x} {e} p h = let z : ◌≡◌ {A = Result A E} (Err x) (Err e) = p ∙ ap (λ o. ok_or o e) h in cc
