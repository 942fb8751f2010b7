-- The row that is read is the one that comes at this index.
use Rattle.std.proofs.Common.{◌≡◌, ℕ, suc, ◌<◌, ◌≤◌, List, [], length, get_or, refl, sym, ap, ◌∙◌, rules, arith, pos, w64, FitsSigned}
use native.Mathlib.Decide.{dec_lt}
use native.Mathlib.Numerals.{add-one}
use mir.ValLaws.{to_z-of_z}
use Rattle.base_exact.specs.Rational.{ℚ, int}
use Rattle.base_exact.specs.Tabulate.{tab}
use Rattle.base_exact.proofs.Tabulate.{tab_snoc, tab_length, tab_self}
use Rattle.base_fraction.specs.Machine.{fraction}
use Rattle.spec_spline.specs.Table.{entry}
use Rattle.base_fraction.specs.Fractions.{fractions}
use Rattle.base_fraction.proofs.Fractions.{fraction-at, fractions_more}
use Rattle.recover_arrays.proofs.Without.{without, without_length, without-before, without_from}
use Rattle.recover_arrays.proofs.drop_coefficient.Goals as goal

none : (f : ℕ → ℚ) → tab 0 f ≡ []
unfolding tab
none f = refl

module _ (i l from : ℕ) (is : (i < l → from ≡ i) × (l ≤ i → from ≡ suc i)) where
  row_is : (ps : List ℚ) (long : l < length ps) → entry ps from ≡ entry (without ps l long) i
  row_is ps long = go (dec_lt i l)
    where
      go : Dec (i < l) → entry ps from ≡ entry (without ps l long) i
      go (yes h) = ap (entry ps) (is.0 h) ∙ sym (without-before ps l long i h)
      go (no h) = ap (entry ps) (is.1 (omega arith)) ∙ sym (without_from ps l long i (omega arith))

  row_low : i < 71 → from < 72
  row_low low = go (dec_lt i l)
    where
      go : Dec (i < l) → from < 72
      go (yes h) = omega (arith, is.0 h)
      go (no h) = let e = is.1 (omega arith) in omega (arith, e)

pub loop-i-init : goal.loop-i-init
loop-i-init c = λ ps e long. c.no_fractions-left.ensures ∙ ap fractions (sym (none _))

pub loop-i-preserved : goal.loop-i-preserved
loop-i-preserved c =
    let l = c.loop-i in
    let r = c.kept_row-from.result in
    let cs = c.args.cs in
    let is = c.kept_row-from.ensures in
    let n : FitsSigned w64 (get_or cs.num r (pos 0)) = search rules in
    let d : FitsSigned w64 (get_or cs.den r (pos 0)) = search rules in
    λ ps e long.
    let w = entry (without ps c.args.l long) in
    (simp to_z-of_z (fractions_more (tab l.i w) (w l.i) l.i l.left (record { num = get_or cs.num r (pos 0); den = get_or cs.den r (pos 0) })
    (tab_length l.i w) (omega arith) (l.invariant ps e long)
    (fraction-at ps cs e r (row_low l.i c.args.l r is (omega arith)) ∙ ap fraction (row_is l.i c.args.l r is ps long))))
    ∙ ap fractions (sym (tab_snoc l.i w) ∙ ap (λ m. tab m w) (sym (add-one l.i)))

pub returns : goal.returns
returns c = λ ps e size.
    let l = c.loop-i in
    let long : c.args.l < length ps = omega arith in
    let w = without ps c.args.l long in
    let all : l.i ≡ length w = omega (arith, without_length ps c.args.l long) in
    l.invariant ps e long ∙ ap fractions (ap (λ m. tab m (entry w)) all ∙ tab_self w (int (pos 0)))
