-- The fractions of a step that is undone, under the size limit: what the machine's operations answer, and what fits.
use mathlib.Core.Path.{◌≡◌, refl, sym, ◌∙◌, ap}
use mathlib.Core.Bool.{Bool, true, false, cond}
use mathlib.Core.List.{List}
use Prim.Native.Nat.{ℕ, zero, suc, ◌+◌}
use native.Mathlib.Omega.{arith}
use lib.IntN.{pos, nat_abs, ◌-ℤ◌}
use lib.Signed.{◌<ℤ◌}
use Rattle.base_exact.specs.Rational.{ℚ, int, -ᵠ◌, ◌-ᵠ◌, ◌*ᵠ◌, ◌/ᵠ◌}
use Rattle.base_exact.proofs.Word.{zero_sub, abs_neg}
use Rattle.base_fraction.specs.Size as size
use Rattle.base_fraction.specs.Size.{fits}
use Rattle.base_fraction.specs.Machine as machine
use Rattle.base_fraction.specs.Machine.{value, FractionFits}
use Rattle.base_fraction.specs.declared.Fraction.{Fraction}
use Rattle.std.specs.Prelude.{Some}
use Rattle.base_fraction.proofs.Value.{ratio_neg}
use Rattle.base_outcome.specs.Outcome.{answer, refuse, ◌then◌}
use Rattle.spec_spline.specs.Step.{count}
use Rattle.spec_spline.specs.Table.{entry}
use Rattle.base_outcome.proofs.Outcome.{answer_unique, answer_not_refusal, then_inverts}
use Rattle.build_counted.specs.Machine.{counted}
use Rattle.build_counted.proofs.Counted.{machine_counted, count-sized}
use Rattle.spec_calls.specs.Recovery.{fitted, undone_coefficient, undone_row}

-- which refusal it is does not show in the machine's answer
count_same : (j : ℕ) (q : ℚ) → counted (count j q) ≡ counted (fitted j q)
unfolding count fitted counted
count_same j q = go (fits q)
  where
    go : (b : Bool) → counted (cond b (answer q) (refuse 8 j)) ≡ counted (cond b (answer q) (refuse 20 j))
    go true = refl
    go false = refl

pub machine_sized : (j : ℕ) (q : ℚ) → machine.answer (size.count q) ≡ counted (fitted j q)
machine_sized j q = machine_counted j q ∙ count_same j q

-- a fraction that is answered
pub sized-sized : (j : ℕ) (q : ℚ) (f : Fraction) → counted (fitted j q) ≡ Some f → (value f ≡ q) × FractionFits f
sized-sized j q f e = count-sized j q f (count_same j q ∙ e)

pub sized-fits : (j : ℕ) (q : ℚ) {p : ℚ} → fitted j q ≡ answer p → fits p ≡ true
unfolding fitted
sized-fits j q {p} e = go (fits q) refl e
  where
    go : (b : Bool) → fits q ≡ b → cond b (answer q) (refuse 20 j) ≡ answer p → fits p ≡ true
    go true h e = ap fits (sym (answer_unique {a = q} refl e)) ∙ h
    go false h e = absurd (answer_not_refusal e refl)

-- a new coefficient fits
coefficient-fits : (j : ℕ) (w c b : ℚ) {d : ℚ} → undone_coefficient j w c b ≡ answer d → fits d ≡ true
unfolding undone_coefficient
coefficient-fits j w c b e =
    let x = then_inverts (fitted j ((int (pos 1) -ᵠ w) *ᵠ b)) (λ share. fitted j (c -ᵠ share) then λ d. fitted j (d /ᵠ w)) e in
    let y = then_inverts (fitted j (c -ᵠ x.middle)) (λ d. fitted j (d /ᵠ w)) x.after in
    sized-fits j (y.middle /ᵠ w) y.after

pub undone-fits : (j : ℕ) (us cs : List ℚ) (f n : ℕ) (ds : List ℚ) {d : ℚ} → fits (entry cs f) ≡ true → undone_row j us cs f n ds ≡ answer d → fits d ≡ true
undone-fits j us cs f zero ds h e = ap fits (sym (answer_unique {a = entry cs f} refl e)) ∙ h
undone-fits j us cs f (suc n) ds h e = coefficient-fits j (entry us (suc n)) (entry cs (f + suc n)) (entry ds n) e

-- ---- the difference as a sum with the negated share

pub neg_value : (f : Fraction) → pos 0 <ℤ f.den → value (record { num = pos 0 -ℤ f.num; den = f.den }) ≡ -ᵠ value f
unfolding value
neg_value f h = ratio_neg f.num f.den h

pub neg_sized : (f : Fraction) → FractionFits f → FractionFits (record { num = pos 0 -ℤ f.num; den = f.den })
neg_sized f z = record { num_small = omega (arith, z.num_small, ap nat_abs (zero_sub f.num) ∙ abs_neg f.num); den_pos = z.den_pos; den-small = z.den-small }
