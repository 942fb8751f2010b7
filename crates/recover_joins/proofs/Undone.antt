-- The coefficients after a step, as the machine holds them: the new ones without row l, and factors that divide.
use mathlib.Core.Path.{◌≡◌, refl, sym, ◌∙◌, ap}
use mathlib.Core.Logic.{◌≢◌}
use mathlib.Core.List.{List, ◌++◌}
use Prim.Native.Nat.{ℕ, zero, suc, ◌+◌, ◌-◌, ◌<◌, ◌≤◌}
use native.Mathlib.Omega.{arith}
use native.Mathlib.Decide.{dec_lt}
use lib.IntN.{pos, nat_abs}
use lib.ListN.{length, take, drop}
use Rattle.base_exact.specs.Rational.{ℚ, int}
use Rattle.base_exact.proofs.Rational.{int_num}
use Rattle.base_exact.proofs.Order.{pos_nonzero, ltᵠ_true}
use Rattle.base_outcome.specs.Outcome.{Outcome, answer, refusal}
use Rattle.spec_spline.specs.Table.{entry}
use Rattle.spec_spline.specs.Step.{Span, factors}
use Rattle.spec_spline.proofs.Answers.{factors_inverts}
use Rattle.spec_spline.proofs.Splice.{spliced-before, spliced-inside, spliced-after}
use Rattle.base_fraction.specs.Fractions.{fractions}
use Rattle.build_counted.proofs.Counted.{Refused}
use Rattle.build_jumps.proofs.Answers.{InArrays}
use Rattle.recover_rows.specs.Machine.{undone_of, NonZero}
use Rattle.std.specs.Prelude.{Some, None}
use Rattle.base_fraction.specs.declared.arrays.Fractions.{Fractions}
use Rattle.base_fraction.proofs.Fractions.{entries-same, fractions_ext}
use Rattle.recover_rows.proofs.Rows.{renewed, renewed_length, renewed_old}
use Rattle.recover_arrays.proofs.Without.{without, without-before, without_from}

-- ---- what is told

pub undone_in_arrays : (o : Outcome (List ℚ)) (cs : Fractions) → undone_of o ≡ Some cs → InArrays o cs
unfolding undone_of
undone_in_arrays (answer qs) cs e = record { of = qs; answers = refl; is = cc }
undone_in_arrays (refusal code place) cs e = absurd (let z : ◌≡◌ {A = ℕ} 0 1 = cc in omega arith)

pub undone_refused : (o : Outcome (List ℚ)) → undone_of o ≡ None → Refused o
unfolding undone_of
undone_refused (answer qs) e = absurd (let z : ◌≡◌ {A = ℕ} 0 1 = cc in omega arith)
undone_refused (refusal code place) e = record { code = code; place = place; refuses = refl }

-- ---- the factors of a step, but for the last, are not zero

pub factors_nonzero : (j : ℕ) (qs : List ℚ) (g : Span) (ws : List ℚ) → factors j qs g ≡ answer ws → g.l - g.f ≤ 72 → NonZero (fractions ws) (g.l - g.f)
factors_nonzero j qs g ws e few us h d below z = some d below (entries-same ws us h d (omega (arith, below, few)) ∙ z)
  where
    some : (d : ℕ) → d < g.l - g.f → entry ws d ≢ int (pos 0)
    some zero l k = let z : pos 1 ≡ pos 0 = sym (int_num (pos 1)) ∙ ap (λ (q : ℚ). q.num) (sym (factors_inverts j qs g e).at_first ∙ k) ∙ int_num (pos 0) in
        let q : ◌≡◌ {A = ℕ} 1 0 = ap nat_abs z in omega arith
    some (suc d) l k = pos_nonzero (ltᵠ_true _ _ ((factors_inverts j qs g e).inside (g.f + suc d) (omega arith) (omega arith)).above_zero)
        (ap (entry ws) (let q : g.f + suc d - g.f ≡ suc d = omega arith in q) ∙ k)

-- ---- the new coefficients without that of row l

module _ (f l : ℕ) (ps ds : List ℚ) (order : f ≤ l) (inside : l < length ps) (size : length ds ≡ l - f) where
  long : l < length (renewed f ps ds l)
  long = omega (arith, inside, renewed_length f l ps ds order (omega arith) size)

  pub renewed_without : fractions (take l (renewed f ps ds l) ++ drop (suc l) (renewed f ps ds l)) ≡ fractions (take f ps ++ (ds ++ drop (suc l) ps))
  renewed_without = fractions_ext _ _ (λ k h. go k (dec_lt k f) (dec_lt k l))
    where
      go : (k : ℕ) → Dec (k < f) → Dec (k < l) → entry (without (renewed f ps ds l) l long) k ≡ entry (renewed f ps ds (suc l)) k
      go k (yes a) b =
          without-before (renewed f ps ds l) l long k (omega arith)
          ∙ spliced-before ps ds f l (omega arith) k (int (pos 0)) a
          ∙ sym (spliced-before ps ds f (suc l) (omega arith) k (int (pos 0)) a)
      go k (no a) (yes b) =
          without-before (renewed f ps ds l) l long k b
          ∙ spliced-inside ps ds f l (omega arith) k (int (pos 0)) (omega arith) (omega (arith, size))
          ∙ sym (spliced-inside ps ds f (suc l) (omega arith) k (int (pos 0)) (omega arith) (omega (arith, size)))
      go k (no a) (no b) =
          without_from (renewed f ps ds l) l long k (omega arith)
          ∙ renewed_old f l ps ds order (omega arith) size (suc k) (omega arith)
          ∙ sym (spliced-after ps ds f (suc l) (omega arith) k (suc k) (int (pos 0)) (omega (arith, size)) (omega (arith, size)))
