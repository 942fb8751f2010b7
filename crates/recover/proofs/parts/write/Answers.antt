-- A turn writes the parts of one coefficient more.
use Rattle.std.proofs.Common.{◌≡◌, ℕ, ◌+◌, ◌<◌, List, ◌++◌, length, drop, refl, sym, ap, ap₂, ◌∙◌, rules, arith}
use Rattle.std.proofs.Common.{ℤ, pos, w64, FitsSigned}
use lib.ListN.{set, get_or-append}
use lib.Seq.{get_or-append-add}
use mir.ValLaws.{to_z-of_z}
use Rattle.base_exact.specs.Rational.{ℚ, int}
use Rattle.base_exact.proofs.Tabulate.{tab_ext, tab_more}
use Rattle.base_fraction.specs.Machine.{fraction}
use Rattle.base_fraction.specs.declared.Fraction.{Fraction}
use Rattle.spec_spline.specs.Table.{entry}
use Rattle.spec_calls.specs.RecoveryCall.{listed, numerator_of, denominator_of}
use Rattle.recover.proofs.parts.write.Goals as goal

-- the coefficients before are those of the longer list
first_is : (part : ℚ → ℤ) (from : ℕ) (done ps : List ℚ) (before : List ℤ) → length done ≡ from
    → listed part from done before ≡ listed part (from + 0) (done ++ ps) before
first_is part from done ps before e =
    ap (λ t. t ++ drop from before) (tab_ext from (λ k h. ap part (sym (get_or-append done ps (int (pos 0)) k (omega (arith, h, e))))))
    ∙ ap (λ m. listed part m (done ++ ps) before) (let z : from ≡ from + 0 = omega arith in z)

-- the coefficient of row i of these
here-is : (from i : ℕ) (done ps : List ℚ) → length done ≡ from → entry (done ++ ps) (from + i) ≡ entry ps i
here-is from i done ps e = ap (λ m. entry (done ++ ps) (m + i)) (sym e) ∙ get_or-append-add done ps i (int (pos 0))

-- one cell more
more : (part : ℚ → ℤ) (from i : ℕ) (all : List ℚ) (now before : List ℤ) (z : ℤ) → now ≡ listed part (from + i) all before
    → z ≡ part (entry all (from + i)) → from + i < length before → set now (from + i) z ≡ listed part (from + (i + 1)) all before
more part from i all now before z e h l =
    ap₂ (λ (xs : List ℤ) (v : ℤ). set xs (from + i) v) e h
    ∙ tab_more (λ k. part (entry all k)) (from + i) before l
    ∙ ap (λ m. listed part m all before) (let q : from + i + 1 ≡ from + (i + 1) = omega arith in q)

num-part : (q : ℚ) → (fraction q).num ≡ numerator_of q
unfolding fraction
num-part q = refl

den-part : (q : ℚ) → (fraction q).den ≡ denominator_of q
unfolding fraction
den-part q = refl

pub loop-i-init : goal.loop-i-init
loop-i-init c = λ done ps num den e m n p q k l.
    record { num_is = p ∙ first_is numerator_of c.args.from done ps num m; den_is = q ∙ first_is denominator_of c.args.from done ps den m }

pub loop-i-preserved : goal.loop-i-preserved
loop-i-preserved c =
    let from = c.args.from in
    let i = c.loop-i.i in
    let q = c.fraction_at-q in
    let x : FitsSigned w64 q.result.num = search rules in
    let y : FitsSigned w64 q.result.den = search rules in
    λ done ps num den e m n p r k l.
    let z = c.loop-i.invariant done ps num den e m n p r k l in
    let b = q.ensures ps e in
    let w = here-is from i done ps m in
    record {
      num_is = simp to_z-of_z (more numerator_of from i (done ++ ps) c.loop-i.coef_num num q.result.num z.num_is
          (ap (λ (t : Fraction). t.num) b ∙ num-part (entry ps i) ∙ ap numerator_of (sym w)) (omega arith));
      den_is = simp to_z-of_z (more denominator_of from i (done ++ ps) c.loop-i.coef_den den q.result.den z.den_is
          (ap (λ (t : Fraction). t.den) b ∙ den-part (entry ps i) ∙ ap denominator_of (sym w)) (omega arith));
    }

pub returns : goal.returns
returns c = λ done ps num den e m n p q k l.
    let from = c.args.from in
    let all : c.loop-i.i ≡ c.args.n = omega arith in
    let x = c.loop-i.invariant done ps num den e m n p q k l in
    record {
      num_is = x.num_is ∙ ap (λ h. listed numerator_of (from + h) (done ++ ps) num) all;
      den_is = x.den_is ∙ ap (λ h. listed denominator_of (from + h) (done ++ ps) den) all;
    }
