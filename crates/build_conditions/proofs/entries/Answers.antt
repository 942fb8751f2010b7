-- An entry more stands in front of the zeros; the entries of the column end where the loop does.
use Rattle.std.proofs.Common.{rules, ◌≡◌, ◌++◌, ◌∙◌, sym, ap, ap₂, arith, ℕ, suc, ◌+◌, ◌*◌, ◌^◌, ◌<◌, ◌≤◌}
use Rattle.std.proofs.Common.{List, ℤ, pos, nat_abs, set, drop, replicate, w64}
use native.Mathlib.Nat.{div-le_self}
use mir.Val.{SFits}
use Rattle.base_exact.specs.Tabulate.{tab}
use Rattle.base_exact.proofs.Tabulate.{tab-none, tab_more, tab-rest}
use Rattle.base_exact.proofs.Word.{to_z-of_z}
use Rattle.spec_spline.specs.Space.{Space, degree, width}
use Rattle.spec_spline.specs.Conditions.{Entry, conditions}
use Rattle.build_scales.proofs.Sizes.{scale_le}
use Rattle.build_conditions.specs.Sides.{JoinFits}
use Rattle.build_conditions.specs.declared.Join.{Join}
use Rattle.build_conditions.specs.declared.Scaled.{Scaled}
use Rattle.build_conditions.specs.Terms.{scale_of, ScaledOf, entries_of}
use Rattle.build_conditions.proofs.Terms.{left_scale, right_scale, divisor, entry_is, entry-none}
use Rattle.build_conditions.proofs.entries.Goals as goal

-- the first e entries in front of zeros
abbrev filled : Scaled → ℕ → ℕ → List ℤ
filled r k e = tab e (scale_of r.left r.right k) ++ drop e (replicate 6 (pos 0))

all-filled : (r : Scaled) (s : Space) (j k : ℕ) → k ≤ 2 → ScaledOf r s j k → filled r k (2 * k + 2) ≡ entries_of (conditions s j k)
unfolding entries_of
all-filled r s j k h q = tab-rest 6 (2 * k + 2) (omega arith)
    (λ e l. ap₂ (λ x y. scale_of x y k e) q.left_is q.right_is ∙ sym (entry_is s j k e l))
    (λ e l. ap (λ (x : Entry). x.condition) (entry-none s j k e l))

scaled_small : (r : Scaled) {join : Join} {k : ℕ} (f : JoinFits join k) → ScaledOf r f.space f.index k
    → (nat_abs r.left < 2 ^ 31) × (nat_abs r.right < 2 ^ 31)
scaled_small r {k = k} f q =
    let s = f.space in
    let j = f.index in (
      omega (
        arith,
        ap nat_abs q.left_is,
        div-le_self (left_scale s j k) (divisor s j k),
        scale_le (degree s j) k (width s (suc j)) f.left-degree f.order f.right-short,
      ),
      omega (
        arith,
        ap nat_abs q.right_is,
        div-le_self (right_scale s j k) (divisor s j k),
        scale_le (degree s (suc j)) k (width s j) f.right-degree f.order f.left-short,
      ),
    )

pub loop-e-init : goal.loop-e-init
loop-e-init c = tab-none _ _

pub entry-requires : goal.entry-requires
entry-requires c =
    let f = c.requires in
    let z = scaled_small c.scales-s.result f (c.scales-s.ensures f.space f.index f.is) in
    record { left-small = z.0; right-small = z.1; order = f.order; within = omega arith }

pub loop-e-preserved : goal.loop-e-preserved
loop-e-preserved c =
    let r = c.scales-s.result in
    let e = c.loop-e.e in
    let f : SFits w64 c.entry.result = search rules in
    simp to_z-of_z (
    ap₂ (λ (l : List ℤ) (z : ℤ). set l e z) c.loop-e.invariant c.entry.ensures
    ∙ tab_more (scale_of r.left r.right c.args.k) e (replicate 6 (pos 0)) (omega arith))

pub returns : goal.returns
returns c = λ s j i.
    let r = c.scales-s.result in
    let k = c.args.k in
    let all : c.loop-e.e ≡ 2 * k + 2 = omega arith in
    c.loop-e.invariant ∙ ap (filled r k) all ∙ all-filled r s j k c.requires.order (c.scales-s.ensures s j i)
