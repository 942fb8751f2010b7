-- A stage more leaves a number less.
use Rattle.std.proofs.Common.{◌≡◌, ap, ◌∙◌, arith, ℕ, suc, ◌-◌, ◌≤◌, pos, nat_abs, get_or, w64}
use mir.Val.{SFits}
use Rattle.base_exact.proofs.Word.{to_z-of_z, sfits_abs}
use Rattle.spec_spline.specs.Reading.{triangle}
use Rattle.curve_triangle.proofs.Stages.{triangled_none, triangled_more}
use Rattle.curve_triangle.proofs.triangle.Goals as goal

pub loop-n-init : goal.loop-n-init
loop-n-init c = λ u d rated. rw (let e : c.args.p - c.args.p ≡ 0 = omega arith in e) (triangled_none _ _ _ c.args.p c.requires.bounded)

pub stage-r-requires : goal.stage-r-requires
stage-r-requires c =
    let r = c.requires.rate in
    let few : c.loop-n.n ≤ 5 = omega (arith, c.requires.few) in
    let bounded = (c.loop-n.invariant r.offset r.width (simp (to_z-of_z, c.ranges.high, c.ranges.low) r.rated)).bounded in
    simp (to_z-of_z, c.ranges.high, c.ranges.low) (record { few = few; bounded = bounded; rate = r })

pub loop-n-preserved : goal.loop-n-preserved
loop-n-preserved c = λ u d rated.
    let p = c.args.p in
    let n = c.loop-n.n in
    let one_more : p - (n - 1) ≡ suc (p - n) = omega arith in
    let stage = c.stage-r.ensures in
    rw one_more (triangled_more _ _ _ _ _ _ _ (c.loop-n.invariant u d rated) (omega arith) (stage.is u d rated) stage.bounded)

pub returns : goal.returns
returns c =
    let l = c.loop-n in
    let a = c.args in
    let r = c.requires.rate in
    let bounded = (l.invariant r.offset r.width (simp (to_z-of_z, c.ranges.high, c.ranges.low) r.rated)).bounded in
    let all : a.p - l.n ≡ a.p = omega arith in
    let f : SFits w64 (get_or l.r 0 (pos 0)) = sfits_abs (omega (arith, bounded 0)) in
    simp (to_z-of_z, f) (record {
      is = λ u d rated. (l.invariant u d (simp (to_z-of_z, c.ranges.high, c.ranges.low) rated)).numbers 0 (omega arith)
          ∙ ap (λ (n : ℕ). triangle (nat_abs d) u (λ k. get_or a.o k (pos 0)) n 0) all;
      small = bounded 0;
    })
