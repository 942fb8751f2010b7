-- Numbers of this size fit a machine word, and the next blend is of the numbers as they came.
use Rattle.std.proofs.Common.{rules, ap₂, ◌∙◌, arith, ◌+◌, ℕ, List, ℤ, pos, get_or, w64}
use mir.Val.{SFits}
use Rattle.base_exact.proofs.Word.{to_z-of_z, sfits_abs}
use Rattle.spec_spline.specs.Reading.{blend}
use Rattle.curve_ordinates.specs.Ordinates.{Bounded}
use Rattle.curve_triangle.proofs.Stages.{staged_more}
use Rattle.curve_triangle.proofs.stage.Goals as goal

-- a number of the array fits
word : (o : List ℤ) → Bounded o → (k : ℕ) → SFits w64 (get_or o k (pos 0))
word o b k = sfits_abs (omega (arith, b k))

pub blend-requires : goal.blend-requires
blend-requires c =
    let l = c.loop-k in
    let r = c.requires.rate in
    let bounded = (l.invariant r.offset r.width (simp (to_z-of_z, c.ranges.high, c.ranges.low) r.rated)).bounded in
    simp (to_z-of_z, word l.r bounded l.k, word l.r bounded (l.k + 1), c.ranges.high, c.ranges.low)
    (record { first_small = bounded _; second-small = bounded _; rate = r })

pub loop-k-preserved : goal.loop-k-preserved
loop-k-preserved c = λ u d rated.
    let l = c.loop-k in
    let staged = l.invariant u d rated in
    let f = word l.r staged.bounded in
    let stored = to_z-of_z w64 c.blend.result (search rules) in
    staged_more _ _ _ _ _ _ staged (omega arith)
    (stored ∙ c.blend.ensures.is u d rated ∙ ap₂ (blend _ _) (to_z-of_z w64 _ (f l.k)) (to_z-of_z w64 _ (f (l.k + 1))))
    (rw stored c.blend.ensures.small)

pub returns : goal.returns
returns c =
    let l = c.loop-k in
    let r = c.requires.rate in record {
      is = λ u d rated k h. (l.invariant u d (simp (to_z-of_z, c.ranges.high, c.ranges.low) rated)).before k (omega arith);
      bounded = (l.invariant r.offset r.width (simp (to_z-of_z, c.ranges.high, c.ranges.low) r.rated)).bounded;
    }
