-- `curve_places::value_of` meets its contract: the triangle of the ordinates in an array of six. Assumes nothing.
use borrow.Author.Rules.{rules}
use native.Mathlib.Omega.{arith}
use mathlib.Core.List.{List}
use mathlib.Core.Path.{ap, ◌∙◌}
use lib.IntN.{ℤ, pos, nat_abs}
use lib.ListN.{get_or}
use mir.Syntax.{w32, w64}
use mir.Val.{SFits, of_z, to_z}
use Rattle.base_exact.proofs.Word.{to_z-of_z, sfits_abs}
use Rattle.spec_spline.specs.Reading.{triangle}
use Rattle.curve_places.specs.Location.{ValueIs}
use Rattle.curve_places.proofs.Local.{local_bounded}
use Rattle.curve_places.proofs.Position.{value_local}
use Rattle.curve_places.proofs.value_of.Statement.{statement}
use Rattle.curve_places.proofs.value_of.Tie as tie

triangle-requires : tie.Need-triangle-v-requires
triangle-requires c κs =
    let s = c in
    let bounded = local_bounded s.args.ordinates.now s.args.c s.args.p s.requires.ordinates.bounded in
    simp (to_z-of_z, s.ranges.high, s.ranges.low)
    (record { few = s.requires.degree_low; bounded = rw c.local_ordinates-o.ensures bounded; rate = s.requires.rate })

module _ (c : tie.After-triangle-v) where
  abbrev start : tie.Start
  start = c.before.before

  value_is : ValueIs start.args.ordinates.now start.args.c start.args.p start.args.high start.args.low
      c.triangle-v.result
  value_is u d rated =
      let s = start in
      (simp (to_z-of_z, s.ranges.high, s.ranges.low) at c.triangle-v.ensures.is) u d rated
      ∙ ap (λ (l : List ℤ). triangle (nat_abs d) u (λ k. get_or l k (pos 0)) s.args.p 0) c.local_ordinates-o.ensures
      ∙ value_local s.args.ordinates.now s.args.c s.args.p u (nat_abs d) (omega (arith, s.requires.degree_low))

  value-fits : SFits w32 c.triangle-v.result
  value-fits = sfits_abs (omega (arith, c.triangle-v.ensures.small))

returns : tie.Need-returns
returns c u d rated =
    ap (λ (z : ℤ). to_z w32 (of_z w32 z)) (to_z-of_z w64 c.triangle-v.result (record { sfits = c.triangle-v.type_inv }))
    ∙ to_z-of_z w32 c.triangle-v.result (value-fits c)
    ∙ value_is c u d rated

pub value_of_spec : {M : Type 1} → statement M
value_of_spec =
    tie.close (tie.spec (λ c κs. search rules) triangle-requires
    (λ c. rw (to_z-of_z w64 _ (record { sfits = c.triangle-v.type_inv })) (value-fits c)) returns)
