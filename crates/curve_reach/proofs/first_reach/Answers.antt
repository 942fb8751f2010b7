-- The position found, or code 16.
use Rattle.std.proofs.Common.{◌≡◌, ◌∙◌, ap, arith, pos, ◌*ℤ◌}
use Rattle.std.specs.Option.{ok_or}
use mir.Syntax.{w64}
use mir.Val.{SFits}
use Rattle.base_exact.proofs.Word.{to_z-of_z, sfits_abs, sfits_widen, abs_sfits, abs_mul_le}
use Rattle.base_outcome.specs.Search.{first}
use Rattle.base_outcome.specs.Machine.{reply, refused}
use Rattle.spec_spline.specs.Space.{Space}
use Rattle.spec_spline.specs.Reading.{fine}
use Rattle.build_space.specs.Machine.{space}
use Rattle.spec_calls.specs.Positions.{position_count}
use Rattle.curve_reach_search.specs.Machine.{reaches_held, found}
use Rattle.curve_reach.proofs.Call.{found-reached}
use Rattle.curve_reach.proofs.first_reach.Goals as goal

pub returns : goal.returns
returns c =
    let a = c.args in
    let s : Space = space a.breaks.now a.degrees.now a.orders.now in
    let o = first (position_count s) (reaches_held s a.ordinates.now (fine a.width)) in
    let f = c.ranges.width in
    let wide : SFits w64 a.width = sfits_widen f in
    let scaled : SFits w64 (pos 256 *ℤ a.width) =
    sfits_abs (omega (arith, abs_mul_le (pos 256) a.width 256 2147483648 (omega arith) (abs_sfits f))) in
    let told : c.search-found.result ≡ found s o = simp to_z-of_z at c.search-found.ensures in
    ap reply (c.ok_or.ensures.value ∙ ap (λ o. ok_or o (refused 16 0)) told) ∙ found-reached s o
