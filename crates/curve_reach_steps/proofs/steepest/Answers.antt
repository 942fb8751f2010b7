-- A turn takes one rise more.
use Rattle.std.proofs.Common.{◌≡◌, ◌+◌, subst, get_or, rules, arith, pos, w32, FitsSigned}
use Rattle.base_exact.proofs.Word.{to_z-of_z, sfits_widen}
use Rattle.curve_reach_steps.specs.Machine.{Steepest}
use Rattle.curve_reach_steps.proofs.Rises.{steepest_none, steepest_more}
use Rattle.curve_reach_steps.proofs.steepest.Goals as goal

pub loop-k-init : goal.loop-k-init
loop-k-init c = steepest_none _ _

pub steeper-rise-requires : goal.steeper-rise-requires
steeper-rise-requires c =
    let os = c.args.ordinates.now in
    let k = c.args.c + c.loop-k.k in
    let f : FitsSigned w32 (get_or os (c.args.c + c.loop-k.k) (pos 0)) = search rules in
    let g : FitsSigned w32 (get_or os (c.args.c + c.loop-k.k + 1) (pos 0)) = search rules in
    let f' = sfits_widen f in
    let g' = sfits_widen g in
    let bounded = c.requires.ordinates.bounded in
    simp to_z-of_z (record { rise-small = c.loop-k.invariant.small; low_small = bounded k; high_small = bounded (k + 1) })

pub loop-k-preserved : goal.loop-k-preserved
loop-k-preserved c =
    let os = c.args.ordinates.now in
    let f : FitsSigned w32 (get_or os (c.args.c + c.loop-k.k) (pos 0)) = search rules in
    let g : FitsSigned w32 (get_or os (c.args.c + c.loop-k.k + 1) (pos 0)) = search rules in
    let f' = sfits_widen f in
    let g' = sfits_widen g in
    let left = simp to_z-of_z at c.steeper-rise.ensures in
    steepest_more _ c.args.c c.loop-k.k _ c.steeper-rise.result c.loop-k.invariant left.at-least left.small left.covers

pub returns : goal.returns
returns c =
    let all : c.loop-k.k ≡ c.args.p = omega arith in
    subst (λ k. Steepest c.args.ordinates.now c.args.c k c.loop-k.rise) all c.loop-k.invariant
