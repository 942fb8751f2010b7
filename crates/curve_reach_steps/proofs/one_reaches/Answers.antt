-- An ordinate reaches the target, or none of those passed does.
use Rattle.std.proofs.Common.{◌≡◌, ℕ, suc, ◌+◌, ◌<◌, false, get_or, sym, ap, rules, arith, below_more, pos, w32, FitsSigned}
use lib.Signed.{le_z}
use Rattle.base_exact.proofs.Word.{to_z-of_z, sfits_widen}
use Rattle.base_outcome.specs.Search as searches
use Rattle.base_outcome.proofs.Search.{first_at, first-none}
use Rattle.curve_reach_steps.proofs.one_reaches.Goals as goal

pub returns-then-o-target : goal.returns-then-o-target
returns-then-o-target c =
    let a = c.args in
    let h = c.ranges.target in
    let f : FitsSigned w32 (get_or a.ordinates.now (a.c + c.loop-k.k) (pos 0)) = search rules in
    let g = sfits_widen f in
    let test = λ (j : ℕ). le_z a.target (get_or a.ordinates.now (a.c + j) (pos 0)) in
    sym (ap searches.found (first_at test (suc a.p) c.loop-k.k (omega arith) (simp to_z-of_z at c.if-o-target.true)
    (simp to_z-of_z at c.loop-k.invariant)))

pub loop-k-preserved : goal.loop-k-preserved
loop-k-preserved c =
    let a = c.args in
    let h = c.ranges.target in
    let f : FitsSigned w32 (get_or a.ordinates.now (a.c + c.loop-k.k) (pos 0)) = search rules in
    let g = sfits_widen f in
    simp to_z-of_z (below_more _ _ (simp to_z-of_z at c.loop-k.invariant) (simp to_z-of_z at c.if-o-target.false))

pub returns : goal.returns
returns c =
    let a = c.args in
    let h = c.ranges.target in
    let test = λ (j : ℕ). le_z a.target (get_or a.ordinates.now (a.c + j) (pos 0)) in
    let none : (j : ℕ) → j < c.loop-k.k → test j ≡ false = simp to_z-of_z at c.loop-k.invariant in
    sym (ap searches.found (first-none test (suc a.p) (λ j l. none j (omega arith))))
