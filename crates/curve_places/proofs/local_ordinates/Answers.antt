-- An ordinate of 32 bits is the same number in 64, and past the last ordinate the array holds 0.
use Rattle.std.proofs.Common.{rules, ◌≡◌, ◌++◌, ap, ◌∙◌, arith, ℕ, ◌+◌, List, ℤ, pos, get_or, set, drop, replicate, w32, w64}
use mir.Val.{SFits}
use Rattle.base_exact.specs.Tabulate.{tab}
use Rattle.base_exact.proofs.Tabulate.{tab-none, tab_more}
use Rattle.base_exact.proofs.Word.{to_z-of_z, sfits_widen}
use Rattle.curve_places.proofs.Local.{local_filled}
use Rattle.curve_places.proofs.local_ordinates.Goals as goal

pub loop-k-init : goal.loop-k-init
loop-k-init c = tab-none _ _

pub loop-k-preserved : goal.loop-k-preserved
loop-k-preserved c =
    let a = c.args in
    let k = c.loop-k.k in
    let f : SFits w32 (get_or a.ordinates.now (a.c + k) (pos 0)) = search rules in
    let g : SFits w64 (get_or a.ordinates.now (a.c + k) (pos 0)) = sfits_widen f in
    simp to_z-of_z (
    ap (λ (l : List ℤ). set l k (get_or a.ordinates.now (a.c + k) (pos 0))) c.loop-k.invariant
    ∙ tab_more (λ j. get_or a.ordinates.now (a.c + j) (pos 0)) k (replicate 6 (pos 0)) (omega arith))

pub returns : goal.returns
returns c =
    let a = c.args in
    let numbers = λ (j : ℕ). get_or a.ordinates.now (a.c + j) (pos 0) in
    let all : c.loop-k.k ≡ a.p + 1 = omega arith in
    c.loop-k.invariant
    ∙ ap (λ (k : ℕ). tab k numbers ++ drop k (replicate 6 (pos 0))) all
    ∙ local_filled a.ordinates.now a.c a.p (omega arith)
