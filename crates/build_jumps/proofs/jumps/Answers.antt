-- A turn stores the jump of row i behind those before it.
use borrow.Author.Rules.{rules}
use native.Mathlib.Omega.{arith}
use native.Mathlib.Numerals.{add-one}
use mathlib.Core.Path.{◌≡◌, sym, ◌∙◌, ap}
use mathlib.Core.List.{[], ◌∷◌, ◌++◌}
use Prim.Native.Nat.{suc}
use lib.ListN.{length}
use mir.Syntax.{w64}
use mir.Val.{SFits}
use mir.ValLaws.{to_z-of_z}
use Rattle.std.specs.Prelude.{Some}
use Rattle.base_fraction.specs.Machine.{value}
use Rattle.base_outcome.specs.Outcome.{collect}
use Rattle.base_outcome.proofs.Outcome.{collect-none, collect_more, collect-ends, collect_stays, collect_inverts}
use Rattle.build_counted.proofs.Counted.{fits_answered, large_refused}
use Rattle.base_fraction.proofs.Fractions.{fractions_more}
use Rattle.build_jumps.specs.Machine.{row_jumps}
use Rattle.build_jumps.proofs.jumps.Invariants.{row_jump}
use Rattle.build_jumps.proofs.jumps.Goals as goal

pub loop-i-init : goal.loop-i-init
loop-i-init c s j t i h = record { done = []; collects = collect-none (row_jump s j c.args.k t); js_is = c.no_fractions-js.ensures }

pub returns-in_err-q : goal.returns-in_err-q
unfolding row_jumps
returns-in_err-q c s j t i h size =
    let l = c.loop-i in
    let f = row_jump s j c.args.k t in
    let r = large_refused (f l.i) (sym (c.in_err-q.ensures s j t i h)) in
    c.from_residual.ensures
    ∙ sym (ap row_jumps (collect_stays (suc l.i) (length t) f (omega (arith, c.loop-i-test.true, size))
    (collect-ends l.i f (l.invariant s j t i h).collects r.refuses)))

pub loop-i-preserved : goal.loop-i-preserved
loop-i-preserved c s j t i h =
    let l = c.loop-i in
    let q = c.in_ok-q.q in
    let f = row_jump s j c.args.k t in
    let n : SFits w64 q.num = search rules in
    let d : SFits w64 q.den = search rules in
    let x = fits_answered (f l.i) q (sym (c.in_ok-q.ensures s j t i h)) in
    let y = l.invariant s j t i h in
    record {
      done = y.done ++ (value q ∷ []);
      collects = ap (λ m. collect m f) (add-one l.i) ∙ collect_more l.i f y.collects x.answers;
      js_is = simp to_z-of_z (fractions_more y.done (value q) l.i l.js q (collect_inverts l.i f y.collects).size
          (omega arith) y.js_is x.lowest);
    }

pub returns : goal.returns
unfolding row_jumps
returns c s j t i h size =
    let l = c.loop-i in
    let y = l.invariant s j t i h in
    ap Some y.js_is
    ∙ sym (ap row_jumps (ap (λ m. collect m (row_jump s j c.args.k t)) (let z : length t ≡ l.i = omega arith in z) ∙ y.collects))
