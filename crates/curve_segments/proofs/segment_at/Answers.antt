-- A segment whose first position is at or before x is the last one so far.
use Rattle.std.proofs.Common.{rules, ◌≡◌, sym, ap, ◌∙◌, arith, ℕ, suc, ℤ, pos, get_or, w32}
use native.Mathlib.Numerals.{add-one}
use mathlib.Core.Option
use lib.Seq.{length-take-le}
use lib.Signed.{le_z}
use mir.Val.{SFits, of_z, to_z}
use Rattle.std.proofs.lemmas.List.{get_or-take}
use Rattle.base_exact.proofs.Word.{to_z-of_z}
use Rattle.base_outcome.specs.Search.{last}
use Rattle.base_outcome.proofs.Search.{last_new, last-kept, last_none}
use Rattle.curve_segments.proofs.segment_at.Goals as goal
use Rattle.curve_segments.proofs.segment_at.Goals.{then-first-x, else-first-x}

pub loop-i-init : goal.loop-i-init
loop-i-init c = sym (ap (λ o. Option.get_or o 0) (last_none _ 0 (λ k l. absurd (omega arith))))

pub loop-i-preserved : goal.loop-i-preserved
loop-i-preserved c =
    let i = c.loop-i.i in
    let firsts = c.args.firsts.now in
    let x = to_z w32 (of_z w32 c.args.x) in
    let starts = λ (k : ℕ). le_z (get_or firsts k (pos 0)) x in
    let part = length-take-le c.args.m firsts c.requires in
    let read = get_or-take c.args.m firsts i (pos 0) (omega arith) in
    let f : SFits w32 (get_or firsts i (pos 0)) = search rules in
    let number = ap (λ (z : ℤ). to_z w32 (of_z w32 z)) read ∙ to_z-of_z w32 (get_or firsts i (pos 0)) f in
    let told : c.if-first-x.at ≡ Option.get_or (last (suc i) starts) 0 =
    elim c.if-first-x.branch [
      | then-first-x w ↦
          w.at-is ∙ sym (ap (λ o. Option.get_or o 0) (last_new starts i (ap (λ (z : ℤ). le_z z x) (sym number) ∙ w.if-first-x.true)))
      | else-first-x w ↦
          w.at-is ∙ c.loop-i.invariant
          ∙ sym (ap (λ o. Option.get_or o 0) (last-kept starts i (ap (λ (z : ℤ). le_z z x) (sym number) ∙ w.if-first-x.false)))
    ] in
    rw (add-one i) told
