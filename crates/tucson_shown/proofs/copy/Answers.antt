-- Each turn puts the next byte behind those before it.
use mathlib.Core.List.{◌++◌, ◌∷◌, []}
use mathlib.Core.Path.{◌≡◌, sym, ◌∙◌, ap}
use Prim.Native.Nat.{ℕ, suc, ◌+◌, ◌-◌}
use native.Mathlib.Numerals.{add-one}
use native.Mathlib.Omega.{arith}
use lib.ListN.{take, get_or, set}
use lib.Seq.{slice, take-suc-set, slice_empty}
use Rattle.base_text.specs.Bytes.{Text}
use Rattle.tucson_columns.proofs.Shown.{slice_snoc}
use Rattle.tucson_shown.proofs.copy.Goals as goal

pub loop-i-init : goal.loop-i-init
loop-i-init c =
    ap (λ (n : ℕ). take n c.args.bytes.now) (let z : c.args.from - c.args.from ≡ 0 = omega arith in z)
    ∙ sym (slice_empty c.args.from c.args.text.now)

pub loop-i-preserved : goal.loop-i-preserved
loop-i-preserved c =
    let l = c.loop-i in
    let text = c.args.text.now in
    let from = c.args.from in
    let byte = get_or text l.i 0 in
    let n = l.i - from in
    ap (λ (k : ℕ). take k (set l.bytes n byte)) (let z : l.i + 1 - from ≡ suc n = omega arith in z)
    ∙ take-suc-set l.bytes n byte (omega (arith, c.requires.room))
    ∙ ap (λ (t : Text). t ++ (byte ∷ [])) l.invariant
    ∙ sym (slice_snoc from l.i text (omega arith) (omega (arith, c.requires.range.within)))
    ∙ ap (λ (k : ℕ). slice from k text) (sym (add-one l.i))

pub returns : goal.returns
returns c =
    let e : c.loop-i.i ≡ c.args.to = omega (arith, c.requires.range.ordered) in
    ap (λ (n : ℕ). take (n - c.args.from) c.loop-i.bytes) (sym e)
    ∙ c.loop-i.invariant
    ∙ ap (λ (n : ℕ). slice c.args.from n c.args.text.now) e
