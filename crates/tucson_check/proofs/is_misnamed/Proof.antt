-- The bytes in the columns of the two names are compared.
use borrow.Author.Rules.{rules}
use mathlib.Core.Bool.{not}
use mathlib.Core.Path.{sym, ◌∙◌, ap, ap₂}
use Prim.Native.Nat.{ℕ}
use native.Mathlib.Omega.{arith}
use lib.ListN.{take}
use lib.Seq.{length-take-le}
use Rattle.spec_tucson.specs.KeptLines.{same_text}
use Rattle.tucson_check.proofs.is_misnamed.Statement.{statement}
use Rattle.tucson_check.proofs.is_misnamed.Tie as tie

slice-aggregate-same-text : tie.Need-slice_bounds-same_text-end
slice-aggregate-same-text c =
    let s = c in
    let w = c.name_width-before.ensures in
    sym (length-take-le c.name_width-before.result s.args.old_shown.now (omega (arith, w, s.requires.named-old)))

slice-aggregate-same-text-2 : tie.Need-slice_bounds-same_text-end-2
slice-aggregate-same-text-2 c =
    let s = c in
    let w = c.name_width-width.ensures in
    sym (length-take-le c.name_width-width.result s.args.shown.now (omega (arith, w, s.requires.named)))

returns : tie.Need-returns
returns c =
    let k = c in
    let s = k in
    ap not (c.same_text.ensures ∙ ap₂ (λ (m n : ℕ). same_text (take m s.args.old_shown.now) (take n s.args.shown.now))
    k.name_width-before.ensures k.name_width-width.ensures)

pub is_misnamed_spec : {M : Type 1} → statement M
is_misnamed_spec =
    tie.close
    (tie.spec
    (λ c κs. c.requires.named-old)
    (λ c κs. let s = c in s.requires.named)
    slice-aggregate-same-text
    slice-aggregate-same-text-2
    (λ c κs. search rules)
    returns)
