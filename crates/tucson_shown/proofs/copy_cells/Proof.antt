-- The front of the bytes that are copied is the part.
use borrow.Author.Rules.{rules}
use mathlib.Core.Path.{◌≡◌, sym, ◌∙◌, ap}
use Prim.Native.Nat.{ℕ, ◌+◌, ◌-◌, ◌≤◌}
use native.Mathlib.Omega.{arith}
use lib.ListN.{take}
use lib.Seq.{slice, take-take}
use Rattle.base_text.specs.Bytes.{Text}
use Rattle.base_text.proofs.Slice.{take_slice}
use Rattle.tucson_shown.proofs.copy_cells.Statement.{statement}
use Rattle.tucson_shown.proofs.copy_cells.Tie as tie

-- a front of a part
front : (text bytes : Text) (from to k : ℕ) → from ≤ to → to - from ≤ k → take (from + k - from) bytes ≡ slice from (from + k) text
    → take (to - from) bytes ≡ slice from to text
front text bytes from to k h few e =
    let size : from + k - from ≡ k = omega arith in
    let end : from + (to - from) ≡ to = omega (arith, h) in
    sym (take-take (to - from) k bytes few)
    ∙ ap (take (to - from)) (ap (λ (m : ℕ). take m bytes) (sym size) ∙ e)
    ∙ take_slice (to - from) from (from + k) text (omega (arith, few))
    ∙ ap (λ (m : ℕ). slice from m text) end

returns : tie.Need-returns-then-text-from-ge-CELLS
returns c =
    let k = c in
    let s = k in
    front s.args.text.now _ s.args.from s.args.to 96 s.requires.0.range.ordered (omega (arith, s.requires.0.room, s.requires.1)) k.copy.ensures

pub copy_cells_spec : {M : Type 1} → statement M
copy_cells_spec =
    tie.close
    (tie.spec
    (λ c. search rules)
    (λ c. search rules)
    (λ c κs. search rules)
    (λ c. search rules)
    returns
    (λ c κs. search rules)
    (λ c. search rules)
    (λ c. search rules))
