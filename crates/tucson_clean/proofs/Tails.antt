-- The lines of a text by the bytes that end them.
use mathlib.Core.Path.{◌≡◌, sym, ◌∙◌, ap}
use mathlib.Core.Bool.{Bool, cond}
use Prim.Native.Nat.{ℕ, ◌+◌}
use native.Mathlib.Omega.{arith}
use Rattle.base_text.specs.Bytes.{Text}
use Rattle.tucson_file.specs.Machine.{end_count, last_ends}
use Rattle.tucson_file.proofs.LineEnds.{lines_by_ends, ended_by_last, lines_few}
use Rattle.tucson_clean.specs.Machine.{TailIs}

pub tail_is : (body : Text) (count : ℕ) (ended : Bool) → ended ≡ last_ends body → count ≡ end_count body + cond ended 0 1
    → TailIs body (record { count = count; ended = ended })
tail_is body count ended e n =
    let are : count ≡ end_count body + cond (last_ends body) 0 1 = n ∙ ap (λ (b : Bool). end_count body + cond b 0 1) e in
    record { count_is = are ∙ sym (lines_by_ends body); ended_is = e ∙ sym (ended_by_last body); few = omega (arith, are, lines_few body) }
