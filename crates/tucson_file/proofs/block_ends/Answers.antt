-- Each turn counts the next byte.
use Rattle.std.proofs.Common.{◌≡◌, ℕ, ◌+◌, ◌∙◌, ap, drop, get_or, arith}
use Rattle.std.proofs.lemmas.List.Edits.{length-between, get_or-between}
use Rattle.tucson_file.specs.Machine.{end_of, end_count}
use Rattle.tucson_file.proofs.LineEnds.{end_few, ends_next}
use Rattle.tucson_file.proofs.block_ends.Goals as goal

pub loop-byte-preserved : goal.loop-byte-preserved
loop-byte-preserved c =
    let a = c.args in
    let i = c.loop-byte.byte-index in
    let t = a.text.now in
    let n = length-between t a.from a.to c.requires.within in
    let byte = get_or t (a.from + i) 0 in
    let one = c.is_end-count.ensures ∙ ap end_of (get_or-between t a.from a.to i 0 (omega arith)) in
    let few = end_few byte in
    let more : a.from + i + 1 ≡ a.from + (i + 1) = omega arith in
    let next = ends_next t (a.from + i) (omega arith) ∙ ap (λ (k : ℕ). end_of byte + end_count (drop k t)) more in
    record { few = omega (arith, c.loop-byte.invariant.few); are = omega (arith, c.loop-byte.invariant.are) }
