-- By the law and with their number, since the zeros are too many to be counted one by one.
use mathlib.Core.Path.{subst}
use Rattle.std.proofs.Common.{◌≡◌, ℕ, ◌≤◌, length, sym, arith}
use Rattle.std.proofs.lemmas.List.{length-replicate}
use lib.ListN.{replicate}
use Rattle.sheet_text.specs.Limit.{printout_limit}
use Rattle.sheet.proofs.write_printout.Goals as goal

whole : (size : ℕ) → size ≡ length (replicate {0} {A = ℕ} size 0)
whole size = sym (length-replicate {0} {A = ℕ} size 0)

pub slice_bounds-write_over-end : goal.slice_bounds-write_over-end
slice_bounds-write_over-end g c = whole _

pub write_over-requires : goal.write_over-requires
write_over-requires g c = subst (λ z. printout_limit ≤ z) (slice_bounds-write_over-end g c) (omega arith)
