-- By the law and with their number, since the zeros are too many to be counted one by one.
use Rattle.std.proofs.Common.{ℕ, ◌+◌, sym}
use Rattle.std.proofs.lemmas.List.{length-replicate}
use Rattle.spec_rings.specs.Ready.{text_limit}
use Rattle.rings.proofs.main.Goals as goal

pub slice_bounds-print_table-end : goal.slice_bounds-print_table-end
slice_bounds-print_table-end c = sym (length-replicate {0} {A = ℕ} (text_limit + 1) 0)
