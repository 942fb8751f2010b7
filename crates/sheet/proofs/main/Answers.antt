-- By the law and with their number, since the zeros are too many to be counted one by one.
use Rattle.std.proofs.Common.{ℕ, ◌+◌, sym}
use Rattle.std.proofs.lemmas.List.{length-replicate}
use Rattle.spec_sheet.specs.SheetReading.{sheet_limit}
use Rattle.sheet.proofs.main.Goals as goal

pub slice_bounds-print_sheet-end : goal.slice_bounds-print_sheet-end
slice_bounds-print_sheet-end c = sym (length-replicate {0} {A = ℕ} (sheet_limit + 1) 0)
