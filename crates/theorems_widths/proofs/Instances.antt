-- The theorem with numbers: the widths of a series in hundredths stand in the fields of its line.
use mathlib.Core.List.{[], ◌∷◌}
use Rattle.spec_tucson.specs.Line.{lines_of}
use Rattle.theorems_files.proofs.Files.{strict, oak, strict_read}
use Rattle.theorems_clean.specs.Places.{here}
use Rattle.theorems_widths.specs.Widths.{SeriesStands}
use Rattle.theorems_widths.proofs.Widths.{widths_stand}

stand : SeriesStands (lines_of strict) oak
stand = widths_stand strict (oak ∷ []) strict_read 0 oak here
