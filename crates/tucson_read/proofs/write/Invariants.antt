-- What is still to be written, from the line at `from` on, makes the buffers what they are to be; it grows less with each line.
use Rattle.std.proofs.Common.{◌-◌, length}
use Rattle.std.proofs.lemmas.List.Edits.{sets}
use Rattle.spec_tucson.specs.TextReading.{read_text}
use Rattle.spec_tucson.specs.ReadCall.{names_of, years_of, counts_of, widths_of}
use Rattle.tucson_read.specs.Write.{series_in}
use Rattle.tucson_read.proofs.Writes.{Writes}
use Rattle.tucson_read.proofs.write.Given as goal

abbrev pub invariant-loop-from : goal.invariant-loop-from
invariant-loop-from l =
    let ss = series_in (read_text l.text) in
    Writes l.text (sets l.initial.names 0 (names_of ss)) (sets l.initial.years 0 (years_of ss)) (sets l.initial.counts 0 (counts_of ss))
    (sets l.initial.widths 0 (widths_of ss)) l.names l.years l.counts l.widths l.from l.series l.start l.at l.begun l.first

abbrev pub decreases-loop-from : goal.decreases-loop-from
decreases-loop-from l = length l.text - l.from
