-- Names for the definitions that the program's bytes are computed with, as in the module of this name of spec_spline.
use Rattle.base_exact.specs.Tabulate.{tab}
use Rattle.base_outcome.specs.Search.{first}
use Rattle.base_text.specs.Bytes.{fields_between, stripped, index_where}
use Rattle.spec_calls.specs.Indices.{ring_positions, is_refused, bad_ring, index_of, ring_indices, rings_read, rings_indexed}
use Rattle.spec_sheet.specs.SheetReading.{pair, entries, list_of, line, read_line, five_lines, read}
use Rattle.spec_sheet.specs.Printout.{joined}
use Rattle.spec_table.specs.RingLines.{numbers_text, ring_line, lines_of_rings, ring_lines}
use Rattle.spec_tucson.proofs.Computing.{reading as reading_text}
use Rattle.spec_table.proofs.Cases.{writing as writing_numbers}
use Rattle.spec_rings.specs.Parts.{headed, lines_end}
use Rattle.spec_rings.specs.Ready.{sheet_read, series_read, sheet_curve, ready_of, ready}
use Rattle.spec_rings.specs.Rings.{series_values, faulty_ring, fault_line, indexed_text, valued_text, series_text, pieces, ready_text}

-- what a sheet and a file are read with
unfoldable pub reading : Unit {0}
unfolding reading_text fields_between stripped index_where pair entries list_of line read_line five_lines read headed lines_end sheet_read series_read sheet_curve
    ready_of ready
reading = tt

-- what the lines of a series are written with
unfoldable pub writing : Unit {0}
unfolding writing_numbers tab numbers_text ring_line lines_of_rings ring_lines
writing = tt

-- what the indices of a series are worked out with
unfoldable pub indexing : Unit {0}
unfolding tab first ring_positions is_refused bad_ring index_of ring_indices rings_read rings_indexed series_values faulty_ring fault_line indexed_text valued_text
    series_text pieces joined ready_text
indexing = tt
