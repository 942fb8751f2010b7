-- The buffers take what a text of this length holds, and a line's place is moved by the lines before it.
use Rattle.std.proofs.Common.{rules}
use Rattle.tucson_text.proofs.Rewriting.{Cells}
use Rattle.rings_read.proofs.Held.{series_moved}
use Rattle.rings_read.proofs.read_series.Goals as goal

pub returns : goal.returns
returns c =
    let a = c.args in
    let e = c.read-series.ensures in
    let cells : Cells a.names.now a.years.now a.counts.now a.widths.now =
    record { names_are = search rules; years_are = search rules; counts_are = search rules; widths_are = search rules } in
    series_moved _ c.requires _ _ _ _ cells c.read-series.result e.0 c.map_err.result _ (λ r s z. search rules) c.map_err.ensures.cases e.1.0 e.1.1.0 e.1.1.1.0
    e.1.1.1.1
