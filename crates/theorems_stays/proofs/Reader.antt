-- The strict reader accepts what is answered: its lines are strict, and the call has read them.
use mathlib.Core.Path.{◌∙◌, ap}
use mathlib.Core.Option.{none}
use Rattle.spec_tucson.specs.TextReading.{read_text}
use Rattle.spec_tucson.specs.CleanSeries.{closed_lines}
use Rattle.theorems_clean.proofs.Answers.{answered}
use Rattle.theorems_clean.proofs.StrictLines.{closed_strict}
use Rattle.theorems_clean.proofs.Accepted.{text-reads}
use Rattle.theorems_clean.proofs.Sources.{kept-sources, sources_strict}
use Rattle.theorems_stays.specs.Stays.{ReaderAccepts}

pub reader-accepts : ReaderAccepts
reader-accepts t header unit c e =
    let a = answered t header unit c e in
    let strict = sources_strict _ 1 a.kept (kept-sources _ a.last 1 none a.kept a.kept_are) in
    (a.series, ap read_text a.text_is ∙ text-reads (closed_lines unit a.kept) a.series (closed_strict unit a.kept strict) a.reads)
