-- The first pass refuses, or finds what the buffers must have room for; then the second writes.
use Rattle.std.proofs.Common.{arith}
use mathlib.Core.Logic.{inl, inr}
use Rattle.std.proofs.lemmas.Result.{err_from_is_err_and}
use Rattle.spec_tucson.specs.TextReading.{read_text}
use Rattle.tucson_read.proofs.Answers.{Given, scan_refused, scan-found, read_refused, short-names, short_years, short-counts}
use Rattle.tucson_read.proofs.Answers.{short_widths, write-ready, read-answers}
use Rattle.tucson_read.proofs.read.Goals as goal

pub returns-in_err-totals : goal.returns-in_err-totals
returns-in_err-totals c =
    let a = c.args in
    let g : Given = record { text = a.text.now; names = a.names.now; years = a.years.now; counts = a.counts.now; widths = a.widths.now } in
    let p = err_from_is_err_and c.from_residual.result c.from_residual.ensures.1 in
    rw (p.1, p.2) (read_refused g (scan_refused (read_text a.text.now) c.in_err-totals.ensures))

pub returns-then-names-totals : goal.returns-then-names-totals
returns-then-names-totals c =
    let a = c.args in
    let g : Given = record { text = a.text.now; names = a.names.now; years = a.years.now; counts = a.counts.now; widths = a.widths.now } in
    let f = scan-found (read_text a.text.now) c.in_ok-totals.ensures in
    elim c.then-names-totals.either [
      | inl h ↦ short-names g f.is (omega (arith, f.series_is))
      | inr (inl h) ↦ short_years g f.is (omega (arith, f.series_is))
      | inr (inr (inl h)) ↦ short-counts g f.is (omega (arith, f.series_is))
      | inr (inr (inr h)) ↦ short_widths g f.is (omega (arith, f.widths_is))
    ]

pub write-requires : goal.write-requires
write-requires c =
    let a = c.args in
    let g : Given = record { text = a.text.now; names = a.names.now; years = a.years.now; counts = a.counts.now; widths = a.widths.now } in
    let f = scan-found (read_text a.text.now) c.in_ok-totals.ensures in
    write-ready g f.is (omega (arith, f.series_is)) (omega (arith, f.series_is)) (omega (arith, f.series_is)) (omega (arith, f.widths_is))

pub returns : goal.returns
returns c =
    let a = c.args in
    let g : Given = record { text = a.text.now; names = a.names.now; years = a.years.now; counts = a.counts.now; widths = a.widths.now } in
    let f = scan-found (read_text a.text.now) c.in_ok-totals.ensures in
    read-answers g f.is (omega (arith, f.series_is)) (omega (arith, f.series_is)) (omega (arith, f.series_is)) (omega (arith, f.widths_is))
    f.series_is c.write.ensures
