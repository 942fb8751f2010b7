-- The tests in the specification's order, and the text where all pass.
use Rattle.std.proofs.Common.{◌≡◌, Bool, true, length, leb, leb-true, [], sym, ◌∙◌, ap}
use Rattle.std.specs.Prelude.{None}
use mathlib.Core.Option.{none}
use Rattle.base_outcome.specs.Machine.{found}
use Rattle.base_outcome.proofs.Machine.{found-none_inverts, found_some_inverts}
use Rattle.spec_tucson.specs.Writing.{written, unwritable}
use Rattle.spec_tucson.specs.WriteCall.{lists_fit}
use Rattle.theorems_tucson.proofs.TucsonCells.{ListsFit, fits-parts}
use Rattle.tucson_series.specs.Sizes.{text_bytes}
use Rattle.tucson_series.proofs.Bytes.{Counted, all_counted}
use Rattle.tucson_write.proofs.Call.{Given, listed, lists_misfit, series-unwritable, text-short, text-answers, ends_refused, ends-written}
use Rattle.tucson_write.proofs.write.Goals as goal

-- the lists fit
module _ (g : Given) (fits : true ≡ lists_fit g.names g.years g.counts g.widths) where
  lists : ListsFit g.names g.years g.counts g.widths
  lists = fits-parts g.names g.years g.counts g.widths (sym fits)

  -- all series can be written
  module _ (all : None ≡ found (unwritable (listed g))) where
    all_writable : unwritable (listed g) ≡ none
    all_writable = found-none_inverts _ (sym all)

    counted : Counted g.years g.counts (listed g)
    counted = all_counted g.years g.names g.counts g.widths 0 [] lists all_writable

    -- the room's test
    room : {b : Bool} → b ≡ leb (text_bytes g.years g.counts) (length g.text) → leb (length (written (listed g))) (length g.text) ≡ b
    room e = ap (λ n. leb n (length g.text)) counted.bytes ∙ sym e

pub returns-then-not-lists_fit : goal.returns-then-not-lists_fit
returns-then-not-lists_fit c =
    let a = c.args in
    let g : Given = record { names = a.names.now; years = a.years.now; counts = a.counts.now; widths = a.widths.now; text = a.text.now } in
    ends_refused g (lists_misfit g (sym c.if-not-lists_fit.ensures))

pub returns-in-Some : goal.returns-in-Some
returns-in-Some c =
    let a = c.args in
    let g : Given = record { names = a.names.now; years = a.years.now; counts = a.counts.now; widths = a.widths.now; text = a.text.now } in
    let at = found_some_inverts _ (sym c.in-Some.ensures) in
    rw c.place.ensures (ends_refused g (series-unwritable g (sym c.if-not-lists_fit.ensures) _ at))

pub text_fits-requires : goal.text_fits-requires
text_fits-requires c =
    let a = c.args in
    let g : Given = record { names = a.names.now; years = a.years.now; counts = a.counts.now; widths = a.widths.now; text = a.text.now } in
    let fits = c.if-not-lists_fit.ensures in
    record { counted = (lists g fits).counts_fit; closed = (counted g fits c.in_default.ensures).closed }

pub returns-then-not-text_fits : goal.returns-then-not-text_fits
returns-then-not-text_fits c =
    let a = c.args in
    let g : Given = record { names = a.names.now; years = a.years.now; counts = a.counts.now; widths = a.widths.now; text = a.text.now } in
    let fits = c.if-not-lists_fit.ensures in
    let all = c.in_default.ensures in
    ends_refused g (text-short g (sym fits) (all_writable g fits all) (room g fits all c.if-not-text_fits.ensures))

pub put_all-requires : goal.put_all-requires
put_all-requires c =
    let a = c.args in
    let g : Given = record { names = a.names.now; years = a.years.now; counts = a.counts.now; widths = a.widths.now; text = a.text.now } in
    let fits = c.if-not-lists_fit.ensures in
    let all = c.in_default.ensures in
    record { lists = sym fits; writable = all_writable g fits all; fits = leb-true _ _ (room g fits all c.if-not-text_fits.ensures) }

pub returns : goal.returns
returns c =
    let a = c.args in
    let g : Given = record { names = a.names.now; years = a.years.now; counts = a.counts.now; widths = a.widths.now; text = a.text.now } in
    let fits = c.if-not-lists_fit.ensures in
    let all = c.in_default.ensures in
    let has_room = room g fits all c.if-not-text_fits.ensures in
    ends-written g (text-answers g (sym fits) (all_writable g fits all) has_room) (leb-true _ _ has_room) c.put_all.ensures
