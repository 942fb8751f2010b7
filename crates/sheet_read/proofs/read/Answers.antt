-- What the scan found is refused, or written list by list.
use Rattle.std.proofs.Common.{arith}
use Rattle.std.proofs.lemmas.Result.{err_from_is_err_and}
use Rattle.spec_sheet.specs.SheetReading.{read}
use Rattle.sheet_read.proofs.Sheets.{scanned-refusal, scanned_lists}
use Rattle.sheet_read.proofs.Answers.{refused, answered, numerals-at, pairs_at, fill_ready, fills}
use Rattle.sheet_read.proofs.read.Goals as goal

pub returns-in_err-spans : goal.returns-in_err-spans
returns-in_err-spans c =
    let t = c.args.text.now in
    let p = err_from_is_err_and c.from_residual.result c.from_residual.ensures.1 in
    rw (p.1, p.2) (refused t (scanned-refusal t (read t) c.in_err-spans.ensures))

pub fill-requires : goal.fill-requires
fill-requires c =
    let lists = scanned_lists c.args.text.now (read c.args.text.now) c.in_ok-spans.ensures in
    fill_ready (numerals-at lists.2.breaks) (omega arith)

pub fill-requires-2 : goal.fill-requires-2
fill-requires-2 c =
    let lists = scanned_lists c.args.text.now (read c.args.text.now) c.in_ok-spans.ensures in
    fill_ready (numerals-at lists.2.degrees) (omega arith)

pub fill-requires-3 : goal.fill-requires-3
fill-requires-3 c =
    let lists = scanned_lists c.args.text.now (read c.args.text.now) c.in_ok-spans.ensures in
    fill_ready (numerals-at lists.2.orders) (omega arith)

pub fill-requires-4 : goal.fill-requires-4
fill-requires-4 c =
    let lists = scanned_lists c.args.text.now (read c.args.text.now) c.in_ok-spans.ensures in
    fill_ready (pairs_at lists.2.coefs) (omega arith)

pub fill-requires-5 : goal.fill-requires-5
fill-requires-5 c =
    let lists = scanned_lists c.args.text.now (read c.args.text.now) c.in_ok-spans.ensures in
    fill_ready (numerals-at lists.2.positions) (omega arith)

pub returns : goal.returns
returns c =
    let t = c.args.text.now in
    let lists = scanned_lists t (read t) c.in_ok-spans.ensures in
    answered t lists.1
    (fills (numerals-at lists.2.breaks) c.fill.ensures)
    (fills (numerals-at lists.2.degrees) c.fill-2.ensures)
    (fills (numerals-at lists.2.orders) c.fill-3.ensures)
    (fills (pairs_at lists.2.coefs) c.fill-4.ensures)
    (fills (numerals-at lists.2.positions) c.fill-5.ensures)
