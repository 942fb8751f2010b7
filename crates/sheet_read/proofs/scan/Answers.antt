-- Each good line leads to the next one's place, and the first bad one to its refusal.
use Rattle.std.proofs.Common.{arith, refl}
use Rattle.std.proofs.lemmas.Result.{err_from_is_err_and}
use Rattle.base_outcome.specs.Outcome.{capped}
use Rattle.base_text.specs.Numeral.{numeral}
use Rattle.spec_sheet.specs.SheetReading.{pair, degrees_key, orders_key, coefs_key, at_key}
use Rattle.spec_sheet.proofs.FiveLines.{read_long}
use Rattle.sheet_read.proofs.Sheets.{first-line, first-bad, next-line, next-bad, last_line, last_more, scan_refused, scan_lists}
use Rattle.sheet_read.proofs.scan.Goals as goal

pub returns-then-text-gt-SHEET_LIMIT : goal.returns-then-text-gt-SHEET_LIMIT
unfolding capped
returns-then-text-gt-SHEET_LIMIT c = scan_refused c.args.text.now (read_long c.args.text.now (omega arith))

pub returns-in_err-breaks : goal.returns-in_err-breaks
returns-in_err-breaks c =
    let t = c.args.text.now in
    let p = err_from_is_err_and c.from_residual.result c.from_residual.ensures.1 in
    rw (p.1, p.2) (first-bad t c.if-text-gt-SHEET_LIMIT.false c.line.result c.line.ensures c.in_err-breaks.ensures.value)

pub returns-in_err-degrees : goal.returns-in_err-degrees
unfolding capped
returns-in_err-degrees c =
    let t = c.args.text.now in
    let p = err_from_is_err_and c.from_residual-in_err-degrees.result c.from_residual-in_err-degrees.ensures.1 in
    let one = first-line t c.if-text-gt-SHEET_LIMIT.false c.line.result c.line.ensures c.in_ok-breaks.ensures.value in
    rw (p.1, p.2) (next-bad numeral numeral t 2 degrees_key _ _ one c.line-2.result c.line-2.ensures refl c.in_err-degrees.ensures.value)

pub returns-in_err-orders : goal.returns-in_err-orders
unfolding capped
returns-in_err-orders c =
    let t = c.args.text.now in
    let p = err_from_is_err_and c.from_residual-in_err-orders.result c.from_residual-in_err-orders.ensures.1 in
    let one = first-line t c.if-text-gt-SHEET_LIMIT.false c.line.result c.line.ensures c.in_ok-breaks.ensures.value in
    let two = next-line numeral numeral t 2 degrees_key _ _ one c.line-2.result c.line-2.ensures c.in_ok-degrees.ensures.value in
    rw (p.1, p.2) (next-bad numeral numeral t 3 orders_key _ _ two c.line-3.result c.line-3.ensures refl c.in_err-orders.ensures.value)

pub returns-in_err-coefs : goal.returns-in_err-coefs
unfolding capped
returns-in_err-coefs c =
    let t = c.args.text.now in
    let p = err_from_is_err_and c.from_residual-in_err-coefs.result c.from_residual-in_err-coefs.ensures.1 in
    let one = first-line t c.if-text-gt-SHEET_LIMIT.false c.line.result c.line.ensures c.in_ok-breaks.ensures.value in
    let two = next-line numeral numeral t 2 degrees_key _ _ one c.line-2.result c.line-2.ensures c.in_ok-degrees.ensures.value in
    let three = next-line numeral numeral t 3 orders_key _ _ two c.line-3.result c.line-3.ensures c.in_ok-orders.ensures.value in
    rw (p.1, p.2) (next-bad numeral pair t 4 coefs_key _ _ three c.line-4.result c.line-4.ensures refl c.in_err-coefs.ensures.value)

pub returns-in_err-positions : goal.returns-in_err-positions
unfolding capped
returns-in_err-positions c =
    let t = c.args.text.now in
    let p = err_from_is_err_and c.from_residual-in_err-positions.result c.from_residual-in_err-positions.ensures.1 in
    let one = first-line t c.if-text-gt-SHEET_LIMIT.false c.line.result c.line.ensures c.in_ok-breaks.ensures.value in
    let two = next-line numeral numeral t 2 degrees_key _ _ one c.line-2.result c.line-2.ensures c.in_ok-degrees.ensures.value in
    let three = next-line numeral numeral t 3 orders_key _ _ two c.line-3.result c.line-3.ensures c.in_ok-orders.ensures.value in
    let four = next-line numeral pair t 4 coefs_key _ _ three c.line-4.result c.line-4.ensures c.in_ok-coefs.ensures.value in
    rw (p.1, p.2) (next-bad pair numeral t 5 at_key _ _ four c.line-5.result c.line-5.ensures refl c.in_err-positions.ensures.value)

pub returns-then-positions-text : goal.returns-then-positions-text
unfolding capped
returns-then-positions-text c =
    let t = c.args.text.now in
    let one = first-line t c.if-text-gt-SHEET_LIMIT.false c.line.result c.line.ensures c.in_ok-breaks.ensures.value in
    let two = next-line numeral numeral t 2 degrees_key _ _ one c.line-2.result c.line-2.ensures c.in_ok-degrees.ensures.value in
    let three = next-line numeral numeral t 3 orders_key _ _ two c.line-3.result c.line-3.ensures c.in_ok-orders.ensures.value in
    let four = next-line numeral pair t 4 coefs_key _ _ three c.line-4.result c.line-4.ensures c.in_ok-coefs.ensures.value in
    let five = next-line pair numeral t 5 at_key _ _ four c.line-5.result c.line-5.ensures c.in_ok-positions.ensures.value in
    scan_refused t (last_more t _ _ five (λ e. omega (arith, e)))

pub returns : goal.returns
returns c =
    let t = c.args.text.now in
    let one = first-line t c.if-text-gt-SHEET_LIMIT.false c.line.result c.line.ensures c.in_ok-breaks.ensures.value in
    let two = next-line numeral numeral t 2 degrees_key _ _ one c.line-2.result c.line-2.ensures c.in_ok-degrees.ensures.value in
    let three = next-line numeral numeral t 3 orders_key _ _ two c.line-3.result c.line-3.ensures c.in_ok-orders.ensures.value in
    let four = next-line numeral pair t 4 coefs_key _ _ three c.line-4.result c.line-4.ensures c.in_ok-coefs.ensures.value in
    let five = next-line pair numeral t 5 at_key _ _ four c.line-5.result c.line-5.ensures c.in_ok-positions.ensures.value in
    scan_lists t _ (last_line t _ _ five (omega arith)) (record {
      breaks = one.spans.list;
      degrees = two.spans.list;
      orders = three.spans.list;
      coefs = four.spans.list;
      positions = five.spans.list;
    })
