-- Each line is good, is written where it belongs, and leaves the lines behind it to be written.
use Rattle.std.proofs.Common.{◌≡◌, ℕ, ◌+◌, ◌≤◌, true, arith, rules, refl, sym, ◌∙◌, w32}
use Rattle.std.proofs.Math.Option as math
use Rattle.std.proofs.Math.Seq.{slice}
use Rattle.std.specs.Prelude.{Some}
use Rattle.std.specs.Option.{IsSome}
use mir.Val.{SFits}
use Rattle.base_exact.proofs.Word.{to_z-of_z}
use Rattle.base_text.specs.Bytes.{Text}
use Rattle.spec_tucson.specs.Line.{Line, good_line}
use Rattle.tucson_lines.specs.Machine.{line_told, LineEnd}
use Rattle.tucson_lines.specs.declared.LineNumbers.{LineNumbers}
use Rattle.tucson_lines.proofs.GoodLines.{GoodLine, good-line, IsLine, line_some}
use Rattle.tucson_scan.proofs.Passing.{says}
use Rattle.tucson_read.proofs.Writes.{writes_start, writes_end, never_bad}
use Rattle.tucson_read.proofs.Writes.{more_ready, writes_more, last-ready, convert-ready, enter-ready, writes-last}
use Rattle.tucson_read.proofs.write.Goals as goal

some_told : (o : math.Option Line) → (o ≡ math.none → ⊥) → IsSome (line_told o)
unfolding line_told
some_told math.none h = absurd (h refl)
some_told (math.some l) h = refl

-- the line that ends there, told so
module _ (text : Text) (from end : ℕ) (at : LineEnd text from end) (r : LineNumbers)
    (told : line_told (good_line true (slice from (end + 1) text)) ≡ Some r) where
  is_line : IsLine (good_line true (slice from (end + 1) text)) r
  is_line = line_some _ r told

  good : GoodLine text from end is_line.line
  good = good-line text from end at is_line.line is_line.is

  some_field : 1 ≤ r.count
  some_field = omega (arith, good.some_field, (says is_line.told).count_is)

pub loop-from-init : goal.loop-from-init
loop-from-init c = writes_start _ c.requires

pub unwrap-line-requires : goal.unwrap-line-requires
unwrap-line-requires c =
    let l = c.loop-from in
    let at : LineEnd c.args.text.now l.from c.find-end.result = record { within = l.invariant.within; is = c.find-end.ensures } in
    rw c.line.ensures (some_told _ (never_bad l.invariant at c.loop-from-test.true))

pub goes_on-requires : goal.goes_on-requires
goes_on-requires c =
    let l = c.loop-from in
    let at : LineEnd c.args.text.now l.from c.find-end.result = record { within = l.invariant.within; is = c.find-end.ensures } in
    let g = good c.args.text.now l.from c.find-end.result at c.unwrap-line.result (sym c.line.ensures ∙ c.unwrap-line.ensures) in
    record { longer = omega (arith, g.size); ended = omega (arith, g.ended); named = g.named }

pub fill-requires : goal.fill-requires
fill-requires c =
    let l = c.loop-from in
    let at : LineEnd c.args.text.now l.from c.find-end.result = record { within = l.invariant.within; is = c.find-end.ensures } in
    let told = sym c.line.ensures ∙ c.unwrap-line.ensures in
    more_ready l.invariant at c.loop-from-test.true told (sym c.if-goes_on.ensures)

pub overflow_add-at : goal.overflow_add-at
overflow_add-at c =
    let l = c.loop-from in
    let at : LineEnd c.args.text.now l.from c.find-end.result = record { within = l.invariant.within; is = c.find-end.ensures } in
    let told = sym c.line.ensures ∙ c.unwrap-line.ensures in
    omega (arith, (more_ready l.invariant at c.loop-from-test.true told (sym c.if-goes_on.ensures)).fits)

pub overflow_add-from : goal.overflow_add-from
overflow_add-from c =
    let l = c.loop-from in
    let at : LineEnd c.args.text.now l.from c.find-end.result = record { within = l.invariant.within; is = c.find-end.ensures } in
    let told = sym c.line.ensures ∙ c.unwrap-line.ensures in
    omega (arith, (good c.args.text.now l.from c.find-end.result at c.unwrap-line.result told).ended)

pub loop-from-preserved-then-goes_on : goal.loop-from-preserved-then-goes_on
loop-from-preserved-then-goes_on c =
    let l = c.loop-from in
    let at : LineEnd c.args.text.now l.from c.find-end.result = record { within = l.invariant.within; is = c.find-end.ensures } in
    let told = sym c.line.ensures ∙ c.unwrap-line.ensures in
    let year : SFits w32 c.unwrap-line.result.year = search rules in
    let first : SFits w32 c.first_year-first.result = search rules in
    let since = simp to_z-of_z at c.first_year-first.ensures in
    simp to_z-of_z (writes_more l.invariant at c.loop-from-test.true told (sym c.if-goes_on.ensures) c.fill.ensures since)

pub overflow_sub-line : goal.overflow_sub-line
overflow_sub-line c =
    let l = c.loop-from in
    let at : LineEnd c.args.text.now l.from c.find-end.result = record { within = l.invariant.within; is = c.find-end.ensures } in
    let told = sym c.line.ensures ∙ c.unwrap-line.ensures in
    some_field c.args.text.now l.from c.find-end.result at c.unwrap-line.result told

pub fill-requires-in-loop-from : goal.fill-requires-in-loop-from
fill-requires-in-loop-from c =
    let l = c.loop-from in
    let at : LineEnd c.args.text.now l.from c.find-end.result = record { within = l.invariant.within; is = c.find-end.ensures } in
    let told = sym c.line.ensures ∙ c.unwrap-line.ensures in
    last-ready l.invariant at c.loop-from-test.true told (sym c.if-goes_on.ensures)

pub overflow_sub-at : goal.overflow_sub-at
overflow_sub-at c =
    let l = c.loop-from in
    let at : LineEnd c.args.text.now l.from c.find-end.result = record { within = l.invariant.within; is = c.find-end.ensures } in
    let told = sym c.line.ensures ∙ c.unwrap-line.ensures in
    some_field c.args.text.now l.from c.find-end.result at c.unwrap-line.result told

pub overflow_add-at-in-loop-from : goal.overflow_add-at-in-loop-from
overflow_add-at-in-loop-from c =
    let l = c.loop-from in
    let at : LineEnd c.args.text.now l.from c.find-end.result = record { within = l.invariant.within; is = c.find-end.ensures } in
    let told = sym c.line.ensures ∙ c.unwrap-line.ensures in
    omega (arith, (last-ready l.invariant at c.loop-from-test.true told (sym c.if-goes_on.ensures)).fits)

pub convert-requires : goal.convert-requires
convert-requires c =
    let l = c.loop-from in
    let at : LineEnd c.args.text.now l.from c.find-end.result = record { within = l.invariant.within; is = c.find-end.ensures } in
    let told = sym c.line.ensures ∙ c.unwrap-line.ensures in
    convert-ready l.invariant at c.loop-from-test.true told (sym c.if-goes_on.ensures) c.fill-in-loop-from.ensures

pub enter-requires : goal.enter-requires
enter-requires c =
    let l = c.loop-from in
    let at : LineEnd c.args.text.now l.from c.find-end.result = record { within = l.invariant.within; is = c.find-end.ensures } in
    let told = sym c.line.ensures ∙ c.unwrap-line.ensures in
    enter-ready l.invariant at c.loop-from-test.true told (sym c.if-goes_on.ensures) c.fill-in-loop-from.ensures

pub overflow_add-from-in-loop-from : goal.overflow_add-from-in-loop-from
overflow_add-from-in-loop-from c =
    let l = c.loop-from in
    let at : LineEnd c.args.text.now l.from c.find-end.result = record { within = l.invariant.within; is = c.find-end.ensures } in
    let told = sym c.line.ensures ∙ c.unwrap-line.ensures in
    omega (arith, (good c.args.text.now l.from c.find-end.result at c.unwrap-line.result told).ended)

pub loop-from-preserved : goal.loop-from-preserved
loop-from-preserved c =
    let l = c.loop-from in
    let at : LineEnd c.args.text.now l.from c.find-end.result = record { within = l.invariant.within; is = c.find-end.ensures } in
    let told = sym c.line.ensures ∙ c.unwrap-line.ensures in
    let year : SFits w32 c.unwrap-line.result.year = search rules in
    let last : SFits w32 c.unwrap-line.result.last = search rules in
    let first : SFits w32 c.first_year-first.result = search rules in
    let converted = simp to_z-of_z at c.convert.ensures in
    let since = simp to_z-of_z at c.first_year-first.ensures in
    let entered = simp to_z-of_z at c.enter.ensures in
    writes-last l.invariant at c.loop-from-test.true told (sym c.if-goes_on.ensures) c.fill-in-loop-from.ensures converted since entered _

pub returns : goal.returns
returns c =
    let w = writes_end c.loop-from.invariant c.loop-from-test.false in
    record { names_are = w.names_are; years_are = w.years_are; counts_are = w.counts_are; widths_are = w.widths_are }
