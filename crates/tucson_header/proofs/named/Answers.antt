-- Each line is counted, and the first strict one found.
use Rattle.std.proofs.Common.{arith, ◌≡◌, sym, ◌∙◌, ap, ℕ, ◌+◌, ◌≤◌, length, drop}
use mathlib.Core.List.{[]}
use lib.ListN.{drop_of_length-le}
use lib.Seq.{slice}
use Rattle.base_outcome.specs.Outcome.{refusal}
use Rattle.base_text.specs.Bytes.{Text}
use Rattle.spec_tucson.specs.Line.{lines_of}
use Rattle.tucson_lines.specs.Machine.{LineEnd}
use Rattle.tucson_lines.proofs.Lines.{end_within, lines_step}
use Rattle.tucson_header.proofs.HeaderLines.{named_from, named_start, named-short, named-next, named_refused, named-ends}
use Rattle.tucson_header.proofs.named.Goals as goal

pub loop-done-init : goal.loop-done-init
loop-done-init c = record { within = omega arith; below = omega arith; ends = named_start c.args.h (lines_of c.args.body.now) }

no_lines : (body : Text) (from : ℕ) → length body ≤ from → lines_of (drop from body) ≡ []
unfolding lines_of
no_lines body from h = ap lines_of (drop_of_length-le body h)

pub returns-then-body-from : goal.returns-then-body-from
returns-then-body-from c =
    let i = c.loop-done in
    named-short c.args.h i.done i.found c.loop-done-test.true
    ∙ sym (i.invariant.ends ∙ ap (named_from c.args.h i.done i.found) (no_lines c.args.body.now i.from c.if-body-from.true))

pub overflow_add-from : goal.overflow_add-from
overflow_add-from c =
    let at : LineEnd c.args.body.now c.loop-done.from c.find-end.result = record { within = omega arith; is = c.find-end.ensures } in
    omega (arith, end_within c.args.body.now c.loop-done.from c.find-end.result at, c.well_formed)

pub loop-done-preserved : goal.loop-done-preserved
loop-done-preserved c =
    let i = c.loop-done in
    let body = c.args.body.now in
    let end = c.find-end.result in
    let at : LineEnd body i.from end = record { within = omega arith; is = c.find-end.ensures } in
    let sizes = end_within body i.from end at in
    record {
      within = omega (arith, sizes);
      below = omega (arith, sizes, i.invariant.below);
      ends =
          i.invariant.ends ∙ ap (named_from c.args.h i.done i.found) (lines_step body i.from end at c.if-body-from.false)
          ∙ named-next c.args.h i.done i.found c.strict_found-found.result (slice i.from (end + 1) body) (lines_of (drop (end + 1) body))
          c.loop-done-test.true c.strict_found-found.ensures;
    }

pub returns-then-found-ne0 : goal.returns-then-found-ne0
returns-then-found-ne0 c =
    let i = c.loop-done in
    ap (λ (n : ℕ). refusal 26 n) c.place.ensures
    ∙ named_refused c.args.h i.done i.found (lines_of (drop i.from c.args.body.now)) (omega arith) c.if-found-ne0.true
    ∙ sym i.invariant.ends

pub returns : goal.returns
returns c =
    let i = c.loop-done in
    named-ends c.args.h i.done i.found (lines_of (drop i.from c.args.body.now)) (omega arith) c.if-found-ne0.false ∙ sym i.invariant.ends
