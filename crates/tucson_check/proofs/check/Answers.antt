-- Each raw line is passed over, refused or held, and what is held ends as the whole text does.
use Rattle.std.proofs.Common.{arith, sym, ◌∙◌, ap, subst, ℕ, ◌+◌, drop}
use lib.Seq.{slice}
use mathlib.Core.List.{List}
use mathlib.Core.Option.{Option}
use Rattle.base_outcome.specs.Outcome.{Outcome, refusal}
use Rattle.base_text.specs.Bytes.{Text}
use Rattle.spec_tucson.specs.Line.{lines_of}
use Rattle.spec_tucson.specs.StrictLine.{Kept}
use Rattle.spec_tucson.specs.KeptLines.{kept_lines}
use Rattle.tucson_lines.specs.Machine.{LineEnd}
use Rattle.tucson_lines.proofs.Lines.{end_within}
use Rattle.tucson_check.specs.declared.Held.{Held}
use Rattle.tucson_check.proofs.HeldLines.{holds_strict, holds-numbered, strict_fits}
use Rattle.tucson_check.proofs.Turns.{Checks, checks-start, data_held, checks-next, checks-skip, checks_end}
use Rattle.tucson_check.proofs.check.Goals as goal

pub loop-from-init : goal.loop-from-init
loop-from-init c =
    let a = c.args in
    subst (λ (h : Held). Checks a.body.now a.header a.unit _ _ h 0 1) (sym c.nothing-held.ensures)
    (checks-start a.body.now a.header a.unit _ _)

-- the lines behind a raw line
abbrev later : Text → ℕ → ℕ → ℕ → Option Kept → Outcome (List Kept)
later body header number end before = kept_lines header (number + 1) before (lines_of (drop (end + 1) body))

pub overflow_add-from : goal.overflow_add-from
overflow_add-from c =
    let at : LineEnd c.args.body.now c.loop-from.from c.find-end.result = record { within = omega arith; is = c.find-end.ensures } in
    omega (arith, end_within c.args.body.now c.loop-from.from c.find-end.result at, c.well_formed)

pub loop-from-preserved-then-not-is_data : goal.loop-from-preserved-then-not-is_data
loop-from-preserved-then-not-is_data c =
    let more = c.loop-from-test.true in
    let at : LineEnd c.args.body.now c.loop-from.from c.find-end.result = record { within = omega arith; is = c.find-end.ensures } in
    checks-skip c.loop-from.invariant at more (sym c.is_data.ensures ∙ c.if-not-is_data.true)

pub take_up-taken-requires : goal.take_up-taken-requires
take_up-taken-requires c =
    let i = c.loop-from.invariant in
    let h = c.loop-from.held in
    let raw = slice c.loop-from.from (c.find-end.result + 1) c.args.body.now in
    record {
      fits = strict_fits raw c.strict_line-strict.result c.strict_line-strict.new.bytes c.strict_line-strict.new.line
          c.strict_line-strict.ensures;
      shown-fits = i.held.shown-fits;
      text-fits = i.held.text-fits;
      strict_old = holds_strict c.args.unit h _ _ _ _ h.some i.held.holds;
      numbered = i.numbered;
      numbered-old = holds-numbered c.args.unit h _ _ _ _ h.some i.held.holds;
    }

pub returns-in-Err : goal.returns-in-Err
returns-in-Err c =
    let more = c.loop-from-test.true in
    let at : LineEnd c.args.body.now c.loop-from.from c.find-end.result = record { within = omega arith; is = c.find-end.ensures } in
    let held = data_held c.loop-from.invariant at more (sym c.is_data.ensures ∙ c.if-not-is_data.false) in
    ap (λ (n : ℕ). refusal c.in-Err.code n) c.place.ensures ∙ sym (c.in-Err.ensures _ _
    (later c.args.body.now c.args.header c.loop-from.number c.find-end.result) c.strict_line-strict.ensures held)

pub overflow_add-from-in-loop-from : goal.overflow_add-from-in-loop-from
overflow_add-from-in-loop-from c =
    let at : LineEnd c.args.body.now c.loop-from.from c.find-end.result = record { within = omega arith; is = c.find-end.ensures } in
    omega (arith, end_within c.args.body.now c.loop-from.from c.find-end.result at, c.well_formed)

pub loop-from-preserved : goal.loop-from-preserved
loop-from-preserved c =
    let more = c.loop-from-test.true in
    let at : LineEnd c.args.body.now c.loop-from.from c.find-end.result = record { within = omega arith; is = c.find-end.ensures } in
    let held = data_held c.loop-from.invariant at more (sym c.is_data.ensures ∙ c.if-not-is_data.false) in
    checks-next c.loop-from.invariant at more c.strict_line-strict.new.bytes c.strict_line-strict.new.line c.in-Ok.h
    (c.in-Ok.ensures _ _ (later c.args.body.now c.args.header c.loop-from.number c.find-end.result) c.strict_line-strict.ensures held)

pub returns : goal.returns
returns c = c.finish.ensures _ _ (checks_end c.loop-from.invariant c.loop-from-test.false)
