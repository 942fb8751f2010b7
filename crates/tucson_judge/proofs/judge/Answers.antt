-- Each kind of code has its step, and together they keep the verdict.
use Rattle.std.proofs.Common.{arith, Bool, cond, ◌&&◌, ◌||◌, ◌≡◌, sym, ◌∙◌, ap, ap₂, ℕ}
use mathlib.Core.Option.{some, none}
use mir.Syntax.{w32}
use mir.Val.{SFits}
use Rattle.base_exact.proofs.Word.{to_z-of_z}
use Rattle.base_outcome.specs.Search.{or_else}
use Rattle.spec_tucson.specs.Line.{same, line_in_columns}
use Rattle.spec_tucson.specs.Series.{hundredths}
use Rattle.spec_tucson.specs.CleanSeries.{runs_in, or_fault}
use Rattle.tucson_fields.proofs.LineFields.{stands}
use Rattle.tucson_lines.specs.Machine.{line_found}
use Rattle.tucson_judge.specs.Judging.{mark_found, closing_fault_of}
use Rattle.tucson_judge.proofs.Verdict.{judged_on, judged_closed}
use Rattle.tucson_judge.proofs.judge.Goals as goal

pub runs_in-requires : goal.runs_in-requires
runs_in-requires c = let l = stands c.args.line.now c.requires.strict in omega (arith, l.size)

pub read-reader-requires : goal.read-reader-requires
read-reader-requires c =
    let n = c.numbers-f.ensures.numbers in
    record { year-small = n.year-small; some_field = n.some_field; few = n.few }

-- a line found so far or here, by the words of the line and its number
found_here : (line found number number' : ℕ) (here there : Bool)
    → line_found found ≡ or_else (line_found line) (cond here (some number) none)
    → here ≡ there → number' ≡ number → line_found found ≡ or_else (line_found line) (cond there (some number') none)
found_here line found number number' here there e h n =
    e ∙ ap₂ (λ (b : Bool) (m : ℕ). or_else (line_found line) (cond b (some m) none)) h (sym n)

pub returns-then-goes : goal.returns-then-goes
returns-then-goes c k before b text_is at follows_is tracks =
    let a = c.args in
    let f = c.numbers-f.result in
    let told = c.numbers-f.ensures in
    let line = ap line_in_columns text_is ∙ told.is in
    let fits : SFits w32 f.last = record { sfits = omega arith } in
    let runs = c.runs_in.ensures ∙ ap₂ runs_in c.both-alone.ensures (sym text_is) in
    let nine : c.has_nine.result ≡ (f.nine || (a.goes && same f.last hundredths)) = simp to_z-of_z at c.has_nine.ensures in
    judged_on a.unit k before b told.line f a.j c.first_line-year.result c.first_line-seen.result c.read-reader.result
    a.follows a.goes line told.numbers follows_is
    (found_here a.j.year c.first_line-year.result a.number k.line _ _ c.first_line-year.ensures runs at)
    (found_here a.j.seen c.first_line-seen.result a.number k.line _ _ c.first_line-seen.ensures nine at)
    (c.read-reader.ensures k told.line b at line told.numbers tracks) c.if-goes.true

pub returns : goal.returns
returns c k before b text_is at follows_is tracks =
    let a = c.args in
    let f = c.numbers-f.result in
    let told = c.numbers-f.ensures in
    let line = ap line_in_columns text_is ∙ told.is in
    let fits : SFits w32 f.last = record { sfits = omega arith } in
    let runs = c.runs_in.ensures ∙ ap₂ runs_in c.both-alone.ensures (sym text_is) in
    let nine : c.has_nine.result ≡ (f.nine || (a.goes && same f.last hundredths)) = simp to_z-of_z at c.has_nine.ensures in
    let marked : mark_found c.closing_mark.result
    ≡ or_fault (mark_found a.j.fault) (closing_fault_of a.unit (line_found c.first_line-seen.result) k.line f.last) =
    (simp to_z-of_z at c.closing_mark.ensures)
    ∙ ap (λ (n : ℕ). or_fault (mark_found a.j.fault) (closing_fault_of a.unit (line_found c.first_line-seen.result) n f.last)) (sym at) in
    judged_closed a.unit k before b told.line f a.j c.first_line-year.result c.first_line-seen.result c.read-reader.result
    a.follows a.goes line told.numbers follows_is
    (found_here a.j.year c.first_line-year.result a.number k.line _ _ c.first_line-year.ensures runs at)
    (found_here a.j.seen c.first_line-seen.result a.number k.line _ _ c.first_line-seen.ensures nine at)
    (c.read-reader.ensures k told.line b at line told.numbers tracks) c.closing_mark.result c.if-goes.false marked
