-- Each blank line is passed over.
use mathlib.Core.Path.{sym, ◌∙◌}
use Prim.Native.Nat.{◌+◌, ◌-◌, ◌<◌, ◌≤◌}
use native.Mathlib.Omega.{arith}
use lib.ListN.{length}
use Rattle.tucson_lines.specs.Machine.{LineEnd}
use Rattle.tucson_lines.proofs.Lines.{end_within}
use Rattle.tucson_walk.specs.Skipping.{Passed}
use Rattle.tucson_walk.proofs.Skips.{passed_none, passed-line, skipped_at, skipped_all}
use Rattle.tucson_walk.proofs.skip_blank.Statement.{statement}
use Rattle.tucson_walk.proofs.skip_blank.Tie as tie

abbrev invariant-loop : tie.invariant-loop-at
invariant-loop text from at₀ at = Passed text from at

abbrev decreases-loop : tie.decreases-loop-at
decreases-loop text from at₀ at = length text + 1 - at

loop-holds : tie.Need-loop-at-init invariant-loop decreases-loop
loop-holds c = passed_none c.args.text.now c.args.from c.requires

find-requires : tie.Need-find-end-requires invariant-loop decreases-loop
find-requires c κs = let m = c.loop-at-test.true in omega arith

module _ (c : tie.After-find-end invariant-loop decreases-loop) where
  abbrev l : tie.At-loop-at invariant-loop decreases-loop
  l = c.before.before

  abbrev s : tie.Start invariant-loop decreases-loop
  s = l.before.before

  more : l.loop-at.at < length s.args.text.now
  more = c.loop-at-test.true

  line_end : LineEnd s.args.text.now l.loop-at.at c.find-end.result
  line_end = record { within = let m = more in omega arith; is = c.find-end.ensures }

  sizes : (l.loop-at.at ≤ c.find-end.result) × (c.find-end.result ≤ length s.args.text.now)
  sizes = end_within s.args.text.now l.loop-at.at c.find-end.result line_end

returns : tie.Need-returns-then-not-is_blank_line invariant-loop decreases-loop
returns c =
    let b = c in
    let f = b in
    record { skipped = skipped_at (l f.before.before).loop-at.invariant (line_end f.before.before) (sym b.is_blank_line.ensures ∙ c.if-not-is_blank_line.true); ends = λ more. line_end f.before.before }

add_at : tie.Need-overflow_add-at invariant-loop decreases-loop
add_at c = let f = c in omega (arith, sizes f.before.before, (s f.before.before).well_formed)

loop-less : tie.Need-loop-at-smaller invariant-loop decreases-loop
loop-less c = let f = c in omega (arith, sizes f.before.before, more f.before.before)

loop-again : tie.Need-loop-at-preserved invariant-loop decreases-loop
loop-again c =
    let b = c in
    let f = b in
    passed-line (l f.before.before).loop-at.invariant (line_end f.before.before) (more f.before.before) (sym b.is_blank_line.ensures ∙ c.if-not-is_blank_line.false)

returns-2 : tie.Need-returns invariant-loop decreases-loop
returns-2 c = record { skipped = skipped_all c.loop-at.invariant c.loop-at-test.false; ends = λ more. absurd (omega (arith, more, c.loop-at-test.false)) }

pub skip_blank_spec : {M : Type 1} → statement M
skip_blank_spec =
    tie.close
    (tie.spec
    invariant-loop
    decreases-loop
    loop-holds
    find-requires
    (λ c κs. line_end c)
    returns
    add_at
    loop-less
    loop-again
    returns-2)
