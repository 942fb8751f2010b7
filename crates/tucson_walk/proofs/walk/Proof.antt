-- One raw line after another.
use Prim.Native.Nat.{◌+◌, ◌-◌, ◌<◌, ◌≤◌}
use native.Mathlib.Omega.{arith}
use lib.ListN.{length}
use Rattle.base_text.specs.Bytes.{Text}
use Rattle.tucson_lines.specs.Machine.{LineEnd}
use Rattle.tucson_lines.proofs.Lines.{end_within}
use Rattle.tucson_walk.proofs.SoFar.{SoFar, so_far_start, far_from, so_far_next, walked_all}
use Rattle.tucson_walk.proofs.walk.Statement.{statement}
use Rattle.tucson_walk.proofs.walk.Tie as tie

abbrev invariant-loop : tie.invariant-loop-from
invariant-loop text early header unit at out₀ lines₀ notes₀ turn₀ from₀ number₀ out lines notes turn from number =
    SoFar unit header early text at out₀ out lines₀ lines notes₀ notes turn from number

abbrev decreases-loop : tie.decreases-loop-from
decreases-loop text early header unit at out₀ lines₀ notes₀ turn₀ from₀ number₀ out lines notes turn from number = length text + 1 - from

loop-holds : tie.Need-loop-from-init invariant-loop decreases-loop
loop-holds c =
    let a = c.args in
    so_far_start a.unit a.header a.early a.text.now a.at a.out.now a.lines.now a.notes.now

find-requires : tie.Need-find-end-requires invariant-loop decreases-loop
find-requires c κs = let m = c.loop-from-test.true in omega arith

module _ (c : tie.After-find-end invariant-loop decreases-loop) where
  abbrev l : tie.At-loop-from invariant-loop decreases-loop
  l = c.before.before

  abbrev s : tie.Start invariant-loop decreases-loop
  s = l.before.before.before.before.before

  abbrev text : Text
  text = s.args.text.now

  more : l.loop-from.from < length text
  more = c.loop-from-test.true

  line_end : LineEnd text l.loop-from.from c.find-end.result
  line_end = record { within = let m = more in omega arith; is = c.find-end.ensures }

  sizes : (l.loop-from.from ≤ c.find-end.result) × (c.find-end.result ≤ length text)
  sizes = end_within text l.loop-from.from c.find-end.result line_end

step-requires : tie.Need-step-turn-requires invariant-loop decreases-loop
step-requires c κs =
    let f = c in
    record { line = line_end f.before.before.before; more = more f.before.before.before; near = far_from (l f.before.before.before).loop-from.invariant (s f.before.before.before).requires }

-- behind a step
module _ (c : tie.After-step-turn invariant-loop decreases-loop) where
  abbrev f : tie.After-find-end invariant-loop decreases-loop
  f = c.before.before.before.before

add-from : tie.Need-overflow_add-from invariant-loop decreases-loop
add-from c = let k = c in omega (arith, sizes (f k.before.before.before.before.before.before), (s (f k.before.before.before.before.before.before)).well_formed)

add-number : tie.Need-overflow_add-number invariant-loop decreases-loop
add-number c = let k = c in omega (arith, (l (f k.before.before.before.before.before.before)).loop-from.invariant.fewer, (s (f k.before.before.before.before.before.before)).requires.few)

loop-less : tie.Need-loop-from-smaller invariant-loop decreases-loop
loop-less c = let k = c in omega (arith, sizes (f k.before.before.before.before.before.before), more (f k.before.before.before.before.before.before))

loop-again : tie.Need-loop-from-preserved invariant-loop decreases-loop
loop-again c =
    let k = c in
    so_far_next (l (f k.before.before.before.before.before.before)).loop-from.invariant (line_end (f k.before.before.before.before.before.before)) (more (f k.before.before.before.before.before.before)) k.step-turn.ensures k.step-turn.auto.out
    k.step-turn.auto.lines k.step-turn.auto.notes

same_length : tie.Need-shape_of-out invariant-loop decreases-loop
same_length c = c.loop-from.invariant.out_long

same-length-2 : tie.Need-shape_of-lines invariant-loop decreases-loop
same-length-2 c = c.loop-from.invariant.lines_long

same-length-3 : tie.Need-shape_of-notes invariant-loop decreases-loop
same-length-3 c = c.loop-from.invariant.notes_long

returns : tie.Need-returns invariant-loop decreases-loop
returns c =
    let i = c.loop-from.invariant in
    record { near = omega (arith, i.cells_near, i.fewer); told = λ ks e. walked_all i c.loop-from-test.false ks e }

pub walk_spec : {M : Type 1} → statement M
walk_spec =
    tie.close
    (tie.spec
    invariant-loop
    decreases-loop
    loop-holds
    find-requires
    step-requires
    add-from
    add-number
    loop-less
    loop-again
    same_length
    same-length-2
    same-length-3
    returns)
