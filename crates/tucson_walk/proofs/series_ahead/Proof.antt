-- One line after another, as long as the next one has the name.
use borrow.Author.Tests.{not-true, not-false}
use mathlib.Core.Path.{◌≡◌, sym}
use mathlib.Core.Bool.{true}
use Prim.Native.Nat.{◌+◌, ◌-◌}
use native.Mathlib.Omega.{arith}
use lib.ListN.{length}
use lib.Seq.{length-take-le}
use Rattle.tucson_walk.proofs.NextLines.{stands_long}
use Rattle.tucson_walk.proofs.Looking.{Looks, looks_start, looks_next, looks_last}
use Rattle.tucson_walk.proofs.series_ahead.Statement.{statement}
use Rattle.tucson_walk.proofs.series_ahead.Tie as tie

abbrev invariant-loop : tie.invariant-loop-next
invariant-loop text past n unit old₀ size₀ at₀ count₀ old size at count = Looks unit text past old₀ n at old size count

abbrev decreases-loop : tie.decreases-loop-next
decreases-loop text past n unit old₀ size₀ at₀ count₀ old size at count = length text + 1 - at

loop-holds : tie.Need-loop-next-init invariant-loop decreases-loop
loop-holds c =
    let s = c in
    looks_start s.args.unit s.args.text.now s.args.past s.args.line s.args.n s.requires.within s.requires.stands

array-share-prefix-old : tie.Need-slice_bounds-old-end invariant-loop decreases-loop
array-share-prefix-old c = c.loop-next.invariant.stands.fits

slice-aggregate-follow : tie.Need-slice_bounds-follow-end invariant-loop decreases-loop
slice-aggregate-follow c = let l = c.loop-next in sym (length-take-le l.size l.old l.invariant.stands.fits)

follow-requires : tie.Need-follow-found-requires invariant-loop decreases-loop
follow-requires c κs =
    let l = c.loop-next in
    record { within = l.invariant.within; named = omega (arith, stands_long l.invariant.stands, length-take-le l.size l.old l.invariant.stands.fits) }

array-share-prefix-old-2 : tie.Need-slice_bounds-old-end-then-not-found invariant-loop decreases-loop
array-share-prefix-old-2 c = c.loop-next.invariant.stands.fits

slice-aggregate-last-ahead : tie.Need-slice_bounds-last_ahead-end invariant-loop decreases-loop
slice-aggregate-last-ahead c =
    let l = c.loop-next in
    sym (length-take-le l.size l.old l.invariant.stands.fits)

last-ahead-requires : tie.Need-last_ahead-requires invariant-loop decreases-loop
last-ahead-requires c κs = c.loop-next.invariant.stands.strict

returns : tie.Need-returns-then-not-found invariant-loop decreases-loop
returns c =
    let t = c in
    let f = t in
    looks_last f.loop-next.invariant f.follow-found.ensures (not-true f.follow-found.result.found t.if-not-found.true) c.last_ahead.ensures

-- a line more
module _ (c : tie.Else-not-found invariant-loop decreases-loop) where
  abbrev f : tie.After-follow-found invariant-loop decreases-loop
  f = c.before.before

  abbrev l : tie.At-loop-next invariant-loop decreases-loop
  l = f.before.before.before

  found : f.follow-found.result.found ≡ true
  found = not-false f.follow-found.result.found c.if-not-found.false

add-count : tie.Need-overflow_add-count invariant-loop decreases-loop
add-count c = omega (arith, (l c).loop-next.invariant.few, (f c).follow-found.ensures.within, (f c).follow-found.ensures.further (found c), (l c).well_formed)

loop-less : tie.Need-loop-next-smaller invariant-loop decreases-loop
loop-less c = omega (arith, (f c).follow-found.ensures.within, (f c).follow-found.ensures.further (found c))

loop-again : tie.Need-loop-next-preserved invariant-loop decreases-loop
loop-again c = looks_next (l c).loop-next.invariant (f c).follow-found.ensures (found c)

pub series_ahead_spec : {M : Type 1} → statement M
series_ahead_spec =
    tie.close
    (tie.spec
    invariant-loop
    decreases-loop
    loop-holds
    array-share-prefix-old
    slice-aggregate-follow
    follow-requires
    array-share-prefix-old-2
    slice-aggregate-last-ahead
    last-ahead-requires
    returns
    add-count
    loop-less
    loop-again)
