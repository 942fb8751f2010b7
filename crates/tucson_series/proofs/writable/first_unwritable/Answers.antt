-- The series that fails the tests is the first one; one that passes them leaves the answer to those behind it.
use Rattle.std.proofs.Common.{◌≡◌, ℕ, ◌-◌, ◌≤◌, Bool, List, take, drop, get_or, arith, rules, refl, sym, ◌∙◌, ap, ℤ, pos, w32, to_z, of_z}
use Rattle.std.proofs.Math.Seq.{slice}
use mir.Val.{SFits}
use Rattle.base_exact.proofs.Word.{to_z-of_z}
use Rattle.base_outcome.specs.Machine.{found}
use Rattle.base_text.specs.Bytes.{Text}
use Rattle.spec_tucson.specs.Writing.{is_writable, first_unwritable}
use Rattle.theorems_tucson.proofs.TucsonCells.{fits-parts}
use Rattle.tucson_series.specs.Sizes.{series}
use Rattle.tucson_series.proofs.Tests.{part_is}
use Rattle.tucson_series.proofs.Walk.{walk_begins, walk_more, widths_within, series-step, series_end}
use Rattle.tucson_series.proofs.Unwritable.{unwritable-here, unwritable-later, unwritable-none}
use Rattle.tucson_series.proofs.writable.first_unwritable.Goals as goal

-- what the tests say of the year and of the part of the widths that the machine lends
told : {b : Bool} (before name : Text) (year : ℤ) (from to : ℕ) (widths : List ℤ) → SFits w32 year → from ≤ to
    → b ≡ is_writable before (series name (to_z w32 (of_z w32 year)) (take (to - from) (drop from widths)))
    → is_writable before (series name year (slice from to widths)) ≡ b
told before name year from to widths f h e = sym (rw (to_z-of_z w32 year f, part_is from to widths h) at e)

pub loop-k-init : goal.loop-k-init
loop-k-init c =
    let a = c.args in
    let fit = fits-parts a.names.now a.years.now a.counts.now a.widths.now c.requires in
    record { walked = walk_begins fit; ordered = omega arith; same = refl }

pub slice_bounds-is_writable-end : goal.slice_bounds-is_writable-end
slice_bounds-is_writable-end c = omega (arith, widths_within c.loop-k.invariant.walked c.loop-k-test.true)

pub returns-then-not-is_writable : goal.returns-then-not-is_writable
unfolding found
returns-then-not-is_writable c =
    let l = c.loop-k in
    let year : SFits w32 (get_or c.args.years.now l.k (pos 0)) = search rules in
    let tests = told _ _ _ l.from _ c.args.widths.now year (omega arith) c.if-not-is_writable.ensures in
    rw (l.invariant.same, series-step l.invariant.walked c.loop-k-test.true, unwritable-here l.k _ _ _ tests)

pub loop-k-preserved : goal.loop-k-preserved
loop-k-preserved c =
    let l = c.loop-k in
    let year : SFits w32 (get_or c.args.years.now l.k (pos 0)) = search rules in
    let tests = told _ _ _ l.from _ c.args.widths.now year (omega arith) c.if-not-is_writable.ensures in
    record {
      walked = walk_more l.invariant.walked c.loop-k-test.true;
      ordered = omega arith;
      same =
          l.invariant.same ∙ ap (first_unwritable l.k _) (series-step l.invariant.walked c.loop-k-test.true)
          ∙ unwritable-later l.k _ _ _ tests;
    }

pub returns : goal.returns
unfolding found
returns c =
    let l = c.loop-k in
    rw (l.invariant.same, series_end l.invariant.walked (omega arith), unwritable-none l.k (slice l.before l.at c.args.names.now))
