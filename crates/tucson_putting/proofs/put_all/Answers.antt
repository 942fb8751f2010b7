-- Each turn puts the series at its index.
use Rattle.std.proofs.Common.{◌+◌, refl, [], length, get_or, pos, arith, rules}
use Rattle.std.proofs.lemmas.Int.{to_z-of_z}
use Rattle.std.proofs.lemmas.List.{length_push}
use Rattle.std.proofs.lemmas.Slice.Zip.{zip_turn, zip_end}
use mir.Syntax.{w32}
use mir.Val.{SFits}
use Rattle.spec_tucson.specs.Line.{name_columns}
use Rattle.theorems_tucson.proofs.TucsonCells.{fits-parts}
use Rattle.tucson_series.proofs.Tests.{part_is}
use Rattle.tucson_series.proofs.Walk.{walk_begins, widths_within}
use Rattle.tucson_putting.proofs.Wrote.{wrote_none}
use Rattle.tucson_putting.proofs.AllPut.{series-asks, series-put, all_put}
use Rattle.tucson_putting.proofs.put_all.Goals as goal

pub loop-year-init : goal.loop-year-init
loop-year-init c =
    let a = c.args in
    record {
      walked = walk_begins (fits-parts a.names.now a.years.now a.counts.now a.widths.now c.requires.lists);
      before = [];
      allowed = c.requires.writable;
      so_far = [];
      whole = refl;
      wrote = wrote_none _ _;
    }

pub slice_bounds-put_series-end-in-loop-year : goal.slice_bounds-put_series-end-in-loop-year
slice_bounds-put_series-end-in-loop-year c =
    let a = c.args in
    let l = c.loop-year in
    let start = c.into_iter-year-iterator.result in
    let t =
    zip_turn a.years.now a.counts.now l.yielded start l.year-iterator c.next.new.self _ (cc) (cc)
    l.yielded_by _ c.in-Some.is c.next.ensures.steps in
    omega (arith, t.3 0, widths_within l.invariant.walked t.0)

pub put_series-next-requires : goal.put_series-next-requires
put_series-next-requires c =
    let a = c.args in
    let l = c.loop-year in
    let k = length l.yielded in
    let start = c.into_iter-year-iterator.result in
    let t =
    zip_turn a.years.now a.counts.now l.yielded start l.year-iterator c.next.new.self _ (cc) (cc)
    l.yielded_by _ c.in-Some.is c.next.ensures.steps in
    let f : SFits w32 c.in-Some.year.now = search rules in
    let name_is = part_is l.at (l.at + name_columns) a.names.now (omega arith) in
    let widths_are = part_is l.from (l.from + get_or a.counts.now k 0) a.widths.now (omega arith) in
    simp to_z-of_z (rw (t.2 (pos 0), t.3 0, name_is, widths_are) (series-asks l.invariant t.0 c.requires.fits))

pub loop-year-preserved : goal.loop-year-preserved
loop-year-preserved c =
    let a = c.args in
    let l = c.loop-year in
    let k = length l.yielded in
    let start = c.into_iter-year-iterator.result in
    let t =
    zip_turn a.years.now a.counts.now l.yielded start l.year-iterator c.next.new.self _ (cc) (cc)
    l.yielded_by _ c.in-Some.is c.next.ensures.steps in
    let f : SFits w32 c.in-Some.year.now = search rules in
    let name_is = part_is l.at (l.at + name_columns) a.names.now (omega arith) in
    let widths_are = part_is l.from (l.from + get_or a.counts.now k 0) a.widths.now (omega arith) in
    let put = rw (t.2 (pos 0), t.3 0, name_is, widths_are) at (simp to_z-of_z at c.put_series-next.ensures) in
    rw (length_push, t.3 0) (series-put l.invariant t.0 put)

pub returns : goal.returns
returns c =
    let a = c.args in
    let l = c.loop-year in
    let start = c.into_iter-year-iterator.result in
    let n =
    zip_end a.years.now a.counts.now l.yielded start l.year-iterator c.next.new.self _ (cc) (cc)
    l.yielded_by c.in-None.is c.next.ensures.steps in
    all_put l.invariant (omega (arith, l.invariant.walked.counted))
