-- At each series the part of the room that is left is as much less as the series has bytes.
use Rattle.std.proofs.Common.{◌≡◌, ◌∙◌, sym, ap₂, length, get_or, pos, arith, rules}
use Rattle.std.proofs.lemmas.Int.{to_z-of_z}
use Rattle.std.proofs.lemmas.List.{length_push}
use Rattle.std.proofs.lemmas.Slice.Zip.{zip_turn, zip_end}
use borrow.Author.Tests.{le-leb, lt-leb}
use mir.Syntax.{w32}
use mir.Val.{SFits}
use Rattle.tucson_series.specs.Sizes.{closing_fits, series_bytes, text_bytes}
use Rattle.tucson_series.proofs.Bytes.{bytes-step, bytes_end, closings_step}
use Rattle.tucson_series.proofs.room.text_fits.Goals as goal

pub series_bytes-bytes-requires : goal.series_bytes-bytes-requires
series_bytes-bytes-requires c =
    let a = c.args in
    let l = c.loop-year in
    let t =
    zip_turn a.years.now a.counts.now l.yielded c.into_iter-year-iterator.result l.year-iterator c.next.new.self _ (cc) (cc)
    l.yielded_by _ c.in-Some.is c.next.ensures.steps in
    let f : SFits w32 c.in-Some.year.now = search rules in
    let step = closings_step a.years.now a.counts.now (length l.yielded) t.0 t.1 l.invariant.fit in
    simp to_z-of_z (ap₂ closing_fits (t.2 (pos 0)) (t.3 0) ∙ step.0)

pub returns-then-bytes-left : goal.returns-then-bytes-left
returns-then-bytes-left c =
    let a = c.args in
    let l = c.loop-year in
    let k = length l.yielded in
    let t =
    zip_turn a.years.now a.counts.now l.yielded c.into_iter-year-iterator.result l.year-iterator c.next.new.self _ (cc) (cc)
    l.yielded_by _ c.in-Some.is c.next.ensures.steps in
    let f : SFits w32 c.in-Some.year.now = search rules in
    let bytes : c.series_bytes-bytes.result ≡ series_bytes (get_or a.years.now k (pos 0)) (get_or a.counts.now k 0) =
    (simp to_z-of_z at c.series_bytes-bytes.ensures) ∙ ap₂ series_bytes (t.2 (pos 0)) (t.3 0) in
    sym (lt-leb (text_bytes a.years.now a.counts.now) a.room (omega (arith, bytes-step a.years.now a.counts.now k t.0 t.1)))

pub loop-year-preserved : goal.loop-year-preserved
loop-year-preserved c =
    let a = c.args in
    let l = c.loop-year in
    let k = length l.yielded in
    let t =
    zip_turn a.years.now a.counts.now l.yielded c.into_iter-year-iterator.result l.year-iterator c.next.new.self _ (cc) (cc)
    l.yielded_by _ c.in-Some.is c.next.ensures.steps in
    let f : SFits w32 c.in-Some.year.now = search rules in
    let bytes : c.series_bytes-bytes.result ≡ series_bytes (get_or a.years.now k (pos 0)) (get_or a.counts.now k 0) =
    (simp to_z-of_z at c.series_bytes-bytes.ensures) ∙ ap₂ series_bytes (t.2 (pos 0)) (t.3 0) in
    rw length_push record {
      room_is = omega (arith, bytes-step a.years.now a.counts.now k t.0 t.1);
      fit = (closings_step a.years.now a.counts.now k t.0 t.1 l.invariant.fit).1;
    }

pub returns : goal.returns
returns c =
    let a = c.args in
    let l = c.loop-year in
    let t =
    zip_end a.years.now a.counts.now l.yielded c.into_iter-year-iterator.result l.year-iterator c.next.new.self _ (cc) (cc)
    l.yielded_by c.in-None.is c.next.ensures.steps in
    let all = bytes_end a.years.now a.counts.now (length l.yielded) (omega arith) (omega arith) in
    sym (le-leb (text_bytes a.years.now a.counts.now) a.room (omega (arith, all)))
