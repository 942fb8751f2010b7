-- The index call's refusal is the one line, its answer the lines of the rings.
use Rattle.std.proofs.Common.{◌≡◌, ◌∙◌, ◌*◌, ◌≤◌, ◌+ℤ◌, sym, ap, subst, arith, true, ℕ, ℤ, pos, List, Result, Ok, length, take, w32, w64}
use lib.ListN.{replicate, length-replicate}
use mir.Val.{SFits}
use Rattle.base_exact.proofs.Word.{to_z-of_z, abs_sfits}
use Rattle.base_outcome.specs.declared.Refusal.{Refusal}
use Rattle.base_outcome.specs.Outcome.{Outcome, ◌then◌}
use Rattle.base_outcome.specs.Machine.{reply}
use Rattle.base_text.specs.Bytes.{Text}
use Rattle.build_space.specs.Machine.{space}
use Rattle.curve_ordinates.specs.Wood.{wood_of}
use Rattle.spec_spline.specs.Space.{Space}
use Rattle.spec_spline.specs.Table.{table_cells}
use Rattle.spec_spline.specs.Reading.{Wood}
use Rattle.spec_spline.specs.CurveCall.{position_limit, CurveResult, values_after}
use Rattle.spec_calls.specs.Indices.{rings_read, rings_indexed, indices_returned, indices_after}
use Rattle.spec_rings.specs.Rings.{fault_line, series_text}
use Rattle.spec_table.specs.RingLines.{IndexedSeries, ring_lines}
use Rattle.spec_tucson.specs.Line.{is_name}
use Rattle.tucson_lines.proofs.GoodLines.{name_length}
use Rattle.rings_read.specs.Machine.{Front}
use Rattle.rings_text.specs.Printed.{LinesAsk, series_limit}
use Rattle.rings_text.proofs.Indexed.{refused_text, answered_text, machine_lists, lists-fit, lines-short}
use Rattle.rings_text.proofs.put_indexed.Goals as goal

-- the buffers before the index call
abbrev values : List ℤ
values = replicate 8192 (pos 0)

abbrev ring-indices : List ℤ
ring-indices = replicate 4096 (pos 0)

values-long : length values ≡ 2 * position_limit
values-long = length-replicate {0} {A = ℤ} 8192 (pos 0)

indices-long : length ring-indices ≡ position_limit
indices-long = length-replicate {0} {A = ℤ} 4096 (pos 0)

abbrev outcome : Space → List ℤ → ℤ → List ℤ → Outcome CurveResult
outcome s coefs year widths = rings_read s coefs year widths table_cells table_cells (length values) (length ring-indices)

-- where it has answered
module _ (wood : Wood) (s : Space) (coefs : List ℤ) (name : Text) (named : is_name name ≡ true) (year : ℤ) (fits : SFits w32 year)
    (widths : List ℤ) (few : length widths ≤ position_limit) (r : Result ℕ Refusal)
    (replies : reply r ≡ indices_returned (outcome s coefs year widths then rings_indexed wood widths)) {vs is : List ℤ}
    (values_are : vs ≡ values_after (outcome s coefs year widths) values)
    (indices_are : is ≡ indices_after (outcome s coefs year widths then rings_indexed wood widths) ring-indices) {m : ℕ} (v : r ≡ Ok m) where
  abbrev machine : IndexedSeries
  machine = record {
    name = name;
    first_year = year;
    widths = widths;
    values = take (2 * length widths) vs;
    indices = take (length widths) is;
  }

  asks : {out : List ℕ} → series_limit ≤ length out → LinesAsk wood machine out
  asks {out} room =
      let eight = name_length name named in
      let lists_are =
      machine_lists wood s coefs name year widths few values ring-indices values-long indices-long r replies v values_are indices_are in
      subst (λ (i : IndexedSeries). LinesAsk wood i out) (sym lists_are) (record {
        fit = lists-fit wood s coefs name year widths few values ring-indices values-long indices-long r replies v eight;
        named = named;
        room = omega (
          arith,
          lines-short wood s coefs name year widths few values ring-indices values-long indices-long r replies v eight (abs_sfits fits),
          room,
        );
      })

  text : ring_lines wood machine ≡ series_text wood s coefs (record { name = name; first_year = year; widths = widths })
  text =
      ap (ring_lines wood)
      (machine_lists wood s coefs name year widths few values ring-indices values-long indices-long r replies v values_are indices_are)
      ∙ answered_text wood s coefs name year widths few values ring-indices values-long indices-long r replies v

pub put_lines-requires : goal.put_lines-requires
put_lines-requires c =
    let a = c.args in
    let s : Space = space a.breaks.now a.degrees.now a.orders.now in
    let f : SFits w32 a.first = c.ranges.first in
    let e = simp to_z-of_z at c.indices-answer.ensures in
    simp to_z-of_z
    (asks (wood_of a.wood) s a.coefs.now a.name.now c.requires.series_asks.named a.first f a.widths.now c.requires.widths_len_bound
    c.indices-answer.result e.0 e.1.1.1.0 e.1.1.1.1 c.in-Ok.is c.requires.series_asks.room)

pub returns-in-Err : goal.returns-in-Err
returns-in-Err c =
    let a = c.args in
    let s : Space = space a.breaks.now a.degrees.now a.orders.now in
    let f : SFits w32 a.first = c.ranges.first in
    let ring = c.fault_ring-ring in
    let y = c.year_of-year in
    let g : SFits w64 y.result = record { sfits = y.type_inv } in
    let year : y.result ≡ a.first +ℤ pos ring.result = simp to_z-of_z at y.ensures in
    let e = simp to_z-of_z at c.indices-answer.ensures in
    subst (λ (t : Text). Front t c.put_fault.result c.put_fault.new.out)
    (ap (λ (z : ℤ). fault_line a.name.now z c.in-Err.refusal.code) (year ∙ ap (λ (j : ℕ). a.first +ℤ pos j) ring.ensures)
    ∙ refused_text (wood_of a.wood) s a.coefs.now a.name.now a.first a.widths.now c.requires.widths_len_bound values ring-indices values-long
    indices-long c.indices-answer.result e.0 c.in-Err.is)
    (simp to_z-of_z at c.put_fault.ensures)

pub returns-in-Ok : goal.returns-in-Ok
returns-in-Ok c =
    let a = c.args in
    let s : Space = space a.breaks.now a.degrees.now a.orders.now in
    let f : SFits w32 a.first = c.ranges.first in
    let e = simp to_z-of_z at c.indices-answer.ensures in
    subst (λ (t : Text). Front t c.put_lines.result c.put_lines.new.out)
    (text (wood_of a.wood) s a.coefs.now a.name.now c.requires.series_asks.named a.first f a.widths.now c.requires.widths_len_bound
    c.indices-answer.result e.0 e.1.1.1.0 e.1.1.1.1 c.in-Ok.is)
    (simp to_z-of_z at c.put_lines.ensures)
