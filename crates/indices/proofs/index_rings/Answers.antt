-- A ring that is refused ends the call before an index is written; else every ring is good.
use Rattle.std.proofs.Common.{◌∙◌, ◌++◌, ℕ, sym, ap, length, drop}
use Rattle.std.proofs.lemmas.Result.{err_from_is_err_and}
use Rattle.base_exact.specs.Tabulate.{tab}
use Rattle.base_exact.proofs.Tabulate.{tab_length}
use Rattle.base_outcome.specs.Outcome.{answer}
use Rattle.base_outcome.proofs.Machine.{passed_on}
use Rattle.curve_ordinates.specs.Wood.{wood_of}
use Rattle.spec_spline.proofs.Pairs.{wood_index-below}
use Rattle.spec_calls.specs.Indices.{indices_returned, indices_after}
use Rattle.indices.specs.Machine.{cells_indexed}
use Rattle.indices_rings.specs.Cells.{cell_index}
use Rattle.indices.proofs.Call.{cells_refused, cells_answered, cells_good}
use Rattle.indices.proofs.index_rings.Goals as goal

pub returns-in_err-refuse_first : goal.returns-in_err-refuse_first
unfolding indices_after
returns-in_err-refuse_first c =
    let a = c.args in
    let e =
    ap (cells_indexed a.widths.now a.values.now) (sym c.wood_index-offset.ensures)
    ∙ cells_refused a.widths.now a.values.now c.wood_index-offset.result
    (c.in_err-refuse_first.ensures _ c.first_bad_ring-bad.ensures) in
    record {
      answers = passed_on (err_from_is_err_and c.from_residual.result c.from_residual.ensures.1) ∙ sym (ap indices_returned e);
      indices_are = sym (ap (λ o. indices_after o a.indices.now) e);
    }

pub write_indices-requires : goal.write_indices-requires
write_indices-requires c =
    record {
      rings = record { valued = c.requires.valued; offset_low = rw c.wood_index-offset.ensures (wood_index-below (wood_of c.args.wood)) };
      room = c.requires.room;
      good = cells_good c.args.widths.now c.args.values.now c.wood_index-offset.result
          (c.in_ok-refuse_first.ensures _ c.first_bad_ring-bad.ensures);
    }

pub returns : goal.returns
unfolding indices_after
returns c =
    let a = c.args in
    let offset = c.wood_index-offset.result in
    let f = cell_index a.widths.now a.values.now offset in
    let n = length a.widths.now in
    let e =
    ap (cells_indexed a.widths.now a.values.now) (sym c.wood_index-offset.ensures)
    ∙ cells_answered a.widths.now a.values.now offset (c.in_ok-refuse_first.ensures _ c.first_bad_ring-bad.ensures) in
    record {
      answers = sym (ap indices_returned e ∙ ap answer (tab_length n f));
      indices_are =
          c.write_indices.ensures
          ∙ ap (λ (k : ℕ). tab n f ++ drop k a.indices.now) (sym (tab_length n f))
          ∙ sym (ap (λ o. indices_after o a.indices.now) e);
    }
