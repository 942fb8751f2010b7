-- The buffers take what the text holds, so that code 1 never comes, and the lists at their fronts are written in full.
use Rattle.std.proofs.Common.{◌≡◌, ℕ, arith, refl, sym, ◌∙◌, ap}
use Rattle.std.specs.Prelude.{Result, Ok, Err}
use Rattle.std.specs.Result.{IsOk}
use Rattle.base_exact.proofs.Decide.{clash}
use Rattle.base_outcome.specs.Outcome.{answer}
use Rattle.base_outcome.specs.Machine.{reply}
use Rattle.base_outcome.specs.declared.Refusal.{Refusal}
use Rattle.base_outcome.proofs.Outcome.{answer_unique}
use Rattle.base_print.proofs.Buffer.{prints_as}
use Rattle.spec_tucson.specs.WriteCall.{WriteEnd}
use Rattle.tucson_text.proofs.Rewriting.{Cells, refused_text, series-within, widths_within, text-length, writes-whole}
use Rattle.tucson_text.proofs.rewrite_over.Goals as goal

is_ok : (r : Result ℕ Refusal) {n : ℕ} → reply r ≡ answer n → IsOk r
is_ok (Ok m) e = refl
is_ok (Err r) e = clash cc

pub returns-in-Err : goal.returns-in-Err
returns-in-Err c =
    let a = c.args in
    let cells : Cells a.names.now a.years.now a.counts.now a.widths.now =
    record { names_are = c.told-names; years_are = c.told-years; counts_are = c.told-counts; widths_are = c.told-widths } in
    let line = refused_text a.input.now c.requires cells _ _ (sym c.in-Err.ensures.0) in
    prints_as line (omega (arith, c.refusal.ensures.few)) c.refusal.ensures

pub overflow_mul-names : goal.overflow_mul-names
overflow_mul-names c =
    let a = c.args in
    let cells : Cells a.names.now a.years.now a.counts.now a.widths.now =
    record { names_are = c.told-names; years_are = c.told-years; counts_are = c.told-counts; widths_are = c.told-widths } in
    omega (arith, series-within a.input.now c.requires cells (sym c.in-Ok.ensures.0))

pub shared_ref_as_front-names : goal.shared_ref_as_front-names
shared_ref_as_front-names c =
    let a = c.args in
    let cells : Cells a.names.now a.years.now a.counts.now a.widths.now =
    record { names_are = c.told-names; years_are = c.told-years; counts_are = c.told-counts; widths_are = c.told-widths } in
    omega (arith, series-within a.input.now c.requires cells (sym c.in-Ok.ensures.0))

pub sum-requires : goal.sum-requires
sum-requires c =
    let a = c.args in
    let cells : Cells a.names.now a.years.now a.counts.now a.widths.now =
    record { names_are = c.told-names; years_are = c.told-years; counts_are = c.told-counts; widths_are = c.told-widths } in
    rw c.read.ensures.1.1.1.0 (omega (arith, widths_within a.input.now c.requires cells (sym c.in-Ok.ensures.0)))

pub shared_ref_as_front-widths : goal.shared_ref_as_front-widths
shared_ref_as_front-widths c =
    let a = c.args in
    let cells : Cells a.names.now a.years.now a.counts.now a.widths.now =
    record { names_are = c.told-names; years_are = c.told-years; counts_are = c.told-counts; widths_are = c.told-widths } in
    rw (c.sum.ensures, c.read.ensures.1.1.1.0) (widths_within a.input.now c.requires cells (sym c.in-Ok.ensures.0))

pub unwrap-requires : goal.unwrap-requires
unwrap-requires c =
    let a = c.args in
    let cells : Cells a.names.now a.years.now a.counts.now a.widths.now =
    record { names_are = c.told-names; years_are = c.told-years; counts_are = c.told-counts; widths_are = c.told-widths } in
    let r = c.read.ensures.1 in
    let writes = writes-whole a.input.now c.requires cells (sym c.in-Ok.ensures.0) a.out.now c.told-out in
    let whole = writes r.0 r.1.0 r.1.1.0 r.1.1.1 c.sum.ensures in
    is_ok _ (c.write-text.ensures.0 ∙ ap (λ (e : WriteEnd). e.answers) whole)

pub returns : goal.returns
returns c =
    let a = c.args in
    let cells : Cells a.names.now a.years.now a.counts.now a.widths.now =
    record { names_are = c.told-names; years_are = c.told-years; counts_are = c.told-counts; widths_are = c.told-widths } in
    let r = c.read.ensures.1 in
    let writes = writes-whole a.input.now c.requires cells (sym c.in-Ok.ensures.0) a.out.now c.told-out in
    let whole = writes r.0 r.1.0 r.1.1.0 r.1.1.1 c.sum.ensures in
    let count = answer_unique (ap reply c.unwrap.ensures) (c.write-text.ensures.0 ∙ ap (λ (e : WriteEnd). e.answers) whole) in
    let size = text-length a.input.now c.requires cells (sym c.in-Ok.ensures.0) in
    record {
      count_is = count ∙ sym size;
      contents = c.write-text.ensures.1 ∙ ap (λ (e : WriteEnd). e.text) whole;
      few = omega (arith, count);
    }
