-- Where the text stands, its header, and the lines below it.
use Rattle.std.proofs.Common.{◌≡◌, sym, ◌∙◌, ap, ℕ, ◌+◌, ◌^◌, ◌<◌, length}
use Rattle.std.proofs.lemmas.Result.{err_from_is_err_and}
use lib.Seq.{slice}
use Rattle.base_outcome.specs.Outcome.{Outcome, ◌then◌}
use Rattle.base_text.specs.Bytes.{Text, index_of}
use Rattle.base_text.proofs.Slice.{slice_all}
use Rattle.spec_tucson.specs.Line.{lines_of}
use Rattle.spec_tucson.specs.FileText.{substitute}
use Rattle.spec_tucson.specs.KeptLines.{header_of}
use Rattle.spec_tucson.specs.CleanCall.{cleaned_below, if_room}
use Rattle.tucson_file.specs.Machine.{StartIs}
use Rattle.tucson_clean.specs.Machine.{BodyAt}
use Rattle.tucson_clean.proofs.Bodies.{body_at}
use Rattle.tucson_clean.proofs.Room.{ends_refused, ends_same}
use Rattle.tucson_clean.proofs.clean_text.Goals as goal

-- where the text of the file stands
stands : {t : Text} {from stop : ℕ} → length t < 2 ^ 32 → StartIs t from → stop ≡ from + index_of substitute (slice from (length t) t)
    → BodyAt t from stop
stands {t} {from} {stop} short start found =
    body_at t from stop start (found ∙ ap (λ (u : Text). from + index_of substitute u) (slice_all from t)) short

pub slice_bounds-header-end : goal.slice_bounds-header-end
slice_bounds-header-end c = (stands c.requires c.start-from.ensures c.stop-stop.ensures).within

pub returns-in_err-last : goal.returns-in_err-last
returns-in_err-last c =
    let a = c.args in
    let r = c.in_err-last.field-0.0 in
    let body = stands c.requires c.start-from.ensures c.stop-stop.ensures in
    let told = ap (λ (x : Text). header_of a.header (lines_of x)) (sym body.body_is) ∙ sym c.in_err-last.ensures in
    let p = err_from_is_err_and c.from_residual.result c.from_residual.ensures.1 in
    rw (p.1, p.2)
    (ends_refused _ r.code r.place a.out.now a.lines.now a.notes.now
    (ap (λ (o : Outcome ℕ). (o then cleaned_below a.text.now a.unit)
    then if_room (length a.out.now) (length a.lines.now) (length a.notes.now)) told))

pub clean_below-requires : goal.clean_below-requires
clean_below-requires c = stands c.requires c.start-from.ensures c.stop-stop.ensures

pub returns : goal.returns
returns c =
    let a = c.args in
    let body = stands c.requires c.start-from.ensures c.stop-stop.ensures in
    let told = ap (λ (x : Text). header_of a.header (lines_of x)) (sym body.body_is) ∙ sym c.in_ok-last.ensures in
    ends_same
    (sym (ap (λ (o : Outcome ℕ). (o then cleaned_below a.text.now a.unit)
    then if_room (length a.out.now) (length a.lines.now) (length a.notes.now)) told)) c.clean_below.ensures
