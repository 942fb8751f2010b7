-- What an accepted input tells: its series are those of a text, and the curve call answers for its sheet.
use mathlib.Core.Path.{◌≡◌, refl, sym, ◌∙◌, ap}
use mathlib.Core.Option.{Option, some, none}
use Prim.Native.Nat.{ℕ}
use lib.Dec.{ltb}
use lib.ListN.{length}
use Rattle.base_outcome.specs.Outcome.{Outcome, answer, refusal}
use Rattle.base_outcome.proofs.Outcome.{answer_unique, answer_not_refusal, then_inverts}
use Rattle.base_text.specs.Bytes.{Text}
use Rattle.spec_spline.specs.CurveCall.{CurveResult}
use Rattle.spec_spline.proofs.Legal.{cond_refuse_inverts}
use Rattle.spec_tucson.specs.TextReading.{read_text}
use Rattle.spec_rings.specs.Parts.{Headed, headed, sheet_part, series_part}
use Rattle.spec_rings.specs.Ready.{text_limit, moved, series_place, sheet_read, series_read, sheet_curve, Ready, ready_of, ready_if, ready}

-- The text of the series, and what the curve call says of the sheet.
pub record Accepted (r : Ready) : Type 0 where
  pub text : Text
  pub reads : read_text text ≡ answer r.series
  pub result : CurveResult
  pub curve : sheet_curve r.lists ≡ answer result

moved_inverts : {A : Type 0} (to : ℕ → ℕ) (o : Outcome A) {a : A} → moved to o ≡ answer a → o ≡ answer a
moved_inverts to (answer b) e = e
moved_inverts to (refusal code place) e = absurd (answer_not_refusal e refl)

pub accepted : (t : Text) (r : Ready) → ready t ≡ answer r → Accepted r
unfolding ready ready_of series_read
accepted t r e = heads (headed t) (cond_refuse_inverts (ltb text_limit (length t)) 1 0 (ready_if (headed t)) e).1
  where
    heads : (o : Option Headed) → ready_if o ≡ answer r → Accepted r
    heads none e = absurd (answer_not_refusal e refl)
    heads (some h) e =
        let a = then_inverts (sheet_read (sheet_part h.rest)) _ e in
        let b = then_inverts (moved series_place (read_text (series_part h.rest))) _ a.after in
        let c = then_inverts (sheet_curve a.middle) _ b.after in
        let is : record { wood = h.wood; lists = a.middle; series = b.middle } ≡ r = answer_unique refl c.after in
        record {
          text = series_part h.rest;
          reads = moved_inverts series_place (read_text (series_part h.rest)) b.before ∙ ap (λ (q : Ready). answer q.series) is;
          result = c.middle;
          curve = ap (λ (q : Ready). sheet_curve q.lists) (sym is) ∙ c.before;
        }
