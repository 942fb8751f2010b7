-- The write call's end by the tests that led there.
use mathlib.Core.Path.{◌≡◌, sym, ap, ◌∙◌}
use mathlib.Core.Bool.{true, false, cond}
use mathlib.Core.List.{List}
use mathlib.Core.Option.{Option, some, none}
use Prim.Native.Nat.{ℕ, ◌≤◌}
use native.Mathlib.Omega.{arith}
use lib.Dec.{leb}
use lib.IntN.{ℤ}
use lib.ListN.{length}
use Rattle.base_exact.proofs.Decide.{cond_true, cond_false}
use Rattle.base_outcome.specs.Outcome.{Outcome, answer, refusal, refuse, capped, with_answer}
use Rattle.base_outcome.specs.Tests.{refuse_first}
use Rattle.base_text.specs.Bytes.{Text}
use Rattle.spec_tucson.specs.Series.{Series}
use Rattle.spec_tucson.specs.Writing.{written, unwritable}
use Rattle.spec_tucson.specs.WriteCall.{lists_fit, series_of, series_outcome, write_outcome, text_after, WriteEnd, write_end}
use Rattle.std.specs.Prelude.{Ok, Err}
use Rattle.tucson_putting.specs.Putting.{Wrote}
use Rattle.base_outcome.specs.Machine.{refused, reply}
use Rattle.tucson_putting.proofs.Wrote.{written-whole}

-- What a caller gives: four lists, and a buffer for the text.
pub record Given : Type 0 where
  pub names : Text
  pub years : List ℤ
  pub counts : List ℕ
  pub widths : List ℤ
  pub text : Text

-- The series of the lists.
abbrev pub listed : Given → List Series
listed g = series_of g.names g.years g.counts g.widths

module _ (given : Given) where
  abbrev names : Text
  names = given.names

  abbrev years : List ℤ
  years = given.years

  abbrev counts : List ℕ
  counts = given.counts

  abbrev widths : List ℤ
  widths = given.widths

  abbrev text : Text
  text = given.text

  abbrev ss : List Series
  ss = listed given

  abbrev outcome : Outcome Text
  outcome = write_outcome names years counts widths (length text)

  -- what is answered where the lists fit: by the room, and by the first series that can't be written
  abbrev by_room : Outcome Text
  by_room = cond (leb (length (written ss)) (length text)) (answer (written ss)) (refuse 1 0)

  abbrev ended_by : Option ℕ → Outcome Text
  ended_by o = refuse_first 11 o by_room

  -- ---- what the call ends with

  pub lists_misfit : lists_fit names years counts widths ≡ false → outcome ≡ refusal 2 0
  unfolding write_outcome capped
  lists_misfit e = cond_false (series_outcome ss (length text)) (refuse 2 0) e

  module _ (fit : lists_fit names years counts widths ≡ true) where
    goes_on_lem : outcome ≡ series_outcome ss (length text)
    unfolding write_outcome
    goes_on_lem = cond_true (series_outcome ss (length text)) (refuse 2 0) fit

    pub series-unwritable : (k : ℕ) → unwritable ss ≡ some k → outcome ≡ refusal 11 (capped k)
    unfolding series_outcome
    series-unwritable k e = goes_on_lem ∙ ap ended_by e

    module _ (all : unwritable ss ≡ none) where
      room_decides : outcome ≡ by_room
      unfolding series_outcome
      room_decides = goes_on_lem ∙ ap ended_by all

      pub text-short : leb (length (written ss)) (length text) ≡ false → outcome ≡ refusal 1 0
      unfolding capped
      text-short e = room_decides ∙ cond_false (answer (written ss)) (refuse 1 0) e

      pub text-answers : leb (length (written ss)) (length text) ≡ true → outcome ≡ answer (written ss)
      text-answers e = room_decides ∙ cond_true (answer (written ss)) (refuse 1 0) e

  -- ---- the answer and the text

  abbrev end : WriteEnd
  end = write_end names years counts widths text

  pub ends_refused : {code place : ℕ} → outcome ≡ refusal code place → (reply (Err (refused code place)) ≡ end.answers) × (text ≡ end.text)
  unfolding text_after
  ends_refused e = (sym (ap (with_answer length) e), sym (ap (λ (o : Outcome Text). text_after o text) e))

  pub ends-written : {count : ℕ} {after : List ℕ} → outcome ≡ answer (written ss) → length (written ss) ≤ length text
      → Wrote 0 (written ss) text after count → (reply (Ok count) ≡ end.answers) × (after ≡ end.text)
  unfolding text_after
  ends-written e h w = (
    ap answer (w.behind ∙ omega arith) ∙ sym (ap (with_answer length) e),
    w.contents ∙ written-whole (written ss) text h ∙ sym (ap (λ (o : Outcome Text). text_after o text) e),
  )
