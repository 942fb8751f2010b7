-- What the call ends with, by the tests that led there.
use mathlib.Core.Path.{◌≡◌, refl, sym, ap, ◌∙◌}
use mathlib.Core.Bool.{true, false, cond, ◌&&◌}
use Prim.Native.Nat.{ℕ, ◌+◌, ◌*◌, ◌≤◌}
use native.Mathlib.Omega.{arith}
use borrow.Author.Tests.{eqb-true, leb-true}
use lib.Dec.{eqb, leb}
use lib.ListN.{length}
use lib.Seq.{slice, take_all}
use Rattle.base_exact.proofs.Decide.{and-true, cond_true, cond_false}
use Rattle.base_outcome.specs.Outcome.{Outcome, answer, refusal, refuse, capped, with_answer}
use Rattle.base_text.specs.Bytes.{Text}
use Rattle.spec_spline.specs.Reading.{Wood, earlywood, latewood, wood_index}
use Rattle.spec_tucson.specs.Line.{name_columns, is_name}
use Rattle.spec_tucson.specs.WriteCall.{text_after}
use Rattle.spec_table.specs.RingLines.{IndexedSeries, ring_lines}
use Rattle.spec_table.specs.RingLinesCall.{ring_lists_fit, ring_lines_outcome, RingLinesEnd, ring_lines_end}
use Rattle.tucson_putting.specs.Putting.{Wrote}
use Rattle.tucson_putting.proofs.Wrote.{written-whole}
use Rattle.table_lines.specs.Machine.{Rows, rows_text, rows_outcome, RowsEnd, lengths_fit}
use Rattle.table_lines.proofs.Rows.{rows_of, ring-lines_are}

-- ---- the lines, or 1

module _ (r : Rows) (out : Text) where
  abbrev text : Text
  text = rows_text r (length r.widths)

  pub rows_short : leb (length text) (length out) ≡ false → RowsEnd r out out (refusal 1 0)
  unfolding rows_outcome text_after capped
  rows_short e =
      let o : rows_outcome r (length out) ≡ refusal 1 0 = cond_false (answer text) (refuse 1 0) e in
      record { answered = sym (ap (with_answer length) o); text = sym (ap (λ (p : Outcome Text). text_after p out) o) }

  pub rows_written : {after : Text} {count : ℕ} → leb (length text) (length out) ≡ true → Wrote 0 text out after count
      → RowsEnd r out after (answer count)
  unfolding rows_outcome text_after
  rows_written e w =
      let o : rows_outcome r (length out) ≡ answer text = cond_true (answer text) (refuse 1 0) e in
      record {
        answered = ap answer (w.behind ∙ omega arith) ∙ sym (ap (with_answer length) o);
        text = w.contents ∙ written-whole text out (leb-true _ _ e) ∙ sym (ap (λ (p : Outcome Text). text_after p out) o);
      }

-- ---- the call

module _ (wood : Wood) (s : IndexedSeries) (out : Text) where
  abbrev outcome : Outcome Text
  outcome = ring_lines_outcome wood s (length out)

  abbrev by_room : Outcome Text
  by_room = cond (leb (length (ring_lines wood s)) (length out)) (answer (ring_lines wood s)) (refuse 1 0)

  abbrev by_name : Outcome Text
  by_name = cond (is_name s.name) by_room (refuse 11 0)

  pub lengths-test : ring_lists_fit s ≡ lengths_fit s.name s.widths s.values s.indices
  unfolding ring_lists_fit
  lengths-test = refl

  pub lists_misfit : ring_lists_fit s ≡ false → outcome ≡ refusal 2 0
  unfolding ring_lines_outcome capped
  lists_misfit e = cond_false by_name (refuse 2 0) e

  module _ (fit : ring_lists_fit s ≡ true) where
    name_decides : outcome ≡ by_name
    unfolding ring_lines_outcome
    name_decides = cond_true by_name (refuse 2 0) fit

    pub not_named : is_name s.name ≡ false → outcome ≡ refusal 11 0
    unfolding capped
    not_named e = name_decides ∙ cond_false by_room (refuse 11 0) e

    pub rows_decide : is_name s.name ≡ true → rows_outcome (rows_of wood s) (length out) ≡ outcome
    unfolding rows_outcome
    rows_decide e =
        ap (λ (t : Text). cond (leb (length t) (length out)) (answer t) (refuse 1 0)) (sym (ring-lines_are wood s))
        ∙ sym (name_decides ∙ cond_true by_room (refuse 11 0) e)

  abbrev end : RingLinesEnd
  end = ring_lines_end wood s out

  pub ends_refused : {code place : ℕ} → outcome ≡ refusal code place → ((refusal code place) ≡ end.answers) × (out ≡ end.text)
  unfolding text_after
  ends_refused e = (sym (ap (with_answer length) e), sym (ap (λ (o : Outcome Text). text_after o out) e))

  pub ends-rows : {after : Text} {answers : Outcome ℕ} → rows_outcome (rows_of wood s) (length out) ≡ outcome
      → RowsEnd (rows_of wood s) out after answers → (answers ≡ end.answers) × (after ≡ end.text)
  ends-rows e w = (w.answered ∙ ap (with_answer length) e, w.text ∙ ap (λ (o : Outcome Text). text_after o out) e)

-- ---- lists that fit

pub record Lengths (s : IndexedSeries) : Type 0 where
  pub named : length s.name ≡ name_columns
  pub indexed : length s.indices ≡ length s.widths
  pub valued : length s.values ≡ 2 * length s.widths

pub lengths-fit : (s : IndexedSeries) → ring_lists_fit s ≡ true → Lengths s
unfolding ring_lists_fit
lengths-fit s e =
    let named = eqb (length s.name) name_columns in
    let indexed = eqb (length s.indices) (length s.widths) in
    let outer = and-true (named && indexed) (eqb (length s.values) (2 * length s.widths)) e in
    let inner = and-true named indexed outer.0 in
    record { named = eqb-true _ _ inner.0; indexed = eqb-true _ _ inner.1; valued = eqb-true _ _ outer.1 }

-- a wood's cell is one of two
pub wood_two : (w : Wood) → wood_index w ≤ 1
wood_two earlywood = omega arith
wood_two latewood = omega arith

-- the name is the first eight bytes of itself
pub name-whole : (name : Text) → length name ≡ name_columns → is_name (slice 0 (0 + name_columns) name) ≡ is_name name
name-whole name e = ap is_name (take_all (0 + name_columns) name (omega arith))
