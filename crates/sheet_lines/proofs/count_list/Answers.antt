-- Each turn's field is one entry more of the count, and where it is none, or one too many, there is no list.
use Rattle.std.proofs.Common.{◌≡◌, ℕ, ◌+◌, ◌≤◌, false, true, [], List, arith, sym, ◌∙◌, ap, refl}
use Rattle.std.proofs.Math.Option as math
use Rattle.std.proofs.Math.Seq.{slice, length-slice}
use Rattle.std.specs.Prelude.{Option, Some, None}
use Rattle.base_text.specs.Bytes.{Text, Range, comma, fields, index_of}
use Rattle.base_text.proofs.Lacking.{byte}
use Rattle.spec_sheet.specs.SheetReading.{entries, list_limit}
use Rattle.sheet_lines.specs.Machine.{entry_of, is_some, count}
use Rattle.sheet_lines.proofs.Entries.{stop_part, stop_within, field-last, field_more, field-first, list_empty, list_count}
use Rattle.sheet_lines.proofs.Entries.{tally, tally_bad, tally_next, tally_full, tally_end}
use Rattle.sheet_lines.proofs.count_list.Goals as goal

-- the fields from `start` on, behind n entries
module _ {A : Type 0} (entry : Text → math.Option A) (text : Text) (n start to stop : ℕ) (range : Range text start to)
    (is : stop ≡ start + index_of comma (slice start to text)) where
  abbrev counted : Option ℕ
  counted = tally n (entries entry (fields (slice start to text)))

  begin : {fs : List Text} → fields (slice start to text) ≡ fs → counted ≡ tally n (entries entry fs)
  begin e = ap (λ (fs : List Text). tally n (entries entry fs)) e

  full : list_limit ≤ n → counted ≡ None
  full h = let first = field-first (byte comma) text start to stop range is in begin first.1 ∙ tally_full entry n _ first.0 h

  bad : false ≡ is_some (entry (slice start stop text)) → counted ≡ None
  bad e = let first = field-first (byte comma) text start to stop range is in begin first.1 ∙ tally_bad entry n _ first.0 (sym e)

  module _ (good : true ≡ is_some (entry (slice start stop text))) where
    last : n + 1 ≤ list_limit → stop ≡ to → counted ≡ Some (n + 1)
    unfolding entries
    last h k = begin (field-last (byte comma) text start to stop range is k) ∙ tally_next entry n _ [] (sym good) ∙ tally_end A (n + 1) h

    more : (stop ≡ to → ⊥) → counted ≡ tally (n + 1) (entries entry (fields (slice (stop + 1) to text)))
    more k = begin (field_more (byte comma) text start to stop range is k) ∙ tally_next entry n _ _ (sym good)

pub returns-then-from-to : goal.returns-then-from-to
unfolding count
returns-then-from-to c = rw (c.if-from-to.true, list_empty (entry_of c.args.kind) c.args.text.now c.args.to)

pub loop-n-init : goal.loop-n-init
loop-n-init c =
    let a = c.args in
    record {
      within = omega arith;
      counts = list_count (entry_of a.kind) (slice a.from a.to a.text.now)
          (omega (arith, length-slice a.from a.to a.text.now c.requires.within));
    }

pub is_entry-requires : goal.is_entry-requires
is_entry-requires c = stop_part (byte comma) c.args.text.now c.loop-n.start c.args.to c.find-stop.result (omega arith) c.find-stop.ensures

pub returns-then-not-is_entry : goal.returns-then-not-is_entry
returns-then-not-is_entry c =
    let a = c.args in
    let l = c.loop-n in
    let none = bad (entry_of a.kind) a.text.now l.n l.start a.to _ (omega arith) c.find-stop.ensures c.if-not-is_entry.ensures in
    sym (l.invariant.counts ∙ none)

pub returns-then-stop-to : goal.returns-then-stop-to
returns-then-stop-to c =
    let a = c.args in
    let l = c.loop-n in
    let field = last (entry_of a.kind) a.text.now l.n l.start a.to c.find-stop.result (omega arith) c.find-stop.ensures in
    sym (l.invariant.counts ∙ field c.if-not-is_entry.ensures (omega arith) c.if-stop-to.true)

pub overflow_add-start : goal.overflow_add-start
overflow_add-start c = omega (arith, stop_within (byte comma) c.args.text.now c.loop-n.start c.args.to _ (omega arith) c.find-stop.ensures)

pub loop-n-preserved : goal.loop-n-preserved
loop-n-preserved c =
    let a = c.args in
    let l = c.loop-n in
    let field = more (entry_of a.kind) a.text.now l.n l.start a.to c.find-stop.result (omega arith) c.find-stop.ensures in
    record {
      within = omega (arith, stop_within (byte comma) a.text.now l.start a.to _ (omega arith) c.find-stop.ensures);
      counts = l.invariant.counts ∙ field c.if-not-is_entry.ensures c.if-stop-to.false;
    }

pub returns : goal.returns
returns c =
    let l = c.loop-n in
    sym (l.invariant.counts ∙ full (entry_of c.args.kind) c.args.text.now l.n l.start c.args.to _ (omega arith) refl (omega arith))
