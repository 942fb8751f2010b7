-- The first line is held; a later one is held once the one before is judged, unless its name is refused.
use Rattle.std.proofs.Common.{arith, Bool, true, false, ◌&&◌, not, ◌≡◌, refl, sym, ◌∙◌, ap, subst, ℕ, ◌≤◌, length, take, List}
use borrow.Author.Tests.{not-true, not-false}
use mathlib.Core.Option.{Option}
use lib.Seq.{length-take-le}
use Rattle.base_exact.proofs.Decide.{and-false}
use Rattle.base_outcome.specs.Outcome.{Outcome}
use Rattle.base_text.specs.Bytes.{Text}
use Rattle.spec_tucson.specs.Line.{name_columns}
use Rattle.spec_tucson.specs.StrictLine.{Kept, is_strict}
use Rattle.spec_tucson.specs.KeptLines.{same_text, kept_then}
use Rattle.tucson_fields.proofs.LineFields.{stands}
use Rattle.tucson_judge.specs.Judging.{Verdict}
use Rattle.tucson_check.specs.declared.Held.{Held}
use Rattle.tucson_check.specs.Holding.{LineHeld, HoldsBy, Holds, same_name_bytes}
use Rattle.tucson_check.proofs.HeldLines.{held_first, held_misnamed, held_next}
use Rattle.tucson_check.proofs.follow.Goals as goal
use Rattle.tucson_check.proofs.follow.Goals.{then-goes+else-is_misnamed, else-goes}

pub returns-then-not-h : goal.returns-then-not-h
returns-then-not-h c end raw later is_shown holds =
    let a = c.args in
    let none-held = subst (λ (x : Bool). HoldsBy x a.unit a.h a.old_shown.now a.old.now end
    (λ before. kept_then before (record { line = a.number; raw = raw; text = a.line.now }) later)) (not-true a.h.some c.if-not-h.true) holds in
    record {
      shown_is = refl;
      size_is = refl;
      holds =
          held_first a.unit a.number a.shown.now a.line.now raw end later is_shown c.requires.strict c.requires.numbered a.h.judged _ _
          none-held;
    }

-- a strict line has a name
long : (t : Text) → is_strict t ≡ true → 12 ≤ length t
long t s = let l = stands t s in omega (arith, l.size)

pub slice_bounds-same_text-end : goal.slice_bounds-same_text-end
slice_bounds-same_text-end c =
    let l = long c.args.old.now (c.requires.strict_old (not-false c.args.h.some c.if-not-h.false)) in
    sym (length-take-le 8 c.args.old.now (omega arith))

pub slice_bounds-same_text-end-2 : goal.slice_bounds-same_text-end-2
slice_bounds-same_text-end-2 c =
    let l = long c.args.line.now c.requires.strict in sym (length-take-le 8 c.args.line.now (omega arith))

pub is_misnamed-requires : goal.is_misnamed-requires
is_misnamed-requires c =
    let l = long c.args.line.now c.requires.strict in
    let o = long c.args.old.now (c.requires.strict_old (not-false c.args.h.some c.if-not-h.false)) in
    record { named = omega arith; named-old = omega arith }

-- what is held, as a line
held-line : (unit : ℕ) (h : Held) (shown old : Text) (end : Verdict) (later : Option Kept → Outcome (List Kept)) → (not h.some) ≡ false
    → Holds unit h shown old end later → LineHeld unit h shown old end later
held-line unit h shown old end later is holds =
    subst (λ (x : Bool). HoldsBy x unit h shown old end later) (not-false h.some is) holds

pub returns-then-is_misnamed : goal.returns-then-is_misnamed
returns-then-is_misnamed c end raw later is_shown holds =
    let a = c.args in
    let same_bytes = same_name_bytes a.old_shown.now a.old.now a.shown.now a.line.now in
    let bytes : same_bytes ≡ false = not-true same_bytes (sym c.is_misnamed.ensures ∙ c.if-is_misnamed.true) in
    held_misnamed a.unit a.number a.shown.now a.line.now raw end later is_shown c.requires.strict c.requires.numbered a.h a.old_shown.now a.old.now
    (held-line a.unit a.h a.old_shown.now a.old.now end _ c.if-not-h.false holds) (sym c.same_text-goes.ensures ∙ c.if-goes.true) bytes

pub returns : goal.returns
returns c end raw later is_shown holds =
    let a = c.args in
    let held = held-line a.unit a.h a.old_shown.now a.old.now end _ c.if-not-h.false holds in
    let goes = c.same_text-goes.result in
    let names : Bool = same_text (take name_columns a.old.now) (take name_columns a.line.now) in
    let same_bytes = same_name_bytes a.old_shown.now a.old.now a.shown.now a.line.now in
    let right : (names && not same_bytes) ≡ false =
    elim c.if-goes.branch [
      | then-goes+else-is_misnamed w ↦ ap (λ (x : Bool). names && x) (sym w.is_misnamed.ensures ∙ w.if-is_misnamed.false) ∙ and-false names
      | else-goes w ↦ ap (λ (x : Bool). x && not same_bytes) (sym c.same_text-goes.ensures ∙ w.if-goes.false)
    ] in
    record {
      shown_is = refl;
      size_is = refl;
      holds = held_next a.unit a.number a.shown.now a.line.now raw end later is_shown c.requires.strict c.requires.numbered a.h
          a.old_shown.now a.old.now held goes c.judge-next.result _ _ (sym c.same_text-goes.ensures) right
          (c.judge-next.ensures held.line held.before held.begun held.is_text held.is_number held.follows_is held.tracks);
    }
