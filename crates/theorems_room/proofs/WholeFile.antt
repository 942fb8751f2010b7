-- The buffers by the bytes of the file, for the whole file: its lines have its bytes, and byte 26 and the mark pay for their notes.
use mathlib.Core.Path.{◌≡◌, refl, sym, ◌∙◌, ap, subst}
use mathlib.Core.Bool.{Bool, true, false, cond, ◌&&◌, not}
use mathlib.Core.List.{List, [], ◌∷◌, ◌++◌}
use mathlib.Core.Option.{Option, some, none}
use Prim.Native.Nat.{ℕ, zero, suc, ◌+◌, ◌*◌, ◌/◌, ◌<◌, ◌≤◌}
use native.Mathlib.Omega.{arith}
use borrow.Author.Tests.{ltb-true}
use lib.Dec.{eqb, ltb}
use lib.ListN.{length, take, drop, length-append, length-drop}
use lib.Seq.{length-take-le}
use Rattle.base_text.specs.Bytes.{Text, newline, with_byte, cut, on_first, index_of, begins_with}
use Rattle.base_text.proofs.Cutting.{index-within, stripped_some}
use Rattle.spec_tucson.specs.Line.{lines_of}
use Rattle.spec_tucson.specs.FileText.{substitute, byte_order_mark, is_marked, unmarked, text_of, ends_early}
use Rattle.spec_tucson.specs.Shown.{is_cut, has_end}
use Rattle.spec_tucson.specs.CleanNotes.{notes_of}
use Rattle.spec_tucson.specs.CleanSeries.{closed_lines}
use Rattle.spec_tucson.specs.CleanCall.{Cleaned, cleaned, mark_note, all_ended, end_note, at_start, all_notes}
use Rattle.theorems_clean.proofs.Answers.{Answered, answered}
use Rattle.theorems_clean.proofs.Lines.{numbers_length}
use Rattle.theorems_room.specs.Room.{Within, RoomByBytes, NeverShortByBytes}
use Rattle.theorems_room.proofs.ByLines.{closed-count, mark-count, room_stays}
use Rattle.theorems_room.proofs.ByBytes.{total, EndedBefore, sums}
use Rattle.theorems_room.proofs.NoteBytes.{one, spare, notes_sum}

-- ---- the lines of a text

first-total : (c : ℕ) (ls : List Text) → total (on_first c ls) ≡ suc (total ls)
unfolding total
first-total c [] = refl
first-total c (f ∷ fs) = omega arith

lines-total : (t : Text) → total (lines_of t) ≡ length t
unfolding lines_of total
lines-total [] = refl
lines-total (c ∷ cs) = go (eqb c newline) (lines-total cs)
  where
    go : (b : Bool) → total (lines_of cs) ≡ length cs → total (cond b ((c ∷ []) ∷ lines_of cs) (on_first c (lines_of cs))) ≡ suc (length cs)
    go true h = omega (arith, h)
    go false h = omega (arith, h, first-total c (lines_of cs))

end_here : (c : ℕ) → eqb c newline ≡ true → has_end (c ∷ []) ≡ true
unfolding has_end cut
end_here c e = rw e

end_later : (c : ℕ) (r : Text) → eqb c newline ≡ false → has_end r ≡ true → has_end (c ∷ r) ≡ true
unfolding has_end cut
end_later c r e h = rw e (go (cut newline r) h)
  where
    go : (o : _) → is_cut o ≡ true → is_cut (with_byte c o) ≡ true
    go none h = h
    go (some x) h = refl

lines-ended : (t : Text) → EndedBefore (lines_of t)
unfolding lines_of
lines-ended [] = tt
lines-ended (c ∷ cs) = go (eqb c newline) refl (lines_of cs) (lines-ended cs)
  where
    go : (b : Bool) → eqb c newline ≡ b → (ls : List Text) → EndedBefore ls → EndedBefore (cond b ((c ∷ []) ∷ ls) (on_first c ls))
    go true e [] h = tt
    go true e (f ∷ fs) h = (end_here c e, h)
    go false e [] h = tt
    go false e (f ∷ []) h = tt
    go false e (f ∷ g ∷ fs) h = (end_later c f e h.0, h.1)

-- ---- the text of a file

marked-bytes : (t : Text) → length (unmarked t) + one (is_marked t) ≤ length t
unfolding unmarked is_marked
marked-bytes t = go (begins_with byte_order_mark t) refl
  where
    go : (b : Bool) → begins_with byte_order_mark t ≡ b → length (cond b (drop 3 t) t) + one b ≤ length t
    go true e = omega (arith, length-drop 3 t, (stripped_some byte_order_mark t e).0)
    go false e = omega arith

early_bytes : (t : Text) → length (text_of t) + one (ends_early t) ≤ length (unmarked t)
unfolding text_of ends_early
early_bytes t = go (ltb (index_of substitute (unmarked t)) (length (unmarked t))) refl
  where
    within : index_of substitute (unmarked t) ≤ length (unmarked t)
    within = index-within (λ c. eqb c substitute) (unmarked t)

    go : (b : Bool) → ltb (index_of substitute (unmarked t)) (length (unmarked t)) ≡ b
        → length (take (index_of substitute (unmarked t)) (unmarked t)) + one b ≤ length (unmarked t)
    go true e = omega (arith, length-take-le (index_of substitute (unmarked t)) (unmarked t) within, ltb-true (index_of substitute (unmarked t)) (length (unmarked t)) e)
    go false e = omega (arith, within, length-take-le (index_of substitute (unmarked t)) (unmarked t) within)

-- ---- its notes

mark-size : (t : Text) → length (mark_note t) ≡ 2 * one (is_marked t)
unfolding mark_note
mark-size t = go (is_marked t)
  where
    go : (b : Bool) → length {A = ℕ} (cond b (1 ∷ 1 ∷ []) []) ≡ 2 * one b
    go true = refl
    go false = refl

end_size : (t : Text) → length (end_note t) ≡ 2 * one (ends_early t && all_ended (lines_of (text_of t)))
unfolding end_note
end_size t = go (ends_early t && all_ended (lines_of (text_of t)))
  where
    go : (b : Bool) → length (cond b (2 ∷ suc (length (lines_of (text_of t))) ∷ []) []) ≡ 2 * one b
    go true = refl
    go false = refl

notes_room : (t : Text) (header unit : ℕ) (c : Cleaned) → Answered t header unit c → length c.notes ≤ 2 * length t + 4
unfolding all_notes
notes_room t header unit c a =
    let rs = lines_of (text_of t) in
    let ns = notes_of unit a.last (ends_early t) 1 at_start rs a.kept in
    let sum = notes_sum rs unit a.last 1 (ends_early t) none at_start a.kept (lines-ended (text_of t)) a.kept_are in
    let size : length c.notes ≡ length (mark_note t) + (length ns + length (end_note t)) =
    omega (arith, ap length a.notes_are, length-append (mark_note t) (ns ++ end_note t), length-append ns (end_note t)) in
    go (length ns) (length c.notes) (is_marked t) (ends_early t) (all_ended rs) size sum (mark-size t) (end_size t) (marked-bytes t) (early_bytes t) (lines-total (text_of t))
  where
    go : (n x : ℕ) (m e o : Bool) → x ≡ length (mark_note t) + (n + length (end_note t)) → n ≤ 2 * (total (lines_of (text_of t)) + spare e o)
        → length (mark_note t) ≡ 2 * one m → length (end_note t) ≡ 2 * one (e && o) → length (unmarked t) + one m ≤ length t → length (text_of t) + one e ≤ length (unmarked t)
        → total (lines_of (text_of t)) ≡ length (text_of t) → x ≤ 2 * length t + 4
    go n x true true true s h p q r u v = omega arith
    go n x true true false s h p q r u v = omega arith
    go n x true false true s h p q r u v = omega arith
    go n x true false false s h p q r u v = omega arith
    go n x false true true s h p q r u v = omega arith
    go n x false true false s h p q r u v = omega arith
    go n x false false true s h p q r u v = omega arith
    go n x false false false s h p q r u v = omega arith

-- ---- the whole file

pub room_by_bytes : RoomByBytes
room_by_bytes t header unit c e =
    let a = answered t header unit c e in
    let rs = lines_of (text_of t) in
    let s = sums rs unit a.last 1 none none a.kept a.series (lines-ended (text_of t)) a.kept_are a.reads in
    record {
      text = omega (arith, ap length a.text_is, s.0, lines-total (text_of t), early_bytes t, marked-bytes t);
      lines = omega (arith, ap length a.lines_are, numbers_length (closed_lines unit a.kept), closed-count unit a.kept, s.1, lines-total (text_of t), early_bytes t, marked-bytes t);
      notes = notes_room t header unit c a;
    }

pub never_short_by_bytes : NeverShortByBytes
never_short_by_bytes t header unit x y z hx hy hz = room_stays (cleaned t header unit) x y z (λ c e. wider c (room_by_bytes t header unit c e))
  where
    wider : (c : Cleaned) → Within c (2 * length t) (length t / 10) (2 * length t + 4) → Within c x y z
    wider c w = record { text = omega (arith, w.text); lines = omega (arith, w.lines); notes = omega (arith, w.notes) }
