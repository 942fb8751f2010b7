-- The buffers by the count of byte 10: each line of the text has at most 73 bytes of the answer and eleven notes.
use mathlib.Core.Path.{◌≡◌, refl, sym, ◌∙◌, ap, subst}
use mathlib.Core.Bool.{Bool, true, false, cond, ◌&&◌, not}
use mathlib.Core.List.{List, [], ◌∷◌, ◌++◌, map}
use mathlib.Core.Option.{Option, some, none}
use Prim.Native.Nat.{ℕ, zero, suc, ◌+◌, ◌*◌, ◌≤◌}
use native.Mathlib.Omega.{arith}
use borrow.Author.Tests.{le-leb}
use lib.Dec.{eqb, leb}
use lib.IntN.{ℤ}
use lib.ListN.{length, take, drop, length-append}
use Rattle.base_outcome.specs.Outcome.{Outcome, answer, refusal, ◌then◌}
use Rattle.base_text.specs.Bytes.{Text, newline, index_of, on_first}
use Rattle.spec_tucson.specs.Line.{lines_of}
use Rattle.spec_tucson.specs.FileText.{substitute, byte_order_mark, is_marked, unmarked, text_of, ends_early}
use Rattle.spec_tucson.specs.Shown.{shown, is_blank_line, has_end, has_return, has_tab, has_trailing}
use Rattle.spec_tucson.specs.StrictLine.{has_site, any_high, shown_fields, Kept}
use Rattle.spec_tucson.specs.KeptLines.{is_data, kept_lines}
use Rattle.spec_tucson.specs.CleanSeries.{follows_its, fields_of, is_reclosed, closed_lines, with_end, strict_text}
use Rattle.spec_tucson.specs.CleanNotes.{note_if, Ahead, ahead, is_last, widths_in, is_absent_end, is_like_closing, is_other_unit, remarks}
use Rattle.spec_tucson.specs.CleanNotes.{is_cut_line, kept_notes, header_notes, line_notes, at_line, Before, closing_or, behind, notes_of}
use Rattle.spec_tucson.specs.CleanCall.{Cleaned, cleaned, if_room, mark_note, end_note, at_start, all_notes, all_ended}
use Rattle.spec_tucson.proofs.Kept.{kept_other, kept_data}
use Rattle.tucson_strict.proofs.Strict.{strict_size}
use Rattle.theorems_clean.proofs.Answers.{Answered, answered}
use Rattle.theorems_clean.proofs.Sources.{kept-none, kept-sources, sources_strict}
use Rattle.theorems_clean.proofs.Lines.{numbers_length, closed-numbers}
use Rattle.theorems_clean.proofs.StrictLines.{AllStrict, closed_strict}
use Rattle.theorems_lost.proofs.Accounts.{other_notes, notes_other, notes_data}
use Rattle.theorems_room.specs.Room.{line_ends, Within, RoomByLines, NeverShortByLines}

-- ---- lines of the text

first_count : (c : ℕ) (ls : List Text) (n : ℕ) → length ls ≤ suc n → length (on_first c ls) ≤ suc n
first_count c [] n h = omega arith
first_count c (f ∷ fs) n h = h

lines-count : (t : Text) → length (lines_of t) ≤ suc (line_ends t)
unfolding lines_of line_ends
lines-count [] = omega arith
lines-count (c ∷ cs) = go (eqb c newline) (lines-count cs)
  where
    go : (b : Bool) → length (lines_of cs) ≤ suc (line_ends cs)
        → length (cond b ((c ∷ []) ∷ lines_of cs) (on_first c (lines_of cs))) ≤ suc (cond b (suc (line_ends cs)) (line_ends cs))
    go true h = omega (arith, h)
    go false h = first_count c (lines_of cs) (line_ends cs) h

take_ends : (n : ℕ) (t : Text) → line_ends (take n t) ≤ line_ends t
unfolding line_ends
take_ends zero t = omega arith
take_ends (suc n) [] = omega arith
take_ends (suc n) (c ∷ cs) = go (eqb c newline) (take_ends n cs)
  where
    go : (b : Bool) → line_ends (take n cs) ≤ line_ends cs
        → cond b (suc (line_ends (take n cs))) (line_ends (take n cs)) ≤ cond b (suc (line_ends cs)) (line_ends cs)
    go true h = omega (arith, h)
    go false h = h

drop-ends : (n : ℕ) (t : Text) → line_ends (drop n t) ≤ line_ends t
unfolding line_ends
drop-ends zero t = omega arith
drop-ends (suc n) [] = omega arith
drop-ends (suc n) (c ∷ cs) = go (eqb c newline) (drop-ends n cs)
  where
    go : (b : Bool) → line_ends (drop n cs) ≤ line_ends cs → line_ends (drop n cs) ≤ cond b (suc (line_ends cs)) (line_ends cs)
    go true h = omega (arith, h)
    go false h = h

unmarked-ends : (t : Text) → line_ends (unmarked t) ≤ line_ends t
unfolding unmarked
unmarked-ends t = go (is_marked t)
  where
    go : (b : Bool) → line_ends (cond b (drop 3 t) t) ≤ line_ends t
    go true = drop-ends 3 t
    go false = omega arith

text-lines : (t : Text) → length (lines_of (text_of t)) ≤ suc (line_ends t)
unfolding text_of
text-lines t = omega (arith, lines-count (text_of t), take_ends (index_of substitute (unmarked t)) (unmarked t), unmarked-ends t)

-- ---- lines and bytes of the answer

kept-count : (rs : List Text) (h i : ℕ) (b : Option Kept) (ks : List Kept) → kept_lines h i b rs ≡ answer ks → length ks ≤ length rs
kept-count [] h i b ks e = omega (arith, ap length (kept-none h i b ks e))
kept-count (r ∷ rs) h i b ks e = go (is_data h i r) refl (λ c js. kept-count rs h (suc i) c js)
  where
    go : (d : Bool) → is_data h i r ≡ d → ((c : Option Kept) (js : List Kept) → kept_lines h (suc i) c rs ≡ answer js → length js ≤ length rs)
        → length ks ≤ suc (length rs)
    go true d ih = let k = kept_data h i b r rs ks d e in omega (arith, ap length k.is, ih _ k.others k.rest)
    go false d ih = omega (arith, ih b ks (sym (kept_other h i b r rs d) ∙ e))

pub closed-count : (unit : ℕ) (ks : List Kept) → length (closed_lines unit ks) ≡ length ks
unfolding closed_lines
closed-count unit [] = refl
closed-count unit (k ∷ ks) = ap suc (closed-count unit ks)

strict-bytes : (ks : List Kept) → AllStrict ks → length (strict_text ks) ≤ 73 * length ks
unfolding strict_text
strict-bytes [] h = omega arith
strict-bytes (k ∷ ks) h =
    omega (arith, length-append (with_end k.text) (strict_text ks), length-append k.text (newline ∷ []), strict_size k.text h.0, strict-bytes ks h.1)

-- ---- notes

if_count : (b : Bool) (n : ℕ) (ns : List ℕ) → length (note_if b n ns) ≤ suc (length ns)
if_count true n ns = omega arith
if_count false n ns = omega arith

pub remarks-count : (z : ℤ) (first : Bool) (a : Ahead) (fs : List ℤ) → length (remarks z first a fs) ≤ 3
unfolding remarks
remarks-count z first a fs =
    omega (
      arith,
      if_count (is_absent_end first a (widths_in a fs)) 12 (note_if (is_like_closing a (widths_in a fs)) 13 (note_if (is_other_unit z a) 14 [])),
      if_count (is_like_closing a (widths_in a fs)) 13 (note_if (is_other_unit z a) 14 []),
      if_count (is_other_unit z a) 14 [],
    )

line-count : (early : Bool) (r : Text) (others : List ℕ) → length (line_notes early r others) ≤ 3 + length others
unfolding line_notes
line-count early r others =
    omega (arith, if_count (is_cut_line early r) 2 (note_if (has_return r) 3 (note_if (has_tab r) 4 others)), if_count (has_return r) 3 (note_if (has_tab r) 4 others), if_count (has_tab r) 4 others)

kept-notes : (unit : ℕ) (z : ℤ) (first : Bool) (a : Ahead) (k : Kept) → length (kept_notes unit z first a k) ≤ 8
unfolding kept_notes
kept-notes unit z first a k =
    let rest = remarks z first a (fields_of k.text) in
    let e = note_if (is_reclosed unit (not (is_last a)) k.text) 11 rest in
    let d = note_if (any_high (shown_fields k.raw)) 10 e in
    let c = note_if (not (has_end k.raw)) 8 d in
    let b = note_if (has_site (shown k.raw)) 7 c in
    omega (
      arith,
      if_count (has_trailing k.raw) 5 b,
      if_count (has_site (shown k.raw)) 7 c,
      if_count (not (has_end k.raw)) 8 d,
      if_count (any_high (shown_fields k.raw)) 10 e,
      if_count (is_reclosed unit (not (is_last a)) k.text) 11 rest,
      remarks-count z first a (fields_of k.text),
    )

header-count : (r : Text) → length (header_notes r) ≤ 3
unfolding header_notes
header-count r = omega (arith, if_count (has_trailing r) 5 (note_if (not (has_end r)) 8 (9 ∷ [])), if_count (not (has_end r)) 8 (9 ∷ []))

other_count : (early : Bool) (r : Text) → length (other_notes early r) ≤ 6
other_count early r = omega (arith, line-count early r (cond (is_blank_line r) (6 ∷ []) (header_notes r)), go (is_blank_line r))
  where
    go : (b : Bool) → length (cond b (6 ∷ []) (header_notes r)) ≤ 3
    go true = omega arith
    go false = header-count r

pub at_count : (i : ℕ) (ns : List ℕ) → length (at_line i ns) ≡ 2 * length ns
unfolding at_line
at_count i [] = refl
at_count i (n ∷ ns) = omega (arith, at_count i ns)

others-cells : (early : Bool) (i : ℕ) (r : Text) (ms : List ℕ) → length (at_line i (other_notes early r) ++ ms) ≤ 22 + length ms
others-cells early i r ms = omega (arith, length-append (at_line i (other_notes early r)) ms, at_count i (other_notes early r), other_count early r)

data_cells : (early : Bool) (i : ℕ) (r : Text) (ns ms : List ℕ) → length ns ≤ 8 → length (at_line i (line_notes early r ns) ++ ms) ≤ 22 + length ms
data_cells early i r ns ms h = omega (arith, length-append (at_line i (line_notes early r ns)) ms, at_count i (line_notes early r ns), line-count early r ns)

module _ (unit h : ℕ) (early : Bool) where
  notes_count : (i : ℕ) (b : Before) (rs : List Text) (ks : List Kept) → length (notes_of unit h early i b rs ks) ≤ 22 * length rs
  unfolding notes_of
  notes_count i b [] ks = omega arith
  notes_count i b (r ∷ rs) [] =
      omega (arith, others-cells early i r (notes_of unit h early (suc i) b rs []), notes_count (suc i) b rs [])
  notes_count i b (r ∷ rs) (k ∷ ks) = go (is_data h i r) refl (λ x js. notes_count (suc i) x rs js)
    where
      go : (d : Bool) → is_data h i r ≡ d → ((x : Before) (js : List Kept) → length (notes_of unit h early (suc i) x rs js) ≤ 22 * length rs)
          → length (notes_of unit h early i b (r ∷ rs) (k ∷ ks)) ≤ 22 * suc (length rs)
      go true d ih =
          let z = closing_or b.closing (ahead unit (k ∷ ks)).closing in
          let first = not (follows_its b.kept k) in
          omega (
            arith,
            ap length (notes_data unit h early i b r rs k ks d),
            data_cells early i r (kept_notes unit z first (ahead unit (k ∷ ks)) k) (notes_of unit h early (suc i) (behind z k) rs ks) (kept-notes unit z first (ahead unit (k ∷ ks)) k),
            ih (behind z k) ks,
          )
      go false d ih =
          omega (arith, ap length (notes_other unit h early i b r rs (k ∷ ks) d), others-cells early i r (notes_of unit h early (suc i) b rs (k ∷ ks)), ih b (k ∷ ks))

pub mark-count : (t : Text) → length (mark_note t) ≤ 2
unfolding mark_note
mark-count t = go (is_marked t)
  where
    go : (b : Bool) → length {A = ℕ} (cond b (1 ∷ 1 ∷ []) []) ≤ 2
    go true = omega arith
    go false = omega arith

pub end-count : (t : Text) → length (end_note t) ≤ 2
unfolding end_note
end-count t = go (ends_early t && all_ended (lines_of (text_of t)))
  where
    go : (b : Bool) → length (cond b (2 ∷ suc (length (lines_of (text_of t))) ∷ []) []) ≤ 2
    go true = omega arith
    go false = omega arith

all_count : (t : Text) (unit h : ℕ) (ks : List Kept) → length (all_notes t unit h ks) ≤ 22 * length (lines_of (text_of t)) + 4
unfolding all_notes
all_count t unit h ks =
    let ns = notes_of unit h (ends_early t) 1 at_start (lines_of (text_of t)) ks in
    omega (arith, length-append (mark_note t) (ns ++ end_note t), length-append ns (end_note t), mark-count t, end-count t, notes_count unit h (ends_early t) 1 at_start (lines_of (text_of t)) ks)

-- ---- the whole file

pub room_by_lines : RoomByLines
room_by_lines t header unit c e =
    let a = answered t header unit c e in
    let rs = lines_of (text_of t) in
    let strict = closed_strict unit a.kept (sources_strict rs 1 a.kept (kept-sources rs a.last 1 none a.kept a.kept_are)) in
    let few = kept-count rs a.last 1 none a.kept a.kept_are in
    record {
      text = omega (arith, ap length a.text_is, strict-bytes (closed_lines unit a.kept) strict, closed-count unit a.kept, few, text-lines t);
      lines = omega (arith, ap length a.lines_are, numbers_length (closed_lines unit a.kept), closed-count unit a.kept, few, text-lines t);
      notes = omega (arith, ap length a.notes_are, all_count t unit a.last a.kept, text-lines t);
    }

-- an answer that has room stays one
pub room_stays : (o : Outcome Cleaned) (x y z : ℕ) → ((c : Cleaned) → o ≡ answer c → Within c x y z) → (o then if_room x y z) ≡ o
unfolding if_room
room_stays (answer c) x y z h =
    let w = h c refl in
    rw (le-leb (length c.text) x w.text, le-leb (length c.lines) y w.lines, le-leb (length c.notes) z w.notes)
room_stays (refusal code place) x y z h = refl

pub never_short_by_lines : NeverShortByLines
never_short_by_lines t header unit x y z hx hy hz = room_stays (cleaned t header unit) x y z (λ c e. wider c (room_by_lines t header unit c e))
  where
    wider : (c : Cleaned) → Within c (79 * (line_ends t + 2)) (line_ends t + 2) (22 * (line_ends t + 2) + 4) → Within c x y z
    wider c w = record { text = omega (arith, w.text); lines = omega (arith, w.lines); notes = omega (arith, w.notes) }
