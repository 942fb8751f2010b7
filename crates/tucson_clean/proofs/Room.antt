-- The buffers, where there is room for all, and where one is too short.
use mathlib.Core.Path.{◌≡◌, sym, ◌∙◌, ap, ap₂, subst}
use mathlib.Core.Bool.{Bool, true, cond}
use mathlib.Core.List.{List}
use Prim.Native.Nat.{ℕ, ◌/◌, ◌<◌, ◌≤◌}
use native.Mathlib.Omega.{arith}
use borrow.Author.Tests.{le-leb, lt-leb}
use lib.Dec.{leb}
use lib.ListN.{length}
use Rattle.base_outcome.specs.Outcome.{Outcome, answer, refusal, refuse, capped, with_answer}
use Rattle.base_text.specs.Bytes.{Text}
use Rattle.spec_tucson.specs.Line.{lines_of}
use Rattle.spec_tucson.specs.FileText.{text_of}
use Rattle.spec_tucson.specs.StrictLine.{Kept}
use Rattle.spec_tucson.specs.CleanCall.{Cleaned, if_room, counts_of, laid}
use Rattle.tucson_putting.proofs.Wrote.{written-whole}
use Rattle.tucson_walk.specs.declared.Walked.{Walked}
use Rattle.std.specs.Prelude.{Result, Ok, Err}
use Rattle.base_outcome.specs.Machine.{refused}
use Rattle.base_outcome.specs.declared.Refusal.{Refusal}
use Rattle.tucson_clean.specs.declared.Counts as machine
use Rattle.tucson_clean.specs.Machine.{RoomFor, AllPut, Measured, counts, Ends, made_of}

pub measured : {t : Text} {h unit : ℕ} {ks : List Kept} {out out' : Text} {lines lines' notes notes' : List ℕ} {r : Walked}
    → AllPut t h unit ks out out' lines lines' notes notes' r → Measured t h unit ks r
measured p = record {
  bytes_are = omega (arith, p.bytes-put.behind);
  lines_are = omega (arith, p.numbers-put.behind);
  cells_are = omega (arith, p.cells-put.behind);
}

-- a refusal leaves the buffers as they were
pub ends_refused : (o : Outcome Cleaned) (code place : ℕ) (out : Text) (lines notes : List ℕ) → o ≡ refusal code place
    → Ends o out out lines lines notes notes (Err (refused code place))
unfolding counts laid
ends_refused o code place out lines notes e = record {
  answers = sym (ap (with_answer counts_of) e);
  text_is = sym (ap (λ (x : Outcome Cleaned). laid (λ c. c.text) x out) e);
  lines_are = sym (ap (λ (x : Outcome Cleaned). laid (λ c. c.lines) x lines) e);
  notes_are = sym (ap (λ (x : Outcome Cleaned). laid (λ c. c.notes) x notes) e);
}

module _ (c : Cleaned) (out lines notes : ℕ) where
  abbrev by_tests : Bool → Bool → Bool → Outcome Cleaned
  by_tests x y z = cond x (cond y (cond z (answer c) (refuse 1 2)) (refuse 1 1)) (refuse 1 0)

  pub short-text : out < length c.text → if_room out lines notes c ≡ refusal 1 0
  unfolding if_room capped
  short-text h = ap (λ (x : Bool). by_tests x (leb (length c.lines) lines) (leb (length c.notes) notes)) (lt-leb (length c.text) out h)

  pub short-lines : length c.text ≤ out → lines < length c.lines → if_room out lines notes c ≡ refusal 1 1
  unfolding if_room capped
  short-lines g h = ap₂ (λ (x y : Bool). by_tests x y (leb (length c.notes) notes)) (le-leb (length c.text) out g) (lt-leb (length c.lines) lines h)

  pub short_notes : length c.text ≤ out → length c.lines ≤ lines → notes < length c.notes → if_room out lines notes c ≡ refusal 1 2
  unfolding if_room capped
  short_notes f g h = ap₂ (λ (x y : Bool). by_tests x y (leb (length c.notes) notes)) (le-leb (length c.text) out f) (le-leb (length c.lines) lines g)
      ∙ ap (λ (z : Bool). by_tests true true z) (lt-leb (length c.notes) notes h)

  pub room_for_all : length c.text ≤ out → length c.lines ≤ lines → length c.notes ≤ notes → if_room out lines notes c ≡ answer c
  unfolding if_room capped
  room_for_all f g h = ap₂ (λ (x y : Bool). by_tests x y (leb (length c.notes) notes)) (le-leb (length c.text) out f) (le-leb (length c.lines) lines g)
      ∙ ap (λ (z : Bool). by_tests true true z) (le-leb (length c.notes) notes h)

-- What is counted of what is put.
abbrev pub put : Walked → machine.Counts
put r = record { bytes = r.bytes; lines = r.lines; notes = r.cells / 2 }

pub ends_answered : {t : Text} {h unit : ℕ} {ks : List Kept} {out out' : Text} {lines lines' notes notes' : List ℕ} {r : Walked} (o : Outcome Cleaned)
    → o ≡ answer (made_of t h unit ks) → AllPut t h unit ks out out' lines lines' notes notes' r
    → length (made_of t h unit ks).text ≤ length out → length (made_of t h unit ks).lines ≤ length lines → length (made_of t h unit ks).notes ≤ length notes
    → Ends o out out' lines lines' notes notes' (Ok (put r))
unfolding counts laid
ends_answered {t} {h} {unit} {ks} {out} {out'} {lines} {lines'} {notes} {notes'} {r} o e p f g i =
    let m = measured p in
    record {
      answers = ap₂ (λ (x y : ℕ). answer (record { bytes = x; lines = y; notes = r.cells / 2 })) m.bytes_are m.lines_are
          ∙ ap (λ (z : ℕ). answer (record { bytes = length (made_of t h unit ks).text; lines = length (made_of t h unit ks).lines; notes = z / 2 })) m.cells_are
          ∙ sym (ap (with_answer counts_of) e);
      text_is = p.bytes-put.contents ∙ written-whole (made_of t h unit ks).text out f ∙ sym (ap (λ (x : Outcome Cleaned). laid (λ c. c.text) x out) e);
      lines_are = p.numbers-put.contents ∙ written-whole (made_of t h unit ks).lines lines g ∙ sym (ap (λ (x : Outcome Cleaned). laid (λ c. c.lines) x lines) e);
      notes_are = p.cells-put.contents ∙ written-whole (made_of t h unit ks).notes notes i ∙ sym (ap (λ (x : Outcome Cleaned). laid (λ c. c.notes) x notes) e);
    }

-- buffers that are long enough for any text of so many lines
pub ends-ample : {t : Text} {h unit : ℕ} {ks : List Kept} {out out' : Text} {lines lines' notes notes' : List ℕ} {r : Walked} (count : ℕ)
    → count ≡ length (lines_of (text_of t)) → RoomFor count (length out) (length lines) (length notes)
    → AllPut t h unit ks out out' lines lines' notes notes' r
    → Ends (if_room (length out) (length lines) (length notes) (made_of t h unit ks)) out out' lines lines' notes notes'
    (Ok (put r))
ends-ample {t} {h} {unit} {ks} {out} {out'} {lines} {lines'} {notes} {notes'} {r} count e room p =
    let m = measured p in
    let made = made_of t h unit ks in
    let x : length made.text ≤ length out = omega (arith, e, m.bytes_are, p.bytes-put.near, room.bytes_fit) in
    let y : length made.lines ≤ length lines = omega (arith, e, m.lines_are, p.numbers-put.near, room.lines_fit) in
    let z : length made.notes ≤ length notes = omega (arith, e, m.cells_are, p.cells-put.near, room.cells_fit) in
    ends_answered _ (room_for_all made (length out) (length lines) (length notes) x y z) p x y z

pub ends_same : {o p : Outcome Cleaned} {out out' : Text} {lines lines' notes notes' : List ℕ} {r : Result machine.Counts Refusal}
    → o ≡ p → Ends o out out' lines lines' notes notes' r
    → Ends p out out' lines lines' notes notes' r
ends_same {o} {p} {out} {out'} {lines} {lines'} {notes} {notes'} {r} e = subst (λ (x : Outcome Cleaned). Ends x out out' lines lines' notes notes' r) e
