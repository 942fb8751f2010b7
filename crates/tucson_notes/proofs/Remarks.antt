-- The remarks on a line by what is told of its fields.
use mathlib.Core.Path.{◌≡◌, refl, sym, ◌∙◌, ap, ap₂}
use mathlib.Core.Bool.{Bool, true, false, cond, ◌&&◌, ◌||◌, not, and-false}
use mathlib.Core.List.{List, [], ◌∷◌, ◌++◌, drop_last, append_assoc}
use Prim.Native.Nat.{ℕ, ◌+◌, ◌-◌, ◌≤◌}
use native.Mathlib.Omega.{arith}
use borrow.Author.Tests.{le-leb}
use lib.Dec.{leb}
use lib.IntN.{ℤ, pos}
use lib.ListN.{length, take, get_or}
use Rattle.base_exact.proofs.Decide.{clash}
use Rattle.base_print.specs.Buffer.{Puts}
use Rattle.base_print.proofs.Buffer.{puts_then, puts_as}
use Rattle.base_text.specs.Bytes.{Text}
use Rattle.spec_tucson.specs.Columns.{columns}
use Rattle.spec_tucson.specs.Line.{field_columns, same, thousandths}
use Rattle.spec_tucson.specs.CleanSeries.{closing_of}
use Rattle.spec_tucson.specs.Series.{hundredths}
use Rattle.spec_tucson.specs.TextReading.{last_field}
use Rattle.spec_tucson.specs.CleanNotes.{Ahead, note_if, at_line, is_empty, begins_absent, ends_with, has_last_width, is_absent_end, is_like_closing}
use Rattle.tucson_notes.specs.Machine.{SumsUp, widths_on, shown_marked, form_marked, marked, strict_put}
use Rattle.tucson_notes.specs.declared.Fields as machine
use Rattle.tucson_notes.specs.declared.Marks as marks

-- ---- cells of notes

pub at_note : (line : ℕ) (b : Bool) (n : ℕ) (ns : List ℕ) → at_line line (note_if b n []) ++ at_line line ns ≡ at_line line (note_if b n ns)
unfolding at_line
at_note line true n ns = refl
at_note line false n ns = refl

-- four notes before others
four : (line : ℕ) (a b c d : Bool) (i j k l : ℕ) (ns : List ℕ) → at_line line (note_if a i (note_if b j (note_if c k (note_if d l [])))) ++ at_line line ns
    ≡ at_line line (note_if a i (note_if b j (note_if c k (note_if d l ns))))
unfolding at_line
four line a b c d i j k l ns = one a i _ _ (one b j _ _ (one c k _ _ (at_note line d l ns)))
  where
    one : (b : Bool) (i : ℕ) (xs ys : List ℕ) → at_line line xs ++ at_line line ns ≡ at_line line ys
        → at_line line (note_if b i xs) ++ at_line line ns ≡ at_line line (note_if b i ys)
    one true i xs ys e = ap (λ (l : List ℕ). i ∷ line ∷ l) e
    one false i xs ys e = e

-- a note, and others behind it
pub note_then : (line n : ℕ) (ns : List ℕ) {b d : Bool} {l m at : ℕ} {out mid end : List ℕ} {next last : ℕ} → b ≡ d
    → Puts l at (at_line line (note_if b n [])) out mid next → Puts m next (at_line line ns) mid end last
    → Puts (l + m) at (at_line line (note_if d n ns)) out end last
note_then line n ns {b} e p q = puts_as (at_note line b n ns ∙ ap (λ (x : Bool). at_line line (note_if x n ns)) e) (puts_then p q)

-- a note, and none behind it
pub note-last : (line n : ℕ) {b d : Bool} {l at : ℕ} {out end : List ℕ} {last : ℕ} → b ≡ d
    → Puts l at (at_line line (note_if b n [])) out end last → Puts l at (at_line line (note_if d n [])) out end last
note-last line n e p = puts_as (ap (λ (x : Bool). at_line line (note_if x n [])) e) p

-- ---- whether there is a width

empty-front : (fs : List ℤ) → 1 ≤ length fs → is_empty (drop_last fs) ≡ not (leb 2 (length fs))
empty-front [] h = absurd (omega arith)
empty-front (f ∷ []) h = refl
empty-front (f ∷ g ∷ fs) h = ap not (sym (le-leb 2 (length (f ∷ g ∷ fs)) (omega arith)))

empty-whole : (fs : List ℤ) → 1 ≤ length fs → is_empty fs ≡ false
empty-whole [] h = absurd (omega arith)
empty-whole (f ∷ fs) h = refl

pub empty-last : {fs : List ℤ} {f : machine.Fields} → SumsUp fs f → is_empty (widths_on true fs) ≡ not (leb 2 f.count)
empty-last {fs} s = empty-front fs s.some_field ∙ ap (λ (n : ℕ). not (leb 2 n)) (sym s.count_is)

pub empty_other : {fs : List ℤ} {f : machine.Fields} → SumsUp fs f → is_empty (widths_on false fs) ≡ false
empty_other {fs} s = empty-whole fs s.some_field

-- ---- the first and the last width

begins-with : (last : Bool) (fs : List ℤ) → is_empty (widths_on last fs) ≡ false → begins_absent (widths_on last fs) ≡ same (get_or fs 0 (pos 0)) (pos 0)
unfolding begins_absent
begins-with true [] e = clash cc
begins-with true (f ∷ []) e = clash cc
begins-with true (f ∷ g ∷ fs) e = refl
begins-with false [] e = clash cc
begins-with false (f ∷ fs) e = refl

ends_in : (z : ℤ) (ws : List ℤ) → is_empty ws ≡ false → ends_with z ws ≡ same (last_field ws) z
unfolding ends_with
ends_in z [] e = clash cc
ends_in z (w ∷ ws) e = refl

last_on : (last : Bool) (fs : List ℤ) → last_field (widths_on last fs) ≡ cond last (last_field (drop_last fs)) (last_field fs)
last_on true fs = refl
last_on false fs = refl

module _ (last : Bool) {fs : List ℤ} {f : machine.Fields} (s : SumsUp fs f) (e : is_empty (widths_on last fs) ≡ false) where
  pub begins_told : begins_absent (widths_on last fs) ≡ same f.first (pos 0)
  begins_told = begins-with last fs e ∙ ap (λ (z : ℤ). same z (pos 0)) (sym s.first_is)

  pub ends_told : (z : ℤ) → ends_with z (widths_on last fs) ≡ same (cond last f.before f.last) z
  ends_told z = ends_in z (widths_on last fs) e
      ∙ ap (λ (w : ℤ). same w z) (last_on last fs ∙ ap₂ (λ (a b : ℤ). cond last a b) (sym s.before_is) (sym s.last_is))

-- ---- remark 12

pub absent_none : (first : Bool) (a : Ahead) (ws : List ℤ) → is_empty ws ≡ true → first ≡ is_absent_end first a ws
unfolding is_absent_end begins_absent ends_with
absent_none true a [] e = refl
absent_none false a [] e = sym (and-false (has_last_width a))
absent_none first a (w ∷ ws) e = clash cc

pub absent_some : (first : Bool) (a : Ahead) (ws : List ℤ) → is_empty ws ≡ false
    → ((first && begins_absent ws) || (has_last_width a && ends_with (pos 0) ws)) ≡ is_absent_end first a ws
unfolding is_absent_end
absent_some first a [] e = clash cc
absent_some first a (w ∷ ws) e = refl

-- ---- remark 13

pub like-none : (a : Ahead) (ws : List ℤ) → is_empty ws ≡ true → false ≡ is_like_closing a ws
unfolding is_like_closing ends_with
like-none a [] e = sym (and-false (same a.closing thousandths))
like-none a (w ∷ ws) e = clash cc

-- ---- both, by what is told of the fields
module _ (last : Bool) (a : Ahead) {fs : List ℤ} {f : machine.Fields} (s : SumsUp fs f) (e : is_empty (widths_on last fs) ≡ false) where
  pub absent-first : (first : Bool) → (first && same f.first (pos 0)) ≡ true → true ≡ is_absent_end first a (widths_on last fs)
  absent-first first h =
      sym (ap (λ (b : Bool). b || (has_last_width a && ends_with (pos 0) (widths_on last fs))) (ap (λ (b : Bool). first && b) (begins_told last s e) ∙ h))
      ∙ absent_some first a (widths_on last fs) e

  pub absent-last : (first : Bool) → (first && same f.first (pos 0)) ≡ false
      → (has_last_width a && same (cond last f.before f.last) (pos 0)) ≡ is_absent_end first a (widths_on last fs)
  absent-last first h =
      ap (λ (b : Bool). has_last_width a && b) (sym (ends_told last s e (pos 0)))
      ∙ sym (ap (λ (b : Bool). b || (has_last_width a && ends_with (pos 0) (widths_on last fs))) (ap (λ (b : Bool). first && b) (begins_told last s e) ∙ h))
      ∙ absent_some first a (widths_on last fs) e

  pub like_some : (same a.closing thousandths && same (cond last f.before f.last) hundredths) ≡ is_like_closing a (widths_on last fs)
  unfolding is_like_closing
  like_some = ap (λ (b : Bool). same a.closing thousandths && b) (sym (ends_told last s e hundredths))

-- ---- what was changed

shown-before : (line : ℕ) (m : marks.Marks) (ns : List ℕ) → at_line line (shown_marked m []) ++ at_line line ns ≡ at_line line (shown_marked m ns)
unfolding shown_marked
shown-before line m ns = four line m.cut m.returned m.tabbed m.trailing 2 3 4 5 ns

form_before : (line : ℕ) (m : marks.Marks) (ns : List ℕ) → at_line line (form_marked m []) ++ at_line line ns ≡ at_line line (form_marked m ns)
unfolding form_marked
form_before line m ns = four line m.site m.unended m.high m.reclosed 7 8 10 11 ns

pub marks-before : (line : ℕ) (m : marks.Marks) (ns : List ℕ) → at_line line (marked m []) ++ at_line line ns ≡ at_line line (marked m ns)
marks-before line m ns =
    ap (λ (x : List ℕ). x ++ at_line line ns) (sym (shown-before line m (form_marked m [])))
    ∙ append_assoc (at_line line (shown_marked m [])) (at_line line (form_marked m [])) (at_line line ns)
    ∙ ap (λ (x : List ℕ). at_line line (shown_marked m []) ++ x) (form_before line m ns)
    ∙ shown-before line m (form_marked m ns)

pub marks-both : (line : ℕ) (m : marks.Marks) → at_line line (shown_marked m []) ++ at_line line (form_marked m []) ≡ at_line line (marked m [])
marks-both line m = shown-before line m (form_marked m [])

-- ---- the bytes of a strict line and its end

pub own-closing : (line : Text) (n unit : ℕ) (b : Bool) → b ≡ false → take (n - 0) line ++ (10 ∷ []) ≡ strict_put line n b unit
unfolding strict_put
own-closing line n unit true e = clash cc
own-closing line n unit false e = let z : n - 0 ≡ n = omega arith in ap (λ (k : ℕ). take k line ++ (10 ∷ [])) z

pub unit_closing : (line : Text) (n unit : ℕ) (b : Bool) → b ≡ true
    → take (n - field_columns - 0) line ++ (columns field_columns (closing_of unit) ++ (10 ∷ [])) ≡ strict_put line n b unit
unfolding strict_put
unit_closing line n unit false e = clash cc
unit_closing line n unit true e =
    let z : n - field_columns - 0 ≡ n - field_columns = omega arith in
    ap (λ (k : ℕ). take k line ++ (columns field_columns (closing_of unit) ++ (10 ∷ []))) z
    ∙ sym (append_assoc (take (n - field_columns) line) (columns field_columns (closing_of unit)) (10 ∷ []))
