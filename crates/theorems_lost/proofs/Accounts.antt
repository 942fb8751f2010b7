-- Nothing is lost: each line of the text is kept, or it is blank or a header's, and then a note tells it.
use mathlib.Core.Path.{◌≡◌, refl, sym, ◌∙◌, ap, subst}
use mathlib.Core.Bool.{Bool, true, false, cond, ◌&&◌, not}
use mathlib.Core.List.{List, [], ◌∷◌, ◌++◌}
use mathlib.Core.Option.{Option, some, none}
use Prim.Native.Nat.{ℕ, suc, ◌+◌, ◌≤◌}
use native.Mathlib.Omega.{arith}
use borrow.Author.Tests.{ltb-false}
use lib.Dec.{ltb}
use Rattle.base_outcome.specs.Outcome.{answer}
use Rattle.base_text.specs.Bytes.{Text}
use Rattle.spec_tucson.specs.Line.{lines_of}
use Rattle.spec_tucson.specs.FileText.{is_marked, text_of, ends_early}
use Rattle.spec_tucson.specs.Shown.{is_blank_line, has_end, has_return, has_tab, has_trailing}
use Rattle.spec_tucson.specs.StrictLine.{Kept}
use Rattle.spec_tucson.specs.KeptLines.{is_data, kept_lines}
use Rattle.spec_tucson.specs.CleanSeries.{follows_its}
use Rattle.spec_tucson.specs.CleanNotes.{note_if, ahead, is_cut_line, kept_notes, header_notes, line_notes, at_line, Before, closing_or, notes_of}
use Rattle.spec_tucson.specs.CleanNotes.{behind as past}
use Rattle.spec_tucson.specs.CleanCall.{mark_note, end_note, at_start, all_notes}
use Rattle.spec_tucson.proofs.Kept.{kept_other, kept_data}
use Rattle.theorems_clean.specs.Places.{At, here, later, Noted, first, behind}
use Rattle.theorems_lost.specs.Lost.{blank, header, kept, left_out, NothingIsLost, Accounted}
use Rattle.theorems_clean.proofs.Answers.{Answered, answered}
use Rattle.theorems_clean.proofs.Lines.{numbers, closed-numbers}
use Rattle.theorems_clean.proofs.Headers.{at_below, Where, at_where, header_free, line_free}
use Rattle.theorems_clean.proofs.Headers.{first as at_first, other as at_other}

-- ---- notes among others

pub noted-before : {note line : ℕ} {ns : List ℕ} (more : List ℕ) → Noted note line ns → Noted note line (ns ++ more)
noted-before more first = first
noted-before more (behind n) = behind (noted-before more n)

pub noted-behind : {note line : ℕ} {ms : List ℕ} (i : ℕ) (ns : List ℕ) → Noted note line ms → Noted note line (at_line i ns ++ ms)
unfolding at_line
noted-behind i [] n = n
noted-behind i (m ∷ ns) n = behind (noted-behind i ns n)

noted_if : {note line : ℕ} (b : Bool) (m : ℕ) (ns : List ℕ) → Noted note line (at_line line ns) → Noted note line (at_line line (note_if b m ns))
unfolding at_line
noted_if true m ns n = behind n
noted_if false m ns n = n

noted-line : {note line : ℕ} (early : Bool) (r : Text) (ns : List ℕ) → Noted note line (at_line line ns) → Noted note line (at_line line (line_notes early r ns))
unfolding line_notes
noted-line early r ns n = noted_if (is_cut_line early r) 2 _ (noted_if (has_return r) 3 _ (noted_if (has_tab r) 4 ns n))

-- the notes of a line that is left out
abbrev pub other_notes : Bool → Text → List ℕ
other_notes early r = line_notes early r (cond (is_blank_line r) (6 ∷ []) (header_notes r))

noted-blank : (early : Bool) (r : Text) (i : ℕ) → is_blank_line r ≡ true → Noted 6 i (at_line i (other_notes early r))
unfolding at_line
noted-blank early r i b =
    subst (λ (x : Bool). Noted 6 i (at_line i (line_notes early r (cond x (6 ∷ []) (header_notes r))))) (sym b) (noted-line early r (6 ∷ []) first)

noted-header : (early : Bool) (r : Text) (i : ℕ) → is_blank_line r ≡ false → Noted 9 i (at_line i (other_notes early r))
unfolding at_line header_notes
noted-header early r i b =
    subst (λ (x : Bool). Noted 9 i (at_line i (line_notes early r (cond x (6 ∷ []) (header_notes r))))) (sym b)
    (noted-line early r (header_notes r) (noted_if (has_trailing r) 5 _ (noted_if (not (has_end r)) 8 (9 ∷ []) first)))

-- ---- line by line

module _ (unit h : ℕ) (early : Bool) where
  pub notes_other : (i : ℕ) (b : Before) (r : Text) (rs : List Text) (ks : List Kept) → is_data h i r ≡ false
      → notes_of unit h early i b (r ∷ rs) ks ≡ at_line i (other_notes early r) ++ notes_of unit h early (suc i) b rs ks
  unfolding notes_of
  notes_other i b r rs [] d = refl
  notes_other i b r rs (k ∷ ks) d =
      ap (λ (x : Bool). cond x
      (at_line i (line_notes early r (kept_notes unit (closing_or b.closing (ahead unit (k ∷ ks)).closing) (not (follows_its b.kept k)) (ahead unit (k ∷ ks)) k))
      ++ notes_of unit h early (suc i) (past (closing_or b.closing (ahead unit (k ∷ ks)).closing) k) rs ks)
      (at_line i (other_notes early r) ++ notes_of unit h early (suc i) b rs (k ∷ ks))) d

  pub notes_data : (i : ℕ) (b : Before) (r : Text) (rs : List Text) (k : Kept) (ks : List Kept) → is_data h i r ≡ true
      → notes_of unit h early i b (r ∷ rs) (k ∷ ks)
      ≡ at_line i (line_notes early r (kept_notes unit (closing_or b.closing (ahead unit (k ∷ ks)).closing) (not (follows_its b.kept k)) (ahead unit (k ∷ ks)) k))
      ++ notes_of unit h early (suc i) (past (closing_or b.closing (ahead unit (k ∷ ks)).closing) k) rs ks
  unfolding notes_of
  notes_data i b r rs k ks d =
      ap (λ (x : Bool). cond x
      (at_line i (line_notes early r (kept_notes unit (closing_or b.closing (ahead unit (k ∷ ks)).closing) (not (follows_its b.kept k)) (ahead unit (k ∷ ks)) k))
      ++ notes_of unit h early (suc i) (past (closing_or b.closing (ahead unit (k ∷ ks)).closing) k) rs ks)
      (at_line i (other_notes early r) ++ notes_of unit h early (suc i) b rs (k ∷ ks))) d

-- What becomes of a line.
data Fate (h line : ℕ) (raw : Text) (lines notes : List ℕ) : Type 0 where
  stays : (n : ℕ) → At line n lines → Fate h line raw lines notes
  left : is_blank_line raw ≡ true → Noted 6 line notes → Fate h line raw lines notes
  heads : is_blank_line raw ≡ false → line ≤ h → Noted 9 line notes → Fate h line raw lines notes

fate_line : {h n m : ℕ} {raw : Text} {lines notes : List ℕ} → n ≡ m → Fate h n raw lines notes → Fate h m raw lines notes
fate_line {h} {n} {m} {raw} {lines} {notes} e f = subst (λ (l : ℕ). Fate h l raw lines notes) e f

fate_notes : {h n : ℕ} {raw : Text} {lines notes : List ℕ} (i : ℕ) (ns : List ℕ) → Fate h n raw lines notes → Fate h n raw lines (at_line i ns ++ notes)
fate_notes i ns (stays n at) = stays n at
fate_notes i ns (left b n) = left b (noted-behind i ns n)
fate_notes i ns (heads b l n) = heads b l (noted-behind i ns n)

fate_later : {h n m : ℕ} {raw : Text} {lines notes : List ℕ} → Fate h n raw lines notes → Fate h n raw (m ∷ lines) notes
fate_later (stays n at) = stays (suc n) (later at)
fate_later (left b n) = left b n
fate_later (heads b l n) = heads b l n

-- a line that is no data is blank or within the header
no_data : (h i : ℕ) (early : Bool) (r : Text) (lines more : List ℕ) → is_data h i r ≡ false → Fate h i r lines (at_line i (other_notes early r) ++ more)
unfolding is_data
no_data h i early r lines more d = go (is_blank_line r) refl d
  where
    go : (b : Bool) → is_blank_line r ≡ b → (not b && ltb h i) ≡ false → Fate h i r lines (at_line i (other_notes early r) ++ more)
    go true w d = left w (noted-before more (noted-blank early r i w))
    go false w d = heads w (ltb-false h i d) (noted-before more (noted-header early r i w))

-- what becomes of a line, whatever stands before these
abbrev Fates : List Text → ℕ → ℕ → ℕ → Bool → Text → Type 0
Fates rs unit h i early raw =
    (b : Option Kept) (before : Before) (ks : List Kept) → kept_lines h i b rs ≡ answer ks → (j : ℕ) → At raw j rs
    → Fate h (i + j) raw (numbers ks) (notes_of unit h early i before rs ks)

fates : (rs : List Text) (unit h i : ℕ) (early : Bool) (b : Option Kept) (before : Before) (ks : List Kept) → kept_lines h i b rs ≡ answer ks
    → (j : ℕ) (raw : Text) → At raw j rs → Fate h (i + j) raw (numbers ks) (notes_of unit h early i before rs ks)
fates [] unit h i early b before ks e j raw at = absurd (omega (arith, at_below at))
fates (r ∷ rs) unit h i early b before ks e j raw at =
    go (is_data h i r) refl (at_where raw r j rs at) (λ c x js f k. fates rs unit h (suc i) early c x js f k raw)
  where
    go : (d : Bool) → is_data h i r ≡ d → Where raw r j rs → Fates rs unit h (suc i) early raw → Fate h (i + j) raw (numbers ks) (notes_of unit h early i before (r ∷ rs) ks)
    go false d (at_first same z) ih =
        subst (Fate h (i + j) raw (numbers ks)) (sym (notes_other unit h early i before r rs ks d))
        (subst (λ (s : Text). Fate h (i + j) s (numbers ks) (at_line i (other_notes early r) ++ notes_of unit h early (suc i) before rs ks)) (sym same)
        (fate_line (let n : i ≡ i + j = omega arith in n) (no_data h i early r (numbers ks) (notes_of unit h early (suc i) before rs ks) d)))
    go false d (at_other k z at) ih =
        subst (Fate h (i + j) raw (numbers ks)) (sym (notes_other unit h early i before r rs ks d))
        (fate_notes i (other_notes early r) (fate_line (let n : suc i + k ≡ i + j = omega arith in n) (ih b before ks (sym (kept_other h i b r rs d) ∙ e) k at)))
    go true d w ih =
        let p = kept_data h i b r rs ks d e in
        let first-kept : Kept = record { line = i; raw = r; text = p.text } in
        subst (λ (js : List Kept). Fate h (i + j) raw (numbers js) (notes_of unit h early i before (r ∷ rs) js)) (sym p.is)
        (subst (Fate h (i + j) raw (i ∷ numbers p.others)) (sym (notes_data unit h early i before r rs first-kept p.others d))
        (data_line p.others _ _ w (λ k at. ih (some first-kept) _ p.others p.rest k at)))
      where
        data_line : (js : List Kept) (x : Before) (ns : List ℕ) → Where raw r j rs
            → ((k : ℕ) → At raw k rs → Fate h (suc i + k) raw (numbers js) (notes_of unit h early (suc i) x rs js))
            → Fate h (i + j) raw (i ∷ numbers js) (at_line i ns ++ notes_of unit h early (suc i) x rs js)
        data_line js x ns (at_first same z) ih = fate_line (let n : i ≡ i + j = omega arith in n) (stays 0 here)
        data_line js x ns (at_other k z at) ih = fate_later (fate_notes i ns (fate_line (let n : suc i + k ≡ i + j = omega arith in n) (ih k at)))

-- ---- the whole file

pub noted_all : {note line : ℕ} (t : Text) (unit h : ℕ) (ks : List Kept) → Noted note line (notes_of unit h (ends_early t) 1 at_start (lines_of (text_of t)) ks) → Noted note line (all_notes t unit h ks)
unfolding all_notes mark_note
noted_all {note} {line} t unit h ks n = go (is_marked t)
  where
    go : (b : Bool) → Noted note line (cond b (1 ∷ 1 ∷ []) [] ++ (notes_of unit h (ends_early t) 1 at_start (lines_of (text_of t)) ks ++ end_note t))
    go true = behind (noted-before (end_note t) n)
    go false = noted-before (end_note t) n

pub nothing_is_lost : NothingIsLost
nothing_is_lost t header_option unit c e j raw at =
    go (fates rs unit a.last 1 (ends_early t) none at_start a.kept a.kept_are j raw at)
  where
    a : Answered t header_option unit c
    a = answered t header_option unit c e

    rs : List Text
    rs = lines_of (text_of t)

    told : (note : ℕ) → Noted note (1 + j) (notes_of unit a.last (ends_early t) 1 at_start rs a.kept) → Noted note (suc j) c.notes
    told note n = subst (Noted note (suc j)) (sym a.notes_are)
        (subst (λ (l : ℕ). Noted note l (all_notes t unit a.last a.kept)) (let z : 1 + j ≡ suc j = omega arith in z) (noted_all t unit a.last a.kept n))

    go : Fate a.last (1 + j) raw (numbers a.kept) (notes_of unit a.last (ends_early t) 1 at_start rs a.kept) → Accounted (suc j) raw c.lines c.notes
    go (stays n at') = kept n (subst (At (suc j) n) (sym (a.lines_are ∙ closed-numbers unit a.kept))
        (subst (λ (l : ℕ). At l n (numbers a.kept)) (let z : 1 + j ≡ suc j = omega arith in z) at'))
    go (left b n) = left_out (blank b (told 6 n))
    go (heads b l n) = left_out (header (line_free rs 1 a.last (header_free header_option rs a.last a.header_is) j raw at b l) (told 9 n))
