-- The remarks of both calls: of the first they are those among its notes, of the second all its notes, and line by line they are the same.
use mathlib.Core.Path.{◌≡◌, refl, sym, ◌∙◌, ap, ap₂, subst}
use mathlib.Core.Bool.{Bool, true, false, cond, ◌&&◌, not}
use mathlib.Core.List.{List, [], ◌∷◌, ◌++◌, drop_last, append_assoc}
use mathlib.Core.Option.{Option, some}
use Prim.Native.Nat.{ℕ, suc, ◌+◌, ◌-◌, ◌≤◌}
use native.Mathlib.Omega.{arith}
use lib.IntN.{ℤ}
use lib.ListN.{length, drop}
use lib.Seq.{drop-drop}
use Rattle.base_outcome.specs.Outcome.{answer}
use Rattle.base_text.specs.Bytes.{Text, newline}
use Rattle.base_text.proofs.Lacking.{lacks, byte, lacks-first}
use Rattle.spec_tucson.specs.TextReading.{last_field}
use Rattle.spec_tucson.specs.Shown.{shown, is_blank_line, has_end, has_return, has_tab, has_trailing}
use Rattle.spec_tucson.specs.StrictLine.{has_site, any_high, shown_fields, is_strict, Kept}
use Rattle.spec_tucson.specs.KeptLines.{is_data, kept_lines}
use Rattle.spec_tucson.specs.CleanSeries.{continues, follows_its, fields_of, closing_after, is_reclosed, reclosed, closed_lines, with_end}
use Rattle.spec_tucson.specs.CleanNotes.{note_if, Ahead, one_more, ahead, is_last, widths_in, is_absent_end, is_like_closing, is_other_unit, remarks}
use Rattle.spec_tucson.specs.CleanNotes.{is_cut_line, kept_notes, header_notes, line_notes, at_line, Before, closing_or, behind as past, notes_of}
use Rattle.spec_tucson.proofs.Kept.{kept_other, kept_data}
use Rattle.tucson_judge.proofs.Closing.{after_other}
use Rattle.tucson_judge.proofs.Reclosing.{reclosed-name}
use Rattle.theorems_tucson.proofs.GoodLines.{at_end_only}
use Rattle.theorems_clean.proofs.StrictLines.{AllStrict, with_ends, no_control, lacks-byte}
use Rattle.theorems_clean.proofs.StrictShown.{strict_is_read}
use Rattle.theorems_clean.proofs.Sources.{kept-none}
use Rattle.theorems_clean.proofs.Lines.{numbers}
use Rattle.theorems_lost.proofs.Accounts.{other_notes, notes_other, notes_data}
use Rattle.theorems_told.proofs.Changes.{last_or_not, block_of, same_flags}
use Rattle.theorems_stays.proofs.Stays.{strict_data}
use Rattle.theorems_again.specs.Again.{is_remark, remarks_alone, first_number, number_at, in_file}
use Rattle.theorems_again.proofs.Renumbered.{as_line, renumbered}
use Rattle.theorems_again.proofs.Closings.{closed-fields, going-same, unit_known, second_lines, closed_text, second-continues, Fits}
use Rattle.theorems_again.proofs.Years.{Alike, named, follows_same}

-- ---- the remarks among the notes of a line

abbrev remarks_in : List ℕ → List ℕ
remarks_in [] = []
remarks_in (n ∷ ns) = cond (is_remark n) (n ∷ remarks_in ns) (remarks_in ns)

alone_block : (i : ℕ) (ns more : List ℕ) → remarks_alone (at_line i ns ++ more) ≡ at_line i (remarks_in ns) ++ remarks_alone more
unfolding at_line
alone_block i [] more = refl
alone_block i (n ∷ ns) more = go (is_remark n) (alone_block i ns more)
  where
    go : (b : Bool) → remarks_alone (at_line i ns ++ more) ≡ at_line i (remarks_in ns) ++ remarks_alone more
        → cond b (n ∷ i ∷ remarks_alone (at_line i ns ++ more)) (remarks_alone (at_line i ns ++ more)) ≡ at_line i (cond b (n ∷ remarks_in ns) (remarks_in ns)) ++ remarks_alone more
    go true e = ap (λ (ms : List ℕ). n ∷ i ∷ ms) e
    go false e = e

in_other : (b : Bool) (m : ℕ) (ns : List ℕ) → is_remark m ≡ false → remarks_in (note_if b m ns) ≡ remarks_in ns
in_other true m ns e = ap (λ (r : Bool). cond r (m ∷ remarks_in ns) (remarks_in ns)) e
in_other false m ns e = refl

in_remark : (b : Bool) (m : ℕ) (ns : List ℕ) → is_remark m ≡ true → remarks_in (note_if b m ns) ≡ note_if b m (remarks_in ns)
in_remark true m ns e = ap (λ (r : Bool). cond r (m ∷ remarks_in ns) (remarks_in ns)) e
in_remark false m ns e = refl

in_remarks : (c : ℤ) (begins : Bool) (a : Ahead) (fs : List ℤ) → remarks_in (remarks c begins a fs) ≡ remarks c begins a fs
unfolding remarks
in_remarks c begins a fs =
    let x = is_absent_end begins a (widths_in a fs) in
    let y = is_like_closing a (widths_in a fs) in
    let z = is_other_unit c a in
    in_remark x 12 _ refl ∙ ap (note_if x 12) (in_remark y 13 _ refl ∙ ap (note_if y 13) (in_remark z 14 [] refl))

in_kept : (unit : ℕ) (early : Bool) (c : ℤ) (begins : Bool) (a : Ahead) (k : Kept) → remarks_in (block_of unit early c begins a k) ≡ remarks c begins a (fields_of k.text)
unfolding line_notes kept_notes
in_kept unit early c begins a k =
    in_other (is_cut_line early k.raw) 2 _ refl
    ∙ in_other (has_return k.raw) 3 _ refl
    ∙ in_other (has_tab k.raw) 4 _ refl
    ∙ in_other (has_trailing k.raw) 5 _ refl
    ∙ in_other (has_site (shown k.raw)) 7 _ refl
    ∙ in_other (not (has_end k.raw)) 8 _ refl
    ∙ in_other (any_high (shown_fields k.raw)) 10 _ refl
    ∙ in_other (is_reclosed unit (not (is_last a)) k.text) 11 _ refl
    ∙ in_remarks c begins a (fields_of k.text)

in_left_out : (early : Bool) (r : Text) → remarks_in (other_notes early r) ≡ []
unfolding line_notes header_notes
in_left_out early r =
    in_other (is_cut_line early r) 2 _ refl ∙ in_other (has_return r) 3 _ refl ∙ in_other (has_tab r) 4 _ refl ∙ go (is_blank_line r)
  where
    go : (b : Bool) → remarks_in (cond b (6 ∷ []) (note_if (has_trailing r) 5 (note_if (not (has_end r)) 8 (9 ∷ [])))) ≡ []
    go true = refl
    go false = in_other (has_trailing r) 5 _ refl ∙ in_other (not (has_end r)) 8 _ refl

-- ---- the remarks of lines that are kept

-- the closing of the file's first series
abbrev first_closing : ℕ → Before → List Kept → ℤ
first_closing unit b ks = closing_or b.closing (ahead unit ks).closing

abbrev pub remarks_from : ℕ → Before → List Kept → List ℕ
remarks_from unit b [] = []
remarks_from unit b (k ∷ ks) =
    at_line k.line (remarks (first_closing unit b (k ∷ ks)) (not (follows_its b.kept k)) (ahead unit (k ∷ ks)) (fields_of k.text))
    ++ remarks_from unit (past (first_closing unit b (k ∷ ks)) k) ks

-- ---- of the first call

pub first-remarks : (rs : List Text) (unit h i : ℕ) (early : Bool) (x : Option Kept) (b : Before) (ks : List Kept) (tail : List ℕ) → kept_lines h i x rs ≡ answer ks
    → remarks_alone (notes_of unit h early i b rs ks ++ tail) ≡ remarks_from unit b ks ++ remarks_alone tail
unfolding notes_of at_line
first-remarks [] unit h i early x b ks tail e = ap (λ (js : List Kept). remarks_from unit b js ++ remarks_alone tail) (sym (kept-none h i x ks e))
first-remarks (r ∷ rs) unit h i early x b ks tail e = go (is_data h i r) refl (λ y c js. first-remarks rs unit h (suc i) early y c js tail)
  where
    go : (d : Bool) → is_data h i r ≡ d
        → ((y : Option Kept) (c : Before) (js : List Kept) → kept_lines h (suc i) y rs ≡ answer js
        → remarks_alone (notes_of unit h early (suc i) c rs js ++ tail) ≡ remarks_from unit c js ++ remarks_alone tail)
        → remarks_alone (notes_of unit h early i b (r ∷ rs) ks ++ tail) ≡ remarks_from unit b ks ++ remarks_alone tail
    go false d ih =
        let more = notes_of unit h early (suc i) b rs ks in
        ap (λ (ns : List ℕ). remarks_alone (ns ++ tail)) (notes_other unit h early i b r rs ks d)
        ∙ ap remarks_alone (append_assoc (at_line i (other_notes early r)) more tail)
        ∙ alone_block i (other_notes early r) (more ++ tail)
        ∙ ap (λ (ns : List ℕ). at_line i ns ++ remarks_alone (more ++ tail)) (in_left_out early r)
        ∙ ih x b ks (sym (kept_other h i x r rs d) ∙ e)
    go true d ih =
        let p = kept_data h i x r rs ks d e in
        let k : Kept = record { line = i; raw = r; text = p.text } in
        let js = p.others in
        let c = first_closing unit b (k ∷ js) in
        let begins = not (follows_its b.kept k) in
        let a = ahead unit (k ∷ js) in
        let more = notes_of unit h early (suc i) (past c k) rs js in
        let block = block_of unit early c begins a k in
        subst (λ (ls : List Kept). remarks_alone (notes_of unit h early i b (r ∷ rs) ls ++ tail) ≡ remarks_from unit b ls ++ remarks_alone tail) (sym p.is)
        (ap (λ (ns : List ℕ). remarks_alone (ns ++ tail)) (notes_data unit h early i b r rs k js d)
        ∙ ap remarks_alone (append_assoc (at_line i block) more tail)
        ∙ alone_block i block (more ++ tail)
        ∙ ap₂ (λ (ns ms : List ℕ). at_line i ns ++ ms) (in_kept unit early c begins a k) (ih (some k) (past c k) js p.rest)
        ∙ sym (append_assoc (at_line i (remarks c begins a (fields_of p.text))) (remarks_from unit (past c k) js) (remarks_alone tail)))

-- ---- of the second call

end_only : (t : Text) → lacks (byte newline) t ≡ true → at_end_only (with_end t) ≡ true
end_only [] e = refl
end_only (c ∷ []) e = ap (λ (b : Bool). not b && true) (lacks-first (byte newline) c [] e).0
end_only (c ∷ d ∷ t) e =
    let both = lacks-first (byte newline) c (d ∷ t) e in
    ap₂ (λ (a b : Bool). not a && b) both.0 (end_only (d ∷ t) both.1)

note_off : (b : Bool) (m : ℕ) (ns : List ℕ) → b ≡ false → note_if b m ns ≡ ns
note_off b m ns e = ap (λ (x : Bool). note_if x m ns) e

-- nothing but remarks is told of a line that stays
quiet : (unit i : ℕ) (c : ℤ) (begins : Bool) (a : Ahead) (t : Text) → is_strict t ≡ true → reclosed unit (not (is_last a)) t ≡ t
    → block_of unit false c begins a (as_line i t) ≡ remarks c begins a (fields_of t)
unfolding line_notes kept_notes
quiet unit i c begins a t e s =
    let f = same_flags unit (not (is_last a)) (as_line i t) (end_only t (lacks-byte newline t (omega arith) (no_control t e))) (strict_is_read t e i) (ap with_end s) in
    note_off (has_return (with_end t)) 3 _ f.returned
    ∙ note_off (has_tab (with_end t)) 4 _ f.tabbed
    ∙ note_off (has_trailing (with_end t)) 5 _ f.trailing
    ∙ note_off (has_site (shown (with_end t))) 7 _ f.sited
    ∙ note_off (not (has_end (with_end t))) 8 _ f.unfinished
    ∙ note_off (any_high (shown_fields (with_end t))) 10 _ f.high
    ∙ note_off (is_reclosed unit (not (is_last a)) t) 11 _ f.closed

-- its lines are closed as they are
abbrev first_text : List Kept → Text
first_text [] = []
first_text (k ∷ ks) = k.text

pub second_notes : (ks : List Kept) (unit i : ℕ) (b : Before) → AllStrict ks → 1 ≤ i → closed_lines unit (renumbered i ks) ≡ renumbered i ks
    → notes_of unit 0 false i b (with_ends ks) (renumbered i ks) ≡ remarks_from unit b (renumbered i ks)
unfolding notes_of closed_lines
second_notes [] unit i b s h e = refl
second_notes (k ∷ ks) unit i b s h e =
    let t = k.text in
    let k' = as_line i t in
    let ks' = renumbered (suc i) ks in
    let c = first_closing unit b (k' ∷ ks') in
    let a = ahead unit (k' ∷ ks') in
    let stays : reclosed unit (not (is_last a)) t ≡ t = ap (λ (g : Bool). reclosed unit g t) (last_or_not unit k' ks') ∙ ap first_text e in
    notes_data unit 0 false i b (with_end t) (with_ends ks) k' ks' (strict_data i t s.0 h)
    ∙ ap₂ (λ (ns ms : List ℕ). at_line i ns ++ ms) (quiet unit i c (not (follows_its b.kept k')) a t s.0 stays)
    (second_notes ks unit (suc i) (past c k') s.1 (omega arith) (ap (drop 1) e))

-- ---- line by line they are the same

pub second-ahead : (ks : List Kept) (unit unit' i : ℕ) → AllStrict ks → Fits unit ks → ahead unit' (second_lines unit i ks) ≡ ahead unit ks
unfolding ahead closed_lines
second-ahead [] unit unit' i s f = refl
second-ahead (k ∷ ks) unit unit' i s f = rw (second-continues unit i (suc i) k ks) (go (continues k ks) refl (second-ahead ks unit unit' (suc i) s.1 f.1))
  where
    t : Text
    t = closed_text unit k ks

    go : (b : Bool) → continues k ks ≡ b → ahead unit' (second_lines unit (suc i) ks) ≡ ahead unit ks
        → cond b (one_more (ahead unit' (second_lines unit (suc i) ks)))
        (record { count = 1; closing = closing_after unit' (last_field (fields_of t)); last_fields = length (fields_of t) })
        ≡ cond b (one_more (ahead unit ks)) (record { count = 1; closing = closing_after unit (last_field (fields_of k.text)); last_fields = length (fields_of k.text) })
    go true w ih = ap one_more ih
    go false w ih =
        let c = closed-fields unit (continues k ks) k.text s.0 w in
        let last = closing_after unit (last_field (fields_of k.text)) in
        ap₂ (λ (z : ℤ) (n : ℕ). record { count = 1; closing = z; last_fields = n })
        (ap (closing_after unit') c.last_is ∙ after_other unit' last (unit_known unit (last_field (fields_of k.text)) (f.0 w))) c.count_is

-- the widths of a line
widths_same : (unit : ℕ) (k : Kept) (ks : List Kept) → is_strict k.text ≡ true
    → widths_in (ahead unit (k ∷ ks)) (fields_of (closed_text unit k ks)) ≡ widths_in (ahead unit (k ∷ ks)) (fields_of k.text)
widths_same unit k ks s = go (is_last (ahead unit (k ∷ ks))) (last_or_not unit k ks)
  where
    go : (b : Bool) → not b ≡ continues k ks
        → cond b (drop_last (fields_of (closed_text unit k ks))) (fields_of (closed_text unit k ks)) ≡ cond b (drop_last (fields_of k.text)) (fields_of k.text)
    go true w = (closed-fields unit (continues k ks) k.text s (sym w)).front_is
    go false w = ap fields_of (going-same unit (continues k ks) k.text (sym w))

file_block : (ls : List ℕ) (i : ℕ) (ns more : List ℕ) → in_file ls (at_line i ns ++ more) ≡ at_line (number_at i ls) ns ++ in_file ls more
unfolding at_line
file_block ls i [] more = refl
file_block ls i (n ∷ ns) more = ap (λ (ms : List ℕ). n ∷ number_at i ls ∷ ms) (file_block ls i ns more)

pub same-remarks : (ks : List Kept) (unit unit' m : ℕ) (b b' : Before) (ls : List ℕ) → AllStrict ks → Fits unit ks → Alike b'.kept b.kept → b'.closing ≡ b.closing
    → drop m ls ≡ numbers ks → in_file ls (remarks_from unit' b' (second_lines unit (suc m) ks)) ≡ remarks_from unit b ks
unfolding closed_lines remarks
same-remarks [] unit unit' m b b' ls s f a c e = refl
same-remarks (k ∷ ks) unit unit' m b b' ls s f a c e =
    let t = closed_text unit k ks in
    let k' = as_line (suc m) t in
    let ks' = second_lines unit (suc (suc m)) ks in
    let name = reclosed-name unit (continues k ks) k.text in
    let here = ahead unit (k ∷ ks) in
    let begins = not (follows_its b.kept k) in
    let closing : first_closing unit' b' (k' ∷ ks') ≡ first_closing unit b (k ∷ ks) =
    ap₂ (λ (o : Option ℤ) (x : Ahead). closing_or o x.closing) c (second-ahead (k ∷ ks) unit unit' (suc m) s f) in
    let first = first_closing unit b (k ∷ ks) in
    let lines : remarks (first_closing unit' b' (k' ∷ ks')) (not (follows_its b'.kept k')) (ahead unit' (k' ∷ ks')) (fields_of t) ≡ remarks first begins here (fields_of k.text) =
    ap₂ (λ (z : ℤ) (x : Ahead). remarks z (not (follows_its b'.kept k')) x (fields_of t)) closing (second-ahead (k ∷ ks) unit unit' (suc m) s f)
    ∙ ap (λ (g : Bool). remarks first (not g) here (fields_of t)) (follows_same b.kept b'.kept k k' a name)
    ∙ ap (λ (ws : List ℤ). note_if (is_absent_end begins here ws) 12 (note_if (is_like_closing here ws) 13 (note_if (is_other_unit first here) 14 []))) (widths_same unit k ks s.0) in
    let number : number_at (suc m) ls ≡ k.line = ap (λ (n : ℕ). first_number (drop n ls)) (let z : suc m - 1 ≡ m = omega arith in z) ∙ ap first_number e in
    let behind-it : drop (suc m) ls ≡ numbers ks = ap (λ (n : ℕ). drop n ls) (let z : suc m ≡ m + 1 = omega arith in z) ∙ sym (drop-drop 1 m ls) ∙ ap (drop 1) e in
    file_block ls (suc m) _ _
    ∙ ap₂ (λ (n : ℕ) (ns : List ℕ). at_line n ns ++ in_file ls (remarks_from unit' (past (first_closing unit' b' (k' ∷ ks')) k') ks')) number lines
    ∙ ap (λ (ms : List ℕ). at_line k.line (remarks first begins here (fields_of k.text)) ++ ms)
    (same-remarks ks unit unit' (suc m) (past first k) (past (first_closing unit' b' (k' ∷ ks')) k') ls s.1 f.1 (named name) (ap some closing) behind-it)
