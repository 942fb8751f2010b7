-- The text is its whole file exactly where neither a mark nor a byte 26 is told.
use mathlib.Core.Path.{◌≡◌, refl, sym, ◌∙◌, ap, subst}
use mathlib.Core.Logic.{◌⊎◌, inl, inr}
use mathlib.Core.Bool.{Bool, true, false, cond, ◌&&◌, not}
use mathlib.Core.List.{List, [], ◌∷◌, ◌++◌}
use Prim.Native.Nat.{ℕ, suc, ◌≤◌}
use native.Mathlib.Omega.{arith}
use borrow.Author.Tests.{ltb-true, ltb-false}
use lib.Dec.{ltb}
use lib.IntN.{ℤ}
use lib.ListN.{length, take, drop, length-drop}
use lib.Seq.{take_all, length-take-le}
use Rattle.base_exact.proofs.Decide.{clash, true_not_false}
use Rattle.base_text.specs.Bytes.{Text, index_of, begins_with}
use Rattle.base_text.proofs.Cutting.{index-within}
use Rattle.spec_tucson.specs.Line.{lines_of}
use Rattle.spec_tucson.specs.FileText.{substitute, is_marked, unmarked, text_of, ends_early}
use Rattle.spec_tucson.specs.Shown.{shown, is_blank_line, has_end, has_return, has_tab, has_trailing}
use Rattle.spec_tucson.specs.StrictLine.{has_site, any_high, shown_fields, Kept}
use Rattle.spec_tucson.specs.KeptLines.{is_data}
use Rattle.spec_tucson.specs.CleanSeries.{fields_of, is_reclosed}
use Rattle.spec_tucson.specs.CleanNotes.{note_if, Ahead, is_last, widths_in, is_absent_end, is_like_closing, is_other_unit, remarks, kept_notes, header_notes, line_notes, at_line, Before, notes_of}
use Rattle.spec_tucson.specs.CleanCall.{mark_note, all_ended, end_note, at_start, all_notes}
use Rattle.theorems_clean.specs.Places.{Noted, first, behind}
use Rattle.theorems_told.specs.Told.{is_cutting, CutsAreTold}
use Rattle.theorems_clean.proofs.Answers.{answered}
use Rattle.theorems_lost.proofs.Accounts.{other_notes, notes_other, notes_data, noted-before, noted-behind}
use Rattle.spec_tucson.proofs.Lines.{refute}
use Rattle.theorems_told.proofs.Changes.{Among, it, rest, noted-among, noted_some}
use Rattle.theorems_told.proofs.Told.{Paired, notes_paired, split}

-- ---- notes of a text that is whole

-- None of the numbers is one of a cut.
abbrev NoCut : List ℕ → Type 0
NoCut [] = Unit {0}
NoCut (n ∷ ns) = (is_cutting n ≡ false) × NoCut ns

no_cut_if : (b : Bool) (m : ℕ) (ns : List ℕ) → is_cutting m ≡ false → NoCut ns → NoCut (note_if b m ns)
no_cut_if true m ns e h = (e, h)
no_cut_if false m ns e h = h

no_cut-line : (r : Text) (ns : List ℕ) → NoCut ns → NoCut (line_notes false r ns)
unfolding line_notes
no_cut-line r ns h = no_cut_if (has_return r) 3 _ refl (no_cut_if (has_tab r) 4 ns refl h)

no_cut_other : (r : Text) → NoCut (other_notes false r)
unfolding header_notes
no_cut_other r = no_cut-line r (cond (is_blank_line r) (6 ∷ []) (header_notes r)) (go (is_blank_line r))
  where
    go : (b : Bool) → NoCut (cond b (6 ∷ []) (header_notes r))
    go true = (refl, tt)
    go false = no_cut_if (has_trailing r) 5 _ refl (no_cut_if (not (has_end r)) 8 (9 ∷ []) refl (refl, tt))

no_cut-kept : (unit : ℕ) (c : ℤ) (begins : Bool) (a : Ahead) (k : Kept) (r : Text) → NoCut (line_notes false r (kept_notes unit c begins a k))
unfolding kept_notes remarks
no_cut-kept unit c begins a k r = no_cut-line r (kept_notes unit c begins a k)
    (no_cut_if (has_trailing k.raw) 5 _ refl
    (no_cut_if (has_site (shown k.raw)) 7 _ refl
    (no_cut_if (not (has_end k.raw)) 8 _ refl
    (no_cut_if (any_high (shown_fields k.raw)) 10 _ refl
    (no_cut_if (is_reclosed unit (not (is_last a)) k.text) 11 _ refl
    (no_cut_if (is_absent_end begins a (widths_in a (fields_of k.text))) 12 _ refl
    (no_cut_if (is_like_closing a (widths_in a (fields_of k.text))) 13 _ refl
    (no_cut_if (is_other_unit c a) 14 [] refl tt))))))))

past_block : (x l i : ℕ) (ns ms : List ℕ) → is_cutting x ≡ true → NoCut ns → Noted x l (at_line i ns ++ ms) → Noted x l ms
unfolding at_line
past_block x l i [] ms c h n = n
past_block x l i (m ∷ ns) ms c h n = go (noted-among x l m i (at_line i ns ++ ms) n) (past_block x l i ns ms c h.1)
  where
    go : Among x l m i (at_line i ns ++ ms) → (Noted x l (at_line i ns ++ ms) → Noted x l ms) → Noted x l ms
    go (it e z) ih = absurd (true_not_false c (ap is_cutting e ∙ h.0))
    go (rest r) ih = ih r

whole_notes : (rs : List Text) (unit h i : ℕ) (b : Before) (ks : List Kept) (x l : ℕ) → is_cutting x ≡ true → Noted x l (notes_of unit h false i b rs ks) → ⊥
unfolding notes_of
whole_notes [] unit h i b ks x l c n = omega (arith, noted_some n)
whole_notes (r ∷ rs) unit h i b [] x l c n = whole_notes rs unit h (suc i) b [] x l c (past_block x l i _ _ c (no_cut_other r) n)
whole_notes (r ∷ rs) unit h i b (k ∷ ks) x l c n = go (is_data h i r) refl (λ d js. whole_notes rs unit h (suc i) d js x l c)
  where
    go : (d : Bool) → is_data h i r ≡ d → ((e : Before) (js : List Kept) → Noted x l (notes_of unit h false (suc i) e rs js) → ⊥) → ⊥
    go true d ih =
        ih _ ks (past_block x l i _ _ c (no_cut-kept unit _ _ _ k r) (subst (Noted x l) (notes_data unit h false i b r rs k ks d) n))
    go false d ih = ih b (k ∷ ks) (past_block x l i _ _ c (no_cut_other r) (subst (Noted x l) (notes_other unit h false i b r rs (k ∷ ks) d) n))

-- ---- a byte 26 is told

noted-tail : (x l : ℕ) (ns ms : List ℕ) → Paired ns → Noted x l ms → Noted x l (ns ++ ms)
noted-tail x l [] ms h n = n
noted-tail x l (m ∷ []) ms h n = absurd h
noted-tail x l (m ∷ i ∷ ns) ms h n = behind (noted-tail x l ns ms h n)

cut_line : (r : Text) (i : ℕ) (ns ms : List ℕ) → has_end r ≡ false → Noted 2 i (at_line i (line_notes true r ns) ++ ms)
unfolding line_notes at_line
cut_line r i ns ms e = subst (λ (b : Bool). Noted 2 i (at_line i (note_if (not b) 2 (note_if (has_return r) 3 (note_if (has_tab r) 4 ns))) ++ ms)) (sym e) first

-- where no line is kept any more
notes_none : (unit h : ℕ) (early : Bool) (i : ℕ) (b : Before) (r : Text) (rs : List Text)
    → notes_of unit h early i b (r ∷ rs) [] ≡ at_line i (other_notes early r) ++ notes_of unit h early (suc i) b rs []
unfolding notes_of
notes_none unit h early i b r rs = refl

cut_told : (rs : List Text) (unit h i : ℕ) (b : Before) (ks : List Kept) → all_ended rs ≡ false → (l : ℕ) × Noted 2 l (notes_of unit h true i b rs ks)
unfolding all_ended
cut_told [] unit h i b ks e = clash cc
cut_told (r ∷ []) unit h i b ks e = (i, go (is_data h i r) refl ks)
  where
    go : (d : Bool) → is_data h i r ≡ d → (js : List Kept) → Noted 2 i (notes_of unit h true i b (r ∷ []) js)
    go false d js = subst (Noted 2 i) (sym (notes_other unit h true i b r [] js d)) (cut_line r i _ _ e)
    go true d [] = subst (Noted 2 i) (sym (notes_none unit h true i b r [])) (cut_line r i _ _ e)
    go true d (k ∷ js) = subst (Noted 2 i) (sym (notes_data unit h true i b r [] k js d)) (cut_line r i _ _ e)
cut_told (r ∷ s ∷ rs) unit h i b ks e = go (is_data h i r) refl ks (λ c js. cut_told (s ∷ rs) unit h (suc i) c js e)
  where
    more : (ns ms : List ℕ) → (l : ℕ) × Noted 2 l ms → (l : ℕ) × Noted 2 l (at_line i ns ++ ms)
    more ns ms p = (p.0, noted-behind i ns p.1)

    go : (d : Bool) → is_data h i r ≡ d → (js : List Kept) → ((c : Before) (js : List Kept) → (l : ℕ) × Noted 2 l (notes_of unit h true (suc i) c (s ∷ rs) js))
        → (l : ℕ) × Noted 2 l (notes_of unit h true i b (r ∷ s ∷ rs) js)
    go false d js ih = let p = more _ _ (ih b js) in (p.0, subst (Noted 2 p.0) (sym (notes_other unit h true i b r (s ∷ rs) js d)) p.1)
    go true d [] ih = let p = more _ _ (ih b []) in (p.0, subst (Noted 2 p.0) (sym (notes_none unit h true i b r (s ∷ rs))) p.1)
    go true d (k ∷ js) ih = let p = more _ _ (ih _ js) in (p.0, subst (Noted 2 p.0) (sym (notes_data unit h true i b r (s ∷ rs) k js d)) p.1)

-- ---- the text and its file

marked_some : (t : Text) → is_marked t ≡ true → 1 ≤ length t
unfolding is_marked begins_with
marked_some [] e = clash cc
marked_some (c ∷ t) e = omega arith

whole-unmarked : (t : Text) → text_of t ≡ t → is_marked t ≡ false
unfolding text_of unmarked
whole-unmarked t e = refute (is_marked t) λ m.
    let u : cond (is_marked t) (drop 3 t) t ≡ drop 3 t = ap (λ (b : Bool). cond b (drop 3 t) t) m in
    let s : take (index_of substitute (drop 3 t)) (drop 3 t) ≡ t = ap (λ (v : Text). take (index_of substitute v) v) (sym u) ∙ e in
    omega (
      arith,
      marked_some t m,
      ap length s,
      length-take-le (index_of substitute (drop 3 t)) (drop 3 t) (index-within _ (drop 3 t)),
      index-within
          (λ c. lib.Dec.eqb c substitute) (drop 3 t),
      length-drop 3 t,
    )

unmarked-same : (t : Text) → is_marked t ≡ false → unmarked t ≡ t
unfolding unmarked
unmarked-same t m = ap (λ (b : Bool). cond b (drop 3 t) t) m

whole_late : (t : Text) → text_of t ≡ t → ends_early t ≡ false
unfolding text_of ends_early
whole_late t e = refute (ltb (index_of substitute (unmarked t)) (length (unmarked t))) λ w.
    let u = unmarked-same t (whole-unmarked t e) in
    omega (
      arith,
      ltb-true (index_of substitute (unmarked t)) (length (unmarked t)) w,
      ap length e,
      ap length u,
      length-take-le (index_of substitute (unmarked t)) (unmarked t) (index-within _ (unmarked t)),
    )

text_is_file : (t : Text) → is_marked t ≡ false → ends_early t ≡ false → text_of t ≡ t
unfolding text_of ends_early
text_is_file t m e =
    take_all (index_of substitute (unmarked t)) (unmarked t) (ltb-false (index_of substitute (unmarked t)) (length (unmarked t)) e) ∙ unmarked-same t m

-- ---- all notes

module _ (t : Text) (unit h : ℕ) (ks : List Kept) where
  abbrev line_notes_of : List ℕ
  line_notes_of = notes_of unit h (ends_early t) 1 at_start (lines_of (text_of t)) ks

  pub whole_untold : text_of t ≡ t → (x l : ℕ) → is_cutting x ≡ true → Noted x l (all_notes t unit h ks) → ⊥
  unfolding all_notes mark_note end_note
  whole_untold e x l c n =
      go (split x l line_notes_of (cond (ends_early t && all_ended (lines_of (text_of t))) (2 ∷ suc (length (lines_of (text_of t))) ∷ []) [])
      (notes_paired (lines_of (text_of t)) unit h 1 (ends_early t) at_start ks)
      (subst (λ (b : Bool). Noted x l
      (cond b (1 ∷ 1 ∷ []) [] ++ (line_notes_of ++ cond (ends_early t && all_ended (lines_of (text_of t))) (2 ∷ suc (length (lines_of (text_of t))) ∷ []) [])))
      (whole-unmarked t e) n))
    where
      go : Noted x l line_notes_of ⊎ Noted x l (cond (ends_early t && all_ended (lines_of (text_of t))) (2 ∷ suc (length (lines_of (text_of t))) ∷ []) []) → ⊥
      go (inl a) = whole_notes (lines_of (text_of t)) unit h 1 at_start ks x l c (subst (λ (b : Bool). Noted x l (notes_of unit h b 1 at_start (lines_of (text_of t)) ks)) (whole_late t e) a)
      go (inr a) = omega (arith, noted_some (subst (λ (b : Bool). Noted x l (cond (b && all_ended (lines_of (text_of t))) (2 ∷ suc (length (lines_of (text_of t))) ∷ []) [])) (whole_late t e) a))

  pub untold_whole : ((x l : ℕ) → is_cutting x ≡ true → Noted x l (all_notes t unit h ks) → ⊥) → text_of t ≡ t
  unfolding all_notes mark_note end_note
  untold_whole u = text_is_file t (refute (is_marked t) marked) (refute (ends_early t) early)
    where
      marked : is_marked t ≡ true → ⊥
      marked m = u 1 1 refl (subst (λ (b : Bool). Noted 1 1
          (cond b (1 ∷ 1 ∷ []) [] ++ (line_notes_of ++ cond (ends_early t && all_ended (lines_of (text_of t))) (2 ∷ suc (length (lines_of (text_of t))) ∷ []) [])))
          (sym m) first)

      behind-mark : (x l : ℕ) (b : Bool) (ns : List ℕ) → Noted x l ns → Noted x l (cond b (1 ∷ 1 ∷ []) [] ++ ns)
      behind-mark x l true ns n = behind n
      behind-mark x l false ns n = n

      by_lines : (a : Bool) → all_ended (lines_of (text_of t)) ≡ a → ends_early t ≡ true → ⊥
      by_lines true a e = u 2 (suc (length (lines_of (text_of t)))) refl
          (behind-mark 2 _ (is_marked t) _ (noted-tail 2 _ line_notes_of _ (notes_paired (lines_of (text_of t)) unit h 1 (ends_early t) at_start ks)
          (subst (λ (b : Bool). Noted 2 (suc (length (lines_of (text_of t)))) (cond b (2 ∷ suc (length (lines_of (text_of t))) ∷ []) []))
          (sym (ap (λ (x : Bool). x && all_ended (lines_of (text_of t))) e ∙ a)) first)))
      by_lines false a e =
          let p = cut_told (lines_of (text_of t)) unit h 1 at_start ks a in
          u 2 p.0 refl (behind-mark 2 p.0 (is_marked t) _ (noted-before _ (subst (λ (b : Bool). Noted 2 p.0 (notes_of unit h b 1 at_start (lines_of (text_of t)) ks)) (sym e) p.1)))

      early : ends_early t ≡ true → ⊥
      early e = by_lines (all_ended (lines_of (text_of t))) refl e

pub cuts_are_told : CutsAreTold
cuts_are_told t header unit c e =
    let a = answered t header unit c e in (
      λ s x l o n. whole_untold t unit a.last a.kept s x l o (subst (Noted x l) a.notes_are n),
      λ u. untold_whole t unit a.last a.kept (λ x l o n. u x l o (subst (Noted x l) (sym a.notes_are) n)),
    )
