-- A line is the same bytes in the answer exactly where none of the notes on a change stands at it: the line alone.
use mathlib.Core.Path.{◌≡◌, refl, sym, ◌∙◌, ap, ap₂, subst}
use mathlib.Core.Bool.{Bool, true, false, cond, ◌&&◌, ◌||◌, not}
use mathlib.Core.List.{List, [], ◌∷◌, ◌++◌, drop_last}
use mathlib.Core.Option.{Option, some, none, some-injective}
use Prim.Native.Nat.{ℕ, suc, ◌-◌, ◌≤◌}
use native.Mathlib.Omega.{arith}
use borrow.Author.Tests.{ne_eqb, eqb-false, ltb-false, le-ltb, not-true}
use lib.Dec.{eqb, ltb}
use lib.IntN.{ℤ}
use lib.ListN.{length, take}
use Rattle.base_exact.proofs.Decide.{clash, and-true, or-false, true_not_false}
use Rattle.base_outcome.specs.Outcome.{answer, refuse}
use Rattle.base_outcome.proofs.Outcome.{answer_unique}
use Rattle.base_text.specs.Bytes.{Text, newline, Cut, cut}
use Rattle.base_text.proofs.Cutting.{cut-joins}
use Rattle.base_text.proofs.Lacking.{lacks, byte, lacks-first, cut-first}
use Rattle.spec_tucson.specs.Columns.{blank, columns}
use Rattle.spec_tucson.specs.Line.{Line, field_columns, line_in_columns, same, thousandths}
use Rattle.spec_tucson.specs.Series.{hundredths}
use Rattle.spec_tucson.specs.TextReading.{last_field}
use Rattle.spec_tucson.specs.FileText.{tab, carriage_return}
use Rattle.spec_tucson.specs.Shown.{before_cut, unended, is_cut, has_end, ends_in_return, without_return, expanded, any_tab, unless_trailing, trimmed, line_bytes}
use Rattle.spec_tucson.specs.Shown.{in_its_columns, shown, has_return, has_tab, has_trailing}
use Rattle.spec_tucson.specs.StrictLine.{line_columns, has_site, without_site, any_high, masked, or_refused, is_strict, strict_bytes, shown_fields, strict_line, Kept}
use Rattle.spec_tucson.specs.CleanSeries.{continues, fields_in, fields_of, unknown_unit, unit_not_said, hundredths_said, closing_of, closing_after, is_reclosed, reclosed, with_end}
use Rattle.spec_tucson.specs.CleanNotes.{note_if, Ahead, one_more, ahead, is_last, is_absent_end, is_like_closing, is_other_unit, widths_in, remarks, is_cut_line, kept_notes, line_notes, at_line}
use Rattle.tucson_strict.proofs.Strict.{strict_ascii}
use Rattle.tucson_judge.proofs.Closing.{after_said, last-closed}
use Rattle.tucson_judge.proofs.Reclosing.{reclosed-line}
use Rattle.theorems_tucson.proofs.GoodLines.{at_end_only, nothing-after}
use Rattle.theorems_clean.specs.Places.{Noted, first, behind}
use Rattle.theorems_told.specs.Told.{is_change}
use Rattle.theorems_clean.proofs.StrictLines.{strict-line, reclosed_strict, no_control, lacks-byte}
use Rattle.theorems_clean.proofs.ShownBytes.{strict_reads}
use Rattle.theorems_clean.proofs.StrictShown.{no_return, no_tab_expands, strict_unended, strict_in_columns, strict_shown, strict_no_site, strict_fields-shown, strict_is_read}
use Rattle.spec_tucson.proofs.Lines.{refute}
use Rattle.spec_tucson.proofs.Kept.{ahead_some}

-- ---- notes among others

-- the first note of a list, or one behind it
pub data Among (n l m i : ℕ) (ns : List ℕ) : Type 0 where
  it : n ≡ m → l ≡ i → Among n l m i ns
  rest : Noted n l ns → Among n l m i ns

pub noted-among : (n l m i : ℕ) (ns : List ℕ) → Noted n l (m ∷ i ∷ ns) → Among n l m i ns
noted-among n l m i ns first = it refl refl
noted-among n l m i ns (behind x) = rest x

pub noted_some : {n l : ℕ} {ns : List ℕ} → Noted n l ns → 2 ≤ length ns
noted_some first = omega arith
noted_some (behind x) = omega (arith, noted_some x)

-- No note of a change stands among these, all at the line.
abbrev pub NoChange : ℕ → List ℕ → Type 0
NoChange i ns = (x : ℕ) → is_change x ≡ true → Noted x i (at_line i ns) → ⊥

no_change_none : (i : ℕ) → NoChange i []
unfolding at_line
no_change_none i x c n = omega (arith, noted_some n)

-- one note more, which is not of a change or does not apply
no_change_other : (i : ℕ) (b : Bool) (m : ℕ) (ns : List ℕ) → is_change m ≡ false → NoChange i ns → NoChange i (note_if b m ns)
unfolding at_line
no_change_other i true m ns o h x c n = go (noted-among x i m i (at_line i ns) n)
  where
    go : Among x i m i (at_line i ns) → ⊥
    go (it e z) = true_not_false c (ap is_change e ∙ o)
    go (rest r) = h x c r
no_change_other i false m ns o h x c n = h x c n

no_change_off : (i : ℕ) (b : Bool) (m : ℕ) (ns : List ℕ) → b ≡ false → NoChange i ns → NoChange i (note_if b m ns)
no_change_off i b m ns e h = subst (λ (x : Bool). NoChange i (note_if x m ns)) (sym e) h

-- and back: a note of a change does not apply, and those behind it are no changes
off_of : (i : ℕ) (b : Bool) (m : ℕ) (ns : List ℕ) → is_change m ≡ true → NoChange i (note_if b m ns) → (b ≡ false) × NoChange i ns
unfolding at_line
off_of i true m ns o h = absurd (h m o first)
off_of i false m ns o h = (refl, h)

behind_of : (i : ℕ) (b : Bool) (m : ℕ) (ns : List ℕ) → NoChange i (note_if b m ns) → NoChange i ns
unfolding at_line
behind_of i true m ns h x c n = h x c (behind n)
behind_of i false m ns h x c n = h x c n

-- ---- whether the series goes on

-- what stands ahead of a series' last line
abbrev last_ahead : ℕ → Kept → Ahead
last_ahead unit k = record { count = 1; closing = closing_after unit (last_field (fields_of k.text)); last_fields = length (fields_of k.text) }

pub last_or_not : (unit : ℕ) (k : Kept) (ks : List Kept) → not (is_last (ahead unit (k ∷ ks))) ≡ continues k ks
unfolding ahead continues
last_or_not unit k [] = refl
last_or_not unit k (n ∷ ks) = go (continues k (n ∷ ks))
  where
    go : (b : Bool) → not (eqb (cond b (one_more (ahead unit (n ∷ ks))) (last_ahead unit k)).count 1) ≡ b
    go true = ap not (ne_eqb (suc (ahead unit (n ∷ ks)).count) 1 (λ z. omega (arith, z, ahead_some unit n ks)))
    go false = refl

-- ---- the notes of a kept line

-- What is told of a change of the line.
pub record Flags (unit : ℕ) (goes : Bool) (k : Kept) : Type 0 where
  pub returned : has_return k.raw ≡ false
  pub tabbed : has_tab k.raw ≡ false
  pub trailing : has_trailing k.raw ≡ false
  pub sited : has_site (shown k.raw) ≡ false
  pub unfinished : not (has_end k.raw) ≡ false
  pub high : any_high (shown_fields k.raw) ≡ false
  pub closed : is_reclosed unit goes k.text ≡ false

-- the notes of the line, by whether its series goes on
abbrev pub block_of : ℕ → Bool → ℤ → Bool → Ahead → Kept → List ℕ
block_of unit early closing-first begins a k = line_notes early k.raw (kept_notes unit closing-first begins a k)

no_remark : (i : ℕ) (c : ℤ) (begins : Bool) (a : Ahead) (fs : List ℤ) → NoChange i (remarks c begins a fs)
unfolding remarks
no_remark i c begins a fs =
    no_change_other i (is_absent_end begins a (widths_in a fs)) 12 _ refl
    (no_change_other i (is_like_closing a (widths_in a fs)) 13 _ refl
    (no_change_other i (is_other_unit c a) 14 [] refl (no_change_none i)))

pub flags_no_change : (i unit : ℕ) (early : Bool) (c : ℤ) (begins : Bool) (a : Ahead) (k : Kept) → Flags unit (not (is_last a)) k → NoChange i (block_of unit early c begins a k)
unfolding line_notes kept_notes
flags_no_change i unit early c begins a k f =
    no_change_other i (is_cut_line early k.raw) 2 _ refl
    (no_change_off i (has_return k.raw) 3 _ f.returned
    (no_change_off i (has_tab k.raw) 4 _ f.tabbed
    (no_change_off i (has_trailing k.raw) 5 _ f.trailing
    (no_change_off i (has_site (shown k.raw)) 7 _ f.sited
    (no_change_off i (not (has_end k.raw)) 8 _ f.unfinished
    (no_change_off i (any_high (shown_fields k.raw)) 10 _ f.high
    (no_change_off i (is_reclosed unit (not (is_last a)) k.text) 11 _ f.closed (no_remark i c begins a (fields_of k.text)))))))))

pub no_change_flags : (i unit : ℕ) (early : Bool) (c : ℤ) (begins : Bool) (a : Ahead) (k : Kept) → NoChange i (block_of unit early c begins a k) → Flags unit (not (is_last a)) k
unfolding line_notes kept_notes
no_change_flags i unit early c begins a k h =
    let n2 = behind_of i (is_cut_line early k.raw) 2 _ h in
    let n3 = off_of i (has_return k.raw) 3 _ refl n2 in
    let n4 = off_of i (has_tab k.raw) 4 _ refl n3.1 in
    let n5 = off_of i (has_trailing k.raw) 5 _ refl n4.1 in
    let n7 = off_of i (has_site (shown k.raw)) 7 _ refl n5.1 in
    let n8 = off_of i (not (has_end k.raw)) 8 _ refl n7.1 in
    let n10 = off_of i (any_high (shown_fields k.raw)) 10 _ refl n8.1 in
    let n11 = off_of i (is_reclosed unit (not (is_last a)) k.text) 11 _ refl n10.1 in
    record { returned = n3.0; tabbed = n4.0; trailing = n5.0; sited = n7.0; unfinished = n8.0; high = n10.0; closed = n11.0 }

-- ---- a line without such a note is the same bytes

no_tab-lacks : (t : Text) → any_tab t ≡ false → lacks (byte tab) t ≡ true
unfolding any_tab
no_tab-lacks [] e = refl
no_tab-lacks (c ∷ t) e = let both = or-false (eqb c tab) (any_tab t) e in ap₂ (λ (x y : Bool). not x && y) both.0 (no_tab-lacks t both.1)

trimmed-whole : (t : Text) → length t ≤ length (trimmed t) → trimmed t ≡ t
unfolding trimmed
trimmed-whole [] h = refl
trimmed-whole (c ∷ t) h = go (trimmed t) refl h (trimmed-whole t)
  where
    empty : (s : Text) (b : Bool) → suc (length s) ≤ length (cond b [] (c ∷ [])) → cond b [] (c ∷ []) ≡ c ∷ s
    empty [] true h = absurd (omega arith)
    empty [] false h = refl
    empty (d ∷ s) true h = absurd (omega arith)
    empty (d ∷ s) false h = absurd (omega arith)

    go : (u : Text) → trimmed t ≡ u → suc (length t) ≤ length (unless_trailing c u) → (length t ≤ length (trimmed t) → trimmed t ≡ t) → unless_trailing c u ≡ c ∷ t
    go [] e h ih = empty t (eqb c blank) h
    go (d ∷ u) e h ih = ap (λ (v : Text). c ∷ v) (sym e ∙ ih (omega (arith, ap length e)))

-- a line with its end is that of its bytes before byte 10
ended-line : (r : Text) → at_end_only r ≡ true → not (has_end r) ≡ false → r ≡ with_end (unended r)
unfolding has_end unended
ended-line r once e = go (cut newline r) refl e
  where
    go : (o : Option Cut) → cut newline r ≡ o → not (is_cut o) ≡ false → r ≡ with_end (before_cut r o)
    go none w e = clash cc
    go (some c) w e =
        let whole = cut-joins newline r c w in
        whole ∙ ap (λ (s : Text). c.before ++ (newline ∷ s)) (nothing-after c.before c.after (ap at_end_only (sym whole) ∙ once))

lacks_no_tab : (t : Text) → lacks (byte tab) t ≡ true → any_tab t ≡ false
unfolding any_tab
lacks_no_tab [] e = refl
lacks_no_tab (c ∷ t) e = let both = lacks-first (byte tab) c t e in ap₂ ◌||◌ both.0 (lacks_no_tab t both.1)

pub closing-known : (unit : ℕ) → same (closing_of unit) unknown_unit ≡ false
unfolding closing_of
closing-known unit = go (eqb unit hundredths_said)
  where
    go : (b : Bool) → same (cond b hundredths thousandths) unknown_unit ≡ false
    go true = refl
    go false = refl

module _ (unit : ℕ) (goes : Bool) (k : Kept) (once : at_end_only k.raw ≡ true) (is : strict_line k.line k.raw ≡ answer k.text) where
  module _ (f : Flags unit goes k) where
    flags_bytes : line_bytes k.raw ≡ unended k.raw
    unfolding line_bytes without_return has_return
    flags_bytes = ap (λ (b : Bool). cond b (drop_last (unended k.raw)) (unended k.raw)) f.returned

    flags_columns : in_its_columns k.raw ≡ unended k.raw
    unfolding in_its_columns has_tab
    flags_columns = ap (expanded 0) flags_bytes ∙ no_tab_expands 0 (unended k.raw) (no_tab-lacks (unended k.raw) f.tabbed)

    flags_shown : shown k.raw ≡ unended k.raw
    unfolding shown has_trailing
    flags_shown = trimmed-whole (in_its_columns k.raw) (ltb-false (length (trimmed (in_its_columns k.raw))) (length (in_its_columns k.raw)) f.trailing) ∙ flags_columns

    flags_fields : shown_fields k.raw ≡ unended k.raw
    unfolding shown_fields without_site
    flags_fields = ap (λ (b : Bool). cond b (trimmed (take line_columns (shown k.raw))) (shown k.raw)) f.sited ∙ flags_shown

    flags_text : k.text ≡ unended k.raw
    unfolding strict_line strict_bytes
    flags_text = sym (read (is_strict (shown_fields k.raw)) (ap (λ (b : Bool). cond b (cond (has_tab k.raw) (refuse 22 k.line) (or_refused k.line (masked (shown_fields k.raw))))
        (cond (is_strict (shown_fields k.raw)) (answer (shown_fields k.raw)) (refuse 11 k.line))) (sym f.high) ∙ is)) ∙ flags_fields
      where
        read : (b : Bool) → cond b (answer (shown_fields k.raw)) (refuse 11 k.line) ≡ answer k.text → shown_fields k.raw ≡ k.text
        read true e = answer_unique refl e
        read false e = clash cc

    pub flags_same : with_end (reclosed unit goes k.text) ≡ k.raw
    unfolding reclosed
    flags_same =
        ap (λ (b : Bool). with_end (cond b (take (length k.text - field_columns) k.text ++ columns field_columns (closing_of unit)) k.text)) f.closed
        ∙ ap with_end flags_text ∙ sym (ended-line k.raw once f.unfinished)

  -- ---- and a line that is the same bytes has none of them

  module _ (e : with_end (reclosed unit goes k.text) ≡ k.raw) where
    abbrev body : Text
    body = reclosed unit goes k.text

    body_strict : is_strict body ≡ true
    body_strict = reclosed_strict unit goes k.text (strict_reads k.line k.raw k.text is).strict

    body_is : body ≡ k.text
    body_is = answer_unique (ap (strict_line k.line) (sym e) ∙ strict_is_read body body_strict k.line) is

    strict_no_return : has_return (with_end body) ≡ false
    unfolding has_return
    strict_no_return = ap ends_in_return (strict_unended body body_strict) ∙ no_return body (lacks-byte carriage_return body (omega arith) (no_control body body_strict))

    strict_no_tab : has_tab (with_end body) ≡ false
    unfolding has_tab
    strict_no_tab = ap any_tab (strict_unended body body_strict) ∙ lacks_no_tab body (lacks-byte tab body (omega arith) (no_control body body_strict))

    strict_no_trailing : has_trailing (with_end body) ≡ false
    unfolding has_trailing
    strict_no_trailing =
        ap₂ (λ (s u : Text). ltb (length s) (length u)) (strict_shown body body_strict) (strict_in_columns body body_strict) ∙ le-ltb (length body) (length body) (omega arith)

    strict_ended : not (has_end (with_end body)) ≡ false
    unfolding has_end
    strict_ended = ap (λ (o : Option Cut). not (is_cut o)) (cut-first newline body [] (lacks-byte newline body (omega arith) (no_control body body_strict)))

    not_reclosed : is_reclosed unit goes k.text ≡ false
    unfolding is_reclosed fields_of
    not_reclosed = refute (not goes && (same (last_field (fields_of k.text)) unknown_unit && not (eqb unit unit_not_said))) λ w.
        let l = strict-line k.text (strict_reads k.line k.raw k.text is).strict in
        let r = reclosed-line unit goes k.text l.line l.is in
        let both = and-true (not goes) (same (last_field (fields_of k.text)) unknown_unit && not (eqb unit unit_not_said)) w in
        let said = and-true (same (last_field (fields_of k.text)) unknown_unit) (not (eqb unit unit_not_said)) both.1 in
        let unknown : same (last_field l.line.fields) unknown_unit ≡ true = ap (λ (o : Option Line). same (last_field (fields_in o)) unknown_unit) (sym l.is) ∙ said.0 in
        let line_is : r.line ≡ l.line = some-injective r.line l.line (sym r.is ∙ ap line_in_columns body_is ∙ l.is) in
        let last : last_field l.line.fields ≡ closing_of unit =
        ap (λ (m : Line). last_field m.fields) (sym line_is) ∙ r.last_is ∙ last-closed unit (last_field l.line.fields) goes (not-true goes both.0)
        ∙ after_said unit (last_field l.line.fields) unknown (eqb-false unit unit_not_said (not-true (eqb unit unit_not_said) said.1)) in
        true_not_false (ap (λ (z : ℤ). same z unknown_unit) (sym last) ∙ unknown) (closing-known unit)

    pub same_flags : Flags unit goes k
    same_flags = record {
      returned = ap has_return (sym e) ∙ strict_no_return;
      tabbed = ap has_tab (sym e) ∙ strict_no_tab;
      trailing = ap has_trailing (sym e) ∙ strict_no_trailing;
      sited = ap (λ (r : Text). has_site (shown r)) (sym e) ∙ ap has_site (strict_shown body body_strict) ∙ strict_no_site body body_strict;
      unfinished = ap (λ (r : Text). not (has_end r)) (sym e) ∙ strict_ended;
      high = ap (λ (r : Text). any_high (shown_fields r)) (sym e) ∙ ap any_high (strict_fields-shown body body_strict) ∙ strict_ascii body body_strict;
      closed = not_reclosed;
    }
