-- A line is the same bytes in the answer exactly where none of the notes on a change stands at it: all lines.
use mathlib.Core.Path.{◌≡◌, refl, sym, ◌∙◌, ap, subst}
use mathlib.Core.Logic.{◌⊎◌, inl, inr}
use mathlib.Core.Bool.{Bool, true, false, cond, ◌&&◌}
use mathlib.Core.List.{List, [], ◌∷◌, ◌++◌}
use mathlib.Core.Option.{Option, some, none}
use Prim.Native.Nat.{ℕ, suc, ◌+◌, ◌≤◌}
use native.Mathlib.Omega.{arith}
use lib.IntN.{ℤ}
use lib.ListN.{length}
use Rattle.base_exact.proofs.Decide.{true_not_false}
use Rattle.base_outcome.specs.Outcome.{answer}
use Rattle.base_text.specs.Bytes.{Text}
use Rattle.spec_tucson.specs.Line.{lines_of}
use Rattle.spec_tucson.specs.FileText.{is_marked, text_of, ends_early}
use Rattle.spec_tucson.specs.StrictLine.{strict_line, Kept}
use Rattle.spec_tucson.specs.KeptLines.{is_data, kept_lines}
use Rattle.spec_tucson.specs.CleanSeries.{continues, reclosed, closed_lines, with_end}
use Rattle.spec_tucson.specs.CleanNotes.{ahead, at_line, Before, closing_or, notes_of}
use Rattle.spec_tucson.specs.CleanNotes.{behind as past}
use Rattle.spec_tucson.specs.CleanCall.{mark_note, all_ended, end_note, at_start, all_notes}
use Rattle.spec_tucson.proofs.Kept.{kept_other, kept_data}
use Rattle.theorems_tucson.proofs.GoodLines.{at_end_only, AllAtEndOnly, lines_end}
use Rattle.theorems_clean.specs.Places.{At, Noted, first, behind}
use Rattle.theorems_told.specs.Told.{is_change, Unchanged, ChangesAreTold}
use Rattle.theorems_clean.proofs.Answers.{answered}
use Rattle.theorems_clean.proofs.StrictLines.{with_ends, strict_lines, closed_strict}
use Rattle.theorems_clean.proofs.Sources.{Each, Source, kept-sources, sources_strict}
use Rattle.theorems_clean.proofs.Lines.{numbers, closed-numbers}
use Rattle.theorems_clean.proofs.Headers.{at_below, Where, at_where}
use Rattle.theorems_clean.proofs.Headers.{first as at_first, other as at_other}
use Rattle.theorems_lost.proofs.Accounts.{notes_other, notes_data, noted_all, noted-before, noted-behind}
use Rattle.theorems_told.proofs.Changes.{Flags, Among, it, rest, noted-among, noted_some, last_or_not, block_of, flags_no_change, no_change_flags, flags_same, same_flags}

-- ---- the notes of one line among those of all

from_block : (x l i : ℕ) (ns ms : List ℕ) → Noted x l (at_line i ns ++ ms) → (l ≡ i) ⊎ Noted x l ms
unfolding at_line
from_block x l i [] ms n = inr n
from_block x l i (m ∷ ns) ms n = go (noted-among x l m i (at_line i ns ++ ms) n) (from_block x l i ns ms)
  where
    go : Among x l m i (at_line i ns ++ ms) → (Noted x l (at_line i ns ++ ms) → (l ≡ i) ⊎ Noted x l ms) → (l ≡ i) ⊎ Noted x l ms
    go (it e z) ih = inl z
    go (rest r) ih = ih r

-- at another line
skip_block : (x l i : ℕ) (ns ms : List ℕ) → (l ≡ i → ⊥) → Noted x l (at_line i ns ++ ms) → Noted x l ms
skip_block x l i ns ms h n = go (from_block x l i ns ms n)
  where
    go : (l ≡ i) ⊎ Noted x l ms → Noted x l ms
    go (inl z) = absurd (h z)
    go (inr r) = r

-- at this line
stay_block : (x i : ℕ) (ns ms : List ℕ) → (Noted x i ms → ⊥) → Noted x i (at_line i ns ++ ms) → Noted x i (at_line i ns)
unfolding at_line
stay_block x i [] ms h n = absurd (h n)
stay_block x i (m ∷ ns) ms h n = go (noted-among x i m i (at_line i ns ++ ms) n) (stay_block x i ns ms h)
  where
    go : Among x i m i (at_line i ns ++ ms) → (Noted x i (at_line i ns ++ ms) → Noted x i (at_line i ns)) → Noted x i (m ∷ i ∷ at_line i ns)
    go (it e z) ih = subst (λ (y : ℕ). Noted x i (y ∷ i ∷ at_line i ns)) e first
    go (rest r) ih = behind (ih r)

-- the notes of lines from this number on
notes_from : (rs : List Text) (unit h i : ℕ) (early : Bool) (b : Before) (ks : List Kept) (x l : ℕ) → Noted x l (notes_of unit h early i b rs ks) → i ≤ l
unfolding notes_of
notes_from [] unit h i early b ks x l n = absurd (omega (arith, noted_some n))
notes_from (r ∷ rs) unit h i early b [] x l n = go (from_block x l i _ _ n) (notes_from rs unit h (suc i) early b [] x l)
  where
    go : (l ≡ i) ⊎ Noted x l (notes_of unit h early (suc i) b rs []) → (Noted x l (notes_of unit h early (suc i) b rs []) → suc i ≤ l) → i ≤ l
    go (inl z) ih = omega arith
    go (inr r) ih = omega (arith, ih r)
notes_from (r ∷ rs) unit h i early b (k ∷ ks) x l n = by_data (is_data h i r) refl
    (λ c js m. notes_from rs unit h (suc i) early c js x l m)
  where
    go : (c : Before) (js : List Kept) → (l ≡ i) ⊎ Noted x l (notes_of unit h early (suc i) c rs js)
        → ((c : Before) (js : List Kept) → Noted x l (notes_of unit h early (suc i) c rs js) → suc i ≤ l) → i ≤ l
    go c js (inl z) ih = omega arith
    go c js (inr r) ih = omega (arith, ih c js r)

    by_data : (d : Bool) → is_data h i r ≡ d → ((c : Before) (js : List Kept) → Noted x l (notes_of unit h early (suc i) c rs js) → suc i ≤ l) → i ≤ l
    by_data true d ih =
        go (past (closing_or b.closing (ahead unit (k ∷ ks)).closing) k) ks (from_block x l i _ _ (subst (Noted x l) (notes_data unit h early i b r rs k ks d) n)) ih
    by_data false d ih = go b (k ∷ ks) (from_block x l i _ _ (subst (Noted x l) (notes_other unit h early i b r rs (k ∷ ks) d) n)) ih

-- ---- line by line

-- The line is the same bytes exactly where no change is noted.
abbrev Same : Text → Text → ℕ → List ℕ → Type 0
Same text raw l notes = (text ≡ raw → Unchanged l notes) × (Unchanged l notes → text ≡ raw)

same_as : {text u raw r : Text} {l i : ℕ} {notes : List ℕ} → text ≡ u → raw ≡ r → l ≡ i → Same u r i notes → Same text raw l notes
same_as {text} {u} {raw} {r} {l} {i} {notes} e f z s =
    subst (λ (m : ℕ). Same text raw m notes) (sym z) (subst (λ (v : Text). Same v raw i notes) (sym e) (subst (λ (v : Text). Same u v i notes) (sym f) s))

-- the notes of an earlier line change nothing
same-behind : (text raw : Text) (l i : ℕ) (ns ms : List ℕ) → (l ≡ i → ⊥) → Same text raw l ms → Same text raw l (at_line i ns ++ ms)
same-behind text raw l i ns ms h s = (λ e x c n. s.0 e x c (skip_block x l i ns ms h n), λ u. s.1 (λ x c n. u x c (noted-behind i ns n)))

-- the line itself
same_here : (unit : ℕ) (early : Bool) (c : ℤ) (begins : Bool) (k : Kept) (ks : List Kept) (ms : List ℕ) → at_end_only k.raw ≡ true → strict_line k.line k.raw ≡ answer k.text
    → ((x : ℕ) → Noted x k.line ms → ⊥)
    → Same (with_end (reclosed unit (continues k ks) k.text)) k.raw k.line (at_line k.line (block_of unit early c begins (ahead unit (k ∷ ks)) k) ++ ms)
same_here unit early c begins k ks ms once is none-later =
    let a = ahead unit (k ∷ ks) in
    let goes = last_or_not unit k ks in
    let line = k.line in
    let block = block_of unit early c begins a k in (
      λ e x o n. flags_no_change line unit early c begins a k (subst (λ (g : Bool). Flags unit g k) (sym goes) (same_flags unit (continues k ks) k once is e)) x o
          (stay_block x line block ms (none-later x) n),
      λ u. flags_same unit (continues k ks) k once is
          (subst (λ (g : Bool). Flags unit g k) goes (no_change_flags line unit early c begins a k (λ x o n. u x o (noted-before ms n)))),
    )

above : (rs : List Text) (i : ℕ) (ks : List Kept) → Each (Source rs i) ks → (l n : ℕ) → At l n (numbers ks) → i ≤ l
above rs i [] h l n at = absurd (omega (arith, at_below at))
above rs i (k ∷ ks) h l n at = go (at_where l k.line n (numbers ks) at) (λ m. above rs i ks h.1 l m)
  where
    go : Where l k.line n (numbers ks) → ((m : ℕ) → At l m (numbers ks) → i ≤ l) → i ≤ l
    go (at_first e z) ih = omega (arith, e, h.0.number)
    go (at_other m z a) ih = ih m a

-- what is shown of a line, whatever stands before these
abbrev Changes : List Text → ℕ → ℕ → ℕ → Bool → ℕ → Text → Text → Type 0
Changes rs unit h i early l raw text =
    (b : Option Kept) (before : Before) (ks : List Kept) → kept_lines h i b rs ≡ answer ks → (n j : ℕ) → At l n (numbers ks) → l ≡ i + j → At raw j rs
    → At text n (with_ends (closed_lines unit ks)) → Same text raw l (notes_of unit h early i before rs ks)

changes : (rs : List Text) (unit h i : ℕ) (early : Bool) (l : ℕ) (raw text : Text) → AllAtEndOnly rs → Changes rs unit h i early l raw text
unfolding closed_lines
changes [] unit h i early l raw text once b before ks e n j at z in-text in-answer = absurd (omega (arith, at_below in-text))
changes (r ∷ rs) unit h i early l raw text once b before ks e n j at z in-text in-answer =
    go (is_data h i r) refl (at_where raw r j rs in-text) (changes rs unit h (suc i) early l raw text once.1)
  where
    data_line : (t : Text) (others : List Kept) (x : Before) (c : ℤ) (begins : Bool) → strict_line i r ≡ answer t
        → kept_lines h (suc i) (some (record { line = i; raw = r; text = t })) rs ≡ answer others
        → Where l i n (numbers others) → Where raw r j rs
        → Where text (with_end (reclosed unit (continues (record { line = i; raw = r; text = t }) others) t)) n (with_ends (closed_lines unit others))
        → Changes rs unit h (suc i) early l raw text
        → Same text raw l (at_line i (block_of unit early c begins (ahead unit (record { line = i; raw = r; text = t } ∷ others)) (record { line = i; raw = r; text = t }))
        ++ notes_of unit h early (suc i) x rs others)
    data_line t others x c begins s k (at_first li nz) (at_first same jz) (at_first is az) ih =
        let here-same = same_here unit early c begins (record { line = i; raw = r; text = t }) others (notes_of unit h early (suc i) x rs others) once.0 s
        (λ y m. omega (arith, notes_from rs unit h (suc i) early x others y i m)) in
        same_as is same li here-same
    data_line t others x c begins s k (at_first li nz) (at_first same jz) (at_other m az a) ih = absurd (omega arith)
    data_line t others x c begins s k (at_first li nz) (at_other m jz a) w ih = absurd (omega arith)
    data_line t others x c begins s k (at_other m nz a) (at_first same jz) w ih =
        absurd (omega (arith, above rs (suc i) others (kept-sources rs h (suc i) _ others k) l m a))
    data_line t others x c begins s k (at_other m nz a) (at_other o jz a') (at_first is az) ih = absurd (omega arith)
    data_line t others x c begins s k (at_other m nz a) (at_other o jz a') (at_other p az a'') ih =
        same-behind text raw l i _ _ (λ q. omega arith)
        (ih _ x others k m o a (omega arith) a' (subst (λ (q : ℕ). At text q (with_ends (closed_lines unit others))) (let q : p ≡ m = omega arith in q) a''))

    go : (d : Bool) → is_data h i r ≡ d → Where raw r j rs → Changes rs unit h (suc i) early l raw text → Same text raw l (notes_of unit h early i before (r ∷ rs) ks)
    go false d (at_first same jz) ih =
        absurd (omega (arith, above rs (suc i) ks (kept-sources rs h (suc i) b ks (sym (kept_other h i b r rs d) ∙ e)) l n at))
    go false d (at_other o jz a) ih =
        subst (Same text raw l) (sym (notes_other unit h early i before r rs ks d))
        (same-behind text raw l i _ _ (λ q. omega arith) (ih b before ks (sym (kept_other h i b r rs d) ∙ e) n o at (omega arith) a in-answer))
    go true d w ih =
        let p = kept_data h i b r rs ks d e in
        let k : Kept = record { line = i; raw = r; text = p.text } in
        subst (λ (js : List Kept). Same text raw l (notes_of unit h early i before (r ∷ rs) js)) (sym p.is)
        (subst (Same text raw l) (sym (notes_data unit h early i before r rs k p.others d))
        (data_line p.text p.others _ _ _ p.strict p.rest
        (at_where l i n (numbers p.others) (subst (λ (js : List Kept). At l n (numbers js)) p.is at)) w
        (at_where text _ n (with_ends (closed_lines unit p.others)) (subst (λ (js : List Kept). At text n (with_ends (closed_lines unit js))) p.is in-answer)) ih))

-- ---- the whole file

-- two cells a note
abbrev pub Paired : List ℕ → Type 0
Paired [] = Unit {0}
Paired (n ∷ []) = ⊥
Paired (n ∷ l ∷ ns) = Paired ns

pub block_paired : (i : ℕ) (ns ms : List ℕ) → Paired ms → Paired (at_line i ns ++ ms)
unfolding at_line
block_paired i [] ms h = h
block_paired i (n ∷ ns) ms h = block_paired i ns ms h

pub notes_paired : (rs : List Text) (unit h i : ℕ) (early : Bool) (b : Before) (ks : List Kept) → Paired (notes_of unit h early i b rs ks)
unfolding notes_of
notes_paired [] unit h i early b ks = tt
notes_paired (r ∷ rs) unit h i early b [] = block_paired i _ _ (notes_paired rs unit h (suc i) early b [])
notes_paired (r ∷ rs) unit h i early b (k ∷ ks) = go (is_data h i r) refl (λ c js. notes_paired rs unit h (suc i) early c js)
  where
    go : (d : Bool) → is_data h i r ≡ d → ((c : Before) (js : List Kept) → Paired (notes_of unit h early (suc i) c rs js)) → Paired (notes_of unit h early i b (r ∷ rs) (k ∷ ks))
    go true d ih = subst Paired (sym (notes_data unit h early i b r rs k ks d)) (block_paired i _ _ (ih _ ks))
    go false d ih = subst Paired (sym (notes_other unit h early i b r rs (k ∷ ks) d)) (block_paired i _ _ (ih b (k ∷ ks)))

pub split : (x l : ℕ) (ns ms : List ℕ) → Paired ns → Noted x l (ns ++ ms) → Noted x l ns ⊎ Noted x l ms
split x l [] ms h n = inr n
split x l (m ∷ []) ms h n = absurd h
split x l (m ∷ i ∷ ns) ms h n = go (noted-among x l m i (ns ++ ms) n) (split x l ns ms h)
  where
    more : Noted x l ns ⊎ Noted x l ms → Noted x l (m ∷ i ∷ ns) ⊎ Noted x l ms
    more (inl a) = inl (behind a)
    more (inr a) = inr a

    go : Among x l m i (ns ++ ms) → (Noted x l (ns ++ ms) → Noted x l ns ⊎ Noted x l ms) → Noted x l (m ∷ i ∷ ns) ⊎ Noted x l ms
    go (it e z) ih = inl (subst (λ (y : ℕ). Noted x l (y ∷ i ∷ ns)) e (subst (λ (y : ℕ). Noted x l (x ∷ y ∷ ns)) z first))
    go (rest r) ih = more (ih r)

-- one note that is not of a change
not_change : (x l m i : ℕ) (ns : List ℕ) → is_change x ≡ true → is_change m ≡ false → Noted x l (m ∷ i ∷ ns) → Noted x l ns
not_change x l m i ns c o n = go (noted-among x l m i ns n)
  where
    go : Among x l m i ns → Noted x l ns
    go (it e z) = absurd (true_not_false c (ap is_change e ∙ o))
    go (rest r) = r

-- no change is told but at the lines
all_change : (t : Text) (unit h : ℕ) (ks : List Kept) (x l : ℕ) → is_change x ≡ true → Noted x l (all_notes t unit h ks) → Noted x l (notes_of unit h (ends_early t) 1 at_start (lines_of (text_of t)) ks)
unfolding all_notes mark_note end_note
all_change t unit h ks x l c n = go (split x l notes (end_note t) (notes_paired (lines_of (text_of t)) unit h 1 (ends_early t) at_start ks) (past-mark (is_marked t) n))
  where
    notes : List ℕ
    notes = notes_of unit h (ends_early t) 1 at_start (lines_of (text_of t)) ks

    past-mark : (b : Bool) → Noted x l (cond b (1 ∷ 1 ∷ []) [] ++ (notes ++ end_note t)) → Noted x l (notes ++ end_note t)
    past-mark true n = not_change x l 1 1 (notes ++ end_note t) c refl n
    past-mark false n = n

    none_there : Noted x l [] → Noted x l notes
    none_there n = absurd (omega (arith, noted_some n))

    at_end : (b : Bool) → Noted x l (cond b (2 ∷ suc (length (lines_of (text_of t))) ∷ []) []) → Noted x l notes
    at_end true n = none_there (not_change x l 2 (suc (length (lines_of (text_of t)))) [] c refl n)
    at_end false n = none_there n

    go : Noted x l notes ⊎ Noted x l (end_note t) → Noted x l notes
    go (inl a) = a
    go (inr a) = at_end (ends_early t && all_ended (lines_of (text_of t))) a

pub changes_are_told : ChangesAreTold
changes_are_told t header unit c e i line raw text at in-text in-answer =
    let a = answered t header unit c e in
    let rs = lines_of (text_of t) in
    let sources = kept-sources rs a.last 1 none a.kept a.kept_are in
    let strict = closed_strict unit a.kept (sources_strict rs 1 a.kept sources) in
    let texts : lines_of c.text ≡ with_ends (closed_lines unit a.kept) = ap lines_of a.text_is ∙ strict_lines (closed_lines unit a.kept) strict in
    let s = changes rs unit a.last 1 (ends_early t) (suc line) raw text (lines_end (text_of t)) none at_start a.kept a.kept_are i line
    (subst (At (suc line) i) (a.lines_are ∙ closed-numbers unit a.kept) at) (omega arith) in-text (subst (At text i) texts in-answer) in (
      λ same x o n. s.0 same x o (all_change t unit a.last a.kept x (suc line) o (subst (Noted x (suc line)) a.notes_are n)),
      λ u. s.1 (λ x o n. u x o (subst (Noted x (suc line)) (sym a.notes_are) (noted_all t unit a.last a.kept n))),
    )
