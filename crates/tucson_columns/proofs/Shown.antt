-- Laws of what is shown of a line: tabs as blanks, one byte after another; trailing blanks; the end of a raw line.
use mathlib.Core.Path.{◌≡◌, refl, sym, ◌∙◌, ap, ap₂}
use mathlib.Core.Bool.{Bool, true, false, cond, ◌||◌}
use mathlib.Core.List.{[], ◌∷◌, ◌++◌, drop_last, append_assoc, append-nil}
use Prim.Native.Nat.{ℕ, zero, suc, ◌+◌, ◌-◌, ◌<◌, ◌≤◌}
use native.Mathlib.Nat.{add_assoc, add-zero}
use native.Mathlib.Numerals.{add-one}
use native.Mathlib.Omega.{arith}
use borrow.Author.Tests.{eq-eqb, ne_eqb, eqb-true, eqb-false}
use lib.Dec.{eqb}
use lib.ListN.{length, get_or, take, drop, replicate, length-append, length-drop, length-replicate}
use lib.Seq.{slice, take-suc, take_all, take-take, slice_empty, drop-append-le, length-take-le}
use Rattle.base_exact.proofs.Decide.{or-false}
use Rattle.base_text.specs.Bytes.{Text, newline, cut, index_of}
use Rattle.base_text.proofs.Slice.{slice_take, slice-step}
use Rattle.base_text.proofs.Cutting.{cut-none}
use Rattle.spec_tucson.specs.Columns.{blank}
use Rattle.spec_tucson.specs.FileText.{tab, carriage_return}
use Rattle.spec_tucson.specs.Shown.{before_cut, unended, ends_in_return, without_return, tab_blanks, expanded, unless_trailing, trimmed, line_bytes, has_return, any_tab}
use Rattle.tucson_lines.specs.Machine.{LineEnd}
use Rattle.tucson_lines.proofs.Lines.{cut_line, end_is, line-bytes, end_within}
use Rattle.tucson_columns.specs.Machine.{shown_byte, is_gap}

-- no more is taken than is asked for
pub take_few : (n : ℕ) (t : Text) → length (take n t) ≤ n
take_few zero t = omega arith
take_few (suc n) [] = omega arith
take_few (suc n) (c ∷ t) = omega (arith, take_few n t)

-- ---- parts of a text
pub slice_snoc : (f i : ℕ) (t : Text) → f ≤ i → i < length t → slice f (suc i) t ≡ slice f i t ++ (get_or t i 0 ∷ [])
slice_snoc f i t h k = ap (drop f) (take-suc t i 0 k) ∙ drop-append-le f (take i t) (get_or t i 0 ∷ []) (rw (length-take-le i t (omega arith)) h)

drop_take_split : (f k : ℕ) (t : Text) → f ≤ k → drop f t ≡ drop f (take k t) ++ drop k t
drop_take_split zero zero t h = refl
drop_take_split zero (suc k) [] h = refl
drop_take_split zero (suc k) (c ∷ t) h = ap (λ (u : Text). c ∷ u) (drop_take_split zero k t (omega arith))
drop_take_split (suc f) zero t h = absurd (omega arith)
drop_take_split (suc f) (suc k) [] h = refl
drop_take_split (suc f) (suc k) (c ∷ t) h = drop_take_split f k t (omega arith)

pub slice-split : (f k to : ℕ) (t : Text) → f ≤ k → k ≤ to → slice f to t ≡ slice f k t ++ slice k to t
slice-split f k to t h i = drop_take_split f k (take to t) h ∙ ap (λ (u : Text). drop f u ++ drop k (take to t)) (take-take k to t i)

-- ---- tabs
pub expanded-step : (n c : ℕ) (cs : Text) → expanded n (c ∷ cs) ≡ shown_byte n c ++ expanded (n + length (shown_byte n c)) cs
unfolding expanded
expanded-step n c cs = go (eqb c tab)
  where
    go : (b : Bool) → cond b (replicate (tab_blanks n) blank ++ expanded (n + tab_blanks n) cs) (c ∷ expanded (suc n) cs)
        ≡ cond b (replicate (tab_blanks n) blank) (c ∷ []) ++ expanded (n + length (cond b (replicate (tab_blanks n) blank) (c ∷ []))) cs
    go true = rw length-replicate
    go false = ap (λ (m : ℕ). c ∷ expanded m cs) (sym (add-one n))

pub expanded-none : (n : ℕ) → expanded n [] ≡ []
unfolding expanded
expanded-none n = refl

-- bytes without a tab are shown as they stand
pub expanded-plain : (n : ℕ) (t : Text) → any_tab t ≡ false → expanded n t ≡ t
unfolding expanded any_tab
expanded-plain n [] e = refl
expanded-plain n (c ∷ cs) e =
    let both = or-false (eqb c tab) (any_tab cs) e in
    ap (λ (b : Bool). cond b (replicate (tab_blanks n) blank ++ expanded (n + tab_blanks n) cs) (c ∷ expanded (suc n) cs)) both.0
    ∙ ap (λ (t : Text). c ∷ t) (expanded-plain (suc n) cs both.1)

pub expanded_one : (n c : ℕ) → expanded n (c ∷ []) ≡ shown_byte n c
expanded_one n c =
    expanded-step n c [] ∙ ap (λ (u : Text). shown_byte n c ++ u) (expanded-none (n + length (shown_byte n c)))
    ∙ append-nil (shown_byte n c)

pub expanded_append : (n : ℕ) (s t : Text) → expanded n (s ++ t) ≡ expanded n s ++ expanded (n + length (expanded n s)) t
expanded_append n [] t = rw (expanded-none n, add-zero)
expanded_append n (c ∷ s) t =
    expanded-step n c (s ++ t)
    ∙ ap (λ (u : Text). shown_byte n c ++ u) (expanded_append (n + length (shown_byte n c)) s t)
    ∙ sym (append_assoc (shown_byte n c) _ _)
    ∙ ap₂ (λ (u : Text) (m : ℕ). u ++ expanded m t) (sym (expanded-step n c s))
    (add_assoc n (length (shown_byte n c)) _ ∙ ap (λ (m : ℕ). n + m) (sym (length-append (shown_byte n c) _) ∙ ap length (sym (expanded-step n c s))))

pub byte_some : (n c : ℕ) → 1 ≤ length (shown_byte n c)
byte_some n c = go (eqb c tab)
  where
    go : (b : Bool) → 1 ≤ length (cond b (replicate (tab_blanks n) blank) (c ∷ []))
    go true = rw length-replicate (omega arith)
    go false = omega arith

pub byte_few : (n c : ℕ) → length (shown_byte n c) ≤ tab_blanks n
byte_few n c = go (eqb c tab)
  where
    go : (b : Bool) → length (cond b (replicate (tab_blanks n) blank) (c ∷ [])) ≤ tab_blanks n
    go true = rw length-replicate (omega arith)
    go false = omega arith

-- one byte put behind the others
pub expand-next : (text : Text) (i to n : ℕ) (bytes after : Text) (next : ℕ) → i < to → to ≤ length text
    → next ≡ n + length (shown_byte n (get_or text i 0)) → take next after ≡ take n bytes ++ shown_byte n (get_or text i 0)
    → take next after ++ expanded next (slice (i + 1) to text) ≡ take n bytes ++ expanded n (slice i to text)
expand-next text i to n bytes after next h k e f =
    ap₂ (λ (u : Text) (m : ℕ). u ++ expanded m (slice (i + 1) to text)) f e
    ∙ append_assoc (take n bytes) (shown_byte n (get_or text i 0)) _
    ∙ ap (λ (u : Text). take n bytes ++ u) (sym (expanded-step n (get_or text i 0) (slice (i + 1) to text)) ∙ ap (expanded n) (sym (slice-step i to text 0 h k)))

-- something is shown of something
pub expanded_some : (n : ℕ) (t : Text) → 1 ≤ length t → 1 ≤ length (expanded n t)
expanded_some n [] h = absurd (omega arith)
expanded_some n (c ∷ cs) h = rw (expanded-step n c cs, length-append) (omega (arith, byte_some n c))

-- ---- trailing blanks
pub trimmed-blank : (x : Text) → trimmed (x ++ (blank ∷ [])) ≡ trimmed x
unfolding trimmed
trimmed-blank [] = refl
trimmed-blank (c ∷ x) = ap (unless_trailing c) (trimmed-blank x)

pub trimmed_blanks : (k : ℕ) (x : Text) → trimmed (x ++ replicate k blank) ≡ trimmed x
unfolding trimmed
trimmed_blanks zero x = ap trimmed (append-nil x)
trimmed_blanks (suc k) x =
    ap trimmed (sym (append_assoc x (blank ∷ []) (replicate k blank))) ∙ trimmed_blanks k (x ++ (blank ∷ [])) ∙ trimmed-blank x

pub trimmed_other : (c : ℕ) (x : Text) → (c ≡ blank → ⊥) → trimmed (x ++ (c ∷ [])) ≡ x ++ (c ∷ [])
unfolding trimmed
trimmed_other c [] h = rw (ne_eqb c blank h)
trimmed_other c (d ∷ []) h = ap (unless_trailing d) (trimmed_other c [] h)
trimmed_other c (d ∷ e ∷ x) h = ap (unless_trailing d) (trimmed_other c (e ∷ x) h)

pub trimmed-none : trimmed [] ≡ []
unfolding trimmed
trimmed-none = refl

-- ---- a part without its last byte
module _ (text : Text) (from i : ℕ) (after : from < i) (within : i ≤ length text) where
  abbrev last : ℕ
  last = get_or text (i - 1) 0

  abbrev front : Text
  front = slice from (i - 1) text

  pub by_last : slice from i text ≡ front ++ (last ∷ [])
  by_last = let e : i ≡ suc (i - 1) = omega arith in ap (λ (n : ℕ). slice from n text) e ∙ slice_snoc from (i - 1) text (omega arith) (omega arith)

  shown-last : (n : ℕ) → expanded n (slice from i text) ≡ expanded n front ++ shown_byte (n + length (expanded n front)) last
  shown-last n =
      ap (expanded n) by_last ∙ expanded_append n front (last ∷ [])
      ∙ ap (λ (u : Text). expanded n front ++ u) (expanded_one (n + length (expanded n front)) last)

  pub shown-blank : (n : ℕ) → last ≡ blank → trimmed (expanded n (slice from i text)) ≡ trimmed (expanded n front)
  shown-blank n e =
      ap trimmed (shown-last n ∙ ap (λ (b : Bool). expanded n front ++ cond b (replicate (tab_blanks (n + length (expanded n front))) blank) (last ∷ [])) (ne_eqb last tab (omega arith))
      ∙ ap (λ (c : ℕ). expanded n front ++ (c ∷ [])) e) ∙ trimmed-blank (expanded n front)

  pub shown-tab : (n : ℕ) → last ≡ tab → trimmed (expanded n (slice from i text)) ≡ trimmed (expanded n front)
  shown-tab n e =
      ap trimmed (shown-last n ∙ ap (λ (b : Bool). expanded n front ++ cond b (replicate (tab_blanks (n + length (expanded n front))) blank) (last ∷ [])) (eq-eqb last tab e))
      ∙ trimmed_blanks (tab_blanks (n + length (expanded n front))) (expanded n front)

  pub shown_other : (n : ℕ) → (last ≡ blank → ⊥) → (last ≡ tab → ⊥) → trimmed (expanded n (slice from i text)) ≡ expanded n (slice from i text)
  shown_other n h k =
      let e : expanded n (slice from i text) ≡ expanded n front ++ (last ∷ []) =
      shown-last n ∙ ap (λ (b : Bool). expanded n front ++ cond b (replicate (tab_blanks (n + length (expanded n front))) blank) (last ∷ [])) (ne_eqb last tab k) in
      ap trimmed e ∙ trimmed_other last (expanded n front) h ∙ sym e

  pub shown-gap : (n : ℕ) → is_gap last ≡ true → trimmed (expanded n (slice from i text)) ≡ trimmed (expanded n front)
  shown-gap n e = go (eqb last blank) refl e
    where
      go : (b : Bool) → eqb last blank ≡ b → (b || eqb last tab) ≡ true → trimmed (expanded n (slice from i text)) ≡ trimmed (expanded n front)
      go true w e = shown-blank n (eqb-true last blank w)
      go false w e = shown-tab n (eqb-true last tab e)

  pub shown_no_gap : (n : ℕ) → is_gap last ≡ false → trimmed (expanded n (slice from i text)) ≡ expanded n (slice from i text)
  shown_no_gap n e = let both = or-false (eqb last blank) (eqb last tab) e in shown_other n (eqb-false last blank both.0) (eqb-false last tab both.1)

-- ---- the end of a raw line
ends_in : (c : ℕ) (x : Text) → ends_in_return (x ++ (c ∷ [])) ≡ eqb c carriage_return
unfolding ends_in_return
ends_in c [] = refl
ends_in c (d ∷ []) = refl
ends_in c (d ∷ e ∷ x) = ends_in c (e ∷ x)

drop-last : (c : ℕ) (x : Text) → drop_last (x ++ (c ∷ [])) ≡ x
drop-last c [] = refl
drop-last c (d ∷ []) = refl
drop-last c (d ∷ e ∷ x) = ap (λ (l : Text). d ∷ l) (drop-last c (e ∷ x))

module _ (text : Text) (from end : ℕ) (at : LineEnd text from end) where
  abbrev raw : Text
  raw = slice from (end + 1) text

  abbrev left : Text
  left = drop from text

  whole-line : end ≡ length text → unended raw ≡ slice from end text
  unfolding unended
  whole-line e =
      let r : raw ≡ left = ap (drop from) (take_all (end + 1) text (omega arith)) in
      let z : index_of newline left ≡ length left = omega (arith, end_is text from end at, length-drop from text, end_within text from end at) in
      ap (λ (t : Text). before_cut t (cut newline t)) r ∙ ap (before_cut left) (cut-none newline left z)
      ∙ sym (ap (drop from) (take_all end text (omega arith)))

  ended-line : end < length text → unended raw ≡ slice from end text
  unfolding unended
  ended-line h =
      let r = line-bytes text from end at in
      let z : index_of newline left < length left = omega (arith, end_is text from end at, length-drop from text, end_within text from end at) in
      ap (λ (t : Text). before_cut t (cut newline t)) r
      ∙ ap (before_cut _) (cut_line left z)
      ∙ sym (slice_take from (index_of newline left) text) ∙ ap (λ (n : ℕ). slice from n text) (sym (end_is text from end at))

  pub unended_is : unended raw ≡ slice from end text
  unended_is = go (eqb end (length text)) refl
    where
      go : (b : Bool) → eqb end (length text) ≡ b → unended raw ≡ slice from end text
      go true e = whole-line (eqb-true end (length text) e)
      go false e = ended-line (omega (arith, end_within text from end at, eqb-false end (length text) e))

  pub stop_empty : from ≡ end → (line_bytes raw ≡ slice from end text) × (has_return raw ≡ false)
  unfolding line_bytes without_return has_return ends_in_return
  stop_empty e =
      let z : unended raw ≡ [] = unended_is ∙ ap (λ (n : ℕ). slice n end text) e ∙ slice_empty end text in
      (rw z (sym (ap (λ (n : ℕ). slice n end text) e ∙ slice_empty end text)), rw z)

  module _ (some_byte : from < end) where
    abbrev final : ℕ
    final = get_or text (end - 1) 0

    unended-last : unended raw ≡ slice from (end - 1) text ++ (final ∷ [])
    unended-last = unended_is ∙ by_last text from end some_byte (end_within text from end at).1

    pub stop_return : final ≡ carriage_return → (line_bytes raw ≡ slice from (end - 1) text) × (has_return raw ≡ true)
    unfolding line_bytes without_return has_return
    stop_return e =
        let z : ends_in_return (unended raw) ≡ true = ap ends_in_return unended-last ∙ ends_in final (slice from (end - 1) text) ∙ eq-eqb final carriage_return e in
        (ap (λ (b : Bool). cond b (drop_last (unended raw)) (unended raw)) z ∙ ap drop_last unended-last ∙ drop-last final (slice from (end - 1) text), z)

    pub stop_other : (final ≡ carriage_return → ⊥) → (line_bytes raw ≡ slice from end text) × (has_return raw ≡ false)
    unfolding line_bytes without_return has_return
    stop_other h =
        let z : ends_in_return (unended raw) ≡ false = ap ends_in_return unended-last ∙ ends_in final (slice from (end - 1) text) ∙ ne_eqb final carriage_return h in
        (ap (λ (b : Bool). cond b (drop_last (unended raw)) (unended raw)) z ∙ unended_is, z)
