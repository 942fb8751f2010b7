-- Columns by their numbers, words, and what the first 24 columns of a shown line say of a header line.
use mathlib.Core.Path.{◌≡◌, refl, sym, ◌∙◌, ap, ap₂}
use mathlib.Core.Bool.{Bool, true, false, cond, ◌&&◌, ◌||◌, not, or_assoc, or-false as or-none}
use mathlib.Core.List.{[], ◌∷◌, ◌++◌, append-nil}
use Prim.Native.Nat.{ℕ, zero, suc, ◌+◌, ◌-◌, ◌<◌, ◌≤◌}
use native.Mathlib.Omega.{arith}
use borrow.Author.Tests.{eq-eqb, ne_eqb, eqb-true, eqb-false, ltb-true, ltb-false, leb-true, leb-false}
use lib.Dec.{eqb, leb, ltb}
use lib.ListN.{length, get_or, take, drop, replicate, drop_of_length-le, get_or-eq_default}
use lib.Seq.{slice, slice_empty, length-take-le, take_all, take-take, take_at, drop_at, get_or-take}
use Rattle.base_text.specs.Bytes.{Text, begins_with, digit_zero}
use Rattle.base_text.specs.Numeral.{is_digit}
use Rattle.spec_tucson.specs.Columns.{blank}
use Rattle.spec_tucson.specs.Line.{name_columns}
use Rattle.spec_tucson.specs.FileText.{tab}
use Rattle.spec_tucson.specs.Shown.{tab_blanks, expanded, shown}
use Rattle.spec_tucson.specs.StrictLine.{is_letter, is_high}
use Rattle.spec_tucson.specs.KeptLines.{same_text, column, any_word, is_caption, is_header_line}
use Rattle.tucson_columns.specs.Machine.{cells, shown_byte, LineShown, Expanded}
use Rattle.tucson_columns.proofs.Shown.{expanded-step, expanded-none, take_few}
use Rattle.spec_tucson.proofs.Lines.{same-lengths, column_at}
use Rattle.tucson_caption.specs.Machine.{last_column, FrontTold, name_front, caption_by}

-- ---- a column
module _ (bytes : Text) (count n : ℕ) (some_column : 1 ≤ n) where
  column_by : column n (take count bytes) ≡ get_or (take count bytes) (n - 1) 0
  column_by = let e : n ≡ suc (n - 1) = omega arith in ap (λ (m : ℕ). column m (take count bytes)) e ∙ column_at (n - 1) (take count bytes)

  pub column_in : n ≤ count → column n (take count bytes) ≡ get_or bytes (n - 1) 0
  column_in h = column_by ∙ get_or-take count bytes (n - 1) 0 (omega arith)

  pub column_out : count < n → column n (take count bytes) ≡ 0
  column_out h = column_by ∙ get_or-eq_default (take count bytes) 0 (omega (arith, take_few count bytes))

-- among the first columns
pub column-front : (n m : ℕ) (t : Text) → n ≤ m → column n (take m t) ≡ column n t
unfolding column
column-front n zero [] h = refl
column-front n (suc m) [] h = refl
column-front zero zero (c ∷ t) h = refl
column-front zero (suc m) (c ∷ t) h = refl
column-front (suc n) zero (c ∷ t) h = absurd (omega arith)
column-front (suc zero) (suc m) (c ∷ t) h = refl
column-front (suc (suc n)) (suc m) (c ∷ t) h = column-front (suc n) m t (omega arith)

-- ---- words
words_append : (s t : Text) → any_word (s ++ t) ≡ (any_word s || any_word t)
unfolding any_word
words_append [] t = refl
words_append (c ∷ s) t = ap (λ (b : Bool). (is_letter c || is_high c) || b) (words_append s t) ∙ sym (or_assoc (is_letter c || is_high c) (any_word s) (any_word t))

no_words : (k : ℕ) → any_word (replicate k blank) ≡ false
unfolding any_word
no_words zero = refl
no_words (suc k) = no_words k

byte_word : (n c : ℕ) → any_word (shown_byte n c) ≡ (is_letter c || is_high c)
unfolding any_word
byte_word n c = go (eqb c tab) refl
  where
    go : (b : Bool) → eqb c tab ≡ b → any_word (cond b (replicate (tab_blanks n) blank) (c ∷ [])) ≡ (is_letter c || is_high c)
    go true e = no_words (tab_blanks n) ∙ sym (ap (λ (x : ℕ). is_letter x || is_high x) (eqb-true c tab e))
    go false e = or-none (is_letter c || is_high c)

pub words-shown : (n : ℕ) (t : Text) → any_word (expanded n t) ≡ any_word t
unfolding any_word
words-shown n [] = ap any_word (expanded-none n)
words-shown n (c ∷ t) =
    ap any_word (expanded-step n c t) ∙ words_append (shown_byte n c) (expanded (n + length (shown_byte n c)) t)
    ∙ ap₂ ◌||◌ (byte_word n c) (words-shown (n + length (shown_byte n c)) t)

-- ---- the same bytes
same-begins : (s t : Text) → length s ≡ length t → same_text s t ≡ begins_with s t
unfolding same_text begins_with
same-begins [] [] e = refl
same-begins [] (d ∷ t) e = absurd (omega arith)
same-begins (c ∷ s) [] e = absurd (omega arith)
same-begins (c ∷ s) (d ∷ t) e = go (eqb c d) refl (same-begins s t (omega arith))
  where
    go : (b : Bool) → eqb c d ≡ b → same_text s t ≡ begins_with s t → (b && same_text s t) ≡ cond (eqb d c) (begins_with s t) false
    go true w ih = ih ∙ sym (ap (λ (x : Bool). cond x (begins_with s t) false) (eq-eqb d c (sym (eqb-true c d w))))
    go false w ih = sym (ap (λ (x : Bool). cond x (begins_with s t) false) (ne_eqb d c (λ z. eqb-false c d w (sym z))))

-- at most six bytes
front_is : (n : ℕ) (t : Text) → take 6 (take n t) ≡ take (name_front n) t
front_is n t = go (ltb n 6) refl
  where
    go : (b : Bool) → ltb n 6 ≡ b → take 6 (take n t) ≡ take (cond b n 6) t
    go true e = take_all 6 (take n t) (omega (arith, take_few n t, ltb-true n 6 e))
    go false e = take-take 6 n t (ltb-false n 6 e)

pub front-within : (n m : ℕ) → n ≤ m → name_front n ≤ m
front-within n m h = go (ltb n 6) refl
  where
    go : (b : Bool) → ltb n 6 ≡ b → cond b n 6 ≤ m
    go true e = h
    go false e = omega (arith, ltb-false n 6 e)

module _ (head : Text) (past : ℕ) (bytes : Text) (count : ℕ) (h : past ≤ length head) (w : count ≤ length bytes) where
  abbrev a : ℕ
  a = name_front past

  abbrev b : ℕ
  b = name_front count

  fronts : same_text (take 6 (take past head)) (take 6 (take count bytes)) ≡ same_text (take a head) (take b bytes)
  fronts = ap₂ same_text (front_is past head) (front_is count bytes)

  a_size : length (take a head) ≡ a
  a_size = length-take-le a head (front-within past (length head) h)

  b_size : length (take b bytes) ≡ b
  b_size = length-take-le b bytes (front-within count (length bytes) w)

  pub front-differs : (a ≡ b → ⊥) → same_text (take 6 (take past head)) (take 6 (take count bytes)) ≡ false
  front-differs n = fronts ∙ same-lengths (take a head) (take b bytes) (λ e. n (sym a_size ∙ e ∙ b_size))

  pub front-begins : a ≡ b → same_text (take 6 (take past head)) (take 6 (take count bytes)) ≡ begins_with (take a head) (take b bytes)
  front-begins e = fronts ∙ same-begins (take a head) (take b bytes) (a_size ∙ e ∙ sym b_size)

-- ---- the columns of a header line
drop-column : (n : ℕ) (t : Text) (c : ℕ) → column (suc n) t ≡ c → (c ≡ 0 → ⊥) → drop n t ≡ c ∷ drop (suc n) t
unfolding column
drop-column zero [] c e h = absurd (h (sym e))
drop-column (suc n) [] c e h = absurd (h (sym e))
drop-column zero (d ∷ t) c e h = ap (λ (x : ℕ). x ∷ t) e
drop-column (suc n) (d ∷ t) c e h = drop-column n t c e h

-- a blank in column 9 is no word
words-behind : (t : Text) (x : Bool) → (eqb (column 9 t) blank && (any_word (drop 9 t) && x)) ≡ (eqb (column 9 t) blank && (any_word (drop name_columns t) && x))
unfolding any_word
words-behind t x = go (eqb (column 9 t) blank) refl
  where
    go : (b : Bool) → eqb (column 9 t) blank ≡ b → (b && (any_word (drop 9 t) && x)) ≡ (b && (any_word (drop name_columns t) && x))
    go true e = sym (ap (λ (u : Text). any_word u && x) (drop-column 8 t blank (eqb-true (column 9 t) blank e) (λ z. omega arith)))
    go false e = refl

module _ (t : Text) where
  abbrev head : Text
  head = take last_column t

  head-size : eqb (length t) name_columns ≡ eqb (length head) name_columns
  head-size = go (leb (length t) last_column) refl
    where
      go : (b : Bool) → leb (length t) last_column ≡ b → eqb (length t) name_columns ≡ eqb (length head) name_columns
      go true e = ap (λ (u : Text). eqb (length u) name_columns) (sym (take_all last_column t (leb-true (length t) last_column e)))
      go false e =
          ne_eqb (length t) name_columns (λ z. omega (arith, leb-false (length t) last_column e))
          ∙ sym (ne_eqb (length head) name_columns (λ z. omega (arith, leb-false (length t) last_column e, length-take-le last_column t (omega (arith, leb-false (length t) last_column e)))))

  column-head : (n : ℕ) → n ≤ last_column → column n t ≡ column n head
  column-head n h = sym (column-front n last_column t h)

  caption_is : is_caption t ≡ caption_by head (length head) (any_word (drop name_columns t))
  unfolding is_caption caption_by
  caption_is =
      ap₂ ◌||◌ head-size (words-behind t (not (is_digit (column 12 t)) && (not (is_digit (column 18 t)) && not (is_digit (column 24 t)))))
      ∙ rw (column-head 9 (omega arith), column-head 12 (omega arith), column-head 18 (omega arith), column-head 24 (omega arith))

-- by the answers of the tests
pub caption-by : (t : Text) (n : ℕ) (spoken : Bool) (a b s x y z : Bool) → eqb n name_columns ≡ a → eqb (column 9 t) blank ≡ b → spoken ≡ s
    → not (is_digit (column 12 t)) ≡ x → not (is_digit (column 18 t)) ≡ y → not (is_digit (column 24 t)) ≡ z
    → caption_by t n spoken ≡ (a || (b && (s && (x && (y && z)))))
unfolding caption_by
caption-by t n spoken a b s x y z p q r u v w = ap₂ ◌||◌ p (ap₂ ◌&&◌ q (ap₂ ◌&&◌ r (ap₂ ◌&&◌ u (ap₂ ◌&&◌ v w))))

-- by the first columns of both lines in arrays
module _ (first t : Text) (k : ℕ) (head bytes : Text) (past count : ℕ) (heads : FrontTold first past head) (fronts-are : FrontTold t count bytes)
    (size : length bytes ≡ cells) where
  count_is : length (take last_column t) ≡ count
  count_is = ap length (sym fronts-are.are) ∙ length-take-le count bytes (omega (arith, fronts-are.few))

  first_is : take 6 first ≡ take 6 (take past head)
  first_is = sym (take-take 6 last_column first (omega arith)) ∙ ap (take 6) (sym heads.are)

  this_is : take 6 t ≡ take 6 (take count bytes)
  this_is = sym (take-take 6 last_column t (omega arith)) ∙ ap (take 6) (sym fronts-are.are)

  column_is : (n : ℕ) → n ≤ last_column → column n t ≡ column n (take count bytes)
  column_is n h = sym (column-front n last_column t h) ∙ ap (column n) (sym fronts-are.are)

  header_is : is_header_line first k t
      ≡ (same_text (take 6 (take past head)) (take 6 (take count bytes)) && (eqb (column 7 (take count bytes)) blank
      && (eqb (column 8 (take count bytes)) (digit_zero + k) && caption_by (take count bytes) count (any_word (drop name_columns t)))))
  unfolding is_header_line
  header_is =
      ap₂ ◌&&◌ (ap₂ same_text first_is this_is) (ap₂ ◌&&◌ (ap (λ (c : ℕ). eqb c blank) (column_is 7 (omega arith)))
      (ap₂ ◌&&◌ (ap (λ (c : ℕ). eqb c (digit_zero + k)) (column_is 8 (omega arith)))
      (caption_is t ∙ ap₂ (λ (u : Text) (n : ℕ). caption_by u n (any_word (drop name_columns t))) (sym fronts-are.are) count_is)))

  -- by the answers of the tests
  pub header_by : (a b d e : Bool) → same_text (take 6 (take past head)) (take 6 (take count bytes)) ≡ a → eqb (column 7 (take count bytes)) blank ≡ b
      → eqb (column 8 (take count bytes)) (digit_zero + k) ≡ d → caption_by (take count bytes) count (any_word (drop name_columns t)) ≡ e
      → is_header_line first k t ≡ (a && (b && (d && e)))
  header_by a b d e p q r u = header_is ∙ ap₂ ◌&&◌ p (ap₂ ◌&&◌ q (ap₂ ◌&&◌ r u))

-- ---- what is put into the array
module _ (text : Text) (from to : ℕ) (t bytes : Text) (at n : ℕ) (size : length bytes ≡ cells) (fits : n ≤ cells)
    (is : take n bytes ++ expanded n (slice at to text) ≡ t) where
  put-size : length (take n bytes) ≡ n
  put-size = length-take-le n bytes (omega arith)

  nothing_left : at ≡ to → expanded n (slice at to text) ≡ []
  nothing_left e = ap (λ (i : ℕ). expanded n (slice i to text)) e ∙ ap (expanded n) (slice_empty to text) ∙ expanded-none n

  pub front-put : (at ≡ to → ⊥) → n ≡ last_column → take n bytes ≡ take last_column t
  front-put h e = sym (ap (take last_column) (sym is) ∙ take_at (take n bytes) (expanded n (slice at to text)) last_column (put-size ∙ e))

  pub front-whole : at ≡ to → n ≤ last_column → take n bytes ≡ take last_column t
  front-whole e h =
      let whole : t ≡ take n bytes = sym is ∙ ap (λ (u : Text). take n bytes ++ u) (nothing_left e) ∙ append-nil (take n bytes) in
      sym (ap (take last_column) whole ∙ take_all last_column (take n bytes) (omega (arith, put-size)))

  -- the words behind the name
  pub words-put : n ≡ name_columns → any_word (drop name_columns t) ≡ any_word (slice at to text)
  words-put e = ap (λ (u : Text). any_word (drop name_columns u)) (sym is)
      ∙ ap any_word (drop_at (take n bytes) (expanded n (slice at to text)) name_columns (put-size ∙ e)) ∙ words-shown n (slice at to text)

  pub words-none : at ≡ to → n ≤ name_columns → any_word (drop name_columns t) ≡ any_word (slice at to text)
  words-none e h =
      let whole : t ≡ take n bytes = sym is ∙ ap (λ (u : Text). take n bytes ++ u) (nothing_left e) ∙ append-nil (take n bytes) in
      let short : length (take n bytes) ≤ name_columns = omega (arith, put-size) in
      let rest : drop name_columns t ≡ [] = ap (drop name_columns) whole ∙ drop_of_length-le (take n bytes) short in
      ap any_word (rest ∙ sym (nothing_left e)) ∙ words-shown n (slice at to text)

-- what is told of the first columns, and of the words behind the name
module _ (text : Text) (from end to : ℕ) (before after : Text) (shown_is : LineShown text from end to) (room : length after ≡ cells) where
  abbrev t : Text
  t = shown (slice from (end + 1) text)

  pub front_told : (at n : ℕ) → Expanded text from to 0 last_column before after at n → FrontTold t n after
  front_told at n e = record { few = e.fits; are = go (eqb at to) refl }
    where
      go : (b : Bool) → eqb at to ≡ b → take n after ≡ take last_column (shown (slice from (end + 1) text))
      go true w = front-whole text from to t after at n room (omega (arith, e.fits)) (e.is ∙ sym shown_is.is) (eqb-true at to w) e.fits
      go false w =
          front-put text from to t after at n room (omega (arith, e.fits)) (e.is ∙ sym shown_is.is) (eqb-false at to w)
          (e.full (omega (arith, e.within, eqb-false at to w)))

  pub words_told : (at n : ℕ) → Expanded text from to 0 name_columns before after at n → any_word (slice at to text) ≡ any_word (drop name_columns t)
  words_told at n e = sym (go (eqb at to) refl)
    where
      go : (b : Bool) → eqb at to ≡ b → any_word (drop name_columns (shown (slice from (end + 1) text))) ≡ any_word (slice at to text)
      go true w = words-none text from to t after at n room (omega (arith, e.fits)) (e.is ∙ sym shown_is.is) (eqb-true at to w) e.fits
      go false w =
          words-put text from to t after at n room (omega (arith, e.fits)) (e.is ∙ sym shown_is.is)
          (e.full (omega (arith, e.within, eqb-false at to w)))
