-- A line that is kept takes at least half as many bytes of the file as its strict line has, and one more where that closes a series.
use mathlib.Core.Path.{◌≡◌, refl, sym, ◌∙◌, ap, subst}
use mathlib.Core.Bool.{Bool, true, false, cond, ◌&&◌, ◌||◌, not}
use mathlib.Core.List.{List, [], ◌∷◌, ◌++◌, drop_last, map, append_assoc, append-nil}
use mathlib.Core.Option.{Option, some, none, some-injective}
use Prim.Native.Nat.{ℕ, zero, suc, ◌+◌, ◌*◌, ◌-◌, ◌<◌, ◌≤◌}
use native.Mathlib.Omega.{arith}
use lib.Dec.{eqb}
use lib.IntN.{ℤ}
use lib.ListN.{length, get_or, take, drop, take-append-drop, replicate, length-append, length-drop}
use lib.Seq.{take-append-le, drop-append-le, length-take-le}
use Rattle.base_exact.proofs.Decide.{clash, true_not_false}
use Rattle.base_outcome.specs.Outcome.{Outcome, answer, refuse}
use Rattle.base_outcome.proofs.Outcome.{answer_not_refusal}
use Rattle.base_text.specs.Bytes.{Text, newline, Cut, with_byte, cut}
use Rattle.base_text.specs.Numeral.{decimal}
use Rattle.base_text.proofs.RoundTrip.{decimal_any}
use Rattle.spec_tucson.specs.Columns.{blank, in_columns}
use Rattle.spec_tucson.specs.FileText.{tab}
use Rattle.spec_tucson.specs.Line.{Line, name_columns, year_columns, field_columns, all_blank, field_count, line_in_columns}
use Rattle.spec_tucson.specs.Shown.{before_cut, unended, is_cut, has_end, ends_in_return, without_return, tab_blanks, expanded, any_tab, unless_trailing, trimmed, line_bytes, in_its_columns, shown, has_tab}
use Rattle.spec_tucson.specs.StrictLine.{line_columns, has_site, without_site, is_high, any_high, question_mark, bytes_masked, Follow, follow_of, with_masked, in_range, characters_from}
use Rattle.spec_tucson.specs.StrictLine.{is_strict, or_refused, masked, strict_bytes, shown_fields, strict_line}
use Rattle.spec_tucson.specs.TextReading.{last_field}
use Rattle.tucson_lines.proofs.GoodLines.{columns-parts}
use Rattle.tucson_strict.proofs.Strict.{fitting, strict_size}
use Rattle.theorems_tucson.proofs.Lines.{name-parts}
use Rattle.theorems_clean.specs.Shown.{Masks, by_bytes, by_characters, Reads, as_shown, with_name}
use Rattle.theorems_clean.proofs.StrictLines.{strict-line}
use Rattle.theorems_clean.proofs.ShownBytes.{strict_reads}
use Rattle.theorems_room.proofs.Tabs.{Inked, take_get, drop_get, parted, head_bytes, number-inked}
use Rattle.theorems_room.proofs.LineBytes.{fields-bytes, closed-bytes}

-- ---- a strict line at the front of what is shown

record Head (t more cs : Text) : Type 0 where
  front : Text
  back : Text
  size : length cs ≡ length front + length back
  long : 6 ≤ length front
  rest : expanded 12 back ≡ drop 12 t ++ more

line-head : (t more cs : Text) (l : Line) → line_in_columns t ≡ some l → expanded 0 cs ≡ t ++ more → Head t more cs
line-head t more cs l e is =
    let p = columns-parts t l e in
    let f = fitting t p.fits in
    let E = expanded 0 cs in
    let twelve : 12 ≤ length t = omega (arith, f.size) in
    let front : take 12 E ≡ take 12 t = ap (take 12) is ∙ take-append-le 12 t more twelve in
    let size : length (take year_columns (drop name_columns t)) ≡ 4 = length-take-le year_columns (drop name_columns t) (omega (arith, length-drop name_columns t)) in
    let q = parted cs 0 11 (λ b. number-inked (take year_columns (drop name_columns t)) l.year 3 p.year (omega (arith, size, decimal_any l.year)) (omega (arith, size))
    (take_get 3 4 (drop name_columns t) (omega arith) ∙ drop_get 3 8 t ∙ sym (take_get 11 12 t (omega arith)) ∙ ap (λ (u : Text). get_or u 11 blank) (sym front) ∙ take_get 11 12 E (omega arith) ∙ b)) in
    let eight : take 8 t ≡ take 8 (take 12 t) = ap (take 8) (sym (take-append-drop 12 t)) ∙ take-append-le 8 (take 12 t) (drop 12 t) (omega (arith, length-take-le 12 t twelve)) in
    record {
      front = q.front;
      back = q.back;
      size = ap length q.is ∙ length-append q.front q.back;
      long = head_bytes q.front (ap length (q.first ∙ front) ∙ length-take-le 12 t twelve)
          (λ b. true_not_false (ap all_blank eight ∙ ap (λ (u : Text). all_blank (take 8 u)) (sym (q.first ∙ front)) ∙ b) (name-parts (take name_columns t) p.named).2);
      rest = q.rest ∙ ap (drop 12) is ∙ drop-append-le 12 t more twelve;
    }

line-bytes : (t more cs : Text) (l : Line) → line_in_columns t ≡ some l → expanded 0 cs ≡ t ++ more → length t ≤ 2 * length cs
line-bytes t more cs l e is =
    let p = columns-parts t l e in
    let f = fitting t p.fits in
    let h = line-head t more cs l e is in
    let rest = fields-bytes (field_count t) 12 (drop 12 t) more h.back l.fields refl (omega (arith, length-drop 12 t, f.size)) p.fields h.rest in
    omega (arith, rest, h.size, h.long, f.size)

closed-line-bytes : (t more cs : Text) (l : Line) → line_in_columns t ≡ some l → expanded 0 cs ≡ t ++ more → 3 ≤ length (decimal (last_field l.fields))
    → length t + 2 ≤ 2 * length cs
closed-line-bytes t more cs l e is g =
    let p = columns-parts t l e in
    let f = fitting t p.fits in
    let h = line-head t more cs l e is in
    let rest = closed-bytes (field_count t) 12 (drop 12 t) more h.back l.fields refl (omega (arith, length-drop 12 t, f.size)) p.fields h.rest g f.some_field in
    omega (arith, rest, h.size, h.long, f.size)

-- ---- what is shown is the front of the columns

record Front (t u : Text) : Type 0 where
  rest : Text
  is : u ≡ t ++ rest

trimmed-front : (t : Text) → Front (trimmed t) t
unfolding trimmed
trimmed-front [] = record { rest = []; is = refl }
trimmed-front (c ∷ cs) = go (trimmed cs) (trimmed-front cs)
  where
    last : (b : Bool) (r : Text) → cs ≡ r → Front (cond b [] (c ∷ [])) (c ∷ cs)
    last true r e = record { rest = c ∷ cs; is = refl }
    last false r e = record { rest = r; is = ap (λ (t : Text). c ∷ t) e }

    go : (u : Text) → Front u cs → Front (unless_trailing c u) (c ∷ cs)
    go [] f = last (eqb c blank) f.rest f.is
    go (d ∷ ds) f = record { rest = f.rest; is = ap (λ (t : Text). c ∷ t) f.is }

front_trans : {t u v : Text} → Front t u → Front u v → Front t v
front_trans {t} {u} {v} f g = record { rest = f.rest ++ g.rest; is = g.is ∙ ap (λ (x : Text). x ++ g.rest) f.is ∙ append_assoc t f.rest g.rest }

front-short : {t u : Text} → Front t u → length t ≤ length u
front-short {t} {u} f = omega (arith, ap length f.is, length-append t f.rest)

site-front : (t : Text) → Front (without_site t) t
unfolding without_site
site-front t = go (has_site t)
  where
    go : (b : Bool) → Front (cond b (trimmed (take line_columns t)) t) t
    go true = front_trans (trimmed-front (take line_columns t)) (record { rest = drop line_columns t; is = sym (take-append-drop line_columns t) })
    go false = record { rest = []; is = sym (append-nil t) }

shown-front : (raw : Text) → Front (shown_fields raw) (in_its_columns raw)
unfolding shown_fields shown
shown-front raw = front_trans (site-front (trimmed (in_its_columns raw))) (trimmed-front (in_its_columns raw))

-- ---- a name that is not ASCII

characters_short : (t : Text) (n low high : ℕ) (u : Text) → characters_from n low high t ≡ some u → length u ≤ length t
unfolding characters_from
characters_short [] zero low high u e = omega (arith, ap length (some-injective [] u e))
characters_short [] (suc n) low high u e = clash cc
characters_short (c ∷ cs) (suc n) low high u e = go (in_range low high c) e (characters_short cs n 128 191 u)
  where
    go : (b : Bool) → cond b (characters_from n 128 191 cs) none ≡ some u → (characters_from n 128 191 cs ≡ some u → length u ≤ length cs) → length u ≤ suc (length cs)
    go true e ih = omega (arith, ih e)
    go false e ih = clash cc
characters_short (c ∷ cs) zero low high u e = go (is_high c) (eqb (follow_of c).count 0) e (λ n l h v. characters_short cs n l h v)
  where
    more : (d : ℕ) (o : Option Text) → with_masked d o ≡ some u → ((v : Text) → o ≡ some v → length v ≤ length cs) → length u ≤ suc (length cs)
    more d none e ih = clash cc
    more d (some v) e ih = omega (arith, ap length (some-injective (d ∷ v) u e), ih v refl)

    go : (b k : Bool) → cond b (cond k none (with_masked question_mark (characters_from (follow_of c).count (follow_of c).low (follow_of c).high cs)))
        (with_masked c (characters_from zero low high cs)) ≡ some u
        → ((n l h : ℕ) (v : Text) → characters_from n l h cs ≡ some v → length v ≤ length cs) → length u ≤ suc (length cs)
    go true true e ih = clash cc
    go true false e ih = more question_mark (characters_from (follow_of c).count (follow_of c).low (follow_of c).high cs) e (λ v. ih (follow_of c).count (follow_of c).low (follow_of c).high v)
    go false k e ih = more c (characters_from zero low high cs) e (λ v. ih zero low high v)

bytes-size : (t : Text) → length (map (λ c. cond (is_high c) question_mark c) t) ≡ length t
bytes-size [] = refl
bytes-size (c ∷ t) = ap suc (bytes-size t)

masks_short : (s t : Text) → Masks s t → length t ≤ length s
unfolding bytes_masked
masks_short s t (by_bytes e) = omega (arith, ap length e, bytes-size s)
masks_short s t (by_characters e) = characters_short s 0 0 0 t e

-- ---- no tab

no_tab : (t : Text) (n : ℕ) → any_tab t ≡ false → expanded n t ≡ t
unfolding any_tab expanded
no_tab [] n e = refl
no_tab (c ∷ cs) n e = go (eqb c tab) e (no_tab cs (suc n))
  where
    go : (b : Bool) → (b || any_tab cs) ≡ false → (any_tab cs ≡ false → expanded (suc n) cs ≡ cs)
        → cond b (replicate (tab_blanks n) blank ++ expanded (n + tab_blanks n) cs) (c ∷ expanded (suc n) cs) ≡ c ∷ cs
    go true e ih = absurd (true_not_false refl e)
    go false e ih = ap (λ (t : Text). c ∷ t) (ih e)

no_tab-last : (t : Text) → any_tab t ≡ false → any_tab (drop_last t) ≡ false
unfolding any_tab
no_tab-last [] e = refl
no_tab-last (c ∷ []) e = refl
no_tab-last (c ∷ d ∷ cs) e = go (eqb c tab) e (no_tab-last (d ∷ cs))
  where
    go : (b : Bool) → (b || any_tab (d ∷ cs)) ≡ false → (any_tab (d ∷ cs) ≡ false → any_tab (drop_last (d ∷ cs)) ≡ false) → (b || any_tab (drop_last (d ∷ cs))) ≡ false
    go true e ih = absurd (true_not_false refl e)
    go false e ih = ih e

no_tab-columns : (raw : Text) → has_tab raw ≡ false → in_its_columns raw ≡ line_bytes raw
unfolding has_tab in_its_columns line_bytes without_return
no_tab-columns raw e = go (ends_in_return (unended raw))
  where
    go : (b : Bool) → expanded 0 (cond b (drop_last (unended raw)) (unended raw)) ≡ cond b (drop_last (unended raw)) (unended raw)
    go true = no_tab (drop_last (unended raw)) 0 (no_tab-last (unended raw) e)
    go false = no_tab (unended raw) 0 e

untabbed : (place : ℕ) (raw t : Text) → strict_line place raw ≡ answer t → any_high (shown_fields raw) ≡ true → has_tab raw ≡ false
unfolding strict_line strict_bytes
untabbed place raw t e h = go (has_tab raw) refl (ap (λ (b : Bool). cond b (cond (has_tab raw) (refuse 22 place) (or_refused place (masked (shown_fields raw))))
    (cond (is_strict (shown_fields raw)) (answer (shown_fields raw)) (refuse 11 place))) (sym h) ∙ e)
  where
    go : (b : Bool) → has_tab raw ≡ b → cond b (refuse 22 place) (or_refused place (masked (shown_fields raw))) ≡ answer t → has_tab raw ≡ false
    go true w e = absurd (answer_not_refusal e refl)
    go false w e = w

-- ---- the line

-- What a line takes.
pub record Takes (raw text : Text) : Type 0 where
  pub half : length text ≤ 2 * length (line_bytes raw)
  pub more : (l : Line) → line_in_columns text ≡ some l → 3 ≤ length (decimal (last_field l.fields)) → length text + 2 ≤ 2 * length (line_bytes raw)

pub takes : (place : ℕ) (raw t : Text) → strict_line place raw ≡ answer t → Takes raw t
unfolding in_its_columns
takes place raw t e = go t (strict_reads place raw t e).strict (strict_reads place raw t e).reads (untabbed place raw t e) (shown-front raw)
  where
    plain : (u : Text) → 18 ≤ length u → length u ≤ length (line_bytes raw) → Takes raw u
    plain u h k = record { half = omega arith; more = λ l i g. omega arith }

    go : (u : Text) → is_strict u ≡ true → Reads (shown_fields raw) u → (any_high (shown_fields raw) ≡ true → has_tab raw ≡ false) → Front (shown_fields raw) (in_its_columns raw) → Takes raw u
    go u s (as_shown a) n f = record {
      half = let l = strict-line u s in line-bytes u f.rest (line_bytes raw) l.line l.is f.is;
      more = λ l i g. closed-line-bytes u f.rest (line_bytes raw) l i f.is g;
    }
    go u s (with_name shown_name name rest high is eight masks low) n f =
        let whole : length (shown_fields raw) ≤ length (line_bytes raw) = omega (arith, front-short f, ap length (no_tab-columns raw (n high))) in
        let short = masks_short shown_name name masks in
        let size : length (name ++ rest) ≤ length (line_bytes raw) = omega (arith, whole, short, ap length is, length-append shown_name rest, length-append name rest) in
        plain (name ++ rest) (strict_size (name ++ rest) s).0 size

-- ---- the raw line

cut_short : (b : ℕ) (t : Text) (c : Cut) → cut b t ≡ some c → suc (length c.before) ≤ length t
unfolding cut
cut_short b [] c e = clash cc
cut_short b (d ∷ t) c e = go (eqb d b) (cut b t) e (cut_short b t)
  where
    go : (x : Bool) (o : Option Cut) → cond x (some (record { before = []; after = t })) (with_byte d o) ≡ some c
        → ((r : Cut) → o ≡ some r → suc (length r.before) ≤ length t) → suc (length c.before) ≤ suc (length t)
    go true o e ih = omega (arith, ap (λ (r : Cut). length r.before) (some-injective (record { before = []; after = t }) c e))
    go false none e ih = clash cc
    go false (some r) e ih =
        omega (arith, ap (λ (q : Cut). length q.before) (some-injective (record { before = d ∷ r.before; after = r.after }) c e), ih r refl)

last-short : (t : Text) → length (drop_last t) ≤ length t
last-short [] = omega arith
last-short (c ∷ []) = omega arith
last-short (c ∷ d ∷ t) = omega (arith, last-short (d ∷ t))

return_short : (t : Text) → length (without_return t) ≤ length t
unfolding without_return
return_short t = go (ends_in_return t)
  where
    go : (b : Bool) → length (cond b (drop_last t) t) ≤ length t
    go true = last-short t
    go false = omega arith

-- The byte 10 of a line that has one.
abbrev pub ending : Bool → ℕ
ending true = 1
ending false = 0

pub unended-short : (raw : Text) → length (unended raw) + ending (has_end raw) ≤ length raw
unfolding unended has_end
unended-short raw = go (cut newline raw) refl
  where
    go : (o : Option Cut) → cut newline raw ≡ o → length (before_cut raw o) + ending (is_cut o) ≤ length raw
    go none e = omega arith
    go (some c) e = omega (arith, cut_short newline raw c e)

pub line-short : (raw : Text) → length (line_bytes raw) + ending (has_end raw) ≤ length raw
unfolding line_bytes
line-short raw = omega (arith, return_short (unended raw), unended-short raw)
