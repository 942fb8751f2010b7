-- The line that begins at an index of a text: what it is as bytes, what its columns are, and whether the next line has its
-- name. With `lines_step` a loop goes through the lines of a text.
use mathlib.Core.Path.{◌≡◌, refl, sym, ◌∙◌, ap, ap₂}
use mathlib.Core.Bool.{Bool, true, false, cond, ◌&&◌}
use mathlib.Core.List.{[], ◌∷◌}
use mathlib.Core.Option.{some, none}
use Prim.Native.Nat.{ℕ, suc, ◌+◌, ◌-◌, ◌<◌, ◌≤◌}
use native.Mathlib.Omega.{arith}
use borrow.Author.Tests.{leb-true, eqb-true}
use lib.Dec.{eqb, leb}
use lib.ListN.{length, take, drop, length-drop}
use lib.Seq.{slice, take_all, drop-drop, length-slice}
use Rattle.base_exact.proofs.Decide.{and-true}
use Rattle.base_text.specs.Bytes.{Text, newline, cut, with_byte, on_first, index_where, index_of, begins_with}
use Rattle.base_text.proofs.Slice.{slice_take, slice_all, take_slice}
use Rattle.base_text.proofs.Cutting.{index-within, cut-none}
use Rattle.spec_tucson.specs.Columns.{blank}
use Rattle.spec_tucson.specs.Line.{name_columns, last_printable, lines_of, all_printable, is_name, line_in_columns, of_cut, line_of, good_line, if_allowed}
use Rattle.spec_tucson.specs.TextReading.{goes_on}
use Rattle.tucson_lines.specs.Machine.{LineEnd}

-- ---- of a text

-- the first line, and the others
lines-first : (t : Text) → 1 ≤ length t → lines_of t ≡ take (suc (index_of newline t)) t ∷ lines_of (drop (suc (index_of newline t)) t)
unfolding lines_of index_where
lines-first [] h = absurd (omega arith)
lines-first (c ∷ cs) h = go (eqb c newline) cs (lines-first cs)
  where
    go : (b : Bool) (cs : Text) → (1 ≤ length cs → lines_of cs ≡ take (suc (index_of newline cs)) cs ∷ lines_of (drop (suc (index_of newline cs)) cs)) →
        cond b ((c ∷ []) ∷ lines_of cs) (on_first c (lines_of cs))
        ≡ take (suc (cond b 0 (suc (index_of newline cs)))) (c ∷ cs) ∷ lines_of (drop (suc (cond b 0 (suc (index_of newline cs)))) (c ∷ cs))
    go true cs ih = refl
    go false [] ih = refl
    go false (d ∷ ds) ih = ap (on_first c) (ih (omega arith))

-- a line without byte 10, and one with it
line-unended : (t : Text) → index_of newline t ≡ length t → line_of (take (suc (index_of newline t)) t) ≡ none
unfolding line_of
line-unended t e = ap line_of (take_all (suc (index_of newline t)) t (omega arith)) ∙ ap of_cut (cut-none newline t e)

pub cut_line : (t : Text) → index_of newline t < length t
    → cut newline (take (suc (index_of newline t)) t) ≡ some (record { before = take (index_of newline t) t; after = [] })
unfolding index_where cut
cut_line [] h = absurd (omega arith)
cut_line (c ∷ cs) h = go (eqb c newline) h (cut_line cs)
  where
    go : (b : Bool) → cond b 0 (suc (index_of newline cs)) < suc (length cs) →
        (index_of newline cs < length cs
        → cut newline (take (suc (index_of newline cs)) cs) ≡ some (record { before = take (index_of newline cs) cs; after = [] })) →
        cond b (some (record { before = []; after = take (cond b 0 (suc (index_of newline cs))) cs }))
        (with_byte c (cut newline (take (cond b 0 (suc (index_of newline cs))) cs)))
        ≡ some (record { before = take (cond b 0 (suc (index_of newline cs))) (c ∷ cs); after = [] })
    go true h ih = refl
    go false h ih = ap (with_byte c) (ih (omega arith))

line-ended : (t : Text) → index_of newline t < length t → line_of (take (suc (index_of newline t)) t) ≡ line_in_columns (take (index_of newline t) t)
unfolding line_of
line-ended t h = ap of_cut (cut_line t h)

-- a key without byte 10 stands at the beginning of the first line where it stands at the beginning of the text
begins-line : (key t : Text) → all_printable key ≡ true → begins_with key (take (suc (index_of newline t)) t) ≡ begins_with key t
unfolding begins_with index_where all_printable
begins-line [] t h = refl
begins-line (p ∷ ps) [] h = refl
begins-line (p ∷ ps) (c ∷ cs) h = go (eqb c p) (eqb c newline) refl refl (begins-line ps cs parts.1)
  where
    parts : ((leb blank p && leb p last_printable) ≡ true) × (all_printable ps ≡ true)
    parts = and-true (leb blank p && leb p last_printable) (all_printable ps) h

    go : (s b : Bool) → eqb c p ≡ s → eqb c newline ≡ b → begins_with ps (take (suc (index_of newline cs)) cs) ≡ begins_with ps cs →
        cond s (begins_with ps (take (cond b 0 (suc (index_of newline cs))) cs)) false ≡ cond s (begins_with ps cs) false
    go true true e f ih =
        absurd (omega (arith, eqb-true c p e, eqb-true c newline f, leb-true blank p (and-true (leb blank p) (leb p last_printable) parts.0).0))
    go true false e f ih = ih
    go false b e f ih = refl

begins-none : (key : Text) → 1 ≤ length key → begins_with key [] ≡ false
unfolding begins_with
begins-none [] h = absurd (omega arith)
begins-none (p ∷ ps) h = refl

goes_on_begins : (t u : Text) → all_printable (take name_columns t) ≡ true → 1 ≤ length (take name_columns t)
    → goes_on t (lines_of u) ≡ begins_with (take name_columns t) u
unfolding goes_on lines_of
goes_on_begins t [] h k = sym (begins-none (take name_columns t) k)
goes_on_begins t (c ∷ cs) h k = ap (goes_on t) (lines-first (c ∷ cs) (omega arith)) ∙ begins-line (take name_columns t) (c ∷ cs) h

-- ---- of the line between two indices
module _ (text : Text) (from end : ℕ) (at : LineEnd text from end) where
  pub end_is : end ≡ from + index_of newline (drop from text)
  end_is = at.is ∙ ap (λ (t : Text). from + index_of newline t) (slice_all from text)

  pub end_within : (from ≤ end) × (end ≤ length text)
  end_within = omega (arith, end_is, index-within (λ c. eqb c newline) (drop from text), length-drop from text, at.within)

  -- its bytes, with byte 10
  pub line-bytes : slice from (end + 1) text ≡ take (suc (index_of newline (drop from text))) (drop from text)
  line-bytes =
      let e : end + 1 ≡ from + suc (index_of newline (drop from text)) = omega (arith, end_is) in
      ap (λ (n : ℕ). slice from n text) e ∙ slice_take from (suc (index_of newline (drop from text))) text

  pub lines_step : from < length text → lines_of (drop from text) ≡ slice from (end + 1) text ∷ lines_of (drop (end + 1) text)
  lines_step h =
      let e : from + suc (index_of newline (drop from text)) ≡ end + 1 = omega (arith, end_is) in
      lines-first (drop from text) (omega (arith, length-drop from text))
      ∙ ap₂ (λ (t u : Text). t ∷ lines_of u) (sym line-bytes) (drop-drop (suc (index_of newline (drop from text))) from text ∙ ap (λ (n : ℕ). drop n text) e)

  pub good-unended : (last : Bool) → end ≡ length text → good_line last (slice from (end + 1) text) ≡ none
  unfolding good_line
  good-unended last e =
      ap (λ (t : Text). if_allowed last (line_of t)) line-bytes
      ∙ ap (if_allowed last) (line-unended (drop from text) (omega (arith, end_is, length-drop from text)))

  pub good-columns : (last : Bool) → end < length text → good_line last (slice from (end + 1) text) ≡ if_allowed last (line_in_columns (slice from end text))
  unfolding good_line
  good-columns last h =
      ap (λ (t : Text). if_allowed last (line_of t)) line-bytes
      ∙ ap (if_allowed last) (line-ended (drop from text) (omega (arith, end_is, length-drop from text))
      ∙ ap line_in_columns (sym (slice_take from (index_of newline (drop from text)) text) ∙ ap (λ (n : ℕ). slice from n text) (sym end_is)))

-- ---- the next line's name
pub goes_on_is : (text : Text) (from end : ℕ) → from + name_columns ≤ end → end + 1 ≤ length text → is_name (slice from (from + name_columns) text) ≡ true →
    goes_on (slice from (end + 1) text) (lines_of (drop (end + 1) text)) ≡ begins_with (slice from (from + name_columns) text) (slice (end + 1) (length text) text)
unfolding is_name
goes_on_is text from end h k e =
    let name : Text = slice from (from + name_columns) text in
    let is : take name_columns (slice from (end + 1) text) ≡ name = take_slice name_columns from (end + 1) text (omega arith) in
    let printable : all_printable name ≡ true =
    (and-true (eqb (length name) name_columns) (all_printable name) (and-true (eqb (length name) name_columns && all_printable name) _ e).0).1 in
    let size : length name ≡ from + name_columns - from = length-slice from (from + name_columns) text (omega arith) in
    goes_on_begins (slice from (end + 1) text) (drop (end + 1) text) (rw is printable) (rw is (omega arith))
    ∙ ap₂ begins_with is (sym (slice_all (end + 1) text))
