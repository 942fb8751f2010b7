-- The line that begins at an index of a text, by where its byte 10 stands, whether it begins with its key, and what list
-- follows the key.
use mathlib.Core.Path.{◌≡◌, refl, sym, ◌∙◌, ap, ap₂}
use mathlib.Core.Bool.{true, false}
use mathlib.Core.List.{List}
use mathlib.Core.Option as math
use Prim.Native.Nat.{ℕ, suc, ◌+◌, ◌<◌, ◌≤◌}
use native.Mathlib.Omega.{arith}
use lib.ListN.{length, drop, length-drop}
use lib.Seq.{slice, drop-drop, length-slice}
use Rattle.std.specs.Prelude.{Some, None}
use Rattle.base_exact.proofs.Decide.{clash}
use Rattle.base_text.specs.Bytes.{Text, newline, Range, stripped, index_of, begins_with}
use Rattle.spec_sheet.specs.SheetReading.{list_of, Line, line_of, body_of, cut_line, line}
use Rattle.sheet_lines.specs.Machine.{count, LineAt}
use Rattle.base_text.proofs.Slice.{slice_take, slice_all, drop-slice}
use Rattle.base_text.proofs.Lacking.{byte}
use Rattle.base_text.proofs.Cutting.{index-within, cut-none, cut_some, stripped-none, stripped_some}

-- ---- what the answer for a list says of it
pub count_none : {A : Type 0} (o : math.Option (List A)) → count o ≡ None → o ≡ math.none
unfolding count
count_none math.none e = refl
count_none (math.some xs) e = clash cc

pub count_some : {A : Type 0} (o : math.Option (List A)) (n : ℕ) → count o ≡ Some n → (xs : List A) × (o ≡ math.some xs)
unfolding count
count_some math.none n e = clash cc
count_some (math.some xs) n e = (xs, refl)

-- ---- the line from an index on
module _ {A : Type 0} (entry : Text → math.Option A) (key text : Text) (from end : ℕ) (within : from ≤ length text)
    (is : end ≡ from + index_of newline (slice from (length text) text)) where
  end_is : end ≡ from + index_of newline (drop from text)
  end_is = is ∙ ap (λ (t : Text). from + index_of newline t) (slice_all from text)

  pub end_part : Range text from end
  end_part = omega (arith, end_is, index-within (byte newline) (drop from text), length-drop from text)

  pub line-unended : end ≡ length text → line entry key (drop from text) ≡ math.none
  unfolding line
  line-unended e = ap (cut_line entry key) (cut-none newline (drop from text) (omega (arith, end_is, length-drop from text)))

  module _ (ended : end ≡ length text → ⊥) where
    pub end_below : end < length text
    end_below = omega (arith, end_part)

    line-cut : line entry key (drop from text) ≡ line_of (body_of entry (stripped key (slice from end text))) (drop (end + 1) text)
    unfolding line
    line-cut =
        let k = index_of newline (drop from text) in
        let next : from + suc k ≡ end + 1 = omega (arith, end_is) in
        ap (cut_line entry key) (cut_some newline (drop from text) (omega (arith, end_is, end_below, length-drop from text)))
        ∙ ap₂ (λ (b a : Text). line_of (body_of entry (stripped key b)) a)
        (sym (slice_take from k text) ∙ ap (λ (n : ℕ). slice from n text) (sym end_is))
        (drop-drop (suc k) from text ∙ ap (λ (n : ℕ). drop n text) next)

    pub line_unkeyed : begins_with key (slice from end text) ≡ false → line entry key (drop from text) ≡ math.none
    line_unkeyed e = line-cut ∙ ap (λ (o : math.Option Text). line_of (body_of entry o) (drop (end + 1) text)) (stripped-none key (slice from end text) e)

    module _ (keyed : begins_with key (slice from end text) ≡ true) where
      pub list_part : Range text (from + length key) end
      list_part = omega (arith, end_part, (stripped_some key (slice from end text) keyed).0, length-slice from end text end_part.within)

      line-keyed : line entry key (drop from text) ≡ line_of (list_of entry (slice (from + length key) end text)) (drop (end + 1) text)
      line-keyed =
          line-cut ∙ ap (λ (o : math.Option Text). line_of (body_of entry o) (drop (end + 1) text)) (stripped_some key (slice from end text) keyed).1
          ∙ ap (λ (t : Text). line_of (list_of entry t) (drop (end + 1) text)) (drop-slice (length key) from end text)

      pub line-bad_list : list_of entry (slice (from + length key) end text) ≡ math.none → line entry key (drop from text) ≡ math.none
      line-bad_list e = line-keyed ∙ ap (λ (o : math.Option (List A)). line_of o (drop (end + 1) text)) e

      pub line-good : (xs : List A) → list_of entry (slice (from + length key) end text) ≡ math.some xs
          → LineAt entry text (line entry key (drop from text)) (Some (record { from = from + length key; to = end }))
      line-good xs e =
          rw (line-keyed ∙ ap (λ (o : math.Option (List A)). line_of o (drop (end + 1) text)) e)
          (record { list = record { range = list_part; list = e }; ended = end_below; rest = refl })

pub line-bad : {A : Type 0} (entry : Text → math.Option A) (text : Text) {o : math.Option (Line A)} → o ≡ math.none → LineAt entry text o None
line-bad entry text e = rw e tt
