-- A list's fields, one at a time, and how many entries they are.
use mathlib.Core.Path.{◌≡◌, refl, sym, ◌∙◌, ap, ap₂}
use mathlib.Core.Bool.{Bool, true, false, cond}
use mathlib.Core.List.{List, [], ◌∷◌}
use mathlib.Core.Option as math
use mathlib.Core.Logic.{◌⊎◌, inl, inr}
use Prim.Native.Nat.{ℕ, suc, ◌+◌, ◌<◌, ◌≤◌}
use native.Mathlib.Nat.{zero-add}
use native.Mathlib.Omega.{arith}
use borrow.Author.Tests.{le-leb, lt-leb}
use lib.Dec.{leb}
use lib.ListN.{length}
use lib.Seq.{slice, slice_empty, length-slice}
use Rattle.std.specs.Prelude.{Option, Some, None}
use Rattle.base_exact.proofs.Decide.{le_or_lt, clash}
use Rattle.base_text.specs.Bytes.{Text, Range, fields, fields_between, index_where}
use Rattle.spec_sheet.specs.SheetReading.{prepended, entries, limited_list, list_of, list_limit}
use Rattle.sheet_lines.specs.Machine.{is_some, count}
use Rattle.spec_sheet.proofs.FiveLines.{list_fields}
use Rattle.base_text.proofs.Slice.{take_slice, drop-slice}
use Rattle.base_text.proofs.Cutting.{index-within, fields_one, fields_more}

-- ---- the field from an index on, up to the next byte that is picked or the end
module _ (picks : ℕ → Bool) (text : Text) (start to stop : ℕ) (range : Range text start to) (is : stop ≡ start + index_where picks (slice start to text)) where
  pub stop_part : Range text start stop
  stop_part = omega (arith, index-within picks (slice start to text), length-slice start to text range.within)

  pub stop_within : stop ≤ to
  stop_within = omega (arith, index-within picks (slice start to text), length-slice start to text range.within)

  pub field-last : stop ≡ to → fields_between picks (slice start to text) ≡ slice start stop text ∷ []
  field-last e =
      fields_one picks (slice start to text) (omega (arith, length-slice start to text range.within))
      ∙ ap (λ (n : ℕ). slice start n text ∷ []) (sym e)

  pub field_more : (stop ≡ to → ⊥) → fields_between picks (slice start to text) ≡ slice start stop text ∷ fields_between picks (slice (stop + 1) to text)
  field_more h =
      let size = length-slice start to text range.within in
      let k = index_where picks (slice start to text) in
      let more : stop < to = omega (arith, stop_within) in
      let after : start + suc k ≡ stop + 1 = omega arith in
      fields_more picks (slice start to text) (omega arith)
      ∙ ap₂ (λ (f g : Text). f ∷ fields_between picks g)
      (take_slice k start to text (omega arith) ∙ ap (λ (n : ℕ). slice start n text) (sym is))
      (drop-slice (suc k) start to text ∙ ap (λ (n : ℕ). slice n to text) after)

  pub field-first : (fs : List Text) × (fields_between picks (slice start to text) ≡ slice start stop text ∷ fs)
  field-first = go (le_or_lt to stop)
    where
      go : (to ≤ stop) ⊎ (stop < to) → (fs : List Text) × (fields_between picks (slice start to text) ≡ slice start stop text ∷ fs)
      go (inl h) = ([], field-last (omega (arith, stop_within)))
      go (inr h) = (fields_between picks (slice (stop + 1) to text), field_more (omega arith))

-- ---- a list that is empty, and one that is not
module _ {A : Type 0} (entry : Text → math.Option A) where
  pub list_empty : (text : Text) (to : ℕ) → list_of entry (slice to to text) ≡ math.some []
  unfolding list_of
  list_empty text to = ap (list_of entry) (slice_empty to text)

-- ---- counting, with n entries before
abbrev pub tally : {A : Type 0} → ℕ → math.Option (List A) → Option ℕ
tally n math.none = None
tally n (math.some xs) = cond (leb (n + length xs) list_limit) (Some (n + length xs)) None

pub some_not : {A : Type 0} (o : math.Option A) → is_some o ≡ false → o ≡ math.none
some_not math.none e = refl
some_not (math.some x) e = clash cc

pub some_is : {A : Type 0} (o : math.Option A) → is_some o ≡ true → (x : A) × (o ≡ math.some x)
some_is math.none e = clash cc
some_is (math.some x) e = (x, refl)

tally_start : {A : Type 0} (o : math.Option (List A)) → count (limited_list o) ≡ tally 0 o
unfolding count
tally_start math.none = refl
tally_start {A} (math.some xs) = rw (zero-add (length xs)) (go (leb (length xs) list_limit))
  where
    go : (b : Bool) → count (cond b (math.some xs) math.none) ≡ cond b (Some (length xs)) None
    go true = refl
    go false = refl

module _ {A : Type 0} (entry : Text → math.Option A) where
  pub tally_bad : (n : ℕ) (f : Text) (fs : List Text) → is_some (entry f) ≡ false → tally n (entries entry (f ∷ fs)) ≡ None
  unfolding entries
  tally_bad n f fs e = ap (λ (o : math.Option A). tally n (prepended o (entries entry fs))) (some_not (entry f) e)

  pub tally_next : (n : ℕ) (f : Text) (fs : List Text) → is_some (entry f) ≡ true → tally n (entries entry (f ∷ fs)) ≡ tally (n + 1) (entries entry fs)
  unfolding entries
  tally_next n f fs e =
      let good = some_is (entry f) e in
      ap (λ (o : math.Option A). tally n (prepended o (entries entry fs))) good.1 ∙ go good.0 (entries entry fs)
    where
      go : (x : A) (o : math.Option (List A)) → tally n (prepended (math.some x) o) ≡ tally (n + 1) o
      go x math.none = refl
      go x (math.some xs) = let e : n + suc (length xs) ≡ n + 1 + length xs = omega arith in ap (λ (k : ℕ). cond (leb k list_limit) (Some k) None) e

  -- one more field than a list may have
  pub tally_full : (n : ℕ) (f : Text) (fs : List Text) → list_limit ≤ n → tally n (entries entry (f ∷ fs)) ≡ None
  unfolding entries
  tally_full n f fs h = go (entry f) (entries entry fs)
    where
      go : (o : math.Option A) (left : math.Option (List A)) → tally n (prepended o left) ≡ None
      go math.none left = refl
      go (math.some x) math.none = refl
      go (math.some x) (math.some xs) = rw (lt-leb (n + suc (length xs)) list_limit (omega arith))

  pub list_count : (t : Text) → 0 < length t → count (list_of entry t) ≡ tally 0 (entries entry (fields t))
  list_count t h = ap count (list_fields entry t h) ∙ tally_start (entries entry (fields t))

pub tally_end : (A : Type 0) (n : ℕ) → n ≤ list_limit → tally {A = A} n (math.some []) ≡ Some n
tally_end A n h = let e : n + 0 ≡ n = omega arith in rw (e, le-leb n list_limit h)
