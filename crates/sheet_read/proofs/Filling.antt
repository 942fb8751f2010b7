-- Writing a list's numbers into a buffer from the front, one field at a time.
use mathlib.Core.Path.{◌≡◌, refl, sym, ◌∙◌, ap}
use mathlib.Core.List.{List, [], ◌∷◌, ◌++◌, append_assoc}
use mathlib.Core.Option.{Option, some, none}
use Prim.Native.Nat.{ℕ, suc, ◌+◌, ◌<◌, ◌≤◌}
use native.Mathlib.Numerals.{add-one}
use native.Mathlib.Omega.{arith}
use lib.IntN.{ℤ}
use lib.ListN.{length, get_or, take, drop, set, length-drop}
use lib.Seq.{drop-cons, take-suc, set_at, length-take-le, take-length}
use Rattle.base_exact.proofs.Decide.{clash}
use Rattle.base_text.specs.Bytes.{Text, fields_between}
use Rattle.base_text.specs.Numeral.{numeral}
use Rattle.spec_sheet.specs.SheetReading.{prepended, entries}
use Rattle.sheet_read.specs.Machine.{is_separator, numerals_of}
use Rattle.spec_sheet.specs.ReadSheet.{overwritten}

-- The buffer holds the first n numbers of a list in front of what it held before, and the text that is left is the list of
-- the others.
pub record Filled (zs : List ℤ) (left : Text) (before now : List ℤ) (n : ℕ) : Type 0 where
  pub up_to : n ≤ length zs
  pub room : length zs ≤ length before
  pub others : numerals_of left ≡ some (drop n zs)
  pub written : now ≡ take n zs ++ drop n before

-- the numbers of a text that is not empty
numerals-fields : (t : Text) → 0 < length t → numerals_of t ≡ entries numeral (fields_between is_separator t)
unfolding numerals_of
numerals-fields [] h = absurd (omega arith)
numerals-fields (c ∷ cs) h = refl

-- good fields are a list
fields-good : (t : Text) {zs : List ℤ} → entries numeral (fields_between is_separator t) ≡ some zs → numerals_of t ≡ some zs
unfolding numerals_of entries fields_between numeral
fields-good [] e = clash cc
fields-good (c ∷ cs) e = e

pub prepended_some : {A : Type 0} (a : Option A) (o : Option (List A)) (l : List A) → prepended a o ≡ some l
    → (x : A) × (ys : List A) × (a ≡ some x) × (o ≡ some ys) × (l ≡ x ∷ ys)
prepended_some none o l e = clash cc
prepended_some (some x) none l e = clash cc
prepended_some (some x) (some ys) l e = (x, ys, refl, refl, cc)

-- one store behind the first n numbers
module _ (zs before : List ℤ) (n : ℕ) (z : ℤ) (ws : List ℤ) (next : drop n zs ≡ z ∷ ws) (room : length zs ≤ length before) where
  next-below : n < length zs
  next-below = omega (arith, length-drop n zs, ap length next)

  next_is : (get_or zs n z ≡ z) × (drop (suc n) zs ≡ ws)
  next_is = let split = drop-cons zs n z next-below in (cc, cc)

  store_next : set (take n zs ++ drop n before) n z ≡ take (n + 1) zs ++ drop (n + 1) before
  store_next =
      ap (λ (l : List ℤ). set (take n zs ++ l) n z) (drop-cons before n z (omega (arith, next-below)))
      ∙ set_at (take n zs) (get_or before n z) (drop (suc n) before) z n (length-take-le n zs (omega (arith, next-below)))
      ∙ sym (append_assoc (take n zs) (z ∷ []) (drop (suc n) before))
      ∙ ap (λ (y : ℤ). (take n zs ++ (y ∷ [])) ++ drop (suc n) before) (sym next_is.0)
      ∙ ap (λ (l : List ℤ). l ++ drop (suc n) before) (sym (take-suc zs n z next-below))
      ∙ ap (λ (k : ℕ). take k zs ++ drop k before) (sym (add-one n))

-- One more number.
pub record Stored (zs : List ℤ) (fs : List Text) (before now : List ℤ) (n : ℕ) (z : ℤ) : Type 0 where
  pub below : n < length zs
  pub others : entries numeral fs ≡ some (drop (n + 1) zs)
  pub written : set now n z ≡ take (n + 1) zs ++ drop (n + 1) before

module _ (zs : List ℤ) (left : Text) (before now : List ℤ) (n : ℕ) (filled : Filled zs left before now n) (more : 0 < length left)
    (f : Text) (fs : List Text) (first : fields_between is_separator left ≡ f ∷ fs) where
  parts : (z : ℤ) × (ws : List ℤ) × (numeral f ≡ some z) × (entries numeral fs ≡ some ws) × (drop n zs ≡ z ∷ ws)
  unfolding entries
  parts = prepended_some (numeral f) (entries numeral fs) (drop n zs) (ap (entries numeral) (sym first) ∙ sym (numerals-fields left more) ∙ filled.others)

  pub field-good : (z : ℤ) × (numeral f ≡ some z)
  field-good = (parts.0, parts.2)

  pub stored : (z : ℤ) → numeral f ≡ some z → Stored zs fs before now n z
  stored z e =
      let q = parts.2 in
      let next : drop n zs ≡ z ∷ parts.1 = cc parts.4 in
      record {
        below = next-below zs before n z parts.1 next filled.room;
        others = parts.3 ∙ ap some (sym (next_is zs before n z parts.1 next filled.room).1 ∙ ap (λ (k : ℕ). drop k zs) (sym (add-one n)));
        written = ap (λ (l : List ℤ). set l n z) filled.written ∙ store_next zs before n z parts.1 next filled.room;
      }

-- behind a field, with others after it
pub filled_next : (zs : List ℤ) (left : Text) (before now : List ℤ) (n : ℕ) (z : ℤ) → length zs ≤ length before
    → Stored zs (fields_between is_separator left) before now n z → Filled zs left before (set now n z) (n + 1)
filled_next zs left before now n z room s =
    record { up_to = omega (arith, s.below); room = room; others = fields-good left s.others; written = s.written }

-- behind the last field
pub filled-last : (zs before now : List ℤ) (n : ℕ) (z : ℤ) → length zs ≤ length before → Stored zs [] before now n z
    → Filled zs [] before (set now n z) (n + 1)
unfolding numerals_of entries
filled-last zs before now n z room s = record { up_to = omega (arith, s.below); room = room; others = s.others; written = s.written }

-- where no text is left the whole list is written
pub filled_all : (zs before now : List ℤ) (n : ℕ) → Filled zs [] before now n → (n ≡ length zs) × (now ≡ overwritten zs before)
unfolding numerals_of
filled_all zs before now n f =
    let none_left : drop n zs ≡ [] = cc f.others in
    let all : n ≡ length zs = omega (arith, f.up_to, length-drop n zs, ap length none_left) in
    (all, f.written ∙ ap (λ (k : ℕ). take k zs ++ drop k before) all ∙ ap (λ (l : List ℤ). l ++ drop (length zs) before) (take-length zs))
