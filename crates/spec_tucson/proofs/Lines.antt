-- Laws of lines, years and fields that reading and writing both rest on.
use mathlib.Core.Path.{◌≡◌, refl, sym, ◌∙◌, ap, ap₂}
use mathlib.Core.Bool.{Bool, true, false, ◌&&◌, ◌||◌, not, and-false}
use mathlib.Core.List.{List, [], ◌∷◌, ◌++◌, drop_last}
use mathlib.Core.Option.{Option, some, none, some-injective}
use Prim.Native.Nat.{ℕ, zero, suc, ◌<◌}
use native.Mathlib.Omega.{arith}
use borrow.Author.Tests.{ne_eqb, leb-true}
use lib.Dec.{eqb, leb}
use lib.IntN.{ℤ, pos, negsuc}
use lib.ListN.{length, take, drop, get_or}
use lib.Signed.{le_z}
use Rattle.base_exact.proofs.Decide.{clash, and-true}
use Rattle.base_exact.proofs.Integer.{≤_antisym}
use Rattle.base_exact.proofs.Word.{le_z_true}
use Rattle.base_text.specs.Bytes.{Text, newline}
use Rattle.base_text.proofs.Lacking.{lacks, byte}
use Rattle.spec_tucson.specs.Columns.{blank, in_columns}
use Rattle.spec_tucson.specs.Line.{field_columns, last_printable, all_printable, with_field, field_numerals, decade, year_in_decade, is_width, fields_allowed, same}
use Rattle.spec_tucson.specs.KeptLines.{same_text, column}
use Rattle.spec_tucson.specs.Writing.{in_lines, all_widths}

-- what can't be true is false
pub refute : (b : Bool) → (b ≡ true → ⊥) → b ≡ false
refute true h = absurd (h refl)
refute false h = refl

-- a printable text has no byte 10
pub printable_lacks : (t : Text) → all_printable t ≡ true → lacks (byte newline) t ≡ true
unfolding all_printable
printable_lacks [] e = refl
printable_lacks (c ∷ cs) e =
    let outer = and-true (leb blank c && leb c last_printable) (all_printable cs) e in
    let low = leb-true blank c (and-true (leb blank c) (leb c last_printable) outer.0).0 in
    ap₂ (λ (x y : Bool). not x && y) (ne_eqb c newline (omega arith)) (printable_lacks cs outer.1)

-- texts of two lengths are not the same
pub same-lengths : (a b : Text) → (length a ≡ length b → ⊥) → same_text a b ≡ false
unfolding same_text
same-lengths [] [] h = absurd (h refl)
same-lengths [] (d ∷ ds) h = refl
same-lengths (c ∷ cs) [] h = refl
same-lengths (c ∷ cs) (d ∷ ds) h = ap (λ (b : Bool). eqb c d && b) (same-lengths cs ds (λ (e : length cs ≡ length ds). h (ap suc e))) ∙ and-false (eqb c d)

-- columns are counted from 1
pub column_at : (i : ℕ) (t : Text) → column (suc i) t ≡ get_or t i 0
unfolding column
column_at i [] = refl
column_at zero (c ∷ cs) = refl
column_at (suc i) (c ∷ cs) = column_at i cs

pub same_is : (a b : ℤ) → same a b ≡ true → a ≡ b
same_is a b e = let both = and-true (le_z a b) (le_z b a) e in ≤_antisym a b (le_z_true a b both.0) (le_z_true b a both.1)

-- a year's place in its decade is below ten
pub year-below : (y : ℤ) → year_in_decade y < decade
unfolding year_in_decade
year-below (pos n) = omega arith
year-below (negsuc n) = omega arith

-- so many fields as were asked for
pub fields-count : (n : ℕ) (t : Text) (fs : List ℤ) → field_numerals n t ≡ some fs → length fs ≡ n
unfolding field_numerals
fields-count zero t fs e = ap length (sym (some-injective [] fs e))
fields-count (suc n) t fs e = go (in_columns (take field_columns t)) (field_numerals n (drop field_columns t)) e (fields-count n (drop field_columns t))
  where
    go : (o : Option ℤ) (p : Option (List ℤ)) → with_field o p ≡ some fs → ((gs : List ℤ) → p ≡ some gs → length gs ≡ n) → length fs ≡ suc n
    go none p e ih = clash cc
    go (some f) none e ih = clash cc
    go (some f) (some gs) e ih = ap length (sym (some-injective (f ∷ gs) fs e)) ∙ ap suc (ih gs refl)

-- the fields of a line that goes on are widths
pub all-widths : (fs : List ℤ) → fields_allowed false fs ≡ true → all_widths fs ≡ true
unfolding fields_allowed all_widths
all-widths [] e = refl
all-widths (f ∷ []) e = go (is_width f) e
  where
    go : (w : Bool) → (w || false) ≡ true → (w && true) ≡ true
    go true e = refl
    go false e = e
all-widths (f ∷ g ∷ fs) e = let both = and-true (is_width f) (fields_allowed false (g ∷ fs)) e in ap₂ ◌&&◌ both.0 (all-widths (g ∷ fs) both.1)

-- and all but the last of any line
pub front_widths_of : (last : Bool) (fs : List ℤ) → fields_allowed last fs ≡ true → all_widths (drop_last fs) ≡ true
unfolding fields_allowed all_widths
front_widths_of last [] h = refl
front_widths_of last (f ∷ []) h = refl
front_widths_of last (f ∷ g ∷ fs) h =
    let both = and-true (is_width f) (fields_allowed last (g ∷ fs)) h in
    ap₂ (λ (a b : Bool). a && b) both.0 (front_widths_of last (g ∷ fs) both.1)

pub widths_append : (ws vs : List ℤ) → all_widths ws ≡ true → all_widths vs ≡ true → all_widths (ws ++ vs) ≡ true
unfolding all_widths
widths_append [] vs e f = f
widths_append (w ∷ ws) vs e f = let both = and-true (is_width w) (all_widths ws) e in ap₂ ◌&&◌ both.0 (widths_append ws vs both.1 f)

pub no_lines : (room : ℕ) → in_lines room [] ≡ []
unfolding in_lines
no_lines zero = refl
no_lines (suc room) = refl
