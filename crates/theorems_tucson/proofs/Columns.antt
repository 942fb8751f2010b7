-- Numbers in columns: what is written reads back, fills its columns and has no byte 10; and what a number that was read from
-- four columns can be.
use mathlib.Core.Path.{◌≡◌, refl, ◌∙◌, ap₂, subst}
use mathlib.Core.Bool.{Bool, true, false, cond, ◌&&◌, not}
use mathlib.Core.List.{[], ◌∷◌, ◌++◌}
use mathlib.Core.Option.{some, none, some-injective}
use Prim.Native.Nat.{ℕ, zero, suc, ◌-◌, ◌^◌, ◌<◌, ◌≤◌}
use native.Mathlib.Nat.{pow-le-pow_right}
use native.Mathlib.Omega.{arith}
use borrow.Author.Tests.{not-true}
use lib.Dec.{eqb}
use lib.IntN.{ℤ, pos, negsuc, nat_abs}
use lib.ListN.{length, replicate, length-append, length-replicate}
use lib.Signed.{le_z}
use Rattle.base_exact.proofs.Decide.{and-true, cond_false, clash}
use Rattle.base_exact.proofs.Integer.{≤_in, ≤_out}
use Rattle.base_exact.proofs.Word.{le_z_true, le_test}
use Rattle.base_outcome.specs.Tests.{between}
use Rattle.base_text.specs.Bytes.{Text, newline, minus}
use Rattle.base_text.specs.Numeral.{digits_value, is_natural, negated, numeral, decimal, numeral_limit}
use Rattle.base_text.proofs.Decimal.{digits_length_le}
use Rattle.base_text.proofs.Digits.{value-below, natural_parts}
use Rattle.base_text.proofs.Lacking.{lacks, byte, byte-outside, lacks_append, decimal-lacks}
use Rattle.base_text.proofs.RoundTrip.{numeral-reads-back, decimal_any}
use Rattle.spec_tucson.specs.Columns.{blank, in_columns, columns}
use Rattle.spec_tucson.specs.Writing.{least_year, greatest_year}

-- ---- reading back

blanks_skipped : (k : ℕ) (t : Text) → in_columns (replicate k blank ++ t) ≡ in_columns t
unfolding in_columns
blanks_skipped zero t = refl
blanks_skipped (suc k) t = blanks_skipped k t

-- a text that is not empty and has no blank is read as a numeral
full-columns : (t : Text) → 1 ≤ length t → lacks (byte blank) t ≡ true → in_columns t ≡ numeral t
unfolding in_columns
full-columns [] h l = absurd (omega arith)
full-columns (c ∷ cs) h l =
    cond_false (in_columns cs) (numeral (c ∷ cs)) (not-true (eqb c blank) (and-true (not (eqb c blank)) (lacks (byte blank) cs) l).0)

pub columns-read : (n : ℕ) (z : ℤ) → nat_abs z < numeral_limit → in_columns (columns n z) ≡ some z
unfolding columns
columns-read n z h =
    blanks_skipped (n - length (decimal z)) (decimal z)
    ∙ full-columns (decimal z) (decimal_any z) (decimal-lacks (byte blank) (byte-outside blank refl refl) z)
    ∙ numeral-reads-back z h

-- ---- the columns that are filled

pub columns_length : (n : ℕ) (z : ℤ) → length (decimal z) ≤ n → length (columns n z) ≡ n
unfolding columns
columns_length n z h = length-append (replicate (n - length (decimal z)) blank) (decimal z) ∙ omega (arith, length-replicate (n - length (decimal z)) blank)

blanks_lack : (k : ℕ) → lacks (byte newline) (replicate k blank) ≡ true
blanks_lack zero = refl
blanks_lack (suc k) = blanks_lack k

pub columns-lack : (n : ℕ) (z : ℤ) → lacks (byte newline) (columns n z) ≡ true
unfolding columns
columns-lack n z =
    lacks_append (byte newline) (replicate (n - length (decimal z)) blank) (decimal z) (blanks_lack (n - length (decimal z)))
    (decimal-lacks (byte newline) (byte-outside newline refl refl) z)

-- ---- the digits of years and fields

-- a number with so many columns to stand in: 10 ^ k bounds it, and with a minus a column less
abbrev pub FitsColumns : ℕ → ℤ → Type 0
FitsColumns k (pos n) = n < 10 ^ suc k
FitsColumns k (negsuc n) = suc n < 10 ^ k

pub fits_length : (k : ℕ) (z : ℤ) → FitsColumns (suc k) z → length (decimal z) ≤ suc (suc k)
unfolding decimal
fits_length k (pos n) h = digits_length_le (suc k) n h
fits_length k (negsuc n) h = omega (arith, digits_length_le k (suc n) h)

pub year-fits : (z : ℤ) → between least_year greatest_year z ≡ true → FitsColumns 3 z
year-fits (pos n) e = omega (arith, ≤_out (pos n) greatest_year (le_z_true (pos n) greatest_year (and-true (le_z least_year (pos n)) _ e).1))
year-fits (negsuc n) e = omega (arith, ≤_out least_year (negsuc n) (le_z_true least_year (negsuc n) (and-true (le_z least_year (negsuc n)) _ e).0))

pub fits-year : (z : ℤ) → FitsColumns 3 z → between least_year greatest_year z ≡ true
fits-year (pos n) h = ap₂ (λ (a b : Bool). a && b) (le_test (≤_in least_year (pos n) (omega arith))) (le_test (≤_in (pos n) greatest_year (omega arith)))
fits-year (negsuc n) h = ap₂ (λ (a b : Bool). a && b) (le_test (≤_in least_year (negsuc n) (omega arith))) (le_test (≤_in (negsuc n) greatest_year (omega arith)))

pub fits-small : (k : ℕ) (z : ℤ) → k ≤ 5 → FitsColumns k z → nat_abs z < numeral_limit
fits-small k (pos n) l h = omega (arith, pow-le-pow_right {n = 10} (omega arith) {i = suc k} {j = 6} (omega arith))
fits-small k (negsuc n) l h = omega (arith, pow-le-pow_right {n = 10} (omega arith) {i = k} {j = 6} (omega arith))

-- ---- what a number read from some columns can be

negated_fits : (k : ℕ) (b : Bool) (v : ℕ) (z : ℤ) → (b ≡ true → v < 10 ^ k) → negated b v ≡ some z → FitsColumns k z
negated_fits k true zero z h e = clash cc
negated_fits k true (suc n) z h e = subst (λ (y : ℤ). FitsColumns k y) (some-injective (negsuc n) z e) (h refl)
negated_fits k false zero z h e = clash cc
negated_fits k false (suc n) z h e = clash cc

natural_fits : (t : Text) → is_natural t ≡ true → digits_value 0 t < 10 ^ length t
natural_fits t e = omega (arith, value-below 0 t (natural_parts t e).2)

numeral-fits : (c : ℕ) (cs : Text) (z : ℤ) → numeral (c ∷ cs) ≡ some z → FitsColumns (length cs) z
unfolding numeral
numeral-fits c cs z e = go (eqb c minus) (is_natural (c ∷ cs)) refl e
  where
    go : (m : Bool) (b : Bool) → is_natural (c ∷ cs) ≡ b →
        cond m (negated (is_natural cs) (digits_value 0 cs)) (cond b (some (pos (digits_value 0 (c ∷ cs)))) none) ≡ some z → FitsColumns (length cs) z
    go true b w e = negated_fits (length cs) (is_natural cs) (digits_value 0 cs) z (natural_fits cs) e
    go false true w e = subst (λ (y : ℤ). FitsColumns (length cs) y) (some-injective (pos (digits_value 0 (c ∷ cs))) z e) (natural_fits (c ∷ cs) w)
    go false false w e = clash cc

fits_more : (j k : ℕ) (z : ℤ) → j ≤ k → FitsColumns j z → FitsColumns k z
fits_more j k (pos n) l h = omega (arith, pow-le-pow_right {n = 10} (omega arith) {i = suc j} {j = suc k} (omega arith))
fits_more j k (negsuc n) l h = omega (arith, pow-le-pow_right {n = 10} (omega arith) {i = j} {j = k} l)

pub columns-fit : (k : ℕ) (t : Text) (z : ℤ) → length t ≤ suc k → in_columns t ≡ some z → FitsColumns k z
unfolding in_columns
columns-fit k [] z l e = clash cc
columns-fit k (c ∷ cs) z l e = go (eqb c blank) (columns-fit k cs z (omega arith)) e
  where
    go : (b : Bool) → (in_columns cs ≡ some z → FitsColumns k z) → cond b (in_columns cs) (numeral (c ∷ cs)) ≡ some z → FitsColumns k z
    go true ih e = ih e
    go false ih e = fits_more (length cs) k z (omega arith) (numeral-fits c cs z e)
