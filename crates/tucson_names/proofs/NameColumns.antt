-- A line's columns one at a time: the byte in a column, digits up to a column, a blank inside a name, two texts compared.
use mathlib.Core.Path.{◌≡◌, refl, sym, ◌∙◌, ap, ap₂}
use mathlib.Core.Bool.{Bool, true, false, cond, ◌&&◌, ◌||◌, not, or-true, or-false as or-none}
use mathlib.Core.List.{[], ◌∷◌}
use Prim.Native.Nat.{ℕ, zero, suc, ◌+◌, ◌-◌, ◌<◌, ◌≤◌}
use native.Mathlib.Numerals.{add-one}
use native.Mathlib.Omega.{arith}
use borrow.Author.Tests.{ne_eqb, leb-true, leb-false, lt-ltb, le-ltb}
use lib.Dec.{eqb, leb, ltb}
use lib.ListN.{length, get_or, take, drop, drop_of_length-le}
use lib.Pointwise.{pointwise}
use lib.Seq.{drop-cons}
use Rattle.std.specs.List.{list_all}
use Rattle.base_exact.proofs.Decide.{cond_true, cond_false}
use Rattle.base_text.specs.Bytes.{Text}
use Rattle.base_text.specs.Numeral.{is_digit}
use Rattle.spec_tucson.specs.Columns.{blank}
use Rattle.spec_tucson.specs.Line.{all_blank}
use Rattle.spec_tucson.specs.Shown.{unless_trailing, trimmed}
use Rattle.spec_tucson.specs.StrictLine.{question_mark, name_of}
use Rattle.spec_tucson.specs.KeptLines.{same_text, column}
use Rattle.spec_tucson.specs.CleanSeries.{is_sign, digits_in, year_in_name, digits_behind, ends_in_number, any_blank, is_shifted}
use Rattle.spec_tucson.proofs.Lines.{column_at}

-- ---- tests in a row
pub yes_or : {a : Bool} (b : Bool) → a ≡ true → (a || b) ≡ true
yes_or {a} b e = ap (λ (x : Bool). x || b) e

pub no_or : {a b c : Bool} → a ≡ false → b ≡ c → (a || b) ≡ c
no_or {a} {b} {c} e h = ap (λ (x : Bool). x || b) e ∙ h

pub no_and : {a : Bool} (b : Bool) → a ≡ false → (a && b) ≡ false
no_and {a} b e = ap (λ (x : Bool). x && b) e

pub yes_and : {a b c : Bool} → a ≡ true → b ≡ c → (a && b) ≡ c
yes_and {a} {b} {c} e h = ap (λ (x : Bool). x && b) e ∙ h

pub digit_top : (c : ℕ) → leb c 57 ≡ ltb c 58
digit_top c = go (leb c 57) refl
  where
    go : (b : Bool) → leb c 57 ≡ b → b ≡ ltb c 58
    go true e = sym (lt-ltb c 58 (omega (arith, leb-true c 57 e)))
    go false e = sym (le-ltb c 58 (omega (arith, leb-false c 57 e)))

-- ---- the byte in a column
pub column-next : (i : ℕ) (t : Text) → column (i + 1) t ≡ get_or t i 0
column-next i t = ap (λ (n : ℕ). column n t) (add-one i) ∙ column_at i t

-- ---- digits
digits-next : (i n : ℕ) (t : Text) → digits_in (i + 1) (suc n) t ≡ (is_digit (get_or t i 0) && digits_in (i + 1 + 1) n t)
unfolding digits_in
digits-next i n t = ap₂ (λ (c k : ℕ). is_digit c && digits_in k n t) (column-next i t) (sym (add-one (i + 1)))

digits-over : (i : ℕ) (t : Text) → digits_in i 0 t ≡ true
unfolding digits_in
digits-over i t = refl

-- the bytes of a part are digits, looked at by a call or by the definition
pub digits_all : (from n : ℕ) (t : Text) → from + n ≤ length t
    → list_all is_digit (take (from + n - from) (drop from t)) ≡ digits_in (from + 1) n t
digits_all from n t h =
    let e : from + n - from ≡ n = omega arith in
    ap (λ (k : ℕ). list_all is_digit (take k (drop from t))) e ∙ go from n h
  where
    go : (from n : ℕ) → from + n ≤ length t → list_all is_digit (take n (drop from t)) ≡ digits_in (from + 1) n t
    go from zero h = sym (digits-over (from + 1) t)
    go from (suc n) h =
        ap (λ (u : Text). list_all is_digit (take (suc n) u)) (drop-cons t from 0 (omega arith))
        ∙ ap (λ (i : ℕ). is_digit (get_or t from 0) && list_all is_digit (take n (drop i t))) (sym (add-one from))
        ∙ ap (λ (b : Bool). is_digit (get_or t from 0) && b) (go (from + 1) n (omega arith))
        ∙ sym (digits-next from n t)

pub behind_at : (i : ℕ) (t : Text) → 1 ≤ i → digits_behind i t
    ≡ cond (is_digit (get_or t (i - 1) 0)) (digits_behind (i - 1) t) (eqb (get_or t (i - 1) 0) blank || eqb (get_or t (i - 1) 0) question_mark)
unfolding digits_behind
behind_at zero t h = absurd (omega arith)
behind_at (suc i) t h =
    let e : i ≡ suc i - 1 = omega arith in
    ap (λ (c : ℕ). cond (is_digit c) (digits_behind i t) (eqb c blank || eqb c question_mark)) (column_at i t)
    ∙ ap (λ (k : ℕ). cond (is_digit (get_or t k 0)) (digits_behind k t) (eqb (get_or t k 0) blank || eqb (get_or t k 0) question_mark)) e

pub behind-over : (t : Text) → digits_behind 0 t ≡ false
unfolding digits_behind
behind-over t = refl

pub behind_yes : (i : ℕ) (t : Text) → 1 ≤ i → is_digit (get_or t (i - 1) 0) ≡ true → digits_behind i t ≡ digits_behind (i - 1) t
behind_yes i t h e =
    behind_at i t h ∙ cond_true (digits_behind (i - 1) t) (eqb (get_or t (i - 1) 0) blank || eqb (get_or t (i - 1) 0) question_mark) e

pub behind_no : (i : ℕ) (t : Text) → 1 ≤ i → is_digit (get_or t (i - 1) 0) ≡ false
    → digits_behind i t ≡ (eqb (get_or t (i - 1) 0) blank || eqb (get_or t (i - 1) 0) question_mark)
behind_no i t h e =
    behind_at i t h ∙ cond_false (digits_behind (i - 1) t) (eqb (get_or t (i - 1) 0) blank || eqb (get_or t (i - 1) 0) question_mark) e

-- ---- the tests of code 23, by the bytes
pub year_by_bytes : (t : Text)
    → year_in_name t ≡ (is_sign (get_or t 7 0) || (digits_in 8 5 t && (is_sign (get_or t 6 0) || eqb (get_or t 6 0) blank)))
unfolding year_in_name
year_by_bytes t = ap₂ (λ (c d : ℕ). is_sign c || (digits_in 8 5 t && (is_sign d || eqb d blank))) (column_at 7 t) (column_at 6 t)

pub number_by_bytes : (t : Text) → ends_in_number t ≡ (is_digit (get_or t 7 0) && digits_behind 8 t)
unfolding ends_in_number
number_by_bytes t = ap (λ (c : ℕ). is_digit c && digits_behind 8 t) (column_at 7 t)

pub shifted_by_bytes : (t : Text)
    → is_shifted t ≡ (eqb (get_or t 0 0) blank || (ends_in_number t || (eqb (length t) 18 && any_blank (trimmed (name_of t)))))
unfolding is_shifted
shifted_by_bytes t = ap (λ (c : ℕ). eqb c blank || (ends_in_number t || (eqb (length t) 18 && any_blank (trimmed (name_of t))))) (column_at 0 t)

-- ---- a blank inside

-- A blank stands in the text, or before it, with another byte behind it.
unfoldable pub inside : Bool → Text → Bool
inside seen t = any_blank (trimmed t) || (seen && not (all_blank t))

is_nil : Text → Bool
is_nil [] = true
is_nil (c ∷ cs) = false

-- a text of blanks has nothing left, and any other something
trimmed_nil : (t : Text) → is_nil (trimmed t) ≡ all_blank t
unfolding trimmed all_blank is_nil
trimmed_nil [] = refl
trimmed_nil (c ∷ cs) = go (trimmed cs) (trimmed_nil cs)
  where
    go : (u : Text) → is_nil u ≡ all_blank cs → is_nil (unless_trailing c u) ≡ (eqb c blank && all_blank cs)
    go [] e = pick (eqb c blank)
      where
        pick : (b : Bool) → is_nil (cond b [] (c ∷ [])) ≡ (b && all_blank cs)
        pick true = e
        pick false = refl
    go (d ∷ ds) e = e' (eqb c blank)
      where
        e' : (b : Bool) → false ≡ (b && all_blank cs)
        e' true = e
        e' false = refl

-- what a byte in front adds
blank-front : (u : Text) → any_blank (unless_trailing blank u) ≡ not (is_nil u)
unfolding any_blank is_nil
blank-front [] = refl
blank-front (d ∷ ds) = refl

other_front : (c : ℕ) (u : Text) → eqb c blank ≡ false → any_blank (unless_trailing c u) ≡ any_blank u
unfolding any_blank
other_front c [] e = rw e (rw e)
other_front c (d ∷ ds) e = rw e

any_not_nil : (u : Text) → (any_blank u || not (is_nil u)) ≡ not (is_nil u)
unfolding any_blank is_nil
any_not_nil [] = refl
any_not_nil (d ∷ ds) = or-true (any_blank (d ∷ ds))

absorbed : (x seen : Bool) → (x || (seen && x)) ≡ x
absorbed true seen = refl
absorbed false true = refl
absorbed false false = refl

inside-blank : (seen : Bool) (t : Text) → inside seen (blank ∷ t) ≡ inside true t
unfolding inside trimmed all_blank
inside-blank seen t =
    ap (λ (b : Bool). b || (seen && not (all_blank t))) (blank-front (trimmed t) ∙ ap not (trimmed_nil t))
    ∙ absorbed (not (all_blank t)) seen
    ∙ sym (ap (λ (b : Bool). any_blank (trimmed t) || not b) (sym (trimmed_nil t)) ∙ any_not_nil (trimmed t) ∙ ap not (trimmed_nil t))

inside_other : (c : ℕ) (t : Text) → eqb c blank ≡ false → inside false (c ∷ t) ≡ inside false t
unfolding inside trimmed
inside_other c t e = ap (λ (b : Bool). b || false) (other_front c (trimmed t) e)

inside_found : (c : ℕ) (t : Text) → eqb c blank ≡ false → inside true (c ∷ t) ≡ true
unfolding inside all_blank
inside_found c t e = rw e (or-true (any_blank (trimmed (c ∷ t))))

inside_end : (seen : Bool) → inside seen [] ≡ false
unfolding inside trimmed all_blank any_blank
inside_end true = refl
inside_end false = refl

-- the same of the rest of a text
module _ (t : Text) (i : ℕ) (within : i < length t) where
  inside-here : (seen : Bool) → inside seen (drop i t) ≡ inside seen (get_or t i 0 ∷ drop (i + 1) t)
  inside-here seen = ap (inside seen) (drop-cons t i 0 within) ∙ ap (λ (n : ℕ). inside seen (get_or t i 0 ∷ drop n t)) (sym (add-one i))

  pub inside-blank_at : (seen : Bool) → get_or t i 0 ≡ blank → inside seen (drop i t) ≡ inside true (drop (i + 1) t)
  inside-blank_at seen e = inside-here seen ∙ ap (λ (c : ℕ). inside seen (c ∷ drop (i + 1) t)) e ∙ inside-blank seen (drop (i + 1) t)

  pub inside_other_at : (get_or t i 0 ≡ blank → ⊥) → inside false (drop i t) ≡ inside false (drop (i + 1) t)
  inside_other_at h = inside-here false ∙ inside_other (get_or t i 0) (drop (i + 1) t) (ne_eqb _ _ h)

  pub inside-found_at : (get_or t i 0 ≡ blank → ⊥) → inside true (drop i t) ≡ true
  inside-found_at h = inside-here true ∙ inside_found (get_or t i 0) (drop (i + 1) t) (ne_eqb _ _ h)

pub inside-over : (seen : Bool) (t : Text) (i : ℕ) → length t ≤ i → inside seen (drop i t) ≡ false
inside-over seen t i h = ap (inside seen) (drop_of_length-le t h) ∙ inside_end seen

pub inside_all : (t : Text) → inside false t ≡ any_blank (trimmed t)
unfolding inside
inside_all t = or-none (any_blank (trimmed t))

-- ---- two texts
pub same_by_bytes : (a b : Text) → pointwise eqb a b ≡ same_text a b
unfolding same_text
same_by_bytes [] [] = refl
same_by_bytes [] (d ∷ ds) = refl
same_by_bytes (c ∷ cs) [] = refl
same_by_bytes (c ∷ cs) (d ∷ ds) = ap (λ (b : Bool). eqb c d && b) (same_by_bytes cs ds)
