-- How many bytes a shown line takes at least: a tab never passes a multiple of eight, and no byte but itself is shown as something else than a blank.
use mathlib.Core.Path.{◌≡◌, refl, sym, ◌∙◌, ap, subst}
use mathlib.Core.Bool.{Bool, true, false, cond}
use mathlib.Core.List.{List, [], ◌∷◌, ◌++◌, append_assoc}
use mathlib.Core.Option.{Option, some, none}
use borrow.Author.Tests.{eqb-false}
use lib.ListN.{take-append-drop, length-drop}
use lib.Seq.{take-append-le, drop-append-le, length-take-le}
use Prim.Native.Nat.{ℕ, zero, suc, ◌+◌, ◌*◌, ◌-◌, ◌%◌, ◌<◌, ◌≤◌}
use native.Mathlib.Omega.{arith}
use lib.Dec.{eqb}
use lib.IntN.{ℤ}
use lib.ListN.{length, get_or, take, drop, replicate, length-append, length-replicate}
use Rattle.base_exact.proofs.Decide.{le_or_lt}
use mathlib.Core.Logic.{◌⊎◌, inl, inr}
use Rattle.base_text.specs.Bytes.{Text}
use Rattle.base_text.specs.Numeral.{decimal}
use Rattle.base_text.proofs.RoundTrip.{decimal_any}
use Rattle.base_text.proofs.Lacking.{lacks, byte, lacks-first, byte-outside, decimal-lacks}
use Rattle.spec_tucson.specs.Columns.{blank, in_columns, columns}
use Rattle.theorems_clean.proofs.WrittenForm.{columns_form}
use Rattle.spec_tucson.specs.FileText.{tab}
use Rattle.spec_tucson.specs.Line.{all_blank, field_columns, with_field, field_numerals}
use Rattle.spec_tucson.specs.TextReading.{last_field}
use Rattle.spec_tucson.specs.Shown.{tab_blanks, expanded}

-- The byte in this column is no blank; columns past the end are.
abbrev pub Inked : ℕ → Text → Type 0
Inked i t = get_or t i blank ≡ blank → ⊥

blanks_get : (k i : ℕ) (t : Text) → i < k → get_or (replicate k blank ++ t) i blank ≡ blank
blanks_get zero i t h = absurd (omega arith)
blanks_get (suc k) zero t h = refl
blanks_get (suc k) (suc i) t h = blanks_get k i t (omega arith)

behind-get : (k i : ℕ) (t : Text) → get_or (replicate k blank ++ t) (k + i) blank ≡ get_or t i blank
behind-get zero i t = ap (λ (j : ℕ). get_or t j blank) (let z : 0 + i ≡ i = omega arith in z)
behind-get (suc k) i t = ap (λ (j : ℕ). get_or (replicate (suc k) blank ++ t) j blank) (let z : suc k + i ≡ suc (k + i) = omega arith in z) ∙ behind-get k i t

blanks_length : (k : ℕ) (t : Text) → length (replicate k blank ++ t) ≡ k + length t
blanks_length k t = omega (arith, length-append (replicate k blank) t, length-replicate k blank)

blanks_take : (k i : ℕ) (t : Text) → take (k + i) (replicate k blank ++ t) ≡ replicate k blank ++ take i t
blanks_take zero i t = ap (λ (j : ℕ). take j t) (let z : 0 + i ≡ i = omega arith in z)
blanks_take (suc k) i t =
    ap (λ (j : ℕ). take j (replicate (suc k) blank ++ t)) (let z : suc k + i ≡ suc (k + i) = omega arith in z) ∙ ap (λ (u : Text). blank ∷ u) (blanks_take k i t)

blanks_drop : (k i : ℕ) (t : Text) → drop (k + i) (replicate k blank ++ t) ≡ drop i t
blanks_drop zero i t = ap (λ (j : ℕ). drop j t) (let z : 0 + i ≡ i = omega arith in z)
blanks_drop (suc k) i t = ap (λ (j : ℕ). drop j (replicate (suc k) blank ++ t)) (let z : suc k + i ≡ suc (k + i) = omega arith in z) ∙ blanks_drop k i t

pub take_get : (i m : ℕ) (t : Text) → i < m → get_or (take m t) i blank ≡ get_or t i blank
take_get i zero t h = absurd (omega arith)
take_get i (suc m) [] h = refl
take_get zero (suc m) (c ∷ t) h = refl
take_get (suc i) (suc m) (c ∷ t) h = take_get i m t (omega arith)

none-get : (i : ℕ) → get_or [] i blank ≡ blank
none-get zero = refl
none-get (suc i) = refl

pub drop_get : (i m : ℕ) (t : Text) → get_or (drop m t) i blank ≡ get_or t (m + i) blank
drop_get i zero t = ap (λ (j : ℕ). get_or t j blank) (let z : i ≡ 0 + i = omega arith in z)
drop_get i (suc m) [] = none-get i ∙ sym (none-get (suc m + i))
drop_get i (suc m) (c ∷ t) = drop_get i m t ∙ ap (λ (j : ℕ). get_or (c ∷ t) j blank) (let z : suc (m + i) ≡ suc m + i = omega arith in z)

-- ---- one byte

expanded-tab : (n c : ℕ) (cs : Text) → eqb c tab ≡ true → expanded n (c ∷ cs) ≡ replicate (tab_blanks n) blank ++ expanded (n + tab_blanks n) cs
unfolding expanded
expanded-tab n c cs e = ap (λ (b : Bool). cond b (replicate (tab_blanks n) blank ++ expanded (n + tab_blanks n) cs) (c ∷ expanded (suc n) cs)) e

expanded-byte : (n c : ℕ) (cs : Text) → eqb c tab ≡ false → expanded n (c ∷ cs) ≡ c ∷ expanded (suc n) cs
unfolding expanded
expanded-byte n c cs e = ap (λ (b : Bool). cond b (replicate (tab_blanks n) blank ++ expanded (n + tab_blanks n) cs) (c ∷ expanded (suc n) cs)) e

expanded-none : (n : ℕ) → expanded n [] ≡ []
unfolding expanded
expanded-none n = refl

-- ---- a line parted behind a byte that is no blank

pub record Parted (n m : ℕ) (cs : Text) : Type 0 where
  pub front : Text
  pub back : Text
  pub is : cs ≡ front ++ back
  pub first : expanded n front ≡ take m (expanded n cs)
  pub rest : expanded (n + m) back ≡ drop m (expanded n cs)

parted_none : (n : ℕ) (cs : Text) → Parted n 0 cs
parted_none n cs = record {
  front = [];
  back = cs;
  is = refl;
  first = expanded-none n;
  rest = ap (λ (k : ℕ). expanded k cs) (let z : n + 0 ≡ n = omega arith in z);
}

pub parted : (cs : Text) (n m : ℕ) → Inked m (expanded n cs) → Parted n (suc m) cs
parted [] n m h = absurd (h (ap (λ (t : Text). get_or t m blank) (expanded-none n)))
parted (c ∷ cs) n m h = go (eqb c tab) refl (λ k i. parted cs k i)
  where
    byte : (i : ℕ) → m ≡ i → eqb c tab ≡ false → ((k j : ℕ) → Inked j (expanded k cs) → Parted k (suc j) cs) → Parted (suc n) i cs
    byte zero z e ih = parted_none (suc n) cs
    byte (suc i) z e ih =
        ih (suc n) i (λ w. h (ap (λ (t : Text). get_or t m blank) (expanded-byte n c cs e) ∙ ap (λ (j : ℕ). get_or (c ∷ expanded (suc n) cs) j blank) z ∙ w))

    byte-parts : eqb c tab ≡ false → Parted (suc n) m cs → Parted n (suc m) (c ∷ cs)
    byte-parts e p = record {
      front = c ∷ p.front;
      back = p.back;
      is = ap (λ (t : Text). c ∷ t) p.is;
      first = expanded-byte n c p.front e ∙ ap (λ (t : Text). c ∷ t) p.first ∙ sym (ap (take (suc m)) (expanded-byte n c cs e));
      rest = ap (λ (k : ℕ). expanded k p.back) (let z : n + suc m ≡ suc n + m = omega arith in z) ∙ p.rest ∙ sym (ap (drop (suc m)) (expanded-byte n c cs e));
    }

    tab-parts : (i : ℕ) → suc m ≡ tab_blanks n + i → eqb c tab ≡ true → Parted (n + tab_blanks n) i cs → Parted n (suc m) (c ∷ cs)
    tab-parts i z e p = record {
      front = c ∷ p.front;
      back = p.back;
      is = ap (λ (t : Text). c ∷ t) p.is;
      first = expanded-tab n c p.front e ∙ ap (λ (t : Text). replicate (tab_blanks n) blank ++ t) p.first
          ∙ sym (blanks_take (tab_blanks n) i (expanded (n + tab_blanks n) cs)) ∙ sym (ap (λ (k : ℕ). take k (replicate (tab_blanks n) blank ++ expanded (n + tab_blanks n) cs)) z)
          ∙ sym (ap (take (suc m)) (expanded-tab n c cs e));
      rest = ap (λ (k : ℕ). expanded k p.back) (let y : n + suc m ≡ n + tab_blanks n + i = omega arith in y) ∙ p.rest
          ∙ sym (blanks_drop (tab_blanks n) i (expanded (n + tab_blanks n) cs)) ∙ sym (ap (λ (k : ℕ). drop k (replicate (tab_blanks n) blank ++ expanded (n + tab_blanks n) cs)) z)
          ∙ sym (ap (drop (suc m)) (expanded-tab n c cs e));
    }

    tabbed : (i : ℕ) → suc m ≡ tab_blanks n + i → eqb c tab ≡ true → ((k j : ℕ) → Inked j (expanded k cs) → Parted k (suc j) cs) → Parted (n + tab_blanks n) i cs
    tabbed zero z e ih = parted_none (n + tab_blanks n) cs
    tabbed (suc i) z e ih =
        ih (n + tab_blanks n) i (λ w. h (ap (λ (t : Text). get_or t m blank) (expanded-tab n c cs e)
        ∙ ap (λ (j : ℕ). get_or (replicate (tab_blanks n) blank ++ expanded (n + tab_blanks n) cs) j blank) (let y : m ≡ tab_blanks n + i = omega arith in y)
        ∙ behind-get (tab_blanks n) i (expanded (n + tab_blanks n) cs) ∙ w))

    far : eqb c tab ≡ true → (tab_blanks n ≤ m) ⊎ (m < tab_blanks n) → ((k j : ℕ) → Inked j (expanded k cs) → Parted k (suc j) cs) → Parted n (suc m) (c ∷ cs)
    far e (inl l) ih = let z : suc m ≡ tab_blanks n + (suc m - tab_blanks n) = omega arith in tab-parts (suc m - tab_blanks n) z e (tabbed (suc m - tab_blanks n) z e ih)
    far e (inr l) ih = absurd (h (ap (λ (t : Text). get_or t m blank) (expanded-tab n c cs e) ∙ blanks_get (tab_blanks n) m (expanded (n + tab_blanks n) cs) l))

    go : (b : Bool) → eqb c tab ≡ b → ((k j : ℕ) → Inked j (expanded k cs) → Parted k (suc j) cs) → Parted n (suc m) (c ∷ cs)
    go true e ih = far e (le_or_lt (tab_blanks n) m) ih
    go false e ih = byte-parts e (byte m refl e ih)

-- ---- the name and the year

-- four columns behind the name are four bytes
year-bytes : (us : Text) (n : ℕ) → n < 16 → 8 ≤ n → n + length (expanded n us) ≡ 12 → 12 ≤ n + length us
year-bytes [] n l g e = omega (arith, ap length (expanded-none n))
year-bytes (c ∷ cs) n l g e = go (eqb c tab) refl (year-bytes cs (suc n))
  where
    go : (b : Bool) → eqb c tab ≡ b → (suc n < 16 → 8 ≤ suc n → suc n + length (expanded (suc n) cs) ≡ 12 → 12 ≤ suc n + length cs) → 12 ≤ n + suc (length cs)
    go true w ih = absurd (omega (arith, ap length (expanded-tab n c cs w), blanks_length (tab_blanks n) (expanded (n + tab_blanks n) cs)))
    go false w ih = let z = ap length (expanded-byte n c cs w) in omega (arith, ih (omega (arith, z)) (omega arith) (omega (arith, z)))

-- behind some of the name's columns there are five bytes more
name-bytes : (us : Text) (n : ℕ) → n < 8 → n + length (expanded n us) ≡ 12 → 5 ≤ length us
name-bytes [] n l e = omega (arith, ap length (expanded-none n))
name-bytes (c ∷ cs) n l e = go (eqb c tab) refl (le_or_lt 8 (suc n)) (name-bytes cs (suc n))
  where
    eight : n + tab_blanks n ≡ 8
    eight = omega arith

    go : (b : Bool) → eqb c tab ≡ b → (8 ≤ suc n) ⊎ (suc n < 8) → (suc n < 8 → suc n + length (expanded (suc n) cs) ≡ 12 → 5 ≤ length cs) → 5 ≤ suc (length cs)
    go true w s ih =
        let z = ap length (expanded-tab n c cs w) in
        let y = ap (λ (k : ℕ). length (expanded k cs)) eight in
        let size = year-bytes cs 8 (omega arith) (omega arith) (omega (arith, z, y, blanks_length (tab_blanks n) (expanded (n + tab_blanks n) cs), eight)) in
        omega (arith, size)
    go false w (inl s) ih = let z = ap length (expanded-byte n c cs w) in omega (arith, year-bytes cs (suc n) (omega arith) s (omega (arith, z)))
    go false w (inr s) ih = let z = ap length (expanded-byte n c cs w) in omega (arith, ih s (omega (arith, z)))

blank-name : (t : Text) → all_blank (take 8 (replicate 8 blank ++ t)) ≡ true
unfolding all_blank
blank-name t = refl

pub head_bytes : (us : Text) → length (expanded 0 us) ≡ 12 → (all_blank (take 8 (expanded 0 us)) ≡ true → ⊥) → 6 ≤ length us
head_bytes [] e h = absurd (omega (arith, ap length (expanded-none 0)))
head_bytes (c ∷ cs) e h = go (eqb c tab) refl
  where
    go : (b : Bool) → eqb c tab ≡ b → 6 ≤ suc (length cs)
    go true w = absurd (h (ap (λ (t : Text). all_blank (take 8 t)) (expanded-tab 0 c cs w) ∙ blank-name (expanded 8 cs)))
    go false w = let z = ap length (expanded-byte 0 c cs w) in omega (arith, name-bytes cs 1 (omega arith) (omega (arith, z)))

-- ---- a field

-- one byte is shown as one column that is no blank
pub last_two : (us : Text) (n m : ℕ) → 1 ≤ m → length (expanded n us) ≡ suc m → Inked m (expanded n us) → 2 ≤ length us
last_two [] n m g e h = absurd (omega (arith, ap length (expanded-none n)))
last_two (c ∷ []) n m g e h = go (eqb c tab) refl
  where
    go : (b : Bool) → eqb c tab ≡ b → 2 ≤ 1
    go true w =
        let z = ap length (expanded-tab n c [] w) in
        let y = ap length (expanded-none (n + tab_blanks n)) in
        absurd (h (ap (λ (t : Text). get_or t m blank) (expanded-tab n c [] w)
        ∙ blanks_get (tab_blanks n) m (expanded (n + tab_blanks n) []) (omega (arith, z, y, blanks_length (tab_blanks n) (expanded (n + tab_blanks n) [])))))
    go false w = absurd (omega (arith, ap length (expanded-byte n c [] w), ap length (expanded-none (suc n))))
last_two (c ∷ d ∷ us) n m g e h = omega arith

-- six columns, the first of which is even, are three bytes or more
pub field-bytes : (us : Text) (n : ℕ) → n % 2 ≡ 0 → length (expanded n us) ≡ 6 → Inked 5 (expanded n us) → 3 ≤ length us
field-bytes [] n v e h = absurd (omega (arith, ap length (expanded-none n)))
field-bytes (c ∷ us) n v e h = go (eqb c tab) refl
  where
    go : (b : Bool) → eqb c tab ≡ b → 3 ≤ suc (length us)
    go true w =
        let z = ap length (expanded-tab n c us w) in
        let y = blanks_length (tab_blanks n) (expanded (n + tab_blanks n) us) in
        tabbed (le_or_lt 5 (tab_blanks n)) z y
      where
        behind : tab_blanks n < 6 → Inked (5 - tab_blanks n) (expanded (n + tab_blanks n) us)
        behind l q = h (ap (λ (t : Text). get_or t 5 blank) (expanded-tab n c us w)
            ∙ ap (λ (j : ℕ). get_or (replicate (tab_blanks n) blank ++ expanded (n + tab_blanks n) us) j blank) (let r : 5 ≡ tab_blanks n + (5 - tab_blanks n) = omega arith in r)
            ∙ behind-get (tab_blanks n) (5 - tab_blanks n) (expanded (n + tab_blanks n) us) ∙ q)

        covered : 6 ≤ tab_blanks n → ⊥
        covered l = h (ap (λ (t : Text). get_or t 5 blank) (expanded-tab n c us w) ∙ blanks_get (tab_blanks n) 5 (expanded (n + tab_blanks n) us) (omega arith))

        tabbed : (5 ≤ tab_blanks n) ⊎ (tab_blanks n < 5) → length (expanded n (c ∷ us)) ≡ length (replicate (tab_blanks n) blank ++ expanded (n + tab_blanks n) us)
            → length (replicate (tab_blanks n) blank ++ expanded (n + tab_blanks n) us) ≡ tab_blanks n + length (expanded (n + tab_blanks n) us) → 3 ≤ suc (length us)
        tabbed (inl l) z y = absurd (covered (omega arith))
        tabbed (inr l) z y = omega (arith, last_two us (n + tab_blanks n) (5 - tab_blanks n) (omega arith) (omega arith) (behind (omega arith)))
    go false w =
        let z = ap length (expanded-byte n c us w) in
        omega (arith, last_two us (suc n) 4 (omega arith) (omega (arith, z)) (λ q. h (ap (λ (t : Text). get_or t 5 blank) (expanded-byte n c us w) ∙ q)))

-- six columns of which the last three are no blanks are four bytes or more
pub closing-bytes : (us : Text) (n : ℕ) → length (expanded n us) ≡ 6 → Inked 3 (expanded n us) → Inked 4 (expanded n us) → Inked 5 (expanded n us) → 4 ≤ length us
closing-bytes us n e h i j =
    let p = parted us n 3 h in
    let E = expanded n us in
    let front-size : length (expanded n p.front) ≡ 4 = ap length p.first ∙ length-take-le 4 E (omega arith) in
    let back-size : length (expanded (n + 4) p.back) ≡ 2 = ap length p.rest ∙ length-drop 4 E ∙ omega arith in
    let front = last_two p.front n 3 (omega arith) front-size (λ q. h (sym (take_get 3 4 E (omega arith)) ∙ ap (λ (t : Text). get_or t 3 blank) (sym p.first) ∙ q)) in
    let back = last_two p.back (n + 4) 1 (omega arith) back-size (λ q. j (sym (drop_get 1 4 E) ∙ ap (λ (t : Text). get_or t 1 blank) (sym p.rest) ∙ q)) in
    omega (arith, front, back, ap length p.is, length-append p.front p.back)

-- ---- numbers in columns

lacks-inked : (t : Text) (i : ℕ) → lacks (byte blank) t ≡ true → i < length t → Inked i t
lacks-inked [] i e l = absurd (omega arith)
lacks-inked (c ∷ t) zero e l = eqb-false c blank (lacks-first (byte blank) c t e).0
lacks-inked (c ∷ t) (suc i) e l = lacks-inked t i (lacks-first (byte blank) c t e).1 (omega arith)

pub number-inked : (w : Text) (z : ℤ) (i : ℕ) → in_columns w ≡ some z → length w ≤ i + length (decimal z) → i < length w → Inked i w
unfolding columns
number-inked w z i e l g q =
    let form = columns_form w z e in
    let k = length w - length (decimal z) in
    let size = ap length form ∙ blanks_length k (decimal z) in
    let at : i ≡ k + (i - k) = omega (arith, size) in
    lacks-inked (decimal z) (i - k) (decimal-lacks (byte blank) (byte-outside blank refl refl) z) (omega (arith, size))
    (sym (behind-get k (i - k) (decimal z)) ∙ ap (λ (j : ℕ). get_or (replicate k blank ++ decimal z) j blank) (sym at) ∙ ap (λ (t : Text). get_or t i blank) (sym form) ∙ q)
