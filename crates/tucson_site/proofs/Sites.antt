-- A site name has letters and digits alone, so that tabs as blanks change nothing in it; and the blanks and tabs before it are shown as
-- blanks.
use mathlib.Core.Path.{◌≡◌, refl, sym, ◌∙◌, ap, ap₂}
use mathlib.Core.Bool.{Bool, true, false, cond, ◌&&◌, ◌||◌, not}
use mathlib.Core.List.{[], ◌∷◌, ◌++◌}
use Prim.Native.Nat.{ℕ, zero, suc, ◌+◌, ◌-◌, ◌<◌, ◌≤◌}
use native.Mathlib.Omega.{arith}
use borrow.Author.Tests.{eq-eqb, ne_eqb, eqb-true, eqb-false, le-leb, lt-leb}
use lib.Dec.{eqb, leb}
use lib.ListN.{length, take, drop, replicate, take-append-drop}
use Rattle.base_exact.proofs.Decide.{and-true, and-false, true_not_false}
use Rattle.base_text.specs.Bytes.{Text, index_where}
use Rattle.base_text.specs.Numeral.{is_digit}
use Rattle.base_text.proofs.Lacking.{lacks, lacks_append, lacks-first}
use Rattle.spec_tucson.specs.Columns.{blank}
use Rattle.spec_tucson.specs.FileText.{tab}
use Rattle.spec_tucson.specs.Shown.{tab_blanks, expanded, any_tab}
use Rattle.spec_tucson.specs.StrictLine.{is_letter, all_letters, letters_before, digits_before, blanks_before, is_site_number, is_site_name}
use Rattle.tucson_columns.specs.Machine.{is_gap}
use Rattle.spec_tucson.proofs.Lines.{refute}
use Rattle.tucson_columns.proofs.Shown.{expanded-plain}
use Rattle.tucson_site.specs.Machine.{gap_before, site_behind}

-- ---- letters and digits alone
letter_no_gap : (c : ℕ) → is_letter c ≡ true → is_gap c ≡ false
letter_no_gap c e = ap₂ ◌||◌ (ne_eqb c blank (λ z. true_not_false e (ap is_letter z))) (ne_eqb c tab (λ z. true_not_false e (ap is_letter z)))

digit_no_gap : (c : ℕ) → is_digit c ≡ true → is_gap c ≡ false
digit_no_gap c e = ap₂ ◌||◌ (ne_eqb c blank (λ z. true_not_false e (ap is_digit z))) (ne_eqb c tab (λ z. true_not_false e (ap is_digit z)))

-- the bytes before the first one that is not such a byte
front-lacks : (picks good : ℕ → Bool) → ((c : ℕ) → good c ≡ true → picks c ≡ false) → (t : Text)
    → lacks picks (take (index_where (λ c. not (good c)) t) t) ≡ true
unfolding index_where
front-lacks picks good h [] = refl
front-lacks picks good h (c ∷ t) = go (good c) refl (front-lacks picks good h t)
  where
    go : (b : Bool) → good c ≡ b → lacks picks (take (index_where (λ c. not (good c)) t) t) ≡ true
        → lacks picks (take (cond (not b) 0 (suc (index_where (λ c. not (good c)) t))) (c ∷ t)) ≡ true
    go true e ih = ap₂ (λ (x y : Bool). not x && y) (h c e) ih
    go false e ih = refl

letters_lack : (t : Text) → all_letters t ≡ true → lacks is_gap t ≡ true
unfolding all_letters
letters_lack [] e = refl
letters_lack (c ∷ t) e = let both = and-true (is_letter c) (all_letters t) e in ap₂ (λ (x y : Bool). not x && y) (letter_no_gap c both.0) (letters_lack t both.1)

lacks-split : (n : ℕ) (t : Text) → lacks is_gap (take n t) ≡ true → lacks is_gap (drop n t) ≡ true → lacks is_gap t ≡ true
lacks-split n t a b = ap (lacks is_gap) (sym (take-append-drop n t)) ∙ lacks_append is_gap (take n t) (drop n t) a b

site-lacks : (t : Text) → is_site_name t ≡ true → lacks is_gap t ≡ true
unfolding is_site_name is_site_number
site-lacks t e =
    let u = drop (letters_before t) t in
    let tested = and-true (leb (letters_before t) 4) (is_site_number u) (and-true (leb 2 (letters_before t)) (leb (letters_before t) 4 && is_site_number u) e).1 in
    let number = and-true (eqb (digits_before u) 3) (leb (length u) 4 && all_letters (drop 3 u)) tested.1 in
    let three : digits_before u ≡ 3 = eqb-true (digits_before u) 3 number.0 in
    let last = (and-true (leb (length u) 4) (all_letters (drop 3 u)) number.1).1 in
    lacks-split (letters_before t) t (front-lacks is_gap is_letter letter_no_gap t)
    (lacks-split 3 u (rw three at (front-lacks is_gap is_digit digit_no_gap u)) (letters_lack (drop 3 u) last))

-- ---- tabs in it
lacks_no_tab : (t : Text) → lacks is_gap t ≡ true → any_tab t ≡ false
unfolding any_tab
lacks_no_tab [] e = refl
lacks_no_tab (c ∷ t) e = let both = lacks-first is_gap c t e in ap₂ ◌||◌ (no_tab c both.0) (lacks_no_tab t both.1)
  where
    no_tab : (c : ℕ) → is_gap c ≡ false → eqb c tab ≡ false
    no_tab c e = refute (eqb c tab) (λ z. true_not_false (ap₂ ◌||◌ (ne_eqb c blank (omega (arith, eqb-true c tab z))) z) e)

-- a tab is shown as blanks
blanks_some : (k : ℕ) (t : Text) → 1 ≤ k → lacks is_gap (replicate k blank ++ t) ≡ false
blanks_some zero t h = absurd (omega arith)
blanks_some (suc k) t h = refl

tab-shown : (n : ℕ) (t : Text) → any_tab t ≡ true → lacks is_gap (expanded n t) ≡ false
unfolding expanded any_tab
tab-shown n [] e = absurd (true_not_false e refl)
tab-shown n (c ∷ t) e = go (eqb c tab) e (tab-shown (suc n) t)
  where
    go : (b : Bool) → (b || any_tab t) ≡ true → (any_tab t ≡ true → lacks is_gap (expanded (suc n) t) ≡ false) →
        lacks is_gap (cond b (replicate (tab_blanks n) blank ++ expanded (n + tab_blanks n) t) (c ∷ expanded (suc n) t)) ≡ false
    go true e ih = blanks_some (tab_blanks n) (expanded (n + tab_blanks n) t) (omega arith)
    go false e ih = ap (λ (b : Bool). not (is_gap c) && b) (ih e) ∙ and-false (not (is_gap c))

pub site-shown : (n : ℕ) (t : Text) → is_site_name (expanded n t) ≡ is_site_name t
site-shown n t = go (any_tab t) refl
  where
    go : (b : Bool) → any_tab t ≡ b → is_site_name (expanded n t) ≡ is_site_name t
    go true e =
        refute (is_site_name (expanded n t)) (λ z. true_not_false (site-lacks (expanded n t) z) (tab-shown n t e))
        ∙ sym (refute (is_site_name t) (λ z. true_not_false e (lacks_no_tab t (site-lacks t z))))
    go false e = ap is_site_name (expanded-plain n t e)

-- ---- the blanks before it
-- the text behind its blanks, and whether there are some
pub record Behind (n : ℕ) (t : Text) : Type 0 where
  pub column : ℕ
  pub left : drop (blanks_before (expanded n t)) (expanded n t) ≡ expanded column (drop (gap_before t) t)
  pub some_blank : leb 1 (blanks_before (expanded n t)) ≡ leb 1 (gap_before t)

blanks_over : (k : ℕ) (t : Text) → (blanks_before (replicate k blank ++ t) ≡ k + blanks_before t)
    × (drop (blanks_before (replicate k blank ++ t)) (replicate k blank ++ t) ≡ drop (blanks_before t) t)
unfolding index_where
blanks_over zero t = (omega arith, refl)
blanks_over (suc k) t = let r = blanks_over k t in (omega (arith, r.0), r.1)

-- one byte more in front
module _ (n c : ℕ) (t : Text) where
  gap_more : is_gap c ≡ true → gap_before (c ∷ t) ≡ suc (gap_before t)
  unfolding index_where
  gap_more e = rw e

  behind-tab : eqb c tab ≡ true → Behind (n + tab_blanks n) t → Behind n (c ∷ t)
  unfolding expanded
  behind-tab e r =
      let x = expanded (n + tab_blanks n) t in
      let is : expanded n (c ∷ t) ≡ replicate (tab_blanks n) blank ++ x =
      ap (λ (b : Bool). cond b (replicate (tab_blanks n) blank ++ x) (c ∷ expanded (suc n) t)) e in
      let gap : is_gap c ≡ true = ap₂ ◌||◌ (ne_eqb c blank (omega (arith, eqb-true c tab e))) e in
      let over = blanks_over (tab_blanks n) x in
      record {
        column = r.column;
        left =
            ap (λ (u : Text). drop (blanks_before u) u) is ∙ over.1 ∙ r.left
            ∙ sym (ap (λ (m : ℕ). expanded r.column (drop m (c ∷ t))) (gap_more gap));
        some_blank =
            le-leb 1 (blanks_before (expanded n (c ∷ t))) (omega (arith, ap blanks_before is, over.0))
            ∙ sym (le-leb 1 (gap_before (c ∷ t)) (omega (arith, gap_more gap)));
      }

  module _ (no_tab : eqb c tab ≡ false) where
    shown-first : expanded n (c ∷ t) ≡ c ∷ expanded (suc n) t
    unfolding expanded
    shown-first = ap (λ (b : Bool). cond b (replicate (tab_blanks n) blank ++ expanded (n + tab_blanks n) t) (c ∷ expanded (suc n) t)) no_tab

    behind-blank : eqb c blank ≡ true → Behind (suc n) t → Behind n (c ∷ t)
    unfolding index_where
    behind-blank e r =
        let more : blanks_before (c ∷ expanded (suc n) t) ≡ suc (blanks_before (expanded (suc n) t)) = rw e in
        let gap : is_gap c ≡ true = ap (λ (b : Bool). b || eqb c tab) e in
        record {
          column = r.column;
          left =
              ap (λ (u : Text). drop (blanks_before u) u) shown-first ∙ ap (λ (m : ℕ). drop m (c ∷ expanded (suc n) t)) more ∙ r.left
              ∙ sym (ap (λ (m : ℕ). expanded r.column (drop m (c ∷ t))) (gap_more gap));
          some_blank =
              le-leb 1 (blanks_before (expanded n (c ∷ t))) (omega (arith, ap blanks_before shown-first, more))
              ∙ sym (le-leb 1 (gap_before (c ∷ t)) (omega (arith, gap_more gap)));
        }

    behind_other : eqb c blank ≡ false → Behind n (c ∷ t)
    unfolding index_where
    behind_other e =
        let none_here : blanks_before (expanded n (c ∷ t)) ≡ 0 = ap blanks_before shown-first ∙ rw e in
        let no_gap : gap_before (c ∷ t) ≡ 0 = rw (e, no_tab) in
        record {
          column = n;
          left = ap (λ (m : ℕ). drop m (expanded n (c ∷ t))) none_here ∙ sym (ap (λ (m : ℕ). expanded n (drop m (c ∷ t))) no_gap);
          some_blank = ap (leb 1) none_here ∙ sym (ap (leb 1) no_gap);
        }

pub behind_blanks : (n : ℕ) (t : Text) → Behind n t
unfolding expanded index_where
behind_blanks n [] = record { column = n; left = refl; some_blank = refl }
behind_blanks n (c ∷ t) = go (eqb c tab) (eqb c blank) refl refl (behind_blanks (n + tab_blanks n) t) (behind_blanks (suc n) t)
  where
    go : (a b : Bool) → eqb c tab ≡ a → eqb c blank ≡ b → Behind (n + tab_blanks n) t → Behind (suc n) t → Behind n (c ∷ t)
    go true b e f r q = behind-tab n c t e r
    go false true e f r q = behind-blank n c t e f q
    go false false e f r q = behind_other n c t e f

pub site-behind : (n : ℕ) (t : Text) → site_behind (expanded n t) ≡ (leb 1 (gap_before t) && is_site_name (drop (gap_before t) t))
site-behind n t = let r = behind_blanks n t in ap₂ ◌&&◌ r.some_blank (ap is_site_name r.left ∙ site-shown r.column (drop (gap_before t) t))

-- ---- a site name by its parts
-- two numbers with the same one added
pub same-moved : (a x b : ℕ) → a ≤ b → eqb (a + x) b ≡ eqb x (b - a)
same-moved a x b h = go (eqb x (b - a)) refl
  where
    go : (s : Bool) → eqb x (b - a) ≡ s → eqb (a + x) b ≡ s
    go true e = eq-eqb (a + x) b (omega (arith, eqb-true x (b - a) e))
    go false e = ne_eqb (a + x) b (λ z. eqb-false x (b - a) e (omega arith))

same_suc : (x y : ℕ) → eqb (suc x) (suc y) ≡ eqb x y
same_suc x y = go (eqb x y) refl
  where
    go : (s : Bool) → eqb x y ≡ s → eqb (suc x) (suc y) ≡ s
    go true e = eq-eqb (suc x) (suc y) (ap suc (eqb-true x y e))
    go false e = ne_eqb (suc x) (suc y) (λ z. eqb-false x y e (omega arith))

pub letters_all : (t : Text) → all_letters t ≡ eqb (letters_before t) (length t)
unfolding all_letters index_where
letters_all [] = refl
letters_all (c ∷ t) = go (is_letter c) (letters_all t)
  where
    go : (b : Bool) → all_letters t ≡ eqb (letters_before t) (length t) → (b && all_letters t) ≡ eqb (cond (not b) 0 (suc (letters_before t))) (suc (length t))
    go true e = e ∙ sym (same_suc (letters_before t) (length t))
    go false e = sym (ne_eqb 0 (suc (length t)) (λ z. omega arith))

module _ (t : Text) where
  pub site_few : letters_before t < 2 → is_site_name t ≡ false
  unfolding is_site_name
  site_few h = rw (lt-leb 2 (letters_before t) h)

  pub site_many : 4 < letters_before t → is_site_name t ≡ false
  unfolding is_site_name
  site_many h = rw (le-leb 2 (letters_before t) (omega arith), lt-leb (letters_before t) 4 h)

  module _ (u : Text) (is : drop (letters_before t) t ≡ u) (enough : 2 ≤ letters_before t) (few : letters_before t ≤ 4) where
    site-number : is_site_name t ≡ is_site_number u
    unfolding is_site_name
    site-number = rw (le-leb 2 (letters_before t) enough, le-leb (letters_before t) 4 few, is)

    pub site-digits : (digits_before u ≡ 3 → ⊥) → is_site_name t ≡ false
    unfolding is_site_number
    site-digits h = site-number ∙ rw (ne_eqb (digits_before u) 3 h)

    module _ (three : digits_before u ≡ 3) where
      pub site_long : 4 < length u → is_site_name t ≡ false
      unfolding is_site_number
      site_long h = site-number ∙ rw (eq-eqb (digits_before u) 3 three, lt-leb (length u) 4 h)

      pub site-last : length u ≤ 4 → is_site_name t ≡ eqb (letters_before (drop 3 u)) (length (drop 3 u))
      unfolding is_site_number
      site-last h = site-number ∙ rw (eq-eqb (digits_before u) 3 three, le-leb (length u) 4 h) (letters_all (drop 3 u))
