-- The numbers of a list of either kind: what stands between its commas and colons are its entries' numbers, in their order.
use mathlib.Core.Path.{◌≡◌, refl, sym, ◌∙◌, ap, ap₂}
use mathlib.Core.Bool.{Bool, true, false, cond, ◌||◌}
use mathlib.Core.List.{List, [], ◌∷◌, ◌++◌}
use mathlib.Core.Option.{Option, some, none}
use Prim.Native.Nat.{ℕ, ◌≤◌}
use native.Mathlib.Omega.{arith}
use borrow.Author.Tests.{eqb-true, leb-true}
use lib.Dec.{eqb, leb}
use lib.IntN.{ℤ}
use lib.ListN.{length}
use Rattle.base_exact.proofs.Decide.{clash}
use Rattle.spec_spline.specs.Reading.{Pair, side_by_side}
use Rattle.base_text.specs.Bytes.{Text, comma, colon, Cut, with_byte, cut, on_first, fields_between, fields}
use Rattle.base_text.specs.Numeral.{numeral}
use Rattle.base_text.proofs.Lacking.{Outside, byte, byte-outside, either-outside, numeral-lacks, fields-only, fields-first}
use Rattle.spec_sheet.specs.SheetReading.{both_of, sides_of, pair, prepended, entries, limited_list, list_of, list_limit}
use Rattle.sheet_read.specs.Machine.{is_separator, numerals_of}
use Rattle.sheet_read.proofs.Filling.{prepended_some}

-- ---- the limit

-- no list has more entries than the limit
limited_some : {A : Type 0} (o : Option (List A)) (xs : List A) → limited_list o ≡ some xs → (o ≡ some xs) × (length xs ≤ list_limit)
limited_some none xs e = clash cc
limited_some (some ys) xs e = go (leb (length ys) list_limit) refl e
  where
    go : (b : Bool) → leb (length ys) list_limit ≡ b → cond b (some ys) none ≡ some xs → (some ys ≡ some xs) × (length xs ≤ list_limit)
    go true k e = (e, let same : ys ≡ xs = cc in rw same at (leb-true (length ys) list_limit k))
    go false k e = clash cc

pub list_few : {A : Type 0} (entry : Text → Option A) (t : Text) (xs : List A) → list_of entry t ≡ some xs → length xs ≤ list_limit
unfolding list_of
list_few entry [] xs e = let empty : xs ≡ [] = cc in rw empty (omega arith)
list_few entry (c ∷ cs) xs e = (limited_some (entries entry (fields (c ∷ cs))) xs e).1

-- ---- separators within the fields

-- Each field cut at its separators.
abbrev apart : List Text → List Text
apart [] = []
apart (f ∷ fs) = fields_between is_separator f ++ apart fs

-- a byte that is no separator goes to the front of the first part
front : (c : ℕ) (fs gs : List Text) → ((fs ≡ []) → ⊥) → on_first c (fs ++ gs) ≡ on_first c fs ++ gs
front c [] gs h = absurd (h refl)
front c (f ∷ fs) gs h = refl

between_any : (picks : ℕ → Bool) (t : Text) → fields_between picks t ≡ [] → ⊥
unfolding fields_between
between_any picks [] e = clash cc
between_any picks (c ∷ cs) e = go (picks c) e
  where
    on_first_any : (fs : List Text) → on_first c fs ≡ [] → ⊥
    on_first_any [] f = clash cc
    on_first_any (g ∷ gs) f = clash cc

    go : (b : Bool) → cond b ([] ∷ fields_between picks cs) (on_first c (fields_between picks cs)) ≡ [] → ⊥
    go true f = clash cc
    go false f = on_first_any (fields_between picks cs) f

abbrev separated : Text → List Text
separated = fields_between is_separator

separated-apart : (t : Text) → separated t ≡ apart (fields t)
unfolding fields_between
separated-apart [] = refl
separated-apart (c ∷ cs) = go (eqb c comma) (eqb c colon) refl refl (fields cs) (between_any _ cs) (separated-apart cs)
  where
    go : (b d : Bool) → eqb c comma ≡ b → eqb c colon ≡ d → (fs : List Text) → (fs ≡ [] → ⊥) → separated cs ≡ apart fs →
        cond (b || d) ([] ∷ separated cs) (on_first c (separated cs)) ≡ apart (cond b ([] ∷ fs) (on_first c fs))
    go true d p q fs h ih = ap (λ (gs : List Text). [] ∷ gs) ih
    go false d p q [] h ih = absurd (h refl)
    go false true p q (f ∷ fs) h ih = rw (p, q) (ap (λ (gs : List Text). [] ∷ gs) ih)
    go false false p q (f ∷ fs) h ih = rw (p, q) (ap (on_first c) ih ∙ front c (separated f) (apart fs) (between_any is_separator f))

-- ---- the numbers of an entry

abbrev separator-outside : Outside is_separator
separator-outside = either-outside (byte comma) (byte colon) (byte-outside comma refl refl) (byte-outside colon refl refl)

-- the two sides of the first colon
cut-sides : (b : ℕ) (t : Text) (c : Cut) → cut b t ≡ some c → t ≡ c.before ++ (b ∷ c.after)
unfolding cut
cut-sides b [] c e = clash cc
cut-sides b (a ∷ t) c e = go (eqb a b) refl e (cut-sides b t)
  where
    later : (o : Option Cut) → with_byte a o ≡ some c → ((d : Cut) → o ≡ some d → t ≡ d.before ++ (b ∷ d.after)) → a ∷ t ≡ c.before ++ (b ∷ c.after)
    later none f ih = clash cc
    later (some d) f ih =
        let same : record { before = a ∷ d.before; after = d.after } ≡ c = cc in
        ap (λ (l : Text). a ∷ l) (ih d refl) ∙ ap (λ (k : Cut). k.before ++ (b ∷ k.after)) same

    go : (s : Bool) → eqb a b ≡ s → cond s (some (record { before = []; after = t })) (with_byte a (cut b t)) ≡ some c →
        ((d : Cut) → cut b t ≡ some d → t ≡ d.before ++ (b ∷ d.after)) → a ∷ t ≡ c.before ++ (b ∷ c.after)
    go true q f ih =
        let same : record { before = []; after = t } ≡ c = cc in
        ap (λ (x : ℕ). x ∷ t) (eqb-true a b q) ∙ ap (λ (k : Cut). k.before ++ (b ∷ k.after)) same
    go false q f ih = later (cut b t) f ih

pair-sides : (t : Text) (p : Pair) → pair t ≡ some p → (c : Cut) × (t ≡ c.before ++ (colon ∷ c.after)) × (numeral c.before ≡ some p.early)
    × (numeral c.after ≡ some p.late)
unfolding pair
pair-sides t p e = go (cut colon t) refl e
  where
    both : (a b : Option ℤ) → both_of a b ≡ some p → (a ≡ some p.early) × (b ≡ some p.late)
    both none b f = clash cc
    both (some y) none f = clash cc
    both (some y) (some z) f =
        let same : record { early = y; late = z } ≡ p = cc in
        (ap (λ (q : Pair). some q.early) same, ap (λ (q : Pair). some q.late) same)

    go : (o : Option Cut) → cut colon t ≡ o → sides_of o ≡ some p
        → (c : Cut) × (t ≡ c.before ++ (colon ∷ c.after)) × (numeral c.before ≡ some p.early) × (numeral c.after ≡ some p.late)
    go none q f = clash cc
    go (some c) q f = let sides = both (numeral c.before) (numeral c.after) f in (c, cut-sides colon t c q, sides.0, sides.1)

numeral-only : (f : Text) (z : ℤ) → numeral f ≡ some z → separated f ≡ f ∷ []
numeral-only f z e = fields-only is_separator f (numeral-lacks is_separator separator-outside f z e)

-- The numbers between the separators of each field are those of its entry.
abbrev Spelled : {A : Type 0} → (Text → Option A) → (A → List ℤ) → Type 0
Spelled {A} entry numerals_in = (f : Text) (x : A) → entry f ≡ some x → entries numeral (separated f) ≡ some (numerals_in x)

numeral_numeraled : Spelled numeral (λ z. z ∷ [])
unfolding entries
numeral_numeraled f z e = ap (entries numeral) (numeral-only f z e) ∙ ap (λ (o : Option ℤ). prepended o (some [])) e

pair-spelled : Spelled pair (λ p. p.early ∷ p.late ∷ [])
unfolding entries
pair-spelled f p e =
    let s = pair-sides f p e in
    let first =
    fields-first is_separator s.0.before colon s.0.after refl
    (numeral-lacks is_separator separator-outside s.0.before p.early s.2) in
    ap (λ (t : Text). entries numeral (separated t)) s.1
    ∙ ap (entries numeral) (first ∙ ap (λ (fs : List Text). s.0.before ∷ fs) (numeral-only s.0.after p.late s.3))
    ∙ ap₂ (λ (a b : Option ℤ). prepended a (prepended b (some []))) s.2 s.3

-- ---- the numbers of a list

entries_append : (fs gs : List Text) (ys zs : List ℤ) → entries numeral fs ≡ some ys → entries numeral gs ≡ some zs
    → entries numeral (fs ++ gs) ≡ some (ys ++ zs)
unfolding entries
entries_append [] gs ys zs e h = let none_before : [] ≡ ys = cc in h ∙ ap (λ (l : List ℤ). some (l ++ zs)) none_before
entries_append (f ∷ fs) gs ys zs e h =
    let q = prepended_some (numeral f) (entries numeral fs) ys e in
    ap₂ prepended q.2 (entries_append fs gs q.1 zs q.3 h)
    ∙ ap (λ (l : List ℤ). some (l ++ zs)) (sym q.4)

-- The numbers of the entries, one after the other.
abbrev laid_out : {A : Type 0} → (A → List ℤ) → List A → List ℤ
laid_out numerals_in [] = []
laid_out numerals_in (x ∷ xs) = numerals_in x ++ laid_out numerals_in xs

module _ {A : Type 0} (entry : Text → Option A) (numerals_in : A → List ℤ) (spelled : Spelled entry numerals_in) where
  apart-numerals : (fs : List Text) (xs : List A) → entries entry fs ≡ some xs → entries numeral (apart fs) ≡ some (laid_out numerals_in xs)
  unfolding entries
  apart-numerals [] xs e = let empty : [] ≡ xs = cc in ap (λ (l : List A). some (laid_out numerals_in l)) empty
  apart-numerals (f ∷ fs) xs e =
      let q = prepended_some (entry f) (entries entry fs) xs e in
      entries_append (separated f) (apart fs) (numerals_in q.0) (laid_out numerals_in q.1) (spelled f q.0 q.2) (apart-numerals fs q.1 q.3)
      ∙ ap (λ (l : List A). some (laid_out numerals_in l)) (sym q.4)

  list_numerals : (t : Text) (xs : List A) → list_of entry t ≡ some xs → numerals_of t ≡ some (laid_out numerals_in xs)
  unfolding list_of numerals_of
  list_numerals [] xs e = let empty : [] ≡ xs = cc in ap (λ (l : List A). some (laid_out numerals_in l)) empty
  list_numerals (c ∷ cs) xs e =
      ap (entries numeral) (separated-apart (c ∷ cs))
      ∙ apart-numerals (fields (c ∷ cs)) xs (limited_some (entries entry (fields (c ∷ cs))) xs e).0

singles : (zs : List ℤ) → laid_out (λ z. z ∷ []) zs ≡ zs
singles [] = refl
singles (z ∷ zs) = ap (λ (l : List ℤ). z ∷ l) (singles zs)

pairs : (ps : List Pair) → laid_out (λ p. p.early ∷ p.late ∷ []) ps ≡ side_by_side ps
unfolding side_by_side
pairs [] = refl
pairs (p ∷ ps) = ap (λ (l : List ℤ). p.early ∷ p.late ∷ l) (pairs ps)

pub plain-numerals : (t : Text) (zs : List ℤ) → list_of numeral t ≡ some zs → numerals_of t ≡ some zs
plain-numerals t zs e = list_numerals numeral (λ z. z ∷ []) numeral_numeraled t zs e ∙ ap some (singles zs)

pub pair-numerals : (t : Text) (ps : List Pair) → list_of pair t ≡ some ps → numerals_of t ≡ some (side_by_side ps)
pair-numerals t ps e = list_numerals pair (λ p. p.early ∷ p.late ∷ []) pair-spelled t ps e ∙ ap some (pairs ps)
