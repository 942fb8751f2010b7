-- Where a text is cut: that the library finds a byte and compares a key as the definitions say, and what `cut`, `fields` and
-- `stripped` give once the index or the answer is known.
use mathlib.Core.Path.{◌≡◌, refl, ◌∙◌, ap}
use mathlib.Core.Bool.{Bool, true, false, cond, ◌&&◌, not}
use mathlib.Core.List.{[], ◌∷◌, ◌++◌}
use mathlib.Core.Option.{Option, some, none, some-injective}
use Prim.Native.Nat.{ℕ, suc, ◌<◌, ◌≤◌}
use native.Mathlib.Omega.{arith}
use borrow.Author.Tests.{eqb-true, ltb-false}
use lib.Dec.{eqb, ltb}
use lib.ListN.{length, take, drop}
use Rattle.std.proofs.Common.{Some, None}
use Rattle.std.specs.List.{position_or_len, starts_with}
use Rattle.std.proofs.lemmas.Bool.Decides.{nat_tests}
use Rattle.std.proofs.lemmas.List.Recursion.{is_position_or_len}
use Rattle.std.proofs.lemmas.List.Sums.{prefix_len-le-length}
use Rattle.base_exact.proofs.Decide.{clash}
use Rattle.base_text.specs.Bytes.{Text, Cut, with_byte, cut, on_first, fields_between, stripped, index_where, index_of, begins_with}

-- ---- the index of a byte, as a slice's `position` gives it
index_is : (b : ℕ) (t : Text) → index_of b t ≡ position_or_len (λ c. eqb c b) t
unfolding index_where
index_is b t = is_position_or_len (index_of b) (λ c. eqb c b) refl (λ c cs. ap (cond (eqb c b) 0) (omega arith)) t

module _ (b : ℕ) (t : Text) where
  abbrev place : ℕ
  place = position_or_len (λ c. eqb c b) t

  pub position_found : (k : ℕ) → cond (ltb place (length t)) (Some place) None ≡ Some k → index_of b t ≡ k
  position_found k e = index_is b t ∙ go (ltb place (length t)) e
    where
      go : (s : Bool) → cond s (Some place) None ≡ Some k → place ≡ k
      go true e = cc
      go false e = clash cc

  pub position_none : cond (ltb place (length t)) (Some place) None ≡ None → index_of b t ≡ length t
  position_none e = go (ltb place (length t)) refl e
    where
      go : (s : Bool) → ltb place (length t) ≡ s → cond s (Some place) None ≡ None → index_of b t ≡ length t
      go true w e = clash cc
      go false w e = omega (arith, index_is b t, ltb-false place (length t) w, prefix_len-le-length (λ c. not (eqb c b)) t)

pub index-within : (picks : ℕ → Bool) (t : Text) → index_where picks t ≤ length t
unfolding index_where
index-within picks [] = omega arith
index-within picks (c ∷ cs) = go (picks c) (index-within picks cs)
  where
    go : (e : Bool) → index_where picks cs ≤ length cs → cond e 0 (suc (index_where picks cs)) ≤ suc (length cs)
    go true h = omega arith
    go false h = omega arith

-- ---- cutting at the index
pub cut-none : (b : ℕ) (t : Text) → index_of b t ≡ length t → cut b t ≡ none
unfolding index_where cut
cut-none b [] e = refl
cut-none b (c ∷ cs) e = go (eqb c b) e (cut-none b cs)
  where
    go : (s : Bool) → cond s 0 (suc (index_of b cs)) ≡ suc (length cs) → (index_of b cs ≡ length cs → cut b cs ≡ none) →
        cond s (some (record { before = []; after = cs })) (with_byte c (cut b cs)) ≡ none
    go true e ih = absurd (omega arith)
    go false e ih = ap (with_byte c) (ih (omega arith))

pub cut_some : (b : ℕ) (t : Text) → index_of b t < length t → cut b t ≡ some (record { before = take (index_of b t) t; after = drop (suc (index_of b t)) t })
unfolding index_where cut
cut_some b [] h = absurd (omega arith)
cut_some b (c ∷ cs) h = go (eqb c b) h (cut_some b cs)
  where
    go : (s : Bool) → cond s 0 (suc (index_of b cs)) < suc (length cs) →
        (index_of b cs < length cs → cut b cs ≡ some (record { before = take (index_of b cs) cs; after = drop (suc (index_of b cs)) cs })) →
        cond s (some (record { before = []; after = cs })) (with_byte c (cut b cs))
        ≡ some (record { before = take (cond s 0 (suc (index_of b cs))) (c ∷ cs); after = drop (suc (cond s 0 (suc (index_of b cs)))) (c ∷ cs) })
    go true h ih = refl
    go false h ih = ap (with_byte c) (ih (omega arith))

-- the two parts of a cut with its byte between
abbrev pub joined : ℕ → Cut → Text
joined b c = c.before ++ (b ∷ c.after)

with_byte-joins : (b d : ℕ) (t : Text) (o : Option Cut) (c : Cut) → ((r : Cut) → o ≡ some r → t ≡ joined b r) → with_byte d o ≡ some c → d ∷ t ≡ joined b c
with_byte-joins b d t none c ih e = clash cc
with_byte-joins b d t (some r) c ih e =
    ap (λ (s : Text). d ∷ s) (ih r refl) ∙ ap (joined b) (some-injective (record { before = d ∷ r.before; after = r.after }) c e)

-- a text that is cut is its two parts
pub cut-joins : (b : ℕ) (t : Text) (c : Cut) → cut b t ≡ some c → t ≡ joined b c
unfolding cut
cut-joins b [] c e = clash cc
cut-joins b (d ∷ t) c e = go (eqb d b) refl e (cut-joins b t)
  where
    go : (s : Bool) → eqb d b ≡ s → cond s (some (record { before = []; after = t })) (with_byte d (cut b t)) ≡ some c
        → ((r : Cut) → cut b t ≡ some r → t ≡ joined b r) → d ∷ t ≡ joined b c
    go true w e ih = ap (λ (x : ℕ). x ∷ t) (eqb-true d b w) ∙ ap (joined b) (some-injective (record { before = []; after = t }) c e)
    go false w e ih = with_byte-joins b d t (cut b t) c ih e

-- ---- the fields: the one before the first byte that is picked, and those after it
module _ (picks : ℕ → Bool) where
  pub fields_one : (t : Text) → index_where picks t ≡ length t → fields_between picks t ≡ t ∷ []
  unfolding index_where fields_between
  fields_one [] e = refl
  fields_one (c ∷ cs) e = go (picks c) e (fields_one cs)
    where
      go : (s : Bool) → cond s 0 (suc (index_where picks cs)) ≡ suc (length cs) → (index_where picks cs ≡ length cs → fields_between picks cs ≡ cs ∷ []) →
          cond s ([] ∷ fields_between picks cs) (on_first c (fields_between picks cs)) ≡ (c ∷ cs) ∷ []
      go true e ih = absurd (omega arith)
      go false e ih = ap (on_first c) (ih (omega arith))

  pub fields_more : (t : Text) → index_where picks t < length t
      → fields_between picks t ≡ take (index_where picks t) t ∷ fields_between picks (drop (suc (index_where picks t)) t)
  unfolding index_where fields_between
  fields_more [] h = absurd (omega arith)
  fields_more (c ∷ cs) h = go (picks c) h (fields_more cs)
    where
      go : (s : Bool) → cond s 0 (suc (index_where picks cs)) < suc (length cs) →
          (index_where picks cs < length cs
          → fields_between picks cs ≡ take (index_where picks cs) cs ∷ fields_between picks (drop (suc (index_where picks cs)) cs)) →
          cond s ([] ∷ fields_between picks cs) (on_first c (fields_between picks cs))
          ≡ take (cond s 0 (suc (index_where picks cs))) (c ∷ cs) ∷ fields_between picks (drop (suc (cond s 0 (suc (index_where picks cs)))) (c ∷ cs))
      go true h ih = refl
      go false h ih = ap (on_first c) (ih (omega arith))

-- ---- a key at the beginning, as a slice's `starts_with` compares it
same-test : (p c : ℕ) → eqb p c ≡ eqb c p
same-test p c = grind (arith, nat_tests)

pub starts_is : (key t : Text) → starts_with eqb t key ≡ begins_with key t
unfolding begins_with
starts_is [] t = refl
starts_is (p ∷ ps) [] = refl
starts_is (p ∷ ps) (c ∷ cs) = rw (same-test p c) (go (eqb c p) (starts_is ps cs))
  where
    go : (s : Bool) → starts_with eqb cs ps ≡ begins_with ps cs → (s && starts_with eqb cs ps) ≡ cond s (begins_with ps cs) false
    go true ih = ih
    go false ih = refl

pub stripped-none : (key t : Text) → begins_with key t ≡ false → stripped key t ≡ none
unfolding begins_with stripped
stripped-none [] t e = clash cc
stripped-none (p ∷ ps) [] e = refl
stripped-none (p ∷ ps) (c ∷ cs) e = go (eqb c p) e (stripped-none ps cs)
  where
    go : (s : Bool) → cond s (begins_with ps cs) false ≡ false → (begins_with ps cs ≡ false → stripped ps cs ≡ none) → cond s (stripped ps cs) none ≡ none
    go true e ih = ih e
    go false e ih = refl

pub stripped_some : (key t : Text) → begins_with key t ≡ true → (length key ≤ length t) × (stripped key t ≡ some (drop (length key) t))
unfolding begins_with stripped
stripped_some [] t e = (omega arith, refl)
stripped_some (p ∷ ps) [] e = clash cc
stripped_some (p ∷ ps) (c ∷ cs) e = go (eqb c p) e (stripped_some ps cs)
  where
    go : (s : Bool) → cond s (begins_with ps cs) false ≡ true
        → (begins_with ps cs ≡ true → (length ps ≤ length cs) × (stripped ps cs ≡ some (drop (length ps) cs))) →
        (suc (length ps) ≤ suc (length cs)) × (cond s (stripped ps cs) none ≡ some (drop (length ps) cs))
    go true e ih = (omega (arith, (ih e).0), (ih e).1)
    go false e ih = clash cc
