-- A strict line is what is shown, but for ? in its name where that is not ASCII: behind the name no byte is changed, as no ? can stand there.
use mathlib.Core.Path.{◌≡◌, refl, sym, ◌∙◌, ap, ap₂, subst}
use mathlib.Core.Bool.{Bool, true, false, cond}
use mathlib.Core.List.{[], ◌∷◌, ◌++◌}
use mathlib.Core.Option.{Option, some, none, some-injective}
use Prim.Native.Nat.{ℕ, zero, suc}
use native.Mathlib.Omega.{arith}
use lib.Dec.{eqb}
use lib.ListN.{take, drop, take-append-drop}
use lib.Seq.{length-take-le}
use Rattle.base_exact.proofs.Decide.{clash, true_not_false, or-false}
use Rattle.base_outcome.specs.Outcome.{answer, refuse}
use Rattle.base_outcome.proofs.Outcome.{answer_unique, answer_not_refusal}
use Rattle.base_text.specs.Bytes.{Text}
use Rattle.base_text.proofs.Lacking.{lacks, byte, byte-outside, lacks-first}
use Rattle.spec_tucson.specs.Line.{name_columns}
use Rattle.spec_tucson.specs.Shown.{has_tab}
use Rattle.spec_tucson.specs.StrictLine.{is_high, any_high, question_mark, bytes_masked, in_range, follow_of, with_masked, characters_from, characters_masked, is_strict, if_strict, only_one}
use Rattle.spec_tucson.specs.StrictLine.{masked, or_refused, strict_bytes, shown_fields, strict_line}
use Rattle.tucson_strict.proofs.Strict.{strict_size, strict_lacks, high_append, strict_ascii}
use Rattle.theorems_clean.specs.Shown.{Masks, by_bytes, by_characters, Reads, as_shown, with_name}

-- the test for ?
abbrev is_mark : ℕ → Bool
is_mark = byte question_mark

-- ---- ? for each byte

bytes_same : (t : Text) → lacks is_mark (bytes_masked t) ≡ true → t ≡ bytes_masked t
unfolding bytes_masked
bytes_same [] e = refl
bytes_same (c ∷ t) e = go (is_high c) refl e (bytes_same t)
  where
    go : (b : Bool) → is_high c ≡ b → lacks is_mark (cond b question_mark c ∷ bytes_masked t) ≡ true → (lacks is_mark (bytes_masked t) ≡ true → t ≡ bytes_masked t)
        → c ∷ t ≡ cond b question_mark c ∷ bytes_masked t
    go true h e ih = absurd (true_not_false {b = is_mark question_mark} refl (lacks-first is_mark question_mark (bytes_masked t) e).0)
    go false h e ih = ap (λ (s : Text). c ∷ s) (ih (lacks-first is_mark c (bytes_masked t) e).1)

bytes_drop : (n : ℕ) (t : Text) → drop n (bytes_masked t) ≡ bytes_masked (drop n t)
unfolding bytes_masked
bytes_drop zero t = refl
bytes_drop (suc n) [] = refl
bytes_drop (suc n) (c ∷ t) = bytes_drop n t

bytes_take : (n : ℕ) (t : Text) → bytes_masked (take n t) ≡ take n (bytes_masked t)
unfolding bytes_masked
bytes_take zero t = refl
bytes_take (suc n) [] = refl
bytes_take (suc n) (c ∷ t) = ap (λ (s : Text). cond (is_high c) question_mark c ∷ s) (bytes_take n t)

-- ---- ? for each character

with-masked : (c : ℕ) (o : Option Text) (u : Text) → with_masked c o ≡ some u → (v : Text) × (o ≡ some v) × (u ≡ c ∷ v)
with-masked c none u e = clash cc
with-masked c (some v) u e = (v, refl, sym (some-injective (c ∷ v) u e))

characters_same : (t : Text) (low high : ℕ) (u : Text) → characters_from zero low high t ≡ some u → lacks is_mark u ≡ true → t ≡ u
unfolding characters_from
characters_same [] low high u e h = some-injective [] u e
characters_same (c ∷ cs) low high u e h = go (is_high c) (eqb (follow_of c).count 0) e (characters_same cs low high)
  where
    marked : (v : Text) → u ≡ question_mark ∷ v → c ∷ cs ≡ u
    marked v w = absurd (true_not_false {b = is_mark question_mark} refl (lacks-first is_mark question_mark v (ap (lacks is_mark) (sym w) ∙ h)).0)

    go : (b n : Bool) → cond b (cond n none (with_masked question_mark (characters_from (follow_of c).count (follow_of c).low (follow_of c).high cs)))
        (with_masked c (characters_from zero low high cs)) ≡ some u
        → ((v : Text) → characters_from zero low high cs ≡ some v → lacks is_mark v ≡ true → cs ≡ v) → c ∷ cs ≡ u
    go true true e ih = clash cc
    go true false e ih = let w = with-masked question_mark (characters_from (follow_of c).count (follow_of c).low (follow_of c).high cs) u e in marked w.0 w.2
    go false n e ih =
        let w = with-masked c (characters_from zero low high cs) u e in
        ap (λ (s : Text). c ∷ s) (ih w.0 w.1 (lacks-first is_mark c w.0 (ap (lacks is_mark) (sym w.2) ∙ h)).1) ∙ sym w.2

-- The text is a front that masks to the first k bytes, and then the others as they are.
record Split (t : Text) (n low high : ℕ) (u : Text) (k : ℕ) : Type 0 where
  front : Text
  is : t ≡ front ++ drop k u
  masks : characters_from n low high front ≡ some (take k u)

drop-none : (k : ℕ) → drop {A = ℕ} k [] ≡ []
drop-none zero = refl
drop-none (suc k) = refl

take_none : (k : ℕ) → take {A = ℕ} k [] ≡ []
take_none zero = refl
take_none (suc k) = refl

characters_end : (t : Text) (n low high : ℕ) (u : Text) (k : ℕ) → characters_from n low high t ≡ some u → lacks is_mark (drop k u) ≡ true → Split t n low high u k
unfolding characters_from
characters_end [] zero low high u k e h =
    let z = some-injective [] u e in
    record {
      front = [];
      is = sym (drop-none k) ∙ ap (λ (s : Text). drop k s) z;
      masks = ap some (sym (take_none k) ∙ ap (λ (s : Text). take k s) z);
    }
characters_end [] (suc n) low high u k e h = clash cc
characters_end (c ∷ cs) (suc n) low high u k e h = go (in_range low high c) refl e (λ f. characters_end cs n 128 191 u k f h)
  where
    go : (b : Bool) → in_range low high c ≡ b → cond b (characters_from n 128 191 cs) none ≡ some u → (characters_from n 128 191 cs ≡ some u → Split cs n 128 191 u k)
        → Split (c ∷ cs) (suc n) low high u k
    go true w e ih =
        let r = ih e in
        record {
          front = c ∷ r.front;
          is = ap (λ (s : Text). c ∷ s) r.is;
          masks = ap (λ (b : Bool). cond b (characters_from n 128 191 r.front) none) w ∙ r.masks;
        }
    go false w e ih = clash cc
characters_end (c ∷ cs) zero low high u zero e h = record { front = []; is = characters_same (c ∷ cs) low high u e h; masks = refl }
characters_end (c ∷ cs) zero low high u (suc k) e h = go (is_high c) refl (eqb (follow_of c).count 0) refl e (λ m l g v. characters_end cs m l g v k)
  where
    go : (b : Bool) → is_high c ≡ b → (n : Bool) → eqb (follow_of c).count 0 ≡ n
        → cond b (cond n none (with_masked question_mark (characters_from (follow_of c).count (follow_of c).low (follow_of c).high cs)))
        (with_masked c (characters_from zero low high cs)) ≡ some u
        → ((m l g : ℕ) (v : Text) → characters_from m l g cs ≡ some v → lacks is_mark (drop k v) ≡ true → Split cs m l g v k) → Split (c ∷ cs) zero low high u (suc k)
    go true p true q e ih = clash cc
    go true p false q e ih =
        let w = with-masked question_mark (characters_from (follow_of c).count (follow_of c).low (follow_of c).high cs) u e in
        let r = ih _ _ _ w.0 w.1 (ap (λ (s : Text). lacks is_mark (drop (suc k) s)) (sym w.2) ∙ h) in
        record {
          front = c ∷ r.front;
          is = ap (λ (s : Text). c ∷ s) r.is ∙ ap (λ (s : Text). c ∷ (r.front ++ drop (suc k) s)) (sym w.2);
          masks =
              ap₂ (λ (x y : Bool). cond x (cond y none (with_masked question_mark (characters_from (follow_of c).count (follow_of c).low (follow_of c).high r.front)))
              (with_masked c (characters_from zero low high r.front))) p q
              ∙ ap (with_masked question_mark) r.masks ∙ ap (λ (s : Text). some (take (suc k) s)) (sym w.2);
        }
    go false p n q e ih =
        let w = with-masked c (characters_from zero low high cs) u e in
        let r = ih zero low high w.0 w.1 (ap (λ (s : Text). lacks is_mark (drop (suc k) s)) (sym w.2) ∙ h) in
        record {
          front = c ∷ r.front;
          is = ap (λ (s : Text). c ∷ s) r.is ∙ ap (λ (s : Text). c ∷ (r.front ++ drop (suc k) s)) (sym w.2);
          masks =
              ap (λ (x : Bool). cond x (cond (eqb (follow_of c).count 0) none (with_masked question_mark (characters_from (follow_of c).count (follow_of c).low (follow_of c).high r.front)))
              (with_masked c (characters_from zero low high r.front))) p
              ∙ ap (with_masked c) r.masks ∙ ap (λ (s : Text). some (take (suc k) s)) (sym w.2);
        }

-- ---- the strict line

pub record ReadAs (bytes text : Text) : Type 0 where
  pub strict : is_strict text ≡ true
  pub reads : Reads bytes text

-- no ? behind the name
no_mark : (u : Text) → is_strict u ≡ true → lacks is_mark (drop name_columns u) ≡ true
no_mark u e = strict_lacks is_mark (byte-outside question_mark refl refl) refl u e

by_end : (t u front : Text) → any_high t ≡ true → is_strict u ≡ true → t ≡ front ++ drop name_columns u → Masks front (take name_columns u) → ReadAs t u
by_end t u front h s is m =
    let low = (or-false (any_high (take name_columns u)) (any_high (drop name_columns u))
    (sym (high_append (take name_columns u) (drop name_columns u)) ∙ ap any_high (take-append-drop name_columns u) ∙ strict_ascii u s)).1 in
    record {
      strict = s;
      reads = subst (Reads t) (take-append-drop name_columns u)
          (with_name front (take name_columns u) (drop name_columns u) h is (length-take-le name_columns u (omega (arith, strict_size u s))) m low);
    }

of_bytes : (t : Text) → any_high t ≡ true → is_strict (bytes_masked t) ≡ true → ReadAs t (bytes_masked t)
of_bytes t h s =
    by_end t (bytes_masked t) (take name_columns t) h s
    (sym (take-append-drop name_columns t)
    ∙ ap (λ (r : Text). take name_columns t ++ r)
    (bytes_same (drop name_columns t) (ap (lacks is_mark) (sym (bytes_drop name_columns t)) ∙ no_mark (bytes_masked t) s) ∙ sym (bytes_drop name_columns t)))
    (by_bytes (bytes_take name_columns t))

of_characters : (t u : Text) → any_high t ≡ true → characters_masked t ≡ some u → is_strict u ≡ true → ReadAs t u
of_characters t u h e s = let r = characters_end t 0 0 0 u name_columns e (no_mark u s) in by_end t u r.front h s r.is (by_characters r.masks)

of_masked : (t u : Text) → any_high t ≡ true → masked t ≡ some u → ReadAs t u
unfolding masked
of_masked t u h e = go (is_strict (bytes_masked t)) refl (characters_masked t) refl e
  where
    second : (v : Text) → characters_masked t ≡ some v → (b : Bool) → is_strict v ≡ b → cond b (some v) none ≡ some u → ReadAs t u
    second v w true s e = subst (ReadAs t) (some-injective v u e) (of_characters t v h w s)
    second v w false s e = clash cc

    first : is_strict (bytes_masked t) ≡ true → (o : Option Text) → only_one true (bytes_masked t) o ≡ some u → ReadAs t u
    first s none e = subst (ReadAs t) (some-injective (bytes_masked t) u e) (of_bytes t h s)
    first s (some v) e = clash cc

    go : (b : Bool) → is_strict (bytes_masked t) ≡ b → (o : Option Text) → characters_masked t ≡ o → only_one b (bytes_masked t) (if_strict o) ≡ some u → ReadAs t u
    go true s o w e = first s (if_strict o) e
    go false s none w e = clash cc
    go false s (some v) w e = second v w (is_strict v) refl e

pub strict_reads : (place : ℕ) (raw t : Text) → strict_line place raw ≡ answer t → ReadAs (shown_fields raw) t
unfolding strict_line strict_bytes
strict_reads place raw t e = go (any_high u) refl (has_tab raw) (is_strict u) refl e
  where
    u : Text
    u = shown_fields raw

    by_mask : any_high u ≡ true → (o : Option Text) → masked u ≡ o → or_refused place o ≡ answer t → ReadAs u t
    by_mask h none w e = absurd (answer_not_refusal e refl)
    by_mask h (some v) w e = subst (ReadAs u) (answer_unique refl e) (of_masked u v h w)

    go : (high : Bool) → any_high u ≡ high → (tabbed b : Bool) → is_strict u ≡ b
        → cond high (cond tabbed (refuse 22 place) (or_refused place (masked u))) (cond b (answer u) (refuse 11 place)) ≡ answer t → ReadAs u t
    go true h true b s e = absurd (answer_not_refusal e refl)
    go true h false b s e = by_mask h (masked u) refl e
    go false h tabbed true s e = subst (ReadAs u) (answer_unique refl e) (record { strict = s; reads = as_shown h })
    go false h tabbed false s e = absurd (answer_not_refusal e refl)
