-- The form of a line that alone is a strict line, and how long such a line can be.
use mathlib.Core.Path.{◌≡◌, refl, sym, ◌∙◌, ap, ap₂}
use mathlib.Core.Bool.{Bool, true, false, cond}
use mathlib.Core.List.{[], ◌∷◌, ◌++◌}
use mathlib.Core.Option.{Option, some, none, some-injective}
use Prim.Native.Nat.{ℕ, zero, suc, ◌+◌, ◌*◌, ◌<◌, ◌≤◌}
use native.Mathlib.Omega.{arith}
use borrow.Author.Tests.{ne_eqb, leb-true, leb-false, le-leb}
use lib.Dec.{eqb, leb}
use lib.ListN.{length, take, drop, length-map, take-append-drop}
use lib.Seq.{length-take-le}
use Rattle.base_exact.proofs.Decide.{clash, or-false}
use Rattle.base_text.specs.Bytes.{Text}
use Rattle.base_text.proofs.Lacking.{lacks, lacks-first, byte, byte-outside}
use Rattle.spec_tucson.specs.Line.{name_columns}
use Rattle.spec_tucson.specs.StrictLine.{is_high, any_high, question_mark, bytes_masked, in_range, follow, follow_of, with_masked, characters_from, characters_masked}
use Rattle.spec_tucson.specs.StrictLine.{is_strict, if_strict, masked, line_columns}
use Rattle.tucson_strict.proofs.Strict.{strict_size, strict_long, strict_lacks, take_longer}
use Rattle.tucson_columns.specs.Machine.{cells}
use Rattle.tucson_columns.proofs.Shown.{take_few}
use Rattle.tucson_masks.specs.Machine.{masked_byte, MaskedTold}

-- ---- ? for bytes
pub masked-size : (t : Text) → length (bytes_masked t) ≡ length t
unfolding bytes_masked
masked-size t = length-map t masked_byte

pub masked_ascii : (t : Text) → any_high t ≡ false → bytes_masked t ≡ t
unfolding bytes_masked any_high
masked_ascii [] e = refl
masked_ascii (c ∷ t) e =
    let both = or-false (is_high c) (any_high t) e in
    ap₂ (λ (b : Bool) (u : Text). cond b question_mark c ∷ u) both.0 (masked_ascii t both.1)

-- ---- the one form
module _ (t : Text) where
  pub both_forms : (u : Text) → is_strict (bytes_masked t) ≡ true → characters_masked t ≡ some u → is_strict u ≡ true → masked t ≡ none
  unfolding masked
  both_forms u a e b = rw (a, e, b)

  pub first_form : is_strict (bytes_masked t) ≡ true → if_strict (characters_masked t) ≡ none → masked t ≡ some (bytes_masked t)
  unfolding masked
  first_form a e = rw (a, e)

  pub second_form : (u : Text) → is_strict (bytes_masked t) ≡ false → characters_masked t ≡ some u → is_strict u ≡ true → masked t ≡ some u
  unfolding masked
  second_form u a e b = rw (a, e, b)

  pub no_form : is_strict (bytes_masked t) ≡ false → if_strict (characters_masked t) ≡ none → masked t ≡ none
  unfolding masked
  no_form a e = rw (a, e)

-- ---- how long a line can be
-- how many ? there are
abbrev marks : Text → ℕ
marks [] = 0
marks (c ∷ cs) = cond (eqb c question_mark) (suc (marks cs)) (marks cs)

marks_some : (c : ℕ) (cs : Text) → marks cs ≤ marks (c ∷ cs)
marks_some c cs = go (eqb c question_mark)
  where
    go : (b : Bool) → marks cs ≤ cond b (suc (marks cs)) (marks cs)
    go true = omega arith
    go false = omega arith

marks_append : (s t : Text) → marks (s ++ t) ≡ marks s + marks t
marks_append [] t = omega arith
marks_append (c ∷ s) t = go (eqb c question_mark) (marks_append s t)
  where
    go : (b : Bool) → marks (s ++ t) ≡ marks s + marks t → cond b (suc (marks (s ++ t))) (marks (s ++ t)) ≡ cond b (suc (marks s)) (marks s) + marks t
    go true e = omega arith
    go false e = omega arith

marks_few : (t : Text) → marks t ≤ length t
marks_few [] = omega arith
marks_few (c ∷ t) = go (eqb c question_mark) (marks_few t)
  where
    go : (b : Bool) → marks t ≤ length t → cond b (suc (marks t)) (marks t) ≤ suc (length t)
    go true e = omega arith
    go false e = omega arith

marks-none : (t : Text) → lacks (byte question_mark) t ≡ true → marks t ≡ 0
marks-none [] e = refl
marks-none (c ∷ t) e = let both = lacks-first (byte question_mark) c t e in ap (λ (b : Bool). cond b (suc (marks t)) (marks t)) both.0 ∙ marks-none t both.1

-- no character has more than four bytes
follow_few : (c : ℕ) → (follow_of c).count ≤ 3
unfolding follow_of
follow_few c =
    go (in_range 194 223 c) (eqb c 224) (eqb c 237) (in_range 225 239 c) (eqb c 240) (in_range 241 243 c) (eqb c 244)
  where
    go : (a b d e f g h : Bool) → (cond a (follow 1 128 191) (cond b (follow 2 160 191) (cond d (follow 2 128 159) (cond e (follow 2 128 191)
        (cond f (follow 3 144 191) (cond g (follow 3 128 191) (cond h (follow 3 128 143) (follow 0 0 0)))))))).count ≤ 3
    go true b d e f g h = omega arith
    go false true d e f g h = omega arith
    go false false true e f g h = omega arith
    go false false false true f g h = omega arith
    go false false false false true g h = omega arith
    go false false false false false true h = omega arith
    go false false false false false false true = omega arith
    go false false false false false false false = omega arith

-- each ? stands for four bytes at most
longest : (k l h : ℕ) (t u : Text) → characters_from k l h t ≡ some u → length t ≤ k + (length u + 3 * marks u)
unfolding characters_from
longest zero l h [] u e = omega arith
longest (suc k) l h [] u e = clash cc
longest (suc k) l h (c ∷ cs) u e = go (in_range l h c) e (longest k 128 191 cs u)
  where
    go : (b : Bool) → cond b (characters_from k 128 191 cs) none ≡ some u → (characters_from k 128 191 cs ≡ some u → length cs ≤ k + (length u + 3 * marks u))
        → suc (length cs) ≤ suc k + (length u + 3 * marks u)
    go true e ih = omega (arith, ih e)
    go false e ih = clash cc
longest zero l h (c ∷ cs) u e =
    go (is_high c) (eqb (follow_of c).count 0) e (longest (follow_of c).count (follow_of c).low (follow_of c).high cs) (longest zero l h cs)
  where
    front : (d : ℕ) (o : Option Text) → with_masked d o ≡ some u → (m : ℕ) → ((v : Text) → o ≡ some v → length cs ≤ m + (length v + 3 * marks v))
        → (v : Text) × ((u ≡ d ∷ v) × (length cs ≤ m + (length v + 3 * marks v)))
    front d none e m ih = clash cc
    front d (some v) e m ih = (v, (sym (some-injective (d ∷ v) u e), ih v refl))

    go : (a b : Bool) →
        cond a (cond b none (with_masked question_mark (characters_from (follow_of c).count (follow_of c).low (follow_of c).high cs))) (with_masked c (characters_from zero l h cs)) ≡ some u →
        ((v : Text) → characters_from (follow_of c).count (follow_of c).low (follow_of c).high cs ≡ some v → length cs ≤ (follow_of c).count + (length v + 3 * marks v)) →
        ((v : Text) → characters_from zero l h cs ≡ some v → length cs ≤ 0 + (length v + 3 * marks v)) →
        suc (length cs) ≤ 0 + (length u + 3 * marks u)
    go true true e ih jh = clash cc
    go true false e ih jh =
        let f = front question_mark (characters_from (follow_of c).count (follow_of c).low (follow_of c).high cs) e (follow_of c).count ih in
        rw f.1.0 (omega (arith, f.1.1, follow_few c))
    go false b e ih jh =
        let f = front c (characters_from zero l h cs) e 0 jh in
        rw f.1.0 (omega (arith, f.1.1, marks_some c f.0))

-- a line that becomes a strict one has at most eight such characters, in its name
pub characters_size : (t u : Text) → characters_masked t ≡ some u → is_strict u ≡ true → length t ≤ cells
characters_size t u e s =
    let behind : marks (drop name_columns u) ≡ 0 = marks-none (drop name_columns u) (strict_lacks (byte question_mark) (byte-outside question_mark refl refl) refl u s) in
    let front : marks (take name_columns u) ≤ 8 = omega (arith, marks_few (take name_columns u), take_few name_columns u) in
    let all : marks u ≡ marks (take name_columns u) + marks (drop name_columns u) = ap marks (sym (take-append-drop name_columns u)) ∙ marks_append (take name_columns u) (drop name_columns u) in
    omega (arith, longest 0 0 0 t u e, strict_size u s)

pub masked_long : (t : Text) → cells < length t → masked t ≡ none
masked_long t h = no_form t (strict_long (bytes_masked t) (rw (masked-size t) (omega arith))) (go (characters_masked t) refl)
  where
    strict_or : (u : Text) (b : Bool) → is_strict u ≡ b → characters_masked t ≡ some u → cond b (some u) none ≡ none
    strict_or u true s e = absurd (omega (arith, characters_size t u e s))
    strict_or u false s e = refl

    go : (o : Option Text) → characters_masked t ≡ o → if_strict o ≡ none
    go none e = refl
    go (some u) e = strict_or u (is_strict u) refl e

-- ---- the second form at the front of an array
strict_count : (n : ℕ) (line : Text) → length line ≡ cells → is_strict (take n line) ≡ true → (18 ≤ n) × (n ≤ line_columns)
strict_count n line e s = go (leb n line_columns) refl
  where
    go : (b : Bool) → leb n line_columns ≡ b → (18 ≤ n) × (n ≤ line_columns)
    go true w = omega (arith, strict_size (take n line) s, leb-true n line_columns w, length-take-le n line (omega (arith, leb-true n line_columns w)))
    go false w = absurd (omega (arith, strict_size (take n line) s, take_longer line_columns n line (leb-false n line_columns w) (omega arith)))

module _ (t line : Text) (n : ℕ) (room : length line ≡ cells) (told : characters_masked t ≡ cond (leb n cells) (some (take n line)) none) where
  pub second_is : is_strict (take n line) ≡ true → characters_masked t ≡ some (take n line)
  second_is s = told ∙ ap (λ (b : Bool). cond b (some (take n line)) none) (le-leb n cells (omega (arith, strict_count n line room s)))

  pub second_not : is_strict (take n line) ≡ false → if_strict (characters_masked t) ≡ none
  second_not s = ap if_strict told ∙ go (leb n cells)
    where
      go : (b : Bool) → if_strict (cond b (some (take n line)) none) ≡ none
      go true = rw s
      go false = refl

  -- the second form again
  pub second-again : (u : Text) → characters_masked t ≡ some u → is_strict u ≡ true → is_strict (bytes_masked t) ≡ false → MaskedTold t n line
  second-again u e s f = go (leb n cells) refl (sym e ∙ told)
    where
      go : (b : Bool) → leb n cells ≡ b → some u ≡ cond b (some (take n line)) none → MaskedTold t n line
      go true w z =
          let same : u ≡ take n line = some-injective u (take n line) z in
          let size = strict_count n line room (sym (ap is_strict same) ∙ s) in
          record {
            few = size.1;
            is =
                second_form t u f e s ∙ ap some same
                ∙ ap (λ (b : Bool). cond b none (some (take n line))) (sym (ne_eqb n 0 (λ q. omega (arith, size))));
          }
      go false w z = clash cc

-- the first form at the front of an array
pub first_told : (t line : Text) (n : ℕ) → length line ≡ cells → take n line ≡ bytes_masked t → is_strict (take n line) ≡ true → if_strict (characters_masked t) ≡ none
    → MaskedTold t n line
first_told t line n room e s f =
    let size = strict_count n line room s in
    record {
      few = size.1;
      is =
          first_form t (sym (ap is_strict e) ∙ s) f ∙ ap some (sym e)
          ∙ ap (λ (b : Bool). cond b none (some (take n line))) (sym (ne_eqb n 0 (λ q. omega (arith, size))));
    }
