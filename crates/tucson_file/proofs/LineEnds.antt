-- The bytes that end a line, counted one after another, and the lines by them.
use mathlib.Core.Path.{◌≡◌, refl, sym, ◌∙◌, ap}
use mathlib.Core.Bool.{Bool, true, false, cond}
use mathlib.Core.List.{List, [], ◌∷◌, ◌++◌}
use mathlib.Core.Option.{Option, some, none}
use Prim.Native.Nat.{ℕ, suc, ◌+◌, ◌-◌, ◌<◌, ◌≤◌}
use native.Mathlib.Numerals.{add-one}
use native.Mathlib.Omega.{arith}
use lib.Dec.{eqb}
use lib.ListN.{length, drop, get_or, drop_of_length-le}
use lib.Seq.{drop-cons}
use Rattle.base_text.specs.Bytes.{Text, newline, Cut, cut, with_byte, on_first}
use Rattle.spec_tucson.specs.Line.{lines_of}
use Rattle.spec_tucson.specs.Shown.{is_cut, has_end}
use Rattle.spec_tucson.specs.CleanCall.{all_ended}
use Rattle.tucson_file.specs.Machine.{end_of, end_count, last_ends}

pub end_few : (c : ℕ) → end_of c ≤ 1
end_few c = go (eqb c newline)
  where
    go : (b : Bool) → cond b 1 0 ≤ 1
    go true = omega arith
    go false = omega arith

pub ends_next : (t : Text) (i : ℕ) → i < length t → end_count (drop i t) ≡ end_of (get_or t i 0) + end_count (drop (i + 1) t)
unfolding end_count
ends_next t i h = ap end_count (drop-cons t i 0 h) ∙ ap (λ (n : ℕ). end_of (get_or t i 0) + end_count (drop n t)) (sym (add-one i))

pub ends-none : (t : Text) (i : ℕ) → length t ≤ i → end_count (drop i t) ≡ 0
unfolding end_count
ends-none t i h = ap end_count (drop_of_length-le t h)

pub ends_append : (t u : Text) → end_count (t ++ u) ≡ end_count t + end_count u
unfolding end_count
ends_append [] u = omega arith
ends_append (c ∷ t) u = omega (arith, ends_append t u)

-- ---- the last byte
pub last_none : (t : Text) → length t ≡ 0 → last_ends t ≡ true
unfolding last_ends
last_none [] h = refl
last_none (c ∷ t) h = absurd (omega (arith, h))

pub last_byte : (t : Text) → (length t ≡ 0 → ⊥) → eqb (get_or t (length t - 1) 0) newline ≡ last_ends t
unfolding last_ends
last_byte [] h = absurd (h refl)
last_byte (c ∷ []) h = refl
last_byte (c ∷ d ∷ t) h =
    let e : length (c ∷ d ∷ t) - 1 ≡ suc (length (d ∷ t) - 1) = omega arith in
    ap (λ (n : ℕ). eqb (get_or (c ∷ d ∷ t) n 0) newline) e ∙ last_byte (d ∷ t) (λ z. omega (arith, z))

-- ---- the lines of a text
some_line : (c : ℕ) (t : Text) → 1 ≤ length (lines_of (c ∷ t))
unfolding lines_of
some_line c t = go (eqb c newline) (lines_of t)
  where
    go : (b : Bool) (ls : List Text) → 1 ≤ length (cond b ((c ∷ []) ∷ ls) (on_first c ls))
    go true ls = omega arith
    go false [] = omega arith
    go false (l ∷ ls) = omega arith

-- a byte before some lines
module _ (c : ℕ) where
  one_more : (ls : List Text) → 1 ≤ length ls → length (cond (eqb c newline) ((c ∷ []) ∷ ls) (on_first c ls)) ≡ end_of c + length ls
  one_more [] h = absurd (omega (arith, h))
  one_more (l ∷ ls) h = go (eqb c newline)
    where
      go : (b : Bool) → length (cond b ((c ∷ []) ∷ l ∷ ls) (on_first c (l ∷ ls))) ≡ cond b 1 0 + length (l ∷ ls)
      go true = omega arith
      go false = omega arith

  end_further : (l : Text) → eqb c newline ≡ false → has_end (c ∷ l) ≡ has_end l
  unfolding has_end cut
  end_further l e = ap (λ (b : Bool). is_cut (cond b (some (record { before = []; after = l })) (with_byte c (cut newline l)))) e ∙ go (cut newline l)
    where
      go : (o : Option Cut) → is_cut (with_byte c o) ≡ is_cut o
      go none = refl
      go (some r) = refl

  ended_more : (ls : List Text) → 1 ≤ length ls → all_ended (cond (eqb c newline) ((c ∷ []) ∷ ls) (on_first c ls)) ≡ all_ended ls
  unfolding all_ended
  ended_more [] h = absurd (omega (arith, h))
  ended_more (l ∷ ls) h = go (eqb c newline) refl ls
    where
      go : (b : Bool) → eqb c newline ≡ b → (ms : List Text) → all_ended (cond b ((c ∷ []) ∷ l ∷ ms) (on_first c (l ∷ ms))) ≡ all_ended (l ∷ ms)
      go true e ms = refl
      go false e [] = end_further l e
      go false e (m ∷ ms) = refl

pub lines_by_ends : (t : Text) → length (lines_of t) ≡ end_count t + cond (last_ends t) 0 1
unfolding lines_of end_count last_ends
lines_by_ends [] = refl
lines_by_ends (c ∷ []) = go (eqb c newline)
  where
    go : (b : Bool) → length (cond b ((c ∷ []) ∷ []) ((c ∷ []) ∷ [])) ≡ cond b 1 0 + 0 + cond b 0 1
    go true = refl
    go false = refl
lines_by_ends (c ∷ d ∷ t) = omega (arith, one_more c (lines_of (d ∷ t)) (some_line d t), lines_by_ends (d ∷ t))

pub ended_by_last : (t : Text) → all_ended (lines_of t) ≡ last_ends t
unfolding lines_of last_ends all_ended has_end cut
ended_by_last [] = refl
ended_by_last (c ∷ []) = go (eqb c newline)
  where
    one : (b : Bool) → is_cut (cond b (some (record { before = []; after = [] })) none) ≡ b
    one true = refl
    one false = refl

    go : (b : Bool) → all_ended (cond b ((c ∷ []) ∷ []) ((c ∷ []) ∷ [])) ≡ eqb c newline
    go true = one (eqb c newline)
    go false = one (eqb c newline)
ended_by_last (c ∷ d ∷ t) = ended_more c (lines_of (d ∷ t)) (some_line d t) ∙ ended_by_last (d ∷ t)

pub lines_few : (t : Text) → end_count t + cond (last_ends t) 0 1 ≤ length t
unfolding end_count last_ends
lines_few [] = omega arith
lines_few (c ∷ []) = go (eqb c newline)
  where
    go : (b : Bool) → cond b 1 0 + 0 + cond b 0 1 ≤ 1
    go true = omega arith
    go false = omega arith
lines_few (c ∷ d ∷ t) = omega (arith, end_few c, lines_few (d ∷ t))
