-- Characters one after another: the bytes that follow the first one, and what ? for a character makes of the text.
use mathlib.Core.Path.{◌≡◌, refl, sym, ◌∙◌, ap}
use mathlib.Core.Bool.{Bool, true, false, cond, ◌&&◌}
use mathlib.Core.List.{[], ◌∷◌, ◌++◌, append_assoc, append-nil}
use mathlib.Core.Option.{Option, some, none}
use Prim.Native.Nat.{ℕ, zero, suc, ◌+◌, ◌-◌, ◌<◌, ◌≤◌}
use native.Mathlib.Omega.{arith}
use borrow.Author.Tests.{ne_eqb, le-leb, lt-leb}
use lib.Dec.{eqb}
use lib.ListN.{length, get_or, take, drop}
use lib.Seq.{slice, slice_empty, length-slice}
use Rattle.base_exact.proofs.Decide.{true_not_false}
use Rattle.base_text.specs.Bytes.{Text}
use Rattle.base_text.proofs.Slice.{slice-step}
use Rattle.spec_tucson.specs.StrictLine.{is_high, question_mark, in_range, follow_of, with_masked, characters_from, characters_masked}
use Rattle.tucson_masks.specs.Machine.{masked_byte, all_continue}

-- ---- the bytes that follow
-- where none is to come, the range says nothing
range_free : (l h : ℕ) (t : Text) → characters_from 0 l h t ≡ characters_masked t
unfolding characters_from
range_free l h [] = refl
range_free l h (c ∷ cs) = go (is_high c) (range_free l h cs)
  where
    go : (b : Bool) → characters_from 0 l h cs ≡ characters_masked cs →
        cond b (cond (eqb (follow_of c).count 0) none (with_masked question_mark (characters_from (follow_of c).count (follow_of c).low (follow_of c).high cs)))
        (with_masked c (characters_from 0 l h cs))
        ≡ cond b (cond (eqb (follow_of c).count 0) none (with_masked question_mark (characters_from (follow_of c).count (follow_of c).low (follow_of c).high cs)))
        (with_masked c (characters_masked cs))
    go true e = refl
    go false e = ap (with_masked c) e

too_short : (k l h : ℕ) (t : Text) → length t < k → characters_from k l h t ≡ none
unfolding characters_from
too_short zero l h t i = absurd (omega arith)
too_short (suc k) l h [] i = refl
too_short (suc k) l h (c ∷ cs) i = go (in_range l h c) (too_short k 128 191 cs (omega arith))
  where
    go : (b : Bool) → characters_from k 128 191 cs ≡ none → cond b (characters_from k 128 191 cs) none ≡ none
    go true e = e
    go false e = refl

all_follow : (k : ℕ) (t : Text) → k ≤ length t → all_continue (take k t) ≡ true → characters_from k 128 191 t ≡ characters_masked (drop k t)
unfolding characters_from all_continue
all_follow zero t h e = range_free 128 191 t
all_follow (suc k) [] h e = absurd (omega arith)
all_follow (suc k) (c ∷ cs) h e = go (in_range 128 191 c) e (all_follow k cs (omega arith))
  where
    go : (b : Bool) → (b && all_continue (take k cs)) ≡ true → (all_continue (take k cs) ≡ true → characters_from k 128 191 cs ≡ characters_masked (drop k cs)) →
        cond b (characters_from k 128 191 cs) none ≡ characters_masked (drop k cs)
    go true e ih = ih e
    go false e ih = absurd (true_not_false e refl)

one_not : (k : ℕ) (t : Text) → all_continue (take k t) ≡ false → characters_from k 128 191 t ≡ none
unfolding characters_from all_continue
one_not zero t e = absurd (true_not_false refl e)
one_not (suc k) [] e = absurd (true_not_false refl e)
one_not (suc k) (c ∷ cs) e = go (in_range 128 191 c) e (one_not k cs)
  where
    go : (b : Bool) → (b && all_continue (take k cs)) ≡ false → (all_continue (take k cs) ≡ false → characters_from k 128 191 cs ≡ none) →
        cond b (characters_from k 128 191 cs) none ≡ none
    go true e ih = ih e
    go false e ih = refl

-- ---- the character at an index
module _ (bytes : Text) (at n : ℕ) (before : at < n) (within : n ≤ length bytes) where
  abbrev byte : ℕ
  byte = get_or bytes at 0

  abbrev here : Text
  here = slice at n bytes

  abbrev rest : Text
  rest = slice (at + 1) n bytes

  pub character_ascii : byte < 128 → characters_masked here ≡ with_masked (masked_byte byte) (characters_masked rest)
  unfolding characters_from
  character_ascii h = ap characters_masked (slice-step at n bytes 0 before within) ∙ rw (lt-leb 128 byte h)

  module _ (high : 128 ≤ byte) where
    pub character_none : (follow_of byte).count ≡ 0 → characters_masked here ≡ none
    unfolding characters_from
    character_none e = ap characters_masked (slice-step at n bytes 0 before within) ∙ rw (le-leb 128 byte high, e)

    module _ (k : ℕ) (count : (follow_of byte).count ≡ suc k) where
      character_first : characters_masked here ≡ with_masked (masked_byte byte) (characters_from (suc k) (follow_of byte).low (follow_of byte).high rest)
      unfolding characters_from
      character_first = ap characters_masked (slice-step at n bytes 0 before within) ∙ rw (le-leb 128 byte high, count, ne_eqb (suc k) 0 (λ e. omega arith))

      pub character_short : n - at ≤ suc k → characters_masked here ≡ none
      character_short h =
          character_first
          ∙ ap (with_masked (masked_byte byte)) (too_short (suc k) (follow_of byte).low (follow_of byte).high rest (omega (arith, length-slice (at + 1) n bytes within)))

      module _ (longer : at + 1 < n) where
        abbrev second : ℕ
        second = get_or bytes (at + 1) 0

        abbrev later : Text
        later = slice (at + 1 + 1) n bytes

        character_second : characters_masked here
            ≡ with_masked (masked_byte byte) (cond (in_range (follow_of byte).low (follow_of byte).high second) (characters_from k 128 191 later) none)
        unfolding characters_from
        character_second =
            character_first
            ∙ ap (λ (t : Text). with_masked (masked_byte byte) (characters_from (suc k) (follow_of byte).low (follow_of byte).high t)) (slice-step (at + 1) n bytes 0 longer within)

        pub character_low : second < (follow_of byte).low → characters_masked here ≡ none
        character_low h = character_second ∙ rw (lt-leb (follow_of byte).low second h)

        module _ (from_low : (follow_of byte).low ≤ second) where
          pub character_high : (follow_of byte).high < second → characters_masked here ≡ none
          character_high h = character_second ∙ rw (le-leb (follow_of byte).low second from_low, lt-leb second (follow_of byte).high h)

          module _ (to_high : second ≤ (follow_of byte).high) where
            character_later : characters_masked here ≡ with_masked (masked_byte byte) (characters_from k 128 191 later)
            character_later = character_second ∙ rw (le-leb (follow_of byte).low second from_low, le-leb second (follow_of byte).high to_high)

            pub character_broken : all_continue (take k later) ≡ false → characters_masked here ≡ none
            character_broken e = character_later ∙ ap (with_masked (masked_byte byte)) (one_not k later e)

            pub character_whole : k ≤ length later → all_continue (take k later) ≡ true
                → characters_masked here ≡ with_masked (masked_byte byte) (characters_masked (drop k later))
            character_whole h e = character_later ∙ ap (with_masked (masked_byte byte)) (all_follow k later h e)

-- ---- what is masked before, and the rest
abbrev pub behind : Text → Option Text → Option Text
behind x none = none
behind x (some t) = some (x ++ t)

pub behind-next : (x : Text) (c : ℕ) (o : Option Text) → behind x (with_masked c o) ≡ behind (x ++ (c ∷ [])) o
behind-next x c none = refl
behind-next x c (some t) = ap some (sym (append_assoc x (c ∷ []) t))

pub behind-nothing : (o : Option Text) → o ≡ behind [] o
behind-nothing none = refl
behind-nothing (some t) = refl

pub characters_end : (n : ℕ) (bytes x : Text) → behind x (characters_masked (slice n n bytes)) ≡ some x
unfolding characters_from
characters_end n bytes x = ap (λ (t : Text). behind x (characters_masked t)) (slice_empty n bytes) ∙ ap some (append-nil x)
