-- A list stored into a buffer from an index on (`sets`): one list after another, a list over another, a list that is there
-- already, and what a part of the buffer then is.
use mathlib.Core.Path.{◌≡◌, refl, sym, ◌∙◌, ap, ap₂}
use mathlib.Core.List.{List, [], ◌∷◌, ◌++◌, append_assoc}
use Prim.Native.Nat.{ℕ, zero, suc, ◌+◌, ◌-◌, ◌≤◌}
use native.Mathlib.Nat.{add-zero, add-suc, suc-add, zero-add}
use native.Mathlib.Omega.{arith}
use borrow.Rule.Slice.PartMut.{put_mid}
use lib.ListN.{length, get_or, take, drop, set, length-append}
use lib.Seq.{slice, sets, sets-eq, length-sets, take-set-le, drop-set-lt, take_at, drop-append-le, length-take-le}
use lib.Seq.{set-get_or, slice-cons, slice_empty}
use Rattle.std.proofs.lemmas.List.Edits.{paste_all}
use Rattle.std.proofs.lemmas.Slice.{put_mid-paste}
use Rattle.base_text.proofs.Slice.{slice_take}

module _ {A : Type 0} where
  pub sets_append : (l : List A) (i : ℕ) (xs ys : List A) → sets l i (xs ++ ys) ≡ sets (sets l i xs) (i + length xs) ys
  sets_append l i [] ys = ap (λ (k : ℕ). sets l k ys) (sym (add-zero i))
  sets_append l i (x ∷ xs) ys =
      sets_append (set l i x) (suc i) xs ys
      ∙ ap (λ (k : ℕ). sets (sets (set l i x) (suc i) xs) k ys) (suc-add i (length xs) ∙ sym (add-suc i (length xs)))

  take_sets : (n : ℕ) (l : List A) (i : ℕ) (xs : List A) → n ≤ i → take n (sets l i xs) ≡ take n l
  take_sets n l i [] h = refl
  take_sets n l i (x ∷ xs) h = take_sets n (set l i x) (suc i) xs (omega arith) ∙ take-set-le n l i x h

  drop-sets : (n : ℕ) (l : List A) (i : ℕ) (xs : List A) → i + length xs ≤ n → drop n (sets l i xs) ≡ drop n l
  drop-sets n l i [] h = refl
  drop-sets n l i (x ∷ xs) h = drop-sets n (set l i x) (suc i) xs (omega arith) ∙ drop-set-lt n l i x (omega arith)

  -- a list over all of another
  pub sets_over : (l : List A) (i j : ℕ) (xs ys : List A) → i ≤ j → j + length ys ≤ i + length xs → i + length xs ≤ length l
      → sets (sets l j ys) i xs ≡ sets l i xs
  sets_over l i j xs ys h k room =
      sets-eq xs (sets l j ys) i (omega (arith, length-sets l j ys))
      ∙ ap₂ (λ (a b : List A). a ++ xs ++ b) (take_sets i l j ys h) (drop-sets (i + length xs) l j ys k)
      ∙ sym (sets-eq xs l i room)

  -- the part up to the end of a list that was stored
  pub slice-sets : (l : List A) (i j : ℕ) (ys : List A) → i ≤ j → j + length ys ≤ length l → slice i (j + length ys) (sets l j ys) ≡ slice i j l ++ ys
  slice-sets l i j ys h room =
      let front : length (take j l ++ ys) ≡ j + length ys = length-append (take j l) ys ∙ ap (λ (k : ℕ). k + length ys) (length-take-le j l (omega arith)) in
      ap (λ (m : List A). slice i (j + length ys) m) (sets-eq ys l j room)
      ∙ ap (drop i) (take_at (take j l ++ ys) (drop (j + length ys) l) (j + length ys) front)
      ∙ drop-append-le i (take j l) ys (omega (arith, length-take-le j l (omega arith)))

  -- a part stored where it stands
  pub sets-slice : (k i : ℕ) (l : List A) → i + k ≤ length l → sets l i (slice i (i + k) l) ≡ l
  sets-slice zero i l h = ap (sets l i) (ap (λ (n : ℕ). slice i n l) (add-zero i) ∙ slice_empty i l)
  sets-slice (suc k) i l h = go (slice i (i + suc k) l) refl (sets-slice k (suc i) l (omega arith))
    where
      go : (m : List A) → slice i (i + suc k) l ≡ m → sets l (suc i) (slice (suc i) (suc i + k) l) ≡ l → sets l i (slice i (i + suc k) l) ≡ l
      go [] e ih = ap (sets l i) e
      go (d ∷ m) e ih =
          let first : slice i (i + suc k) l ≡ get_or l i d ∷ slice (suc i) (i + suc k) l = slice-cons i (i + suc k) l d (omega arith) h in
          let n : i + suc k ≡ suc i + k = omega arith in
          ap (sets l i) first
          ∙ ap (λ (b : List A). sets b (suc i) (slice (suc i) (i + suc k) l)) (set-get_or l i d)
          ∙ ap (λ (e : ℕ). sets l (suc i) (slice (suc i) e l)) n
          ∙ ih

  -- a part as the machine lends it
  pub part_is : (from to : ℕ) (l : List A) → from ≤ to → take (to - from) (drop from l) ≡ slice from to l
  part_is from to l h = sym (slice_take from (to - from) l) ∙ ap (λ (n : ℕ). slice from n l) (let e : from + (to - from) ≡ to = omega arith in e)

  -- a copy to a part
  pub sets_copy : (l : List A) (at k : ℕ) (xs copy : List A) → at + length xs ≤ length l → length xs ≡ k → copy ≡ xs → put_mid at k l copy ≡ sets l at xs
  sets_copy l at k xs copy h n e =
      put_mid-paste at k l copy xs (length xs) e n refl
      ∙ paste_all l at xs (length xs) refl
      ∙ sym (sets-eq xs l at h ∙ append_assoc (take at l) xs (drop (at + length xs) l))

  -- one element more
  pub sets-next : (l : List A) (at i : ℕ) (x : A) (xs : List A) → sets l (at + i) (x ∷ xs) ≡ sets (set l (at + i) x) (at + (i + 1)) xs
  sets-next l at i x xs = let e : suc (at + i) ≡ at + (i + 1) = omega arith in ap (λ (k : ℕ). sets (set l (at + i) x) k xs) e

  -- at the front of a buffer
  pub sets-front : (l xs : List A) → length xs ≤ length l → sets l 0 xs ≡ xs ++ drop (length xs) l
  sets-front l xs h = sets-eq xs l 0 (omega arith) ∙ ap (λ (k : ℕ). xs ++ drop k l) (zero-add (length xs))
