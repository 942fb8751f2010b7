-- Parts of a list: the first element of a part, and parts of parts. A loop that reads a text steps through it by these.
use mathlib.Core.Path.{◌≡◌, sym, ◌∙◌, ap}
use mathlib.Core.List.{List, [], ◌∷◌}
use Prim.Native.Nat.{ℕ, zero, suc, ◌+◌, ◌-◌, ◌<◌, ◌≤◌}
use native.Mathlib.Nat.{zero-add, suc-add}
use native.Mathlib.Numerals.{add-one}
use native.Mathlib.Omega.{arith}
use lib.ListN.{length, get_or, take, drop}
use lib.Seq.{slice, slice-cons, take-take, drop-drop, take-length}

module _ {A : Type 0} where
  -- a part that is not empty, by its first element
  pub slice-step : (f t : ℕ) (l : List A) (d : A) → f < t → t ≤ length l → slice f t l ≡ get_or l f d ∷ slice (f + 1) t l
  slice-step f t l d h k = slice-cons f t l d h k ∙ ap (λ (n : ℕ). get_or l f d ∷ slice n t l) (sym (add-one f))

  -- the k elements from f on
  pub slice_take : (f k : ℕ) (l : List A) → slice f (f + k) l ≡ take k (drop f l)
  slice_take zero k l = ap (λ (n : ℕ). take n l) (zero-add k)
  slice_take (suc f) zero [] = ap (λ (n : ℕ). drop (suc f) (take n [])) (suc-add f 0)
  slice_take (suc f) (suc k) [] = ap (λ (n : ℕ). drop (suc f) (take n [])) (suc-add f (suc k))
  slice_take (suc f) k (x ∷ l) = ap (λ (n : ℕ). drop (suc f) (take n (x ∷ l))) (suc-add f k) ∙ slice_take f k l

  -- the front of a part
  pub take_slice : (k f t : ℕ) (l : List A) → f + k ≤ t → take k (slice f t l) ≡ slice f (f + k) l
  take_slice k f t l h = sym (slice_take f k (take t l)) ∙ ap (drop f) (take-take (f + k) t l h)

  -- the rest of a part
  pub drop-slice : (k f t : ℕ) (l : List A) → drop k (slice f t l) ≡ slice (f + k) t l
  drop-slice k f t l = drop-drop k f (take t l)

  -- the part up to the end
  pub slice_all : (f : ℕ) (l : List A) → slice f (length l) l ≡ drop f l
  slice_all f l = ap (drop f) (take-length l)

  -- the part that `&l[f..t]` is
  pub slice_range_is : (f t : ℕ) (l : List A) → f ≤ t → take (t - f) (drop f l) ≡ slice f t l
  slice_range_is f t l h = let e : f + (t - f) ≡ t = omega arith in sym (slice_take f (t - f) l) ∙ ap (λ (n : ℕ). slice f n l) e
