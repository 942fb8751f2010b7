-- A list with its elements from f up to i replaced by others: length and elements. A step of the build replaces rows so.
use mathlib.Core.Path.{◌≡◌, sym, ◌∙◌, ap, ap₂}
use mathlib.Core.List.{List, ◌++◌, append_assoc}
use Prim.Native.Nat.{ℕ, suc, ◌+◌, ◌-◌, ◌<◌, ◌≤◌}
use native.Mathlib.Omega.{arith}
use lib.ListN.{length, get_or, take, drop, length-append, length-drop, get_or-append}
use lib.Seq.{get_or-take, get_or-drop, get_or-append-add, take-append-add, take-append-le, drop-append-add, drop-append-le, length-take-le}

module _ {A : Type 0} (t rs : List A) (f i : ℕ) (within : f ≤ length t) where
  front : length (take f t) ≡ f
  front = length-take-le f t within

  pub spliced_length : length (take f t ++ (rs ++ drop i t)) ≡ f + length rs + (length t - i)
  spliced_length = length-append (take f t) (rs ++ drop i t) ∙ omega (arith, front, length-append rs (drop i t), length-drop i t)

  pub spliced-before : (n : ℕ) (d : A) → n < f → get_or (take f t ++ (rs ++ drop i t)) n d ≡ get_or t n d
  spliced-before n d h = get_or-append (take f t) (rs ++ drop i t) d n (rw front h) ∙ get_or-take f t n d h

  spliced_from : (n : ℕ) (d : A) → f ≤ n → get_or (take f t ++ (rs ++ drop i t)) n d ≡ get_or (rs ++ drop i t) (n - f) d
  spliced_from n d h = ap (λ m. get_or (take f t ++ (rs ++ drop i t)) m d) (let z : n ≡ length (take f t) + (n - f) = omega (arith, front) in z) ∙ get_or-append-add (take f t) (rs ++ drop i t) (n - f) d

  pub spliced-inside : (n : ℕ) (d : A) → f ≤ n → n < f + length rs → get_or (take f t ++ (rs ++ drop i t)) n d ≡ get_or rs (n - f) d
  spliced-inside n d h k = spliced_from n d h ∙ get_or-append rs (drop i t) d (n - f) (omega arith)

  -- element m of the list before, where it stands now
  pub spliced-after : (n m : ℕ) (d : A) → f + length rs ≤ n → n + i ≡ m + (f + length rs) → get_or (take f t ++ (rs ++ drop i t)) n d ≡ get_or t m d
  spliced-after n m d h e =
      spliced_from n d (omega arith)
      ∙ ap (λ k. get_or (rs ++ drop i t) k d) (let z : n - f ≡ length rs + (m - i) = omega arith in z)
      ∙ get_or-append-add rs (drop i t) (m - i) d
      ∙ get_or-drop i t (m - i) d
      ∙ ap (λ k. get_or t k d) (let z : i + (m - i) ≡ m = omega arith in z)

-- a list that is replaced so within a longer one
module _ {A : Type 0} (xs t ys rs : List A) (f l : ℕ) (within : f ≤ length t) (below : l < length t) where
  upper : length (xs ++ t) ≡ length xs + length t
  upper = length-append xs t

  regroup : (a b c d e : List A) → a ++ (b ++ (c ++ d)) ++ e ≡ a ++ b ++ (c ++ (d ++ e))
  regroup a b c d e = append_assoc a (b ++ (c ++ d)) e ∙ ap (λ x. a ++ x) (append_assoc b (c ++ d) e) ∙ sym (append_assoc a b (c ++ d ++ e)) ∙ ap (λ x. a ++ b ++ x) (append_assoc c d e)

  kept-before : take (length xs + f) (xs ++ t ++ ys) ≡ xs ++ take f t
  kept-before = take-append-le (length xs + f) (xs ++ t) ys (omega (arith, upper)) ∙ take-append-add xs t f

  kept-behind : drop (suc (length xs + l)) (xs ++ t ++ ys) ≡ drop (suc l) t ++ ys
  kept-behind =
      ap (λ n. drop n (xs ++ t ++ ys)) (let e : suc (length xs + l) ≡ length xs + suc l = omega arith in e)
      ∙ drop-append-le (length xs + suc l) (xs ++ t) ys (omega (arith, upper))
      ∙ ap (λ u. u ++ ys) (drop-append-add xs t (suc l))

  pub spliced-within : take (length xs + f) (xs ++ t ++ ys) ++ (rs ++ drop (suc (length xs + l)) (xs ++ t ++ ys)) ≡ xs ++ (take f t ++ (rs ++ drop (suc l) t)) ++ ys
  spliced-within = ap₂ (λ u v. u ++ (rs ++ v)) kept-before kept-behind ∙ sym (regroup xs (take f t) rs (drop (suc l) t) ys)
