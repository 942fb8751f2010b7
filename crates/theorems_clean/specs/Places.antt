-- Where something stands: at an index of a list, and a note at a line (§ 16).
use Rattle.std.specs.Prelude.{List, ◌∷◌, ℕ, suc}

-- x stands at this index of the list.
pub data At {A : Type 0} (x : A) : ℕ → List A → Type 0 where
  here : {xs : List A} → At x 0 (x ∷ xs)
  later : {y : A} {n : ℕ} {xs : List A} → At x n xs → At x (suc n) (y ∷ xs)

-- The note stands at the line, two cells of the list.
pub data Noted (note line : ℕ) : List ℕ → Type 0 where
  first : {ns : List ℕ} → Noted note line (note ∷ line ∷ ns)
  behind : {n l : ℕ} {ns : List ℕ} → Noted note line ns → Noted note line (n ∷ l ∷ ns)
