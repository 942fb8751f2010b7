-- A byte of a file by its index, and where the text begins.
use Rattle.std.specs.Prelude.{Bool, true, false, cond, ◌||◌, [], ◌∷◌, ◌≡◌, ℕ, suc, ◌+◌, ◌-◌, ◌≤◌, eqb, leb, length, drop, get_or}
use Rattle.base_text.specs.Bytes.{Text, newline}
use Rattle.spec_tucson.specs.FileText.{carriage_return, substitute, is_fault, unmarked}

-- The byte at the index is one that no text has.
unfoldable pub fault_at : ℕ → Text → Bool
fault_at i t = is_fault (get_or t i 0) (drop (suc i) t)

-- A byte that can be at fault, or ends a text.
abbrev pub is_special : ℕ → Bool
is_special c = (eqb c 0 || eqb c carriage_return) || (eqb c substitute || leb 239 c)

-- There is such a byte.
unfoldable pub any_special : Text → Bool
any_special [] = false
any_special (c ∷ cs) = is_special c || any_special cs

-- An index of a file, or its end.
pub record FaultAsks (from : ℕ) (t : Text) : Type 0 where
  pub within : from ≤ length t

-- The index behind a mark.
pub record StartIs (t : Text) (start : ℕ) : Type 0 where
  pub within : start ≤ length t
  pub text_is : unmarked t ≡ drop start t

-- ---- ends of lines

-- 1 for a byte that ends a line, 0 for another one.
abbrev pub end_of : ℕ → ℕ
end_of c = cond (eqb c newline) 1 0

-- How many bytes end a line.
unfoldable pub end_count : Text → ℕ
end_count [] = 0
end_count (c ∷ cs) = end_of c + end_count cs

-- The last byte ends a line, or there is none.
unfoldable pub last_ends : Text → Bool
last_ends [] = true
last_ends (c ∷ []) = eqb c newline
last_ends (c ∷ d ∷ cs) = last_ends (d ∷ cs)

-- Part of a text that a byte can count.
pub record EndsAsk (t : Text) (from to : ℕ) : Type 0 where
  pub ordered : from ≤ to
  pub within : to ≤ length t
  pub short : to - from ≤ 255

-- So many bytes end a line between the two indices.
pub record EndsTold (t : Text) (from to count : ℕ) : Type 0 where
  pub few : count ≤ to - from
  pub are : end_count (drop from t) ≡ count + end_count (drop to t)
