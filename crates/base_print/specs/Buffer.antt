-- A text, as a printout (§ 13), written into a lent buffer from an index on: what does not fit is left out.
use Rattle.std.specs.Prelude.{cond, ◌&&◌, List, ◌≡◌, ℕ, ◌+◌, ◌-◌, ◌≤◌, leb, ltb, length, get_or}
use Rattle.base_exact.specs.Tabulate.{tab}
use Rattle.base_text.specs.Bytes.{Text}

-- The buffer with the text from index `at` on, as far as it reaches; all other cells as before.
unfoldable pub written : ℕ → Text → List ℕ → List ℕ
written at text out = tab (length out) (λ k. cond (leb at k && ltb k (at + length text)) (get_or text (k - at) 0) (get_or out k 0))

-- What a printing function leaves: the buffer with the text from index `at` on, and the index `next` after the text, which
-- is at most `limit` bytes long.
pub record Puts (limit at : ℕ) (text : Text) (before after : List ℕ) (next : ℕ) : Type 0 where
  pub contents : after ≡ written at text before
  pub behind : next ≡ at + length text
  pub near : next ≤ at + limit

-- What a printing function leaves from the buffer's start on: the text, and its length, which is at most `limit`.
pub record Prints (limit : ℕ) (text : Text) (before after : List ℕ) (count : ℕ) : Type 0 where
  pub count_is : count ≡ length text
  pub contents : after ≡ written 0 text before
  pub few : count ≤ limit
