-- What is told of a line's end, of its trailing blanks, and of bytes put into an array in their columns.
use Rattle.std.specs.Prelude.{Bool, cond, ◌||◌, [], ◌∷◌, ◌++◌, ◌≡◌, ℕ, ◌+◌, ◌%◌, ◌<◌, ◌≤◌, eqb, ltb, length, take, replicate}
use Rattle.std.proofs.Math.Seq.{slice}
use Rattle.base_text.specs.Bytes.{Text, Range}
use Rattle.spec_tucson.specs.Columns.{blank}
use Rattle.spec_tucson.specs.FileText.{tab}
use Rattle.spec_tucson.specs.Shown.{tab_width, tab_blanks, expanded, trimmed, line_bytes, shown, has_return}

-- The cells of an array that takes what is shown of a line.
abbrev pub cells : ℕ
cells = 96

-- What one byte is shown as behind so many columns.
abbrev pub shown_byte : ℕ → ℕ → Text
shown_byte n c = cond (eqb c tab) (replicate (tab_blanks n) blank) (c ∷ [])

-- A blank or a tab.
abbrev pub is_gap : ℕ → Bool
is_gap c = eqb c blank || eqb c tab

-- Where the bytes of a line stop, its byte 13 and byte 10 left out.
pub record StopTold (text : Text) (from end stop : ℕ) : Type 0 where
  pub after : from ≤ stop
  pub before : stop ≤ end
  pub are : line_bytes (slice from (end + 1) text) ≡ slice from stop text
  pub returned : has_return (slice from (end + 1) text) ≡ ltb stop end

-- Where the part of a text ends that is shown of its part up to another index.
pub record ShownTold (text : Text) (from to last : ℕ) : Type 0 where
  pub after : from ≤ last
  pub before : last ≤ to
  pub is : trimmed (expanded 0 (slice from to text)) ≡ expanded 0 (slice from last text)

-- Where the part of a line ends that is shown.
pub record LineShown (text : Text) (from end to : ℕ) : Type 0 where
  pub after : from ≤ to
  pub before : to ≤ end
  pub is : shown (slice from (end + 1) text) ≡ expanded 0 (slice from to text)

-- A text behind the first n bytes of an array.
pub record Put (n : ℕ) (bytes : Text) (t : Text) (after : Text) (next : ℕ) : Type 0 where
  pub next_is : next ≡ n + length t
  pub are : take next after ≡ take n bytes ++ t

-- An array that has a cell for column n + 1.
pub record Room (bytes : Text) (n : ℕ) : Type 0 where
  pub size : length bytes ≡ cells
  pub fits : n < cells

-- What putting a part of a text behind `count` columns asks: columns up to a limit where tabs end.
pub record ExpandAsks (text : Text) (from to count limit : ℕ) (bytes : Text) : Type 0 where
  pub size : length bytes ≡ cells
  pub range : Range text from to
  pub fewer : count ≤ limit
  pub fits : limit ≤ cells
  pub whole : limit % tab_width ≡ 0

-- What is told then: the index `at` of the text up to which all is put, and how many columns there are. At the limit some of the
-- text may be left.
pub record Expanded (text : Text) (from to count limit : ℕ) (before after : Text) (at columns : ℕ) : Type 0 where
  pub more : from ≤ at
  pub within : at ≤ to
  pub fits : columns ≤ limit
  pub full : at < to → columns ≡ limit
  pub is : take columns after ++ expanded columns (slice at to text) ≡ take count before ++ expanded count (slice from to text)

-- How many of the first n bytes are left without trailing blanks.
pub record TrimTold (bytes : Text) (n left : ℕ) : Type 0 where
  pub fewer : left ≤ n
  pub is : take left bytes ≡ trimmed (take n bytes)
