-- What the functions of table_name ask and tell: where a name's first byte stands that is no blank, and the name as the table has it,
-- at the front of a buffer (§ 17).
use Rattle.std.specs.Prelude.{cond, List, [], ◌∷◌, ◌≡◌, ℕ, ◌≤◌, eqb, length, take, drop}
use Rattle.base_text.specs.Bytes.{Text}
use Rattle.spec_tucson.specs.Line.{name_columns}
use Rattle.spec_table.specs.RingLines.{quotation_mark, without_leading, name_text}

-- The most bytes that a name of eight bytes has in the table: each doubled, and two quotation marks.
abbrev pub name_limit : ℕ
name_limit = 18

-- One byte, a quotation mark twice.
abbrev pub doubled_byte : ℕ → Text
doubled_byte c = cond (eqb c quotation_mark) (c ∷ c ∷ []) (c ∷ [])

-- The index of the first byte that is no blank, or the length.
pub record StartTold (name : Text) (start : ℕ) : Type 0 where
  pub within : start ≤ length name
  pub is : drop start name ≡ without_leading name

-- No more bytes than a name has, from an index near the buffer's start on.
pub record DoubledAsks (at : ℕ) (bytes : Text) : Type 0 where
  pub near : at ≤ name_limit
  pub few : length bytes ≤ name_columns

-- A buffer that has room for every name, and a name of eight bytes.
pub record NameAsks (buffer : List ℕ) (name : Text) : Type 0 where
  pub room : name_limit ≤ length buffer
  pub whole : length name ≡ name_columns

-- The name in the table is the front of the buffer.
pub record NameTold (name : Text) (buffer : List ℕ) (count : ℕ) : Type 0 where
  pub within : count ≤ name_limit
  pub counted : count ≡ length (name_text name)
  pub is : take count buffer ≡ name_text name
