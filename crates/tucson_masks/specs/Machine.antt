-- What is told of a character's size and of a line with ? for what is not ASCII.
use Rattle.std.specs.Prelude.{Bool, true, cond, ◌&&◌, [], ◌∷◌, ◌≡◌, ℕ, ◌+◌, ◌<◌, ◌≤◌, eqb, length, take, get_or}
use Rattle.std.proofs.Math.Option.{some, none}
use Rattle.std.proofs.Math.Seq.{slice}
use Rattle.base_text.specs.Bytes.{Text}
use Rattle.spec_tucson.specs.StrictLine.{is_high, question_mark, in_range, with_masked, characters_masked, masked, line_columns}
use Rattle.tucson_columns.specs.Machine.{cells}

-- ? for a byte that is not ASCII.
abbrev pub masked_byte : ℕ → ℕ
masked_byte c = cond (is_high c) question_mark c

-- All bytes are such as follow others in a character.
unfoldable pub all_continue : Text → Bool
all_continue [] = true
all_continue (c ∷ cs) = in_range 128 191 c && all_continue cs

-- An index below n, up to which the bytes reach.
pub record SizeAsks (bytes : Text) (at n : ℕ) : Type 0 where
  pub before : at < n
  pub within : n ≤ length bytes

-- The size of the character that begins at the index, 0 where none does.
pub record SizeTold (bytes : Text) (at n size : ℕ) : Type 0 where
  pub within : at + size ≤ n
  pub is : characters_masked (slice at n bytes)
      ≡ cond (eqb size 0) none (with_masked (masked_byte (get_or bytes at 0)) (characters_masked (slice (at + size) n bytes)))

-- Two arrays, and n bytes in the one.
pub record MaskAsks (bytes : Text) (n : ℕ) (line : Text) : Type 0 where
  pub fits : n ≤ cells
  pub size : length bytes ≡ cells
  pub room : length line ≡ cells

-- The strict line that these bytes become, at the front of an array; 0 where there is none.
pub record MaskedTold (t : Text) (n : ℕ) (line : Text) : Type 0 where
  pub few : n ≤ line_columns
  pub is : masked t ≡ cond (eqb n 0) none (some (take n line))
