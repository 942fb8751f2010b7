-- The lines of a series ahead of one of its lines: the next one, and what stands ahead of them all.
use Rattle.std.specs.Prelude.{Bool, true, false, List, ◌∷◌, ◌≡◌, ℕ, ◌+◌, ◌<◌, ◌≤◌, length, take, drop}
use Rattle.std.proofs.Math.Option.{some}
use Rattle.base_outcome.specs.Outcome.{answer}
use Rattle.base_text.specs.Bytes.{Text}
use Rattle.spec_tucson.specs.Line.{name_columns, lines_of}
use Rattle.spec_tucson.specs.TextReading.{last_field}
use Rattle.spec_tucson.specs.StrictLine.{is_strict, Kept, name_of}
use Rattle.spec_tucson.specs.KeptLines.{kept_lines}
use Rattle.spec_tucson.specs.CleanSeries.{same_name, continues, fields_of, closing_after}
use Rattle.spec_tucson.specs.CleanNotes.{ahead}
use Rattle.tucson_notes.specs.Machine.{ahead_of}
use Rattle.tucson_notes.specs.declared.Ahead as machine-ahead
use Rattle.tucson_walk.specs.declared.Following.{Following}

-- Below a header, these lines are kept from this index on, behind this line.
pub record KeptBehind (text : Text) (h i : ℕ) (k : Kept) (past : ℕ) (ks : List Kept) : Type 0 where
  pub below : h < i
  pub are : kept_lines h i (some k) (lines_of (drop past text)) ≡ answer ks

-- The first of the lines that are kept behind a line has its name, and its n bytes stand at the front of an array.
pub record NextIs (text : Text) (h : ℕ) (k : Kept) (ks : List Kept) (past n : ℕ) (bytes : Text) : Type 0 where
  pub line : Kept
  pub others : List Kept
  pub number : ℕ
  pub is : ks ≡ line ∷ others
  pub same : same_name k line ≡ true
  pub text_is : line.text ≡ take n bytes
  pub behind : KeptBehind text h number line past others

abbrev pub NextBy : Bool → Text → ℕ → Kept → List Kept → ℕ → ℕ → Text → Type 0
NextBy true text h k ks past n bytes = NextIs text h k ks past n bytes
NextBy false text h k ks past n bytes = continues k ks ≡ false

-- A strict line of n bytes at the front of an array.
pub record StandsIn (bytes : Text) (n : ℕ) : Type 0 where
  pub fits : n ≤ length bytes
  pub strict : is_strict (take n bytes) ≡ true

-- What is told of the line behind one with the name at the front of `line`.
pub record Follows (text : Text) (past : ℕ) (line bytes : Text) (r : Following) : Type 0 where
  pub within : r.past ≤ length text + 1
  pub further : r.found ≡ true → past < r.past
  pub stands : r.found ≡ true → StandsIn bytes r.size
  pub told : (h i : ℕ) (k : Kept) (ks : List Kept) → KeptBehind text h i k past ks → name_of k.text ≡ take name_columns line
      → NextBy r.found text h k ks r.past r.size bytes

-- Where this is told, the series of a line with the name at the front of `line` does not go on.
abbrev pub DiffersTold : Text → ℕ → Text → Bool → Type 0
DiffersTold text past line differs = differs ≡ true → (h i : ℕ) (k : Kept) (ks : List Kept) → KeptBehind text h i k past ks
    → name_of k.text ≡ take name_columns line → continues k ks ≡ false

-- An index of a text, and a line with a name.
pub record FollowAsks (text : Text) (past : ℕ) (line : Text) : Type 0 where
  pub within : past ≤ length text + 1
  pub named : name_columns ≤ length line

-- What stands ahead of a series' last line, but for the count.
pub record LastAhead (unit : ℕ) (line : Text) (count : ℕ) (r : machine-ahead.Ahead) : Type 0 where
  pub count_is : r.count ≡ count
  pub closing_is : r.closing ≡ closing_after unit (last_field (fields_of line))
  pub fields_are : r.fields ≡ length (fields_of line)

-- An index of a text, and a strict line before it.
pub record AheadAsks (text : Text) (past : ℕ) (line : Text) (n : ℕ) : Type 0 where
  pub within : past ≤ length text + 1
  pub stands : StandsIn line n

-- What stands ahead of the line.
abbrev pub AheadTold : ℕ → Text → ℕ → Text → ℕ → machine-ahead.Ahead → Type 0
AheadTold unit text past line n r = (h i : ℕ) (k : Kept) (ks : List Kept) → k.text ≡ take n line → KeptBehind text h i k past ks
    → ahead_of r ≡ ahead unit (k ∷ ks)
