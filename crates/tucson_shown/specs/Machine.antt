-- The machine's form of a strict line: two arrays with the bytes at their fronts, and what is answered.
use Rattle.std.specs.Prelude.{Option, Some, None, Result, Ok, Err}
use Rattle.std.specs.Prelude.{Bool, true, false, ◌≡◌, ℕ, ◌+◌, ◌-◌, ◌<◌, ◌≤◌, length, take}
use Rattle.std.proofs.Math.Seq.{slice}
use Rattle.base_outcome.specs.Outcome.{answer, refuse}
use Rattle.base_text.specs.Bytes.{Text, Range}
use Rattle.spec_tucson.specs.Shown.{shown}
use Rattle.spec_tucson.specs.StrictLine.{is_strict, has_site, without_site, shown_fields, strict_line, line_columns}
use Rattle.tucson_lines.specs.Machine.{LineEnd}
use Rattle.tucson_columns.specs.Machine.{cells}
use Rattle.tucson_shown.specs.declared.Front.{Front}
use Rattle.tucson_shown.specs.declared.StrictLine.{StrictLine}

-- A strict line with m bytes shown at the front of the one array and its n bytes at the front of the other.
pub record LineTold (raw : Text) (m n : ℕ) (site : Bool) (bytes line : Text) : Type 0 where
  pub shown-fits : m ≤ length bytes
  pub line-fits : n ≤ length line
  pub line-short : n ≤ line_columns
  pub is_shown : take m bytes ≡ shown_fields raw
  pub is_line : (place : ℕ) → strict_line place raw ≡ answer (take n line)
  pub is_site : site ≡ has_site (shown raw)

-- What is told of a raw line: its strict line, or the code of its refusal.
abbrev pub StrictTold : Text → Result StrictLine ℕ → Text → Text → Type 0
StrictTold raw (Ok l) bytes line = LineTold raw l.shown l.size l.site bytes line
StrictTold raw (Err code) bytes line = (place : ℕ) → strict_line place raw ≡ refuse code place

-- ---- what is shown without a site name

-- A part of a text, and an array that has room for it.
pub record CopyAsks (text : Text) (from to : ℕ) (bytes : Text) : Type 0 where
  pub range : Range text from to
  pub room : to - from ≤ length bytes

-- A part of a text, and two arrays.
pub record PlainAsks (text : Text) (from to : ℕ) (bytes line : Text) : Type 0 where
  pub range : Range text from to
  pub size : length bytes ≡ cells
  pub room : length line ≡ cells

-- These n bytes are a strict line as they stand, and are at the fronts of both arrays.
pub record PlainLine (t : Text) (n : ℕ) (bytes line : Text) : Type 0 where
  pub long : length t ≡ n
  pub short : n ≤ line_columns
  pub is-strict : is_strict t ≡ true
  pub are : take n bytes ≡ t
  pub is_line : take n line ≡ t

abbrev pub PlainTold : Text → ℕ → Bool → Text → Text → Type 0
PlainTold t n r bytes line = r ≡ true → PlainLine t n bytes line

-- A part of a text, and an array for what is shown of it.
pub record ShowAsks (text : Text) (from to : ℕ) (bytes : Text) : Type 0 where
  pub range : Range text from to
  pub size : length bytes ≡ cells

-- These m bytes at the front of an array are what is shown, without a site name.
pub record FieldsAre (t : Text) (m : ℕ) (site : Bool) (bytes : Text) : Type 0 where
  pub fits : m ≤ cells
  pub are : take m bytes ≡ without_site t
  pub is_site : site ≡ has_site t

-- More is shown than any strict line has, and no site name.
pub record FieldsLong (t : Text) : Type 0 where
  pub long : cells < length t
  pub no_site : has_site t ≡ false

-- What is told of these shown bytes.
abbrev pub FrontTold : Text → Option Front → Text → Type 0
FrontTold t (Some f) bytes = FieldsAre t f.count f.site bytes
FrontTold t None bytes = FieldsLong t

-- A line, what is shown of it at the front of an array, and an array for its strict line.
pub record FitAsks (text : Text) (from end : ℕ) (bytes : Text) (m : ℕ) (site : Bool) (line : Text) : Type 0 where
  pub at : LineEnd text from end
  pub fields : FieldsAre (shown (slice from (end + 1) text)) m site bytes
  pub size : length bytes ≡ cells
  pub room : length line ≡ cells

-- A line, and two arrays.
pub record StrictAsks (text : Text) (from end : ℕ) (bytes line : Text) : Type 0 where
  pub at : LineEnd text from end
  pub size : length bytes ≡ cells
  pub room : length line ≡ cells
