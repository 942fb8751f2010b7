-- The machine's form of the lines that are looked at for a header.
use Rattle.std.specs.Prelude.{Option, Some, None, [], ◌∷◌, cond, ◌≡◌, ℕ, suc, ◌+◌, ◌<◌, ◌≤◌, length, drop}
use Rattle.std.proofs.Math.Option.{some, none}
use Rattle.std.proofs.Math.Seq.{slice}
use Rattle.base_outcome.specs.Search.{or_else}
use Rattle.base_text.specs.Bytes.{Text}
use Rattle.spec_tucson.specs.Line.{lines_of}
use Rattle.spec_tucson.specs.Shown.{is_blank_line}
use Rattle.spec_tucson.specs.KeptLines.{numbered, unblank, reads_strictly}
use Rattle.tucson_lines.specs.Machine.{LineEnd, line_found}
use Rattle.tucson_header.specs.declared.Line.{Line}

-- A line's number is no larger than what stands before it.
pub record NumberFits (body : Text) (from number : ℕ) : Type 0 where
  pub within : from ≤ length body + 1
  pub few : number ≤ from + 1

-- The first line that is not blank, and that the later ones stand behind it.
pub record LineAt (body : Text) (start first from end number : ℕ) : Type 0 where
  pub at : LineEnd body from end
  pub more : from < length body
  pub few : number ≤ from + 1
  pub lines : unblank first (lines_of (drop start body)) ≡ numbered number (slice from (end + 1) body) ∷ unblank (suc number)
      (lines_of (drop (end + 1) body))

abbrev pub LineTold : Text → ℕ → ℕ → Option Line → Type 0
LineTold body start first (Some l) = LineAt body start first l.from l.end l.number
LineTold body start first None = unblank first (lines_of (drop start body)) ≡ []

-- Two lines, and the number of one in a header.
pub record CaptionAsks (body : Text) (first past k from end : ℕ) : Type 0 where
  pub first-line : LineEnd body first past
  pub line : LineEnd body from end
  pub small : k < 10

-- A line with a number from 1 on.
pub record StrictAsks (body : Text) (from end number : ℕ) : Type 0 where
  pub at : LineEnd body from end
  pub from_one : 1 ≤ number

-- The line that was found, or this one where it can be read as a strict line.
abbrev pub StrictFound : Text → ℕ → ℕ → ℕ → Type 0
StrictFound raw number found r =
    line_found r ≡ or_else (line_found found) (cond (is_blank_line raw) none (cond (reads_strictly raw) (some number) none))
