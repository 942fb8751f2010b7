-- Blank lines passed over: below a header they are the only ones that are left out.
use Rattle.std.specs.Prelude.{false, ◌≡◌, ℕ, ◌+◌, ◌<◌, ◌≤◌, length, drop}
use Rattle.std.proofs.Math.Option.{Option}
use Rattle.std.proofs.Math.Seq.{slice}
use Rattle.base_text.specs.Bytes.{Text}
use Rattle.spec_tucson.specs.Line.{lines_of}
use Rattle.spec_tucson.specs.Shown.{is_blank_line}
use Rattle.spec_tucson.specs.StrictLine.{Kept}
use Rattle.spec_tucson.specs.KeptLines.{kept_lines}
use Rattle.tucson_lines.specs.Machine.{LineEnd}

-- The lines from the one index on are kept as those from the other index on, with a number further on.
pub record KeptFrom (text : Text) (h i : ℕ) (b : Option Kept) (from to : ℕ) : Type 0 where
  pub line : ℕ
  pub below : h < line
  pub same : kept_lines h i b (lines_of (drop from text)) ≡ kept_lines h line b (lines_of (drop to text))

-- Blank lines alone stand from the one index up to the other.
pub record Passed (text : Text) (from to : ℕ) : Type 0 where
  pub within : to ≤ length text + 1
  pub after : from ≤ to
  pub kept : (h i : ℕ) (b : Option Kept) → h < i → KeptFrom text h i b from to

-- All blank lines from the one index on stand before the other.
pub record Skipped (text : Text) (from to : ℕ) : Type 0 where
  pub passed : Passed text from to
  pub unblank : (end : ℕ) → LineEnd text to end → to < length text → is_blank_line (slice to (end + 1) text) ≡ false

-- The line behind them, and where it ends.
pub record SkipTold (text : Text) (from at end : ℕ) : Type 0 where
  pub skipped : Skipped text from at
  pub ends : at < length text → LineEnd text at end
