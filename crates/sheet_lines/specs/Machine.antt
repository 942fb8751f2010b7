-- The machine's form of what the definitions of reading say of one line.
use Rattle.std.specs.Prelude.{Bool, true, false, List, ◌≡◌, ℕ, ◌+◌, ◌<◌, ℤ, length, drop, Option, Some, None}
use Rattle.std.proofs.Math.Option as math
use Rattle.std.proofs.Math.Seq.{slice}
use Rattle.spec_spline.specs.Reading.{Pair}
use Rattle.base_text.specs.Bytes.{Text, Range}
use Rattle.base_text.specs.Numeral.{numeral}
use Rattle.spec_sheet.specs.SheetReading.{pair, list_of, Line}
use Rattle.sheet_lines.specs.declared.Entry.{Entry}
use Rattle.sheet_lines.specs.declared.Entry.TheVariants as entry-cases
use Rattle.sheet_lines.specs.declared.Span.{Span}

-- ---- entries

-- What an entry of either kind stands for: a number, or a pair.
abbrev pub Value : Entry → Type 0
Value entry-cases.Numeral = ℤ
Value entry-cases.Pair = Pair

-- The number or the pair that a field stands for.
abbrev pub entry_of : (kind : Entry) → Text → math.Option (Value kind)
entry_of entry-cases.Numeral = numeral
entry_of entry-cases.Pair = pair

-- There is one.
abbrev pub is_some : {A : Type 0} → math.Option A → Bool
is_some math.none = false
is_some (math.some x) = true

-- ---- lists

-- How many entries a list has, if it is one.
unfoldable pub count : {A : Type 0} → math.Option (List A) → Option ℕ
count math.none = None
count (math.some xs) = Some (length xs)

-- A list stands in the text from the one index up to the other.
pub record ListAt {A : Type 0} (entry : Text → math.Option A) (text : Text) (xs : List A) (start end : ℕ) : Type 0 where
  pub range : Range text start end
  pub list : list_of entry (slice start end text) ≡ math.some xs

-- ---- lines

-- A line's list stands there, with byte 10 at its end.
pub record Spans {A : Type 0} (entry : Text → math.Option A) (text : Text) (l : Line A) (start end : ℕ) : Type 0 where
  pub list : ListAt entry text l.list start end
  pub ended : end < length text
  pub rest : l.rest ≡ drop (end + 1) text

-- The answer for a line of the text: where its list begins and ends, if the line is good.
abbrev pub LineAt : {A : Type 0} → (Text → math.Option A) → Text → math.Option (Line A) → Option Span → Type 0
LineAt entry text math.none None = Unit {0}
LineAt entry text math.none (Some span) = ⊥
LineAt entry text (math.some l) None = ⊥
LineAt entry text (math.some l) (Some span) = Spans entry text l span.from span.to
