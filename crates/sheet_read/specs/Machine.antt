-- The machine's form of what reading ends with: the five lengths or a refusal, and how a list comes into its buffer.
use Rattle.std.specs.Prelude.{Bool, ◌||◌, List, [], ◌∷◌, ◌≡◌, ℕ, ◌≤◌, eqb, ℤ, length, Result, Ok, Err}
use Rattle.std.proofs.Math.Option.{Option, some, none}
use Rattle.std.proofs.Math.Seq.{slice}
use Rattle.base_outcome.specs.Codes as codes
use Rattle.base_outcome.specs.Outcome.{Outcome, answer, refusal}
use Rattle.base_text.specs.Bytes.{Text, comma, colon, fields_between, Range}
use Rattle.base_text.specs.Numeral.{numeral}
use Rattle.spec_sheet.specs.SheetReading.{entries}
use Rattle.spec_sheet.specs.ReadSheet.{Lengths, overwritten, ReadEnd}
use Rattle.sheet_read.specs.declared.Lengths as machine

-- ---- numbers

-- A comma stands between entries, a colon between the numbers of a pair.
abbrev pub is_separator : ℕ → Bool
is_separator c = eqb c comma || eqb c colon

-- All numbers of a list of either kind, in their order.
unfoldable pub numerals_of : Text → Option (List ℤ)
numerals_of [] = some []
numerals_of (c ∷ cs) = entries numeral (fields_between is_separator (c ∷ cs))

-- The numbers; none where there is no list.
abbrev pub numerals : Option (List ℤ) → List ℤ
numerals none = []
numerals (some zs) = zs

-- The numbers of a range of a text; none where it is no list.
abbrev pub numerals_at : Text → ℕ → ℕ → List ℤ
numerals_at text from to = numerals (numerals_of (slice from to text))

-- A range of a text that is a good list, and room for its numbers.
pub record ListFits (text : Text) (from to room : ℕ) : Type 0 where
  pub range : Range text from to
  pub good : numerals_of (slice from to text) ≡ some (numerals_at text from to)
  pub fits : length (numerals_at text from to) ≤ room

-- The numbers of a range at the front of a buffer, and how many they are.
pub record ListPut (text : Text) (from to : ℕ) (before now : List ℤ) (n : ℕ) : Type 0 where
  pub count : n ≡ length (numerals_at text from to)
  pub put : now ≡ overwritten (numerals_at text from to) before

-- ---- the sheet

-- 10, place the line: "the sheet's text is malformed" (§ 3).
unfoldable pub reply : Result machine.Lengths ℕ → Outcome Lengths
reply (Ok n) =
    answer (record { breaks = n.breaks; degrees = n.degrees; orders = n.orders; coefs = n.coefs; positions = n.positions })
reply (Err place) = refusal codes.sheet_line place

-- The answer and the buffers are those.
pub record EndsAs (e : ReadEnd) (r : Result machine.Lengths ℕ) (breaks degrees orders coefs positions : List ℤ) : Type 0 where
  pub replies : reply r ≡ e.answers
  pub breaks_are : breaks ≡ e.breaks
  pub degrees_are : degrees ≡ e.degrees
  pub orders_are : orders ≡ e.orders
  pub coefs_are : coefs ≡ e.coefs
  pub positions_are : positions ≡ e.positions
