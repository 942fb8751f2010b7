-- The bytes of the program piece by piece: the header, and one piece for each series, so that "no buffer holds the whole output"
-- (§ 18). The statements at the end are proved in proofs/Pieces.
use Rattle.std.specs.Prelude.{List, [], ◌++◌, ◌≡◌, ℕ, ◌<◌, ◌≤◌, ℤ, length, take, get_or}
use Rattle.base_exact.specs.Tabulate.{tab}
use Rattle.base_outcome.specs.Outcome.{Outcome, answer, refusal}
use Rattle.base_text.specs.Bytes.{Text}
use Rattle.base_print.specs.Refusal.{refusal_line}
use Rattle.spec_spline.specs.Reading.{Wood, side_by_side}
use Rattle.spec_sheet.specs.Printout.{joined}
use Rattle.spec_tucson.specs.ReadCall.{widths_of}
use Rattle.spec_rings.specs.Ready.{Ready, ready}
use Rattle.spec_rings.specs.Rings.{header_line, pieces, rings}
use Rattle.rings_read.specs.Machine.{FileHeld}
use Rattle.rings_text.specs.Printed.{series_limit}

-- The bytes of series k of what is ready; none where nothing is.
unfoldable pub piece_of : Outcome Ready → ℕ → Text
piece_of (answer r) k = get_or (pieces r) k []
piece_of (refusal code place) k = []

-- What is ready for the input, where the machine's lists are its lists.
pub record Held (input : Text) (wood : Wood) (breaks degrees orders coefs : List ℤ) (n : ℕ)
    (names : List ℕ) (years : List ℤ) (counts : List ℕ) (widths : List ℤ) : Type 0 where
  pub made : Ready
  pub is : ready input ≡ answer made
  pub wood_is : made.wood ≡ wood
  pub breaks_are : breaks ≡ made.lists.breaks
  pub degrees_are : degrees ≡ made.lists.degrees
  pub orders_are : orders ≡ made.lists.orders
  pub coefs_are : coefs ≡ side_by_side made.lists.coefs
  pub file : FileHeld made.series n names years counts widths

-- The turn of series k, whose widths start here, and room for its lines.
pub record Turn {input : Text} {wood : Wood} {breaks degrees orders coefs : List ℤ} {n : ℕ} {names : List ℕ} {years : List ℤ}
    {counts : List ℕ}
    {widths : List ℤ} (held : Held input wood breaks degrees orders coefs n names years counts widths) (k start : ℕ) : Type 0 where
  pub within : k < n
  pub starts : start ≡ length (widths_of (take k held.made.series))

-- The most widths of an input, six columns each.
abbrev pub width_cells : ℕ
width_cells = 174762

-- What a piece asks: what is held, its turn, no more widths than an input has, and room.
pub record PieceAsks (input : Text) (wood : Wood) (breaks degrees orders coefs : List ℤ) (n : ℕ)
    (names : List ℕ) (years : List ℤ) (counts : List ℕ) (widths : List ℤ) (k start : ℕ) (out : List ℕ) : Type 0 where
  pub held : Held input wood breaks degrees orders coefs n names years counts widths
  pub turn : Turn held k start
  pub few : length widths ≤ width_cells
  pub room : series_limit ≤ length out

-- The header and the pieces, one after another, are what the program gives.
abbrev pub PiecesAreRings : Type 0
PiecesAreRings = (input : Text) (r : Ready) → ready input ≡ answer r
    → header_line ++ joined (tab (length r.series) (piece_of (ready input))) ≡ rings input

-- The line of the refusal is what the program gives where nothing is ready.
abbrev pub RefusalIsRings : Type 0
RefusalIsRings = (input : Text) (code place : ℕ) → ready input ≡ refusal code place → refusal_line code place ≡ rings input
