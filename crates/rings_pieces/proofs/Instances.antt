-- The pieces with numbers: a line between rings 0 and 1 with one series in the year 1, which is ready; and a first line of another form.
use mathlib.Core.Path.{◌≡◌, refl}
use mathlib.Core.List.{[], ◌∷◌, ◌++◌}
use lib.IntN.{pos}
use lib.ListN.{length}
use Rattle.base_exact.specs.Tabulate.{tab}
use Rattle.base_outcome.specs.Outcome.{answer, refusal, capped}
use Rattle.base_print.specs.Refusal.{refusal_line}
use Rattle.base_text.specs.Bytes.{Text, bytes, lines, stripped}
use Rattle.spec_spline.specs.Reading.{latewood}
use Rattle.spec_spline.proofs.Computing.{calling}
use Rattle.spec_sheet.specs.Printout.{joined}
use Rattle.spec_rings.specs.Parts.{headed}
use Rattle.spec_rings.specs.Ready.{Ready, ready}
use Rattle.spec_rings.specs.Rings.{header_line, rings}
use Rattle.spec_rings.proofs.Computing.{reading}
use Rattle.rings_pieces.specs.Piece.{piece_of}
use Rattle.rings_pieces.proofs.Pieces.{pieces_are_rings, refusal_is_rings}

-- ---- what is ready
unfoldable input : Text
input = lines (
    "wood=latewood" ∷
    "breaks=0,1" ∷
    "degrees=1" ∷
    "orders=" ∷
    "coefs=3:5,4:6" ∷
    "at=" ∷
    "ABC01      1     7 -9999" ∷ [])

abbrev made : Ready
made = record {
  wood = latewood;
  lists = record {
    breaks = pos 0 ∷ pos 1 ∷ [];
    degrees = pos 1 ∷ [];
    orders = [];
    coefs = record { early = pos 3; late = pos 5 } ∷ record { early = pos 4; late = pos 6 } ∷ [];
    positions = [];
  };
  series = record { name = bytes "ABC01   "; first_year = pos 1; widths = pos 7 ∷ [] } ∷ [];
}

input_ready : ready input ≡ answer made
unfolding calling reading input
input_ready = refl

one_piece : header_line ++ joined (tab (length made.series) (piece_of (ready input))) ≡ rings input
one_piece = pieces_are_rings input made input_ready

-- ---- a refusal
unfoldable other_wood : Text
other_wood = lines ("wood=oakwood" ∷ "breaks=0,1" ∷ [])

other_refused : ready other_wood ≡ refusal 10 1
unfolding capped bytes lines stripped headed ready other_wood
other_refused = refl

one_line : refusal_line 10 1 ≡ rings other_wood
one_line = refusal_is_rings other_wood 10 1 other_refused
