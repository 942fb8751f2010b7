-- The program `rings` (§ 18), computed: inputs with all that it prints for them.
use mathlib.Core.Path.{◌≡◌, refl, ap, ◌∙◌}
use mathlib.Core.List.{List, [], ◌∷◌}
use Prim.Native.String.{String}
use lib.IntN.{ℤ, pos}
use Rattle.base_outcome.specs.Outcome.{answer, capped}
use Rattle.base_print.specs.Refusal.{refusal_line}
use Rattle.base_text.specs.Bytes.{bytes, lines, stripped}
use Rattle.base_text.specs.Numeral.{digits_up_to, digits}
use Rattle.spec_spline.specs.Reading.{latewood}
use Rattle.spec_spline.proofs.Computing.{calling}
use Rattle.spec_tucson.specs.Series.{Series}
use Rattle.spec_rings.specs.Parts.{headed}
use Rattle.spec_rings.specs.Ready.{Ready, ready}
use Rattle.spec_rings.specs.Rings.{ready_text, rings}
use Rattle.spec_rings.proofs.Computing.{reading, writing, indexing}

-- The program gives these lines for those.
abbrev Gives : List String → List String → Type 0
Gives input output = rings (lines input) ≡ lines output

-- ---- a first line of another form
other_first-line : Gives ("wood=oakwood" ∷ []) ("no=10,1" ∷ [])
unfolding capped bytes lines stripped headed ready digits_up_to digits refusal_line ready_text rings
other_first-line = refl

-- ---- a sheet and no series
no-series : Gives ("wood=earlywood" ∷ "breaks=0,1" ∷ "degrees=1" ∷ "orders=" ∷ "coefs=3:5,4:6" ∷ "at=" ∷ []) ("series,year,width_mm,curve_mm,index" ∷ [])
unfolding calling reading indexing rings
no-series = refl

-- ---- three series, one ring each: the second, past the last break, gives 7, and the first and the third keep their lines
abbrev three_series : List String
three_series =
    "wood=latewood" ∷
    "breaks=0,1" ∷
    "degrees=1" ∷
    "orders=" ∷
    "coefs=3:5,4:6" ∷
    "at=" ∷
    "ABC01      1     7 -9999" ∷
    "ABC02      2     8 -9999" ∷
    "ABC03      0    10 -9999" ∷ []

-- A series of one ring.
abbrev one_ring : String → ℤ → ℤ → Series
one_ring name year width = record { name = bytes name; first_year = year; widths = width ∷ [] }

abbrev three : Ready
three = record {
  wood = latewood;
  lists = record {
    breaks = pos 0 ∷ pos 1 ∷ [];
    degrees = pos 1 ∷ [];
    orders = [];
    coefs = record { early = pos 3; late = pos 5 } ∷ record { early = pos 4; late = pos 6 } ∷ [];
    positions = [];
  };
  series = one_ring "ABC01   " (pos 1) (pos 7) ∷ one_ring "ABC02   " (pos 2) (pos 8) ∷ one_ring "ABC03   " (pos 0) (pos 10) ∷ [];
}

three_ready : ready (lines three_series) ≡ answer three
unfolding calling reading
three_ready = refl

three_printed : ready_text (answer three)
    ≡ lines ("series,year,width_mm,curve_mm,index" ∷ "ABC01,1,0.007,0.006000,1166" ∷ "ABC02,2,,,no=7" ∷ "ABC03,0,0.010,0.005000,2000" ∷ [])
unfolding calling indexing writing
three_printed = refl

refused_series : Gives three_series
    ("series,year,width_mm,curve_mm,index" ∷ "ABC01,1,0.007,0.006000,1166" ∷ "ABC02,2,,,no=7" ∷ "ABC03,0,0.010,0.005000,2000" ∷ [])
unfolding rings
refused_series = ap ready_text three_ready ∙ three_printed
