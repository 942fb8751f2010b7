-- The specification's printout of case W1, a refusal and low lines, by computation on the definitions.
use mathlib.Core.Path.{◌≡◌, refl}
use mathlib.Core.List.{List, [], ◌∷◌, ◌++◌}
use lib.IntN.{pos, negsuc}
use Rattle.spec_spline.specs.Listing.{table_weights}
use Rattle.spec_spline.specs.Cases.{pair, for_both, weights1}
use Rattle.base_sorting.specs.Sorted.{inserted, sorted}
use Rattle.base_text.specs.Bytes.{Text, bytes, lines}
use Rattle.base_text.specs.Numeral.{digits_up_to, digits, decimal}
use Rattle.spec_sheet.specs.Printout.{joined, count_line, weight_line, weight_lines, value_line, value_lines, is_low, low_line, low_lines}
use Rattle.spec_sheet.specs.Printout.{low_positions, answer_text}
use Rattle.base_print.specs.Refusal.{refusal_line}

-- The lines as the specification prints them.
abbrev w1 : List Text
w1 =
    -- n=4
    (110 ∷ 61 ∷ 52 ∷ 10 ∷ []) ∷
    -- w=0,0,1/1
    (119 ∷ 61 ∷ 48 ∷ 44 ∷ 48 ∷ 44 ∷ 49 ∷ 47 ∷ 49 ∷ 10 ∷ []) ∷
    -- w=1,1,1/1
    (119 ∷ 61 ∷ 49 ∷ 44 ∷ 49 ∷ 44 ∷ 49 ∷ 47 ∷ 49 ∷ 10 ∷ []) ∷
    -- w=1,2,2/3
    (119 ∷ 61 ∷ 49 ∷ 44 ∷ 50 ∷ 44 ∷ 50 ∷ 47 ∷ 51 ∷ 10 ∷ []) ∷
    -- w=1,3,2/3
    (119 ∷ 61 ∷ 49 ∷ 44 ∷ 51 ∷ 44 ∷ 50 ∷ 47 ∷ 51 ∷ 10 ∷ []) ∷
    -- w=2,2,1/3
    (119 ∷ 61 ∷ 50 ∷ 44 ∷ 50 ∷ 44 ∷ 49 ∷ 47 ∷ 51 ∷ 10 ∷ []) ∷
    -- w=2,3,1/3
    (119 ∷ 61 ∷ 50 ∷ 44 ∷ 51 ∷ 44 ∷ 49 ∷ 47 ∷ 51 ∷ 10 ∷ []) ∷
    -- w=2,4,1/1
    (119 ∷ 61 ∷ 50 ∷ 44 ∷ 52 ∷ 44 ∷ 49 ∷ 47 ∷ 49 ∷ 10 ∷ []) ∷
    -- w=3,5,1/1
    (119 ∷ 61 ∷ 51 ∷ 44 ∷ 53 ∷ 44 ∷ 49 ∷ 47 ∷ 49 ∷ 10 ∷ []) ∷
    -- v=256,17067:17067
    (118 ∷ 61 ∷ 50 ∷ 53 ∷ 54 ∷ 44 ∷ 49 ∷ 55 ∷ 48 ∷ 54 ∷ 55 ∷ 58 ∷ 49 ∷ 55 ∷ 48 ∷ 54 ∷ 55 ∷ 10 ∷ []) ∷
    -- v=512,4267:4267
    (118 ∷ 61 ∷ 53 ∷ 49 ∷ 50 ∷ 44 ∷ 52 ∷ 50 ∷ 54 ∷ 55 ∷ 58 ∷ 52 ∷ 50 ∷ 54 ∷ 55 ∷ 10 ∷ []) ∷
    []

pub w1_printed : count_line 4 ++ (weight_lines weights1 ++ (value_lines (pos 256 ∷ pos 512 ∷ []) (for_both (pos 17067 ∷ pos 4267 ∷ [])) ++ low_lines [])) ≡ joined w1
unfolding joined digits_up_to digits decimal count_line weight_line weight_lines value_line value_lines low_line low_lines
w1_printed = refl

-- The values come in list order, then the low lines by rising position, a repeated one twice: one line where both values are
-- low, or either one, and none where both are 1 or more.
pub lows_printed : answer_text [] (pos 7 ∷ negsuc 4 ∷ pos 1 ∷ pos 0 ∷ pos 7 ∷ []) (pair (negsuc 1) (negsuc 2) ∷ pair (pos 0) (pos 9)
    ∷ pair (pos 1) (pos 2) ∷ pair (pos 3) (negsuc 0) ∷ pair (negsuc 1) (negsuc 2) ∷ []) ≡ lines (
    "n=0" ∷
    "v=7,-2:-3" ∷
    "v=-5,0:9" ∷
    "v=1,1:2" ∷
    "v=0,3:-1" ∷
    "v=7,-2:-3" ∷
    "low=-5" ∷
    "low=0" ∷
    "low=7" ∷
    "low=7" ∷ [])
unfolding joined digits_up_to digits decimal count_line weight_line weight_lines value_line value_lines is_low low_line low_lines low_positions answer_text
    inserted sorted table_weights bytes lines
lows_printed = refl

-- no=10,6
pub refusal-printed : refusal_line 10 6 ≡ 110 ∷ 111 ∷ 61 ∷ 49 ∷ 48 ∷ 44 ∷ 54 ∷ 10 ∷ []
unfolding digits_up_to digits refusal_line
refusal-printed = refl
