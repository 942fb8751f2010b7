-- The definitions of the table of indices (§ 17), computed.
use mathlib.Core.Path.{◌≡◌, refl}
use mathlib.Core.List.{List, [], ◌∷◌, drop_last}
use Prim.Native.Nat.{ℕ}
use Prim.Native.String.{String}
use lib.IntN.{ℤ, pos, neg_ℤ}
use Rattle.base_exact.specs.Floor.{nearest}
use Rattle.base_exact.specs.Tabulate.{tab}
use Rattle.base_outcome.specs.Outcome.{answer, refusal, capped}
use Rattle.base_text.specs.Bytes.{Text, bytes, lines}
use Rattle.base_text.specs.Numeral.{digits_up_to, digits, decimal}
use Rattle.spec_spline.specs.Reading.{Wood, earlywood, latewood}
use Rattle.spec_tucson.specs.Line.{all_printable, all_blank, is_name}
use Rattle.spec_tucson.specs.Shown.{trimmed}
use Rattle.spec_tucson.specs.WriteCall.{text_after}
use Rattle.spec_table.specs.Decimals.{last_digits, with_decimals, width_text, millionths, curve_text, index_text}
use Rattle.spec_table.specs.RingLines.{without_leading, bare_name, holds_quoted, doubled, quoted_name, name_text, numbers_text, ring_line, lines_of_rings, IndexedSeries, ring_lines}
use Rattle.spec_table.specs.RingLinesCall.{ring_lists_fit, ring_lines_outcome, ring_lines_end}

-- what numbers and names are written with
unfoldable pub writing : Unit {0}
unfolding bytes lines digits_up_to digits decimal last_digits with_decimals nearest millionths index_text trimmed without_leading bare_name
    holds_quoted doubled quoted_name
writing = tt

-- ---- widths: an absent ring, below a millimetre, above it, and below zero
widths_written :
    (width_text (pos 0) ≡ bytes "0.000")
    × (width_text (pos 7) ≡ bytes "0.007")
    × (width_text (pos 812) ≡ bytes "0.812")
    × (width_text (pos 99999) ≡ bytes "99.999")
    × (width_text (neg_ℤ (pos 1)) ≡ bytes "-0.001")
    × (width_text (neg_ℤ (pos 12034)) ≡ bytes "-12.034")
unfolding writing
widths_written = (refl, refl, refl, refl, refl, refl)

-- ---- millionths: whole thousandths, the least value, and halves, which go up on both sides of zero
millionths-taken :
    (millionths (pos 207872) ≡ pos 812000)
    × (millionths (pos 1) ≡ pos 4)
    × (millionths (neg_ℤ (pos 1)) ≡ neg_ℤ (pos 4))
    × (millionths (pos 16) ≡ pos 63)
    × (millionths (neg_ℤ (pos 16)) ≡ neg_ℤ (pos 62))
    × (millionths (pos 0) ≡ pos 0)
unfolding writing
millionths-taken = (refl, refl, refl, refl, refl, refl)

curves_written :
    (curve_text (pos 207872) ≡ bytes "0.812000")
    × (curve_text (pos 300001) ≡ bytes "1.171879")
    × (curve_text (neg_ℤ (pos 16)) ≡ bytes "-0.000062")
    × (curve_text (pos 0) ≡ bytes "0.000000")
unfolding writing
curves_written = (refl, refl, refl, refl)

indices_written :
    (index_text (pos 0) ≡ bytes "0")
    × (index_text (pos 1000) ≡ bytes "1000")
    × (index_text (neg_ℤ (pos 1)) ≡ [])
    × (index_text (neg_ℤ (pos 2)) ≡ bytes "-2")
unfolding writing
indices_written = (refl, refl, refl, refl)

-- ---- names: blanks outside and inside, a comma, quotation marks alone and among others, and what looks like a sum
names-written :
    (name_text (bytes "ABC01   ") ≡ bytes "ABC01")
    × (name_text (bytes "  A B C ") ≡ bytes "A B C")
    × (name_text (bytes " a,b    ") ≡ bytes "\"a,b\"")
    × (name_text (bytes "\"       ") ≡ bytes "\"\"\"\"")
    × (name_text (bytes "a\"b,\"\"cd") ≡ bytes "\"a\"\"b,\"\"\"\"cd\"")
    × (name_text (bytes "=1+1    ") ≡ bytes "=1+1")
unfolding writing
names-written = (refl, refl, refl, refl, refl, refl)

-- ---- the lines of a series: an absent ring, a year before 0 and after it, the value of either wood
abbrev oak : IndexedSeries
oak = record {
  name = bytes "OAK,1   ";
  first_year = neg_ℤ (pos 1);
  widths = pos 812 ∷ pos 0 ∷ pos 1203 ∷ [];
  values = pos 207872 ∷ pos 256 ∷ pos 1 ∷ pos 2 ∷ pos 300001 ∷ neg_ℤ (pos 16) ∷ [];
  indices = pos 1000 ∷ neg_ℤ (pos 1) ∷ pos 1026 ∷ [];
}

lines-written :
    (ring_lines earlywood oak ≡ lines ("\"OAK,1\",-1,0.812,0.812000,1000" ∷ "\"OAK,1\",0,0.000,0.000004," ∷ "\"OAK,1\",1,1.203,1.171879,1026" ∷ []))
    × (ring_lines latewood oak ≡ lines ("\"OAK,1\",-1,0.812,0.001000,1000" ∷ "\"OAK,1\",0,0.000,0.000008," ∷ "\"OAK,1\",1,1.203,-0.000062,1026" ∷ []))
unfolding writing tab numbers_text ring_line lines_of_rings ring_lines
lines-written = (refl, refl)

-- ---- the call: an answer with a cell behind it kept, then each refusal
abbrev one : String → List ℤ → List ℤ → List ℤ → IndexedSeries
one name widths values indices = record { name = bytes name; first_year = pos 1908; widths = widths; values = values; indices = indices }

call-answers : ring_lines_end latewood (one "X       " (pos 7 ∷ []) (pos 0 ∷ pos 1 ∷ []) (pos 5 ∷ [])) (bytes ".........................") ≡ record {
  answers = answer 24;
  text = bytes "X,1908,0.007,0.000004,5\n.";
}
unfolding writing tab numbers_text ring_line lines_of_rings ring_lines all_printable all_blank is_name ring_lists_fit ring_lines_outcome text_after
call-answers = refl

-- The call of one series with a buffer of three cells refuses so.
abbrev Refuses : IndexedSeries → ℕ → Type 0
Refuses s code = ring_lines_end earlywood s (bytes "...") ≡ record { answers = refusal code 0; text = bytes "..." }

call-refuses :
    Refuses (one "X      " (pos 7 ∷ []) (pos 0 ∷ pos 1 ∷ []) (pos 5 ∷ [])) 2
    × Refuses (one "X       " (pos 7 ∷ []) (pos 0 ∷ pos 1 ∷ []) []) 2
    × Refuses (one "X       " (pos 7 ∷ []) (pos 0 ∷ []) (pos 5 ∷ [])) 2
    × Refuses (one "        " (pos 7 ∷ []) (pos 0 ∷ pos 1 ∷ []) (pos 5 ∷ [])) 11
    × Refuses (one "X\t      " (pos 7 ∷ []) (pos 0 ∷ pos 1 ∷ []) (pos 5 ∷ [])) 11
    × Refuses (one "X       " (pos 7 ∷ []) (pos 0 ∷ pos 1 ∷ []) (pos 5 ∷ [])) 1
unfolding writing tab numbers_text ring_line lines_of_rings ring_lines all_printable all_blank is_name ring_lists_fit ring_lines_outcome text_after capped
call-refuses = (refl, refl, refl, refl, refl, refl)
