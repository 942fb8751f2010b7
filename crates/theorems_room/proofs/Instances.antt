-- The theorems with numbers: a file of 22 bytes with two lines, one of two bytes with eight cells of notes, and one with three bytes 10;
-- a ring whose name has eight quotation marks and whose numbers are the least of their types: 78 bytes.
use mathlib.Core.List.{[], ◌∷◌, ◌++◌}
use mathlib.Core.Path.{◌≡◌, refl}
use Prim.Native.Nat.{ℕ, zero, suc, ◌^◌, ◌≤◌}
use native.Mathlib.Omega.{arith}
use lib.IntN.{pos, neg_ℤ, nat_abs}
use lib.ListN.{length, get_or}
use Rattle.base_exact.specs.Floor.{nearest}
use Rattle.base_exact.specs.Tabulate.{tab}
use Rattle.base_outcome.specs.Outcome.{answer, refuse, ◌then◌}
use Rattle.base_text.specs.Bytes.{Text, bytes, lines}
use Rattle.base_text.specs.Numeral.{digits_up_to, digits, decimal}
use Rattle.spec_spline.specs.Reading.{latewood}
use Rattle.spec_tucson.specs.Shown.{trimmed}
use Rattle.spec_tucson.specs.CleanCall.{Cleaned, cleaned, if_room}
use Rattle.spec_table.specs.Decimals.{last_digits, with_decimals, millionths, index_text}
use Rattle.spec_table.specs.RingLines.{without_leading, bare_name, holds_quoted, doubled, quoted_name, numbers_text, ring_line, lines_of_rings, IndexedSeries, ring_lines}
use Rattle.spec_table.specs.RingLinesCall.{ring_lines_outcome}
use Rattle.theorems_files.proofs.Cases.{cleaning, ended}
use Rattle.theorems_files.proofs.Files.{file, answers, file_cleaned}
use Rattle.theorems_again.specs.Again.{not_named, not_said, AnsweredAgain}
use Rattle.theorems_room.specs.Room.{line_ends, Within}
use Rattle.theorems_room.specs.TableRoom.{CallTypes}
use Rattle.theorems_room.proofs.ByLines.{room_by_lines, never_short_by_lines}
use Rattle.theorems_room.proofs.WholeFile.{room_by_bytes, never_short_by_bytes}
use Rattle.theorems_room.proofs.Again.{half_is_cleaned-again}
use Rattle.theorems_room.proofs.ByRings.{room_by_rings, never_short_by_rings}

-- ---- files by their bytes

-- A series of two lines with tabs: 22 bytes, so two cells of lines are promised, and no more are needed.
abbrev tabbed : Text
tabbed = 65 ∷ 9 ∷ (bytes "   9" ++ (9 ∷ ended " 1" (65 ∷ 9 ∷ bytes "  10   999")))

abbrev tabbed_answer : Cleaned
tabbed_answer = record {
  text = lines ("A          9     1" ∷ "A         10   999" ∷ []);
  lines = 1 ∷ 2 ∷ [];
  notes = 4 ∷ 1 ∷ 4 ∷ 2 ∷ 8 ∷ 2 ∷ [];
}

tabbed-cleaned : cleaned tabbed 100 0 ≡ answer tabbed_answer
unfolding cleaning
tabbed-cleaned = refl

tabbed-room : Within tabbed_answer 44 2 48
unfolding cleaning
tabbed-room = room_by_bytes tabbed 100 0 tabbed_answer tabbed-cleaned

-- A header of one letter and a tab, without byte 10: 2 times 2 and 4 cells of notes.
abbrev letter : Text
letter = 65 ∷ 9 ∷ []

abbrev letter_answer : Cleaned
letter_answer = record { text = []; lines = []; notes = 4 ∷ 1 ∷ 5 ∷ 1 ∷ 8 ∷ 1 ∷ 9 ∷ 1 ∷ [] }

letter_cleaned : cleaned letter 1 0 ≡ answer letter_answer
unfolding cleaning
letter_cleaned = refl

letter_room : Within letter_answer 4 0 8
letter_room = room_by_bytes letter 1 0 letter_answer letter_cleaned

tabbed-again : AnsweredAgain tabbed_answer 100 0
unfolding cleaning
tabbed-again = half_is_cleaned-again tabbed 100 0 tabbed_answer tabbed-cleaned (omega arith) 100 0 not_named not_said

letter_has_room : (cleaned letter 1 0 then if_room 4 0 8) ≡ cleaned letter 1 0
letter_has_room = never_short_by_bytes letter 1 0 4 0 8 (omega arith) (omega arith) (omega arith)

-- ---- a file by its lines

three_ends : line_ends file ≡ 3
unfolding cleaning line_ends
three_ends = refl

file_room : Within answers 395 5 114
unfolding cleaning line_ends
file_room = room_by_lines file 100 1000 answers file_cleaned

file_has_room : (cleaned file 100 1000 then if_room 395 5 114) ≡ cleaned file 100 1000
file_has_room = never_short_by_lines file 100 1000 395 5 114 (omega (arith, three_ends)) (omega (arith, three_ends)) (omega (arith, three_ends))

-- ---- a ring

abbrev least : IndexedSeries
least = record {
  name = 34 ∷ 34 ∷ 34 ∷ 34 ∷ 34 ∷ 34 ∷ 34 ∷ 34 ∷ [];
  first_year = neg_ℤ (pos 2147483648);
  widths = neg_ℤ (pos 2147483648) ∷ [];
  values = pos 0 ∷ neg_ℤ (pos 2147483648) ∷ [];
  indices = neg_ℤ (pos 9223372036854775808) ∷ [];
}

least_has_78 : length (ring_lines latewood least) ≡ 78
unfolding digits_up_to digits decimal last_digits with_decimals nearest millionths index_text trimmed without_leading bare_name
    holds_quoted doubled quoted_name tab numbers_text ring_line lines_of_rings ring_lines
least_has_78 = refl

least_types : CallTypes least
least_types = record { year = omega arith; rings = omega arith; widths = widths_small; values = values-small; indices = indices_small }
  where
    widths_small : (j : ℕ) → nat_abs (get_or least.widths j (pos 0)) ≤ 2 ^ 31
    widths_small zero = omega arith
    widths_small (suc j) = omega arith

    values-small : (j : ℕ) → nat_abs (get_or least.values j (pos 0)) ≤ 2 ^ 31
    values-small zero = omega arith
    values-small (suc zero) = omega arith
    values-small (suc (suc j)) = omega arith

    indices_small : (j : ℕ) → nat_abs (get_or least.indices j (pos 0)) ≤ 2 ^ 63
    indices_small zero = omega arith
    indices_small (suc j) = omega arith

least-room : length (ring_lines latewood least) ≤ 87
least-room = room_by_rings latewood least refl least_types

least_has_room : ring_lines_outcome latewood least 87 ≡ refuse 1 0 → ⊥
least_has_room = never_short_by_rings latewood least 87 least_types (omega arith)
