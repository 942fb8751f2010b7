-- A laboratory's files, computed: what the cleaning call makes of small texts, with its lines and notes, and each refusal with its place.
use mathlib.Core.Bool.{false}
use mathlib.Core.List.{List, [], ◌∷◌, ◌++◌}
use mathlib.Core.Path.{◌≡◌, refl}
use Prim.Native.Nat.{ℕ}
use Prim.Native.String.{String}
use Rattle.base_outcome.specs.Outcome.{Outcome, answer, refusal}
use Rattle.base_text.specs.Bytes.{Text, bytes, lines, index_where}
use Rattle.base_text.specs.Numeral.{digits_up_to, digits, decimal}
use Rattle.spec_tucson.specs.Columns.{columns}
use Rattle.spec_tucson.specs.FileText.{is_marked, unmarked, text_of, ends_early, all_padding, is_fault, fault_line, is_wide, text_fault}
use Rattle.spec_tucson.specs.Shown.{unended, has_end, ends_in_return, without_return, expanded, any_tab, trimmed, line_bytes, in_its_columns, shown}
use Rattle.spec_tucson.specs.Shown.{is_blank_line, has_return, has_tab, has_trailing}
use Rattle.spec_tucson.specs.StrictLine.{all_letters, is_site_number, is_site_name, has_site, without_site, any_high, bytes_masked, follow_of, characters_from}
use Rattle.spec_tucson.specs.StrictLine.{is_strict, masked, strict_bytes, shown_fields, strict_line, name_bytes}
use Rattle.spec_tucson.specs.KeptLines.{same_text, column, any_word, is_caption, is_header_line, unblank, reads_strictly, captions, guessed_header}
use Rattle.spec_tucson.specs.KeptLines.{strict_in_header, named_header, no_header_named, header_of, is_data, kept_lines}
use Rattle.spec_tucson.specs.CleanSeries.{continues, fields_of, digits_in, year_in_name, digits_behind, ends_in_number, any_blank, is_shifted, runs_in}
use Rattle.spec_tucson.specs.CleanSeries.{year_fault, closing_of, is_unit_fault, closing_after, any999, seen999, closing_fault, series_fault}
use Rattle.spec_tucson.specs.CleanSeries.{is_reclosed, reclosed, closed_lines, strict_text, read_kept}
use Rattle.spec_tucson.specs.CleanNotes.{ahead, begins_absent, ends_with, has_last_width, is_absent_end, is_like_closing, is_other_unit, remarks}
use Rattle.spec_tucson.specs.CleanNotes.{kept_notes, header_notes, line_notes, at_line, notes_of}
use Rattle.spec_tucson.specs.CleanCall.{Cleaned, is_header_option, is_unit_option, checked_lines, mark_note, all_ended, end_note, all_notes, cleaned_below, cleaned_file, cleaned}
use Rattle.spec_tucson.proofs.Computing.{reading}

-- what a file is cleaned with
unfoldable pub cleaning : Unit {0}
unfolding reading index_where digits_up_to digits decimal columns is_marked unmarked text_of ends_early all_padding is_fault fault_line is_wide
    text_fault unended has_end ends_in_return without_return expanded any_tab trimmed line_bytes in_its_columns shown is_blank_line has_return has_tab
    has_trailing all_letters is_site_number is_site_name has_site without_site any_high bytes_masked follow_of characters_from is_strict masked
    strict_bytes shown_fields strict_line name_bytes same_text column any_word is_caption is_header_line unblank reads_strictly captions
    guessed_header strict_in_header named_header header_of is_data kept_lines continues fields_of digits_in year_in_name digits_behind ends_in_number
    any_blank is_shifted runs_in year_fault closing_of is_unit_fault closing_after any999 seen999 closing_fault series_fault is_reclosed reclosed
    closed_lines strict_text read_kept ahead begins_absent ends_with has_last_width is_absent_end is_like_closing is_other_unit remarks kept_notes
    header_notes line_notes at_line notes_of is_header_option is_unit_option checked_lines mark_note all_ended end_note all_notes cleaned_below
    cleaned_file cleaned
cleaning = tt

-- The file becomes this text, with these lines and notes, or is refused; nothing is named or said.
abbrev pub Cleans : Text → Outcome Cleaned → Type 0
Cleans t o = cleaned t no_header_named 0 ≡ o

abbrev pub result : List String → List ℕ → List ℕ → Outcome Cleaned
result ls is ns = answer (record { text = lines ls; lines = is; notes = ns })

-- nothing; a strict line as it is
as_it_is :
    Cleans [] (result [] [] [])
    × Cleans (lines ("ABC01   1903  1204 -9999" ∷ [])) (result ("ABC01   1903  1204 -9999" ∷ []) (1 ∷ []) [])
unfolding cleaning
as_it_is = (refl, refl)

-- A line and what follows its text: its end, as laboratories write it.
abbrev pub ended : String → List ℕ → Text
ended s more = bytes s ++ (10 ∷ more)

-- ---- what is read, with its notes

-- a mark, byte 13, a tab, trailing blanks, a blank line, no end, a byte 26 with padding behind it
changed :
    Cleans (239 ∷ 187 ∷ 191 ∷ ended "ABC01   1903  1204 -9999" []) (result ("ABC01   1903  1204 -9999" ∷ []) (1 ∷ []) (1 ∷ 1 ∷ []))
    × Cleans (bytes "ABC01   1903  1204 -9999" ++ (13 ∷ 10 ∷ [])) (result ("ABC01   1903  1204 -9999" ∷ []) (1 ∷ []) (3 ∷ 1 ∷ []))
    × Cleans (bytes "ABC01" ++ (9 ∷ ended "1903  1204 -9999" [])) (result ("ABC01   1903  1204 -9999" ∷ []) (1 ∷ []) (4 ∷ 1 ∷ []))
    × Cleans (bytes "ABC01   1903  1204 -9999 " ++ (9 ∷ 10 ∷ [])) (result ("ABC01   1903  1204 -9999" ∷ []) (1 ∷ []) (4 ∷ 1 ∷ 5 ∷ 1 ∷ []))
    × Cleans (32 ∷ 13 ∷ 10 ∷ ended "ABC01   1903  1204 -9999" (9 ∷ [])) (result ("ABC01   1903  1204 -9999" ∷ []) (2 ∷ []) (3 ∷ 1 ∷ 6 ∷ 1 ∷ 4 ∷ 3 ∷ 6 ∷ 3 ∷ []))
    × Cleans (bytes "ABC01   1903  1204 -9999") (result ("ABC01   1903  1204 -9999" ∷ []) (1 ∷ []) (8 ∷ 1 ∷ []))
    × Cleans (bytes "ABC01   1903  1204 -9999" ++ (26 ∷ 26 ∷ 10 ∷ [])) (result ("ABC01   1903  1204 -9999" ∷ []) (1 ∷ []) (2 ∷ 1 ∷ 8 ∷ 1 ∷ []))
    × Cleans (ended "ABC01   1903  1204 -9999" (26 ∷ 32 ∷ [])) (result ("ABC01   1903  1204 -9999" ∷ []) (1 ∷ []) (2 ∷ 2 ∷ []))
unfolding cleaning
changed = (refl, refl, refl, refl, refl, refl, refl, refl)

-- a name with a byte that is not ASCII, and with a character of two bytes
named :
    Cleans (66 ∷ 228 ∷ ended "R01  1903  1204 -9999" []) (refusal 22 1)
    × Cleans (66 ∷ 228 ∷ ended "R01   1903  1204 -9999" []) (result ("B?R01   1903  1204 -9999" ∷ []) (1 ∷ []) (10 ∷ 1 ∷ []))
    × Cleans (66 ∷ 195 ∷ 164 ∷ ended "R01   1903  1204 -9999" []) (result ("B?R01   1903  1204 -9999" ∷ []) (1 ∷ []) (10 ∷ 1 ∷ []))
    × Cleans (66 ∷ 195 ∷ 164 ∷ ended "R01  1903  1204 -9999" []) (result ("B??R01  1903  1204 -9999" ∷ []) (1 ∷ []) (10 ∷ 1 ∷ []))
unfolding cleaning
named = (refl, refl, refl, refl)

-- ten fields, or fewer, and a site name in column 74 or later; what is none
sites :
    (without_site (bytes "ABC01   1900   101   102   103   104   105   106   107   108   109   110 CO523")
    ≡ bytes "ABC01   1900   101   102   103   104   105   106   107   108   109   110")
    × (without_site (bytes "ABC01   1900   101                                                         ITAL012A") ≡ bytes "ABC01   1900   101")
    × (has_site (bytes "ABC01   1900   101   102   103   104   105   106   107   108   109   110   709") ≡ false)
    × (has_site (bytes "ABC01   1900   101   102   103   104   105   106   107   108   109   110 BC") ≡ false)
    × (has_site (bytes "ABC01   1900   101   102   103   104   105   106   107   108   109   110CO523") ≡ false)
    × (has_site (bytes "ABC01   1900   101   102   103   104   105   106   107   108   109   110 ITALY12") ≡ false)
unfolding cleaning
sites = (refl, refl, refl, refl, refl, refl)

-- the header of the data bank, which nobody named
header :
    Cleans (ended "CO523  1 Great Sand Dunes" (ended "CO523  2 Colorado     PIPO" (ended "CO523  3" (ended "ABC01   1903  1204 -9999" []))))
    (result ("ABC01   1903  1204 -9999" ∷ []) (4 ∷ []) (9 ∷ 1 ∷ 9 ∷ 2 ∷ 9 ∷ 3 ∷ []))
unfolding cleaning
header = refl

-- remarks: 999 at the end of a line of thousandths, absent rings at the ends, no width, another unit
remarked :
    Cleans (lines ("OAK     1895    81    79    65    90   999" ∷ "OAK     1900   812   702 -9999" ∷ []))
    (result ("OAK     1895    81    79    65    90   999" ∷ "OAK     1900   812   702 -9999" ∷ []) (1 ∷ 2 ∷ []) (13 ∷ 1 ∷ []))
    × Cleans (lines ("OAK     1890   700   701     0     0   999" ∷ []))
    (result ("OAK     1890   700   701     0     0   999" ∷ []) (1 ∷ []) (12 ∷ 1 ∷ []))
    × Cleans (lines ("OAK     1899     0" ∷ "OAK     1900 -9999" ∷ "OAL     1900 -9999" ∷ []))
    (result ("OAK     1899     0" ∷ "OAK     1900 -9999" ∷ "OAL     1900 -9999" ∷ []) (1 ∷ 2 ∷ 3 ∷ []) (12 ∷ 1 ∷ 12 ∷ 3 ∷ []))
    × Cleans (lines ("OAK     1895    81   999" ∷ "OAL     1900   812   702 -9999" ∷ "OAM     1900     7   999" ∷ []))
    (result ("OAK     1895    81   999" ∷ "OAL     1900   812   702 -9999" ∷ "OAM     1900     7   999" ∷ []) (1 ∷ 2 ∷ 3 ∷ []) (14 ∷ 2 ∷ []))
unfolding cleaning
remarked = (refl, refl, refl, refl)

-- -999 closes, and the unit is said
said :
    (cleaned (lines ("OAK     1895    81    79  -999" ∷ [])) no_header_named 100 ≡ result ("OAK     1895    81    79   999" ∷ []) (1 ∷ []) (11 ∷ 1 ∷ []))
    × (cleaned (lines ("OAK     1895    81    79  -999" ∷ [])) no_header_named 1000 ≡ result ("OAK     1895    81    79 -9999" ∷ []) (1 ∷ []) (11 ∷ 1 ∷ []))
unfolding cleaning
said = (refl, refl)

-- ---- what is refused

-- a zero byte, byte 13 alone, a mark within, 16-bit characters, something behind byte 26
faults :
    Cleans (10 ∷ 65 ∷ 0 ∷ []) (refusal 21 2)
    × Cleans (65 ∷ 13 ∷ 65 ∷ 10 ∷ []) (refusal 21 1)
    × Cleans (10 ∷ 10 ∷ 239 ∷ 187 ∷ 191 ∷ []) (refusal 21 3)
    × Cleans (255 ∷ 254 ∷ 65 ∷ 0 ∷ []) (refusal 21 1)
    × Cleans (10 ∷ 26 ∷ 10 ∷ 65 ∷ []) (refusal 21 2)
unfolding cleaning
faults = (refl, refl, refl, refl, refl)

-- tabs that move a field, three data lines that are no header, a list of tabs
malformed :
    Cleans (bytes "OAK01" ++ (9 ∷ bytes "1895   812" ++ (9 ∷ ended "   655 -9999" []))) (refusal 11 1)
    × Cleans (lines ("OAK 01 1 850    12    13    14   999 A" ∷ "OAK 01 2 851    12    13    14   999 A" ∷ "OAK 01 3 852    12    13    14   999 A"
    ∷ "OAK     1895    81   999" ∷ [])) (refusal 11 1)
    × Cleans (bytes "OAK01A" ++ (9 ∷ 49 ∷ 50 ∷ 9 ∷ bytes "1920" ++ (9 ∷ ended "-9999" []))) (refusal 11 1)
unfolding cleaning
malformed = (refl, refl, refl)

-- the year runs into the name: five columns of year, a minus, a minus that is not ASCII, a line shifted to the left
running :
    Cleans (lines ("ABC01  11895   812 -9999" ∷ [])) (refusal 23 1)
    × Cleans (lines ("ABC012-11895   812 -9999" ∷ [])) (refusal 23 1)
    × Cleans (bytes "ABC01  " ++ (226 ∷ 136 ∷ 146 ∷ ended "1012   812 -9999" [])) (refusal 23 1)
    × Cleans (lines ("FJ -725 1483 -9999" ∷ [])) (refusal 23 1)
    × Cleans (lines (" ABC01  1895 -9999" ∷ [])) (refusal 23 1)
    × Cleans (lines ("ABC   121895   812 -9999" ∷ [])) (refusal 23 1)
unfolding cleaning
running = (refl, refl, refl, refl, refl, refl)

-- a unit that nobody knows or another than is said, 999 within hundredths, a gap, a header that is data, too few lines, options
refused :
    Cleans (lines ("OAK     1895    81  -999" ∷ [])) (refusal 24 1)
    × (cleaned (lines ("OAK     1895    81   999" ∷ [])) no_header_named 1000 ≡ refusal 24 1)
    × Cleans (lines ("OAK     1895    81   999    82   999" ∷ [])) (refusal 25 1)
    × Cleans (lines ("OAK     1895    81    79    65   999" ∷ "OAK     1910   820   700 -9999" ∷ [])) (refusal 12 2)
    × Cleans (lines ("OAK     1895    81    79    65" ∷ [])) (refusal 13 1)
    × (cleaned (lines ("OAK     1895    81   999" ∷ [])) 1 0 ≡ refusal 26 1)
    × (cleaned (lines ("OAK     1895    81   999" ∷ [])) 2 0 ≡ refusal 26 0)
    × (cleaned [] 101 0 ≡ refusal 26 0)
    × (cleaned [] 0 7 ≡ refusal 24 0)
unfolding cleaning
refused = (refl, refl, refl, refl, refl, refl, refl, refl, refl)

-- a name that becomes the one before it by ?
misnamed : Cleans (66 ∷ 228 ∷ bytes "R01   1909  1204" ++ (10 ∷ 66 ∷ 235 ∷ ended "R01   1910 -9999" [])) (refusal 22 2)
unfolding cleaning
misnamed = refl
