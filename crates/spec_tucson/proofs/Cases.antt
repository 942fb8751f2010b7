-- Small texts and lists with what reading and writing end with, by computation on the definitions: good ones, and each refusal
-- with its place.
use mathlib.Core.List.{List, [], ◌∷◌}
use mathlib.Core.Path.{◌≡◌, refl}
use Prim.Native.Nat.{ℕ}
use Prim.Native.String.{String}
use lib.IntN.{ℤ, pos, neg_ℤ}
use Rattle.base_outcome.specs.Outcome.{Outcome, answer, refusal, capped}
use Rattle.base_text.specs.Bytes.{bytes, lines, begins_with}
use Rattle.spec_tucson.specs.Line.{all_printable, all_blank, is_name, is_width}
use Rattle.spec_tucson.specs.Series.{Series}
use Rattle.spec_tucson.specs.TextReading.{read_text}
use Rattle.spec_tucson.specs.ReadCall.{names_of, years_of, counts_of, widths_of, room_for, read_outcome, filled, read_end}
use Rattle.spec_tucson.specs.Writing.{written, years_fit, all_widths}
use Rattle.spec_tucson.specs.Writing.{is_writable, first_unwritable}
use Rattle.spec_tucson.specs.WriteCall.{total, lists_fit, series_of, series_outcome, write_outcome, text_after, write_end}
use Rattle.spec_tucson.proofs.Computing.{reading, writing}

-- A series by its name, its first year and its widths.
abbrev series : String → ℤ → List ℤ → Series
series name year widths = record { name = bytes name; first_year = year; widths = widths }

-- ---- reading

-- The text of these lines reads so.
abbrev Reads : List String → Outcome (List Series) → Type 0
Reads ls o = read_text (lines ls) ≡ o

-- no series, one in thousandths, one in hundredths, an absent ring, a last width 999, no widths
good-texts :
    Reads [] (answer [])
    × Reads ("ABC01   1903  1204     0   999 -9999" ∷ []) (answer (series "ABC01   " (pos 1903) (pos 1204 ∷ pos 0 ∷ pos 999 ∷ []) ∷ []))
    × Reads ("ABC01   1903   120  9999   999" ∷ []) (answer (series "ABC01   " (pos 1903) (pos 1200 ∷ pos 99990 ∷ []) ∷ []))
    × Reads (" A B C    -1 99999" ∷ " A B C     0   999 -9999" ∷ []) (answer (series " A B C  " (neg_ℤ (pos 1)) (pos 99999 ∷ pos 999 ∷ []) ∷ []))
    × Reads ("ABC01   -999   999" ∷ "ABC02   9999 -9999" ∷ "ABC01      0   999" ∷ []) (answer
    (series "ABC01   " (neg_ℤ (pos 999)) [] ∷ series "ABC02   " (pos 9999) [] ∷ series "ABC01   " (pos 0) [] ∷ []))
unfolding reading
good-texts = (refl, refl, refl, refl, refl)

-- a decade's end: the last width on its last year, the closing on the next line
decade_end : Reads ("ABC01   1908     7     8" ∷ "ABC01   1910   999" ∷ []) (answer (series "ABC01   " (pos 1908) (pos 70 ∷ pos 80 ∷ []) ∷ []))
unfolding reading
decade_end = refl

-- code 11: no field, a column over, a name of blanks, a year that is no number, -9999 before the line's and before the series'
-- end, a negative field, over 99,999, past the decade, past it below 0, an empty line
elevens :
    Reads ("ABC01   1903" ∷ []) (refusal 11 1)
    × Reads ("ABC01   1903 -9999 " ∷ []) (refusal 11 1)
    × Reads ("        1903 -9999" ∷ []) (refusal 11 1)
    × Reads ("ABC01   19 3 -9999" ∷ []) (refusal 11 1)
    × Reads ("ABC01   1903 -9999   999" ∷ []) (refusal 11 1)
    × Reads ("ABC01   1909 -9999" ∷ "ABC01   1910   999" ∷ []) (refusal 11 1)
    × Reads ("ABC01   1903    -1 -9999" ∷ []) (refusal 11 1)
    × Reads ("ABC01   1903100000 -9999" ∷ []) (refusal 11 1)
    × Reads ("ABC01   1908   999" ∷ "ABC02   1908     1     2   999" ∷ []) (refusal 11 2)
    × Reads ("ABC01     -1     1   999" ∷ []) (refusal 11 1)
    × Reads ("ABC01   1908   999" ∷ "" ∷ []) (refusal 11 2)
unfolding reading
elevens = (refl, refl, refl, refl, refl, refl, refl, refl, refl, refl, refl)

-- a last line without byte 10
unended : read_text (bytes "ABC01   1903 -9999") ≡ refusal 11 1
unfolding reading
unended = refl

-- code 12: not the next year, the next year without a 0 at its end
twelves :
    Reads ("ABC01   1908     7     8" ∷ "ABC01   1920   999" ∷ []) (refusal 12 2)
    × Reads ("ABC01   1908     7" ∷ "ABC01   1909   999" ∷ []) (refusal 12 2)
unfolding reading
twelves = (refl, refl)

-- code 13: a last line without a closing, 999 after a width over 9,999 on an earlier line, and a series that the next line,
-- which has its name and is malformed, keeps open: 11 on that line
thirteens :
    Reads ("ABC01   1908     7" ∷ "ABC02   1909   999" ∷ []) (refusal 13 1)
    × Reads ("ABC01   1909 10000" ∷ "ABC01   1910   999" ∷ []) (refusal 13 2)
    × Reads ("ABC01   1909     7" ∷ "ABC01   " ∷ []) (refusal 11 2)
    × Reads ("ABC01   1909     7" ∷ "ABC01  " ∷ []) (refusal 13 1)
unfolding reading
thirteens = (refl, refl, refl, refl)

-- ---- the read call: an answer with later cells kept, and a buffer too short
read_calls :
    (read_end (lines ("ABC01   1908     7   999" ∷ [])) (bytes "........zz") (pos 1 ∷ []) (5 ∷ 6 ∷ []) (pos 3 ∷ pos 4 ∷ [])
    ≡ record { answers = answer 1; names = bytes "ABC01   zz"; years = pos 1908 ∷ []; counts = 1 ∷ 6 ∷ []; widths = pos 70 ∷ pos 4 ∷ [] })
    × (read_end (lines ("ABC01   1908     7   999" ∷ [])) (bytes ".......") (pos 1 ∷ []) (5 ∷ []) (pos 3 ∷ [])
    ≡ record { answers = refusal 1 0; names = bytes "......."; years = pos 1 ∷ []; counts = 5 ∷ []; widths = pos 3 ∷ [] })
    × (read_end (lines ("ABC01   1908     7   999" ∷ [])) (bytes "........") (pos 1 ∷ []) (5 ∷ []) []
    ≡ record { answers = refusal 1 0; names = bytes "........"; years = pos 1 ∷ []; counts = 5 ∷ []; widths = [] })
unfolding reading names_of years_of counts_of widths_of room_for read_outcome filled
read_calls = (refl, refl, refl)

-- ---- writing

-- These series have the text of these lines.
abbrev Writes : List Series → List String → Type 0
Writes ss ls = written ss ≡ lines ls

-- no series, no widths, a decade's end below 0, a full decade
written-texts :
    Writes [] []
    × Writes (series "ABC01   " (pos 1908) [] ∷ []) ("ABC01   1908 -9999" ∷ [])
    × Writes (series " A B C  " (neg_ℤ (pos 2)) (pos 0 ∷ pos 999 ∷ []) ∷ series "x       " (pos 7) (pos 99999 ∷ []) ∷ []) (" A B C    -2     0   999"
    ∷ " A B C     0 -9999" ∷ "x          7 99999 -9999" ∷ [])
    × Writes (series "ABC01   " (pos 1909) (pos 1 ∷ pos 2 ∷ pos 3 ∷ pos 4 ∷ pos 5 ∷ pos 6 ∷ pos 7 ∷ pos 8 ∷ pos 9 ∷ pos 10 ∷ pos 11 ∷ []) ∷ [])
    ("ABC01   1909     1" ∷ "ABC01   1910     2     3     4     5     6     7     8     9    10    11" ∷ "ABC01   1920 -9999" ∷ [])
unfolding writing
written-texts = (refl, refl, refl, refl)

-- ---- the write call, with a buffer of 20 cells

-- The call with a buffer of twenty cells refuses so.
abbrev Refuses : String → List ℤ → List ℕ → List ℤ → ℕ → ℕ → Type 0
Refuses names years counts widths code place =
    write_end (bytes names) years counts widths (bytes "....................") ≡ record {
      answers = refusal code place;
      text = bytes "....................";
    }

write-answers : write_end (bytes "ABC01   ") (pos 1908 ∷ []) (0 ∷ []) [] (bytes "....................") ≡ record {
  answers = answer 19;
  text = bytes "ABC01   1908 -9999\n.";
}
unfolding writing begins_with all_printable all_blank is_name is_width years_fit all_widths is_writable first_unwritable total lists_fit series_of
    series_outcome write_outcome text_after
write-answers = refl

-- code 2: seven bytes, two years, two counts, a width too many; code 11: a name of blanks, a tab, a first year, the closing's
-- line, a negative width, a width too large, a name again; code 1
write-refuses :
    Refuses "ABC01  " (pos 1908 ∷ []) (0 ∷ []) [] 2 0
    × Refuses "ABC01   " (pos 1908 ∷ pos 1908 ∷ []) (0 ∷ []) [] 2 0
    × Refuses "ABC01   " (pos 1908 ∷ []) (0 ∷ 0 ∷ []) [] 2 0
    × Refuses "ABC01   " (pos 1908 ∷ []) (0 ∷ []) (pos 1 ∷ []) 2 0
    × Refuses "        " (pos 1908 ∷ []) (0 ∷ []) [] 11 0
    × Refuses "ABC\t01  " (pos 1908 ∷ []) (0 ∷ []) [] 11 0
    × Refuses "ABC01   " (neg_ℤ (pos 1000) ∷ []) (0 ∷ []) [] 11 0
    × Refuses "ABC01   " (pos 9999 ∷ []) (1 ∷ []) (pos 1 ∷ []) 11 0
    × Refuses "ABC01   " (pos 1908 ∷ []) (1 ∷ []) (neg_ℤ (pos 1) ∷ []) 11 0
    × Refuses "ABC01   ABC02   " (pos 1908 ∷ pos 1908 ∷ []) (1 ∷ 1 ∷ []) (pos 99999 ∷ pos 100000 ∷ []) 11 1
    × Refuses "ABC01   ABC02   ABC02   " (pos 1908 ∷ pos 1908 ∷ pos 1908 ∷ []) (0 ∷ 0 ∷ 0 ∷ []) [] 11 2
    × Refuses "ABC01   " (pos 1908 ∷ []) (1 ∷ []) (pos 1 ∷ []) 1 0
unfolding writing begins_with all_printable all_blank is_name is_width years_fit all_widths is_writable first_unwritable total lists_fit series_of
    series_outcome write_outcome text_after
    capped
write-refuses = (refl, refl, refl, refl, refl, refl, refl, refl, refl, refl, refl, refl)
