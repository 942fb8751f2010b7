-- Texts as the reader of tables finds them, computed: what the table has, and what it never has.
use mathlib.Core.Path.{◌≡◌, refl}
use mathlib.Core.List.{List, [], ◌∷◌}
use mathlib.Core.Option.{Option, some, none}
use Prim.Native.String.{String}
use lib.IntN.{ℤ, pos, neg_ℤ}
use Rattle.base_text.specs.Bytes.{bytes, lines, cut}
use Rattle.base_text.specs.Numeral.{all_digits, digits_value}
use Rattle.theorems_table.specs.Reader.{cuts, lines_from, natural_of, whole_of, parts_of, index_in, Row, rows_of}

-- The text of these lines has these rows.
abbrev Has : List String → List (Option Row) → Type 0
Has ls rs = rows_of (lines ls) ≡ rs

abbrev row : String → ℤ → ℤ → ℤ → ℤ → Option Row
row name year width curve index = some (record { name = bytes name; year = year; width = width; curve = curve; index = index })

-- no line, a name in quotation marks with one of its own, an absent ring, years and values below zero, numbers of many digits
tables_read :
    Has [] []
    × Has ("\"OAK,1\",-1,0.812,0.812000,1000" ∷ "\"a\"\"b\",0,0.000,-0.000062," ∷ []) (row "OAK,1" (neg_ℤ (pos 1)) (pos 812) (pos 812000) (pos 1000)
    ∷ row "a\"b" (pos 0) (pos 0) (neg_ℤ (pos 62)) (neg_ℤ (pos 1)) ∷ [])
    × Has ("A B,1908,-0.001,8388.608000,-9223372036854775808" ∷ []) (row "A B" (pos 1908) (neg_ℤ (pos 1)) (pos 8388608000) (neg_ℤ (pos 9223372036854775808)) ∷ [])
unfolding bytes lines cut all_digits digits_value cuts lines_from natural_of whole_of parts_of index_in
tables_read = (refl, refl, refl)

-- no rows: five decimals, two, no point, a field too few and too many, a comma without quotation marks, an index that is no number
none_read :
    Has ("X,1908,0.007,0.00004,5" ∷ []) (none ∷ [])
    × Has ("X,1908,0.07,0.000004,5" ∷ []) (none ∷ [])
    × Has ("X,1908,7,0.000004,5" ∷ []) (none ∷ [])
    × Has ("X,1908,0.007,0.000004" ∷ []) (none ∷ [])
    × Has ("X,1908,0.007,0.000004,5," ∷ []) (none ∷ [])
    × Has ("A,B,1908,0.007,0.000004,5" ∷ []) (none ∷ [])
    × Has ("X,1908,,,no=14" ∷ []) (none ∷ [])
unfolding bytes lines cut all_digits digits_value cuts lines_from natural_of whole_of parts_of index_in
none_read = (refl, refl, refl, refl, refl, refl, refl)
