-- The printout (§ 13; § 8, for the two wood parts): n, the w lines, the v lines and
-- the low lines, or the refusal alone.
use Rattle.std.specs.Prelude.{Bool, cond, ◌||◌, List, [], ◌∷◌, ◌++◌, map, ℕ, ℤ, pos, length}
use Rattle.std.specs.Int.Signed.{le_z}
use Rattle.spec_spline.specs.Table.{Table}
use Rattle.spec_spline.specs.Listing.{Weight, table_weights}
use Rattle.spec_spline.specs.Reading.{Pair}
use Rattle.base_sorting.specs.Sorted.{sorted}
use Rattle.base_text.specs.Bytes.{Text, newline, comma, slash, colon}
use Rattle.base_text.specs.Numeral.{digits, decimal}

-- The texts one after the other.
unfoldable pub joined : List Text → Text
joined [] = []
joined (t ∷ ts) = t ++ joined ts

-- n=
abbrev pub count_key : Text
count_key = 110 ∷ 61 ∷ []

-- w=
abbrev pub weight_key : Text
weight_key = 119 ∷ 61 ∷ []

-- v=
abbrev pub value_key : Text
value_key = 118 ∷ 61 ∷ []

-- low=
abbrev pub low_key : Text
low_key = 108 ∷ 111 ∷ 119 ∷ 61 ∷ []

-- n=rows
unfoldable pub count_line : ℕ → Text
count_line n = count_key ++ (digits n ++ (newline ∷ []))

-- w=row,column,numerator/denominator
unfoldable pub weight_line : Weight → Text
weight_line w = weight_key
    ++ (digits w.row ++
    (comma ∷ (digits w.column ++ (comma ∷ (decimal w.numerator ++ (slash ∷ (digits w.denominator ++ (newline ∷ []))))))))

-- The lines of all non-zero weights, "rows rising, then columns" (§ 13).
unfoldable pub weight_lines : List Weight → Text
weight_lines ws = joined (map weight_line ws)

-- v=position,earlywood:latewood
unfoldable pub value_line : ℤ → Pair → Text
value_line x v = value_key ++ (decimal x ++ (comma ∷ (decimal v.early ++ (colon ∷ (decimal v.late ++ (newline ∷ []))))))

-- The values, in list order.
unfoldable pub value_lines : List ℤ → List Pair → Text
value_lines [] vs = []
value_lines (x ∷ xs) [] = []
value_lines (x ∷ xs) (v ∷ vs) = value_line x v ++ value_lines xs vs

-- low=position
unfoldable pub low_line : ℤ → Text
low_line x = low_key ++ (decimal x ++ (newline ∷ []))

-- "A position is low if either value is zero or less." (§ 8)
unfoldable pub is_low : Pair → Bool
is_low v = le_z v.early (pos 0) || le_z v.late (pos 0)

-- The positions of the list entries that are low, in list order.
unfoldable pub low_positions : List ℤ → List Pair → List ℤ
low_positions [] vs = []
low_positions (x ∷ xs) [] = []
low_positions (x ∷ xs) (v ∷ vs) = cond (is_low v) (x ∷ low_positions xs vs) (low_positions xs vs)

-- A low line for each of these positions.
unfoldable pub low_lines : List ℤ → Text
low_lines xs = joined (map low_line xs)

-- The whole printout of an answer. The low lines come "by rising position, negative ones first, an entry listed twice twice"
-- (§ 13).
unfoldable pub answer_text : Table → List ℤ → List Pair → Text
answer_text t xs vs = count_line (length t) ++ (weight_lines (table_weights 0 t)
    ++ (value_lines xs vs ++ low_lines (sorted (low_positions xs vs))))
