-- The text of a sheet with given lists (§ 13; § 8): what is written for numbers and
-- pairs reads back to them. The statement at the end is proved in proofs/RoundTrip.
use Rattle.std.specs.Prelude.{List, [], ◌∷◌, ◌++◌, map, ◌≡◌, ℕ, ◌<◌, ◌≤◌, ℤ, pos, nat_abs, length, get_or}
use Rattle.base_outcome.specs.Outcome.{answer}
use Rattle.spec_spline.specs.Reading.{Pair, side_by_side}
use Rattle.base_text.specs.Bytes.{Text, newline, comma, colon}
use Rattle.base_text.specs.Numeral.{decimal, numeral_limit}
use Rattle.spec_sheet.specs.SheetReading.{list_limit, sheet_limit, breaks_key, degrees_key, orders_key, coefs_key, at_key, Lists, read}

-- A pair as earlywood:latewood.
unfoldable pub pair_text : Pair → Text
pair_text p = decimal p.early ++ (colon ∷ decimal p.late)

-- The texts with commas between.
unfoldable pub comma_joined : List Text → Text
comma_joined [] = []
comma_joined (t ∷ []) = t
comma_joined (t ∷ u ∷ ts) = t ++ (comma ∷ comma_joined (u ∷ ts))

-- A list of entries, each with its text.
unfoldable pub list_text : {A : Type 0} → (A → Text) → List A → Text
list_text text xs = comma_joined (map text xs)

-- A line with this key, ended by byte 10.
unfoldable pub line_text : {A : Type 0} → (A → Text) → Text → List A → Text
line_text text key xs = key ++ (list_text text xs ++ (newline ∷ []))

-- The five lines.
unfoldable pub sheet_text : Lists → Text
sheet_text l =
    line_text decimal breaks_key l.breaks
    ++ (line_text decimal degrees_key l.degrees
    ++ (line_text decimal orders_key l.orders
    ++ (line_text pair_text coefs_key l.coefs
    ++ line_text decimal at_key l.positions)))

-- Numbers that a line can hold, in at most 4,096 entries.
pub record Writable (count : ℕ) (zs : List ℤ) : Type 0 where
  pub few : count ≤ list_limit
  pub small : (i : ℕ) → nat_abs (get_or zs i (pos 0)) < numeral_limit

-- A list of numbers that a line can hold.
abbrev pub WritableNumerals : List ℤ → Type 0
WritableNumerals zs = Writable (length zs) zs

-- A list of pairs that a line can hold.
abbrev pub WritablePairs : List Pair → Type 0
WritablePairs ps = Writable (length ps) (side_by_side ps)

-- A sheet reads back to its lists.
abbrev pub SheetReadsBack : Type 0
SheetReadsBack =
    (l : Lists) → WritableNumerals l.breaks → WritableNumerals l.degrees → WritableNumerals l.orders → WritablePairs l.coefs
    → WritableNumerals l.positions →
    length (sheet_text l) ≤ sheet_limit → read (sheet_text l) ≡ answer l
