-- Reading the sheet's five lines (§ 13; § 8, for the pairs of coefficients): four
-- lists of numbers and one of pairs, or code 10 with its place. What a list and a line are is said once, for entries of
-- either kind: the first argument reads an entry.
use Rattle.std.specs.Prelude.{cond, List, [], ◌∷◌, ℕ, leb, ltb, ℤ, length}
use Rattle.std.proofs.Math.Option.{Option, some, none}
use Rattle.base_outcome.specs.Codes as codes
use Rattle.base_outcome.specs.Outcome.{Outcome, answer, refuse, ◌then◌}
use Rattle.spec_spline.specs.Reading.{Pair}
use Rattle.spec_spline.specs.CurveCall.{position_limit}
use Rattle.base_text.specs.Bytes.{Text, newline, colon, Cut, cut, fields, stripped}
use Rattle.base_text.specs.Numeral.{numeral}

-- "at most 4,096 entries a list" (§ 13). A pair "counts as one" (§ 13).
abbrev pub list_limit : ℕ
list_limit = position_limit

-- The bytes that a text may have: 10 comes "for more than 65,536 bytes" (§ 13).
abbrev pub sheet_limit : ℕ
sheet_limit = 65536

-- ---- pairs

abbrev pub both_of : Option ℤ → Option ℤ → Option Pair
both_of none late = none
both_of (some early) none = none
both_of (some early) (some late) = some (record { early = early; late = late })

abbrev pub sides_of : Option Cut → Option Pair
sides_of none = none
sides_of (some c) = both_of (numeral c.before) (numeral c.after)

-- "a pair earlywood:latewood" (§ 13): a numeral on either side of the first colon, so there is no second one.
unfoldable pub pair : Text → Option Pair
pair t = sides_of (cut colon t)

-- ---- lists

abbrev pub prepended : {A : Type 0} → Option A → Option (List A) → Option (List A)
prepended none xs = none
prepended (some x) none = none
prepended (some x) (some xs) = some (x ∷ xs)

-- The entries of the fields, if each is one.
unfoldable pub entries : {A : Type 0} → (Text → Option A) → List Text → Option (List A)
entries entry [] = some []
entries entry (f ∷ fs) = prepended (entry f) (entries entry fs)

abbrev pub limited_list : {A : Type 0} → Option (List A) → Option (List A)
limited_list none = none
limited_list (some xs) = cond (leb (length xs) list_limit) (some xs) none

-- The list after the equals sign: "a list may be empty" (§ 13).
unfoldable pub list_of : {A : Type 0} → (Text → Option A) → Text → Option (List A)
list_of entry [] = some []
list_of entry (c ∷ cs) = limited_list (entries entry (fields (c ∷ cs)))

-- ---- lines

-- A line's list, and the text after the line.
pub record Line (A : Type 0) : Type 0 where
  pub list : List A
  pub rest : Text

abbrev pub line_of : {A : Type 0} → Option (List A) → Text → Option (Line A)
line_of none rest = none
line_of (some xs) rest = some (record { list = xs; rest = rest })

abbrev pub body_of : {A : Type 0} → (Text → Option A) → Option Text → Option (List A)
body_of entry none = none
body_of entry (some body) = list_of entry body

abbrev pub cut_line : {A : Type 0} → (Text → Option A) → Text → Option Cut → Option (Line A)
cut_line entry key none = none
cut_line entry key (some c) = line_of (body_of entry (stripped key c.before)) c.after

-- The first line of a text, which must begin with the key and end by byte 10.
unfoldable pub line : {A : Type 0} → (Text → Option A) → Text → Text → Option (Line A)
line entry key text = cut_line entry key (cut newline text)

-- The place is "the first bad or missing line" (§ 13), from 1.
unfoldable pub read_line : {A : Type 0} → ℕ → (Text → Option A) → Text → Text → Outcome (Line A)
read_line place entry key text = elim (line entry key text) [ none ↦ refuse codes.sheet_line place | some l ↦ answer l ]

-- breaks=, degrees=, orders=, coefs=, at=
abbrev pub breaks_key : Text
breaks_key = 98 ∷ 114 ∷ 101 ∷ 97 ∷ 107 ∷ 115 ∷ 61 ∷ []

abbrev pub degrees_key : Text
degrees_key = 100 ∷ 101 ∷ 103 ∷ 114 ∷ 101 ∷ 101 ∷ 115 ∷ 61 ∷ []

abbrev pub orders_key : Text
orders_key = 111 ∷ 114 ∷ 100 ∷ 101 ∷ 114 ∷ 115 ∷ 61 ∷ []

abbrev pub coefs_key : Text
coefs_key = 99 ∷ 111 ∷ 101 ∷ 102 ∷ 115 ∷ 61 ∷ []

abbrev pub at_key : Text
at_key = 97 ∷ 116 ∷ 61 ∷ []

-- The five lists of a sheet; a coefficient is a pair.
pub record Lists : Type 0 where
  pub breaks : List ℤ
  pub degrees : List ℤ
  pub orders : List ℤ
  pub coefs : List Pair
  pub positions : List ℤ

-- "6 for anything after a good line five" (§ 13).
abbrev pub ended : Text → Lists → Outcome Lists
ended [] lists = answer lists
ended (c ∷ cs) lists = refuse codes.sheet_line 6

-- The five lines in their order.
unfoldable pub five_lines : Text → Outcome Lists
five_lines text =
    read_line 1 numeral breaks_key text then λ b.
    read_line 2 numeral degrees_key b.rest then λ d.
    read_line 3 numeral orders_key d.rest then λ o.
    read_line 4 pair coefs_key o.rest then λ c.
    read_line 5 numeral at_key c.rest then λ p.
    ended p.rest (record { breaks = b.list; degrees = d.list; orders = o.list; coefs = c.list; positions = p.list })

-- 10: "place 0 for more than 65,536 bytes, tested first" (§ 13).
unfoldable pub read : Text → Outcome Lists
read text = cond (ltb sheet_limit (length text)) (refuse codes.sheet_line 0) (five_lines text)
