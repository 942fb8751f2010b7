-- The five lines one after the other: what is left to read once the lines up to one are known.
use mathlib.Core.Path.{◌≡◌, refl}
use mathlib.Core.List.{[], ◌∷◌}
use mathlib.Core.Option.{Option, some, none}
use Prim.Native.Nat.{ℕ, ◌<◌, ◌≤◌}
use native.Mathlib.Omega.{arith}
use borrow.Author.Tests.{lt-ltb, le-ltb}
use lib.IntN.{ℤ}
use lib.ListN.{length}
use Rattle.base_outcome.specs.Outcome.{Outcome, answer, refuse, ◌then◌}
use Rattle.spec_spline.specs.Reading.{Pair}
use Rattle.base_text.specs.Bytes.{Text, fields}
use Rattle.base_text.specs.Numeral.{numeral}
use Rattle.spec_sheet.specs.SheetReading.{sheet_limit, pair, entries, limited_list, list_of, Line, line, read_line, degrees_key, orders_key, coefs_key, at_key, Lists, ended, five_lines, read}

-- ---- a list that is not empty
module _ {A : Type 0} (entry : Text → Option A) where
  pub list_fields : (t : Text) → 0 < length t → list_of entry t ≡ limited_list (entries entry (fields t))
  unfolding list_of
  list_fields [] h = absurd (omega arith)
  list_fields (c ∷ cs) h = refl

-- ---- the length of the text
pub read_long : (text : Text) → sheet_limit < length text → read text ≡ refuse 10 0
unfolding read
read_long text h = rw (lt-ltb sheet_limit (length text) h)

pub read_short : (text : Text) → length text ≤ sheet_limit → read text ≡ five_lines text
unfolding read
read_short text h = rw (le-ltb sheet_limit (length text) h)

-- ---- the lines
module _ {A : Type 0} (entry : Text → Option A) (place : ℕ) (key t : Text) where
  pub line-answers : {l : Line A} → line entry key t ≡ some l → read_line place entry key t ≡ answer l
  unfolding read_line
  line-answers e = rw (e, read_line)

  pub line-refuses : line entry key t ≡ none → read_line place entry key t ≡ refuse 10 place
  unfolding read_line
  line-refuses e = rw (e, read_line)

-- ---- what is left to read after the lines that are known
-- A line of numbers, and one of pairs.
abbrev pub NumeralLine : Type 0
NumeralLine = Line ℤ

abbrev pub PairLine : Type 0
PairLine = Line Pair

-- The five lists, from their lines.
abbrev pub lists : NumeralLine → NumeralLine → NumeralLine → PairLine → NumeralLine → Lists
lists b d o c p = record { breaks = b.list; degrees = d.list; orders = o.list; coefs = c.list; positions = p.list }

-- What is left after each line, given how the lists are made of it and of the lines to come.
abbrev pub after_five : (NumeralLine → Lists) → NumeralLine → Outcome Lists
after_five make p = ended p.rest (make p)

abbrev pub after_four : (PairLine → NumeralLine → Lists) → PairLine → Outcome Lists
after_four make c = read_line 5 numeral at_key c.rest then after_five (make c)

abbrev pub after_three : (NumeralLine → PairLine → NumeralLine → Lists) → NumeralLine → Outcome Lists
after_three make o = read_line 4 pair coefs_key o.rest then after_four (make o)

abbrev pub after_two : (NumeralLine → NumeralLine → PairLine → NumeralLine → Lists) → NumeralLine → Outcome Lists
after_two make d = read_line 3 numeral orders_key d.rest then after_three (make d)

abbrev pub after_one : (NumeralLine → NumeralLine → NumeralLine → PairLine → NumeralLine → Lists) → NumeralLine → Outcome Lists
after_one make b = read_line 2 numeral degrees_key b.rest then after_two (make b)
