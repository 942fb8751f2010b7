-- The numbers of all notes by name (§ 16).
use Rattle.std.specs.Prelude.{ℕ}

-- A byte order mark was taken off.
abbrev pub marked : ℕ
marked = 1

-- The text ends before byte 26.
abbrev pub cut : ℕ
cut = 2

-- Byte 13 before byte 10 was taken off.
abbrev pub returned : ℕ
returned = 3

-- A tab became blanks.
abbrev pub tabbed : ℕ
tabbed = 4

-- Trailing blanks were taken off.
abbrev pub trailing : ℕ
trailing = 5

-- A blank line was left out.
abbrev pub blank : ℕ
blank = 6

-- A site name was taken off.
abbrev pub site : ℕ
site = 7

-- The last line got its byte 10.
abbrev pub unended : ℕ
unended = 8

-- A line of the header was taken out.
abbrev pub header : ℕ
header = 9

-- ? stands for what is not ASCII in the name.
abbrev pub high : ℕ
high = 10

-- The unit's closing stands for -999.
abbrev pub reclosed : ℕ
reclosed = 11

-- A remark: a series' first or last width is 0, or it has none.
abbrev pub absent_end : ℕ
absent_end = 12

-- A remark: the last width of a line is 999 in a series of thousandths.
abbrev pub like_closing : ℕ
like_closing = 13

-- A remark: the unit of a series is not that of the first.
abbrev pub other_unit : ℕ
other_unit = 14
