-- The numbers of all refusals by name (§ 3, where the table has their places and their order).
use Rattle.std.specs.Prelude.{ℕ}

-- A lent buffer is too short (§ 3).
abbrev pub short_buffer : ℕ
short_buffer = 1

-- The lists' lengths don't fit, or there are more than 4,096 positions or widths (§ 3).
abbrev pub lengths : ℕ
lengths = 2

-- A breakpoint out of range or not above the one before, or a part whose span is over 2,000 (§ 3).
abbrev pub breakpoint : ℕ
breakpoint = 3

-- A degree out of range (§ 3).
abbrev pub degree : ℕ
degree = 4

-- An order out of range, or not less than both neighbouring degrees (§ 3).
abbrev pub order : ℕ
order = 5

-- The count of coefficients is not 2n, or a coefficient out of range (§ 3).
abbrev pub coefficient : ℕ
coefficient = 6

-- A position outside the span (§ 3).
abbrev pub position : ℕ
position = 7

-- A counted fraction is too large (§ 5).
abbrev pub tooLarge : ℕ
tooLarge = 8

-- The jumps lack the needed shape (§ 5).
abbrev pub jumps : ℕ
jumps = 9

-- The sheet's text is malformed (§ 13).
abbrev pub sheet_line : ℕ
sheet_line = 10

-- A line or a series that the Tucson form does not allow (§ 14).
abbrev pub tucson_line : ℕ
tucson_line = 11

-- A later line of a series whose year is not the next or does not end in 0 (§ 14).
abbrev pub tucson_year : ℕ
tucson_year = 12

-- A series' last line without a closing field, or closed by 999 after a width over 9,999 (§ 14).
abbrev pub tucson_closing : ℕ
tucson_closing = 13

-- A width below 0 or over 99,999, or a value of zero or less under a present ring (§ 9).
abbrev pub ring : ℕ
ring = 14

-- A part with more than 12 segments (§ 3).
abbrev pub long_part : ℕ
long_part = 15

-- No position reaches the width (§ 10).
abbrev pub never_reached : ℕ
never_reached = 16

-- There is no such segment, or its degree is 4 or 5 (§ 11).
abbrev pub not_drawn : ℕ
not_drawn = 17

-- The count of ordinates is not that of the columns, or an ordinate out of range (§ 12).
abbrev pub ordinate : ℕ
ordinate = 18

-- Local ordinates miss a condition (§ 12).
abbrev pub no_coefficients : ℕ
no_coefficients = 19

-- A fraction of the undoing is too large (§ 12).
abbrev pub too_large_to_undo : ℕ
too_large_to_undo = 20

-- A byte that no laboratory's file may have, or a file that is too long (§ 16).
abbrev pub file_text : ℕ
file_text = 21

-- A line with bytes over 127 that is no strict line in exactly one way, or a name whose bytes changed (§ 16).
abbrev pub file_bytes : ℕ
file_bytes = 22

-- A year that runs into its name (§ 16).
abbrev pub file_name : ℕ
file_name = 23

-- A closing whose unit is not known or is not the one said, or a unit that there is not (§ 16).
abbrev pub file_unit : ℕ
file_unit = 24

-- 999 before the closing in a series whose closing is 999 (§ 16).
abbrev pub file_closing : ℕ
file_closing = 25

-- A header that is too long, or has a line that can be read as a strict line (§ 16).
abbrev pub file_header : ℕ
file_header = 26
