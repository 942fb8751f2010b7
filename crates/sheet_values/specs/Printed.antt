-- The most bytes of an n line and of a v line: every number is counted with the 20 digits that 64 bits can have, and a
-- signed one with its minus.
use Rattle.std.specs.Prelude.{ℕ}

abbrev pub count_line_limit : ℕ
count_line_limit = 23

abbrev pub value_line_limit : ℕ
value_line_limit = 68
