-- The most bytes of a low line: every number is counted with the 20 digits that 64 bits can have, and a
-- signed one with its minus.
use Rattle.std.specs.Prelude.{ℕ}

abbrev pub low_line_limit : ℕ
low_line_limit = 26
