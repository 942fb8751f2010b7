-- The positions of the span (§ 10), counted from its first one on.
use Rattle.std.specs.Prelude.{ℕ, suc, ℤ, pos, ◌+ℤ◌, ◌-ℤ◌, nat_abs}
use Rattle.spec_spline.specs.Space.{Space, segments, break}
use Rattle.spec_spline.specs.Reading.{fine}

-- How many positions there are "from 256·x(0) to 256·x(m), ends included" (§ 10).
abbrev pub position_count : Space → ℕ
position_count s = suc (nat_abs (fine (break s (segments s)) -ℤ fine (break s 0)))

-- Position i of the span, from its first one on.
abbrev pub position : Space → ℕ → ℤ
position s i = fine (break s 0) +ℤ pos i
