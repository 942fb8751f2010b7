-- A limit that indices and Tucson files share.
use Rattle.std.specs.Prelude.{ℕ}

-- The largest width in thousandths of a millimetre: "a width below 0 or over 99,999" (§ 3) is refused.
abbrev pub width_limit : ℕ
width_limit = 99999
