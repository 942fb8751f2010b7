-- The machine's form of a numeral.
use Rattle.std.proofs.Math.Option as math
use Rattle.std.specs.Prelude.{ℤ, Option, Some, None}

-- A numeral's number, if the field is one.
unfoldable pub field : math.Option ℤ → Option ℤ
field math.none = None
field (math.some z) = Some z
