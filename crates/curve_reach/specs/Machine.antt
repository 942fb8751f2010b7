-- The machine's form of the call: the wood part that it names.
use Rattle.std.specs.Prelude.{List, ℤ}
use Rattle.spec_spline.specs.Reading.{Wood, earlywood, latewood}

-- The wood part's own of two lists.
abbrev pub chosen : Wood → List ℤ → List ℤ → List ℤ
chosen earlywood early late = early
chosen latewood early late = late
