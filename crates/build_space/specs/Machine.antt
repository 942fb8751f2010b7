-- The machine's form of what the definitions of crate spec_spline say of the three lists.
use Rattle.std.specs.Prelude.{List, ℤ}
use Rattle.spec_spline.specs.Space.{Space}

-- The three lists as a space.
abbrev pub space : List ℤ → List ℤ → List ℤ → Space
space breaks degrees orders = record { breaks = breaks; degrees = degrees; orders = orders }
