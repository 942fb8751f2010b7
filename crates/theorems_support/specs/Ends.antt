-- Values at the ends (Speleers 2019, Proposition 4): at the last breakpoint of each part of a beam the value is 256 times the part's last
-- coefficient, at the beam's first breakpoint 256 times the first coefficient.
use Rattle.std.specs.Prelude.{◌≡◌, List, ℕ, ◌-◌, ℤ}
use Rattle.spec_spline.specs.Space.{Space, break, part_end, row_count}
use Rattle.spec_spline.specs.Piecewise.{Accepted}
use Rattle.spec_spline.specs.Reading.{fine, Wood, coefficient, value_at}
use Rattle.theorems_beams.specs.Sections.{part_at}
use Rattle.theorems_beams.specs.Parts.{Starts}
use Rattle.theorems_promises.specs.FallingCurves.{part_coefficient}

abbrev pub FirstValueIsTheFirstCoefficient : Type 0
FirstValueIsTheFirstCoefficient = (s : Space) (a : Accepted s) (wood : Wood) (coefs : List ℤ)
    → value_at s a.table wood coefs (fine (break s 0)) ≡ fine (coefficient wood coefs 0)

abbrev pub LastValueIsTheLastCoefficient : Type 0
LastValueIsTheLastCoefficient = (s : Space) (x : Accepted s) (a : ℕ) → Starts s a → (wood : Wood) (coefs : List ℤ)
    → value_at s x.table wood coefs (fine (break s (part_end s a))) ≡ fine (part_coefficient s wood coefs a (row_count (part_at s a) - 1))
