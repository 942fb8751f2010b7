-- Years or rings, the same values: where all breakpoints are multiplied by one number, from 1 on, and moved by another, and the positions
-- with them, no weight, no refusal of the build and no value changes. With 1 for the factor this is moving alone. Only number 3, the
-- range of the breakpoints, can come or go. (Nothing is said of the reach call or of consecutive rings, whose positions are not scaled.)
use Rattle.std.specs.Prelude.{◌≡◌, true, List, map, ℕ, ◌+◌, ◌*◌, ◌<◌, ℤ, pos, ◌+ℤ◌, ◌*ℤ◌, length, get_or}
use Rattle.base_outcome.specs.Codes as codes
use Rattle.base_outcome.specs.Outcome.{answer, refusal}
use Rattle.spec_spline.specs.Space.{Space, lengths_fit, checked}
use Rattle.spec_spline.specs.Build.{weights}
use Rattle.spec_spline.specs.Piecewise.{Accepted}
use Rattle.spec_spline.specs.Reading.{fine, Wood, wood_index, value_at}
use Rattle.spec_spline.specs.CurveCall.{curve_outcome, values_after}
use Rattle.spec_spline.specs.ExactCurve.{Legal}
use Rattle.theorems_values.specs.ValueLimits.{InSpan}

-- A breakpoint, times n and moved by z.
abbrev pub moved_break : ℕ → ℤ → ℤ → ℤ
moved_break n z b = pos n *ℤ b +ℤ z

-- A position, likewise.
abbrev pub moved_position : ℕ → ℤ → ℤ → ℤ
moved_position n z x = pos n *ℤ x +ℤ fine z

-- The space with these breakpoints, and the same degrees and orders.
abbrev pub moved_space : ℕ → ℤ → Space → Space
moved_space n z s = record { breaks = map (moved_break n z) s.breaks; degrees = s.degrees; orders = s.orders }

-- The same weights, or the same refusal 8 at the same join.
abbrev pub WeightsStay : Type 0
WeightsStay = (n : ℕ) → 0 < n → (z : ℤ) (s : Space) → lengths_fit s ≡ true → weights (moved_space n z s) ≡ weights s

-- Of a space whose lists are legal no number but 3 can come.
abbrev pub OnlyThreeComes : Type 0
OnlyThreeComes = (n : ℕ) → 0 < n → (z : ℤ) (s : Space) → checked s ≡ answer s
    → (code place : ℕ) → checked (moved_space n z s) ≡ refusal code place → code ≡ codes.breakpoint

-- The same values.
abbrev pub ValuesStay : Type 0
ValuesStay = (n : ℕ) → 0 < n → (z : ℤ) (s : Space) (a : Accepted s) (b : Accepted (moved_space n z s)) (wood : Wood) (coefs : List ℤ) (x : ℤ)
    → InSpan s x → value_at (moved_space n z s) b.table wood coefs (moved_position n z x) ≡ value_at s a.table wood coefs x

-- And the same value cells after two legal calls, each position moved with the breakpoints.
abbrev pub CellsStay : Type 0
CellsStay = (n : ℕ) → 0 < n → (z : ℤ) (s : Space) (coefs positions : List ℤ) (num_length den_length values_length : ℕ)
    → Legal s coefs positions num_length den_length values_length
    → Legal (moved_space n z s) coefs (map (moved_position n z) positions) num_length den_length values_length
    → (held before : List ℤ) (wood : Wood) (k : ℕ) → k < length positions
    → get_or (values_after (curve_outcome (moved_space n z s) coefs (map (moved_position n z) positions) num_length den_length values_length) held)
    (2 * k + wood_index wood) (pos 0)
    ≡ get_or (values_after (curve_outcome s coefs positions num_length den_length values_length) before) (2 * k + wood_index wood) (pos 0)
