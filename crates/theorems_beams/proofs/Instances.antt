-- The theorems at two beams with numbers, so that the hypotheses can be met. In the first, breaks 0,1,2,3, degrees 1,1,1 and
-- orders -1 and 0, the second part's table lies in the whole one from row 2 and column 2 on; the second beam is refused in its
-- second part.
use mathlib.Core.Path.{◌≡◌, refl}
use mathlib.Core.List.{[], ◌∷◌}
use Prim.Native.Nat.{ℕ, zero, suc, ◌<◌}
use native.Mathlib.Omega.{arith}
use lib.IntN.{pos, negsuc}
use Rattle.base_exact.specs.Gcd.{gcd, gcd_f}
use Rattle.base_exact.specs.Rational.{ℚ, mk, int}
use Rattle.base_exact.specs.Tabulate.{tab}
use Rattle.base_outcome.specs.Outcome.{answer, refusal, capped, repeat}
use Rattle.base_outcome.specs.Search.{first, last}
use Rattle.spec_spline.specs.Space.{Space, starts_part, part_end, last_part_start, checked, first_column, conditions_before, rows_before}
use Rattle.spec_spline.specs.Table.{Table, identity}
use Rattle.spec_spline.specs.Build.{order_steps, join_steps, weights, space_weights, last_part}
use Rattle.spec_spline.specs.Piecewise.{Accepted}
use Rattle.spec_spline.specs.Cases.{three_lines}
use Rattle.spec_spline.proofs.Computing.{building, checking, conditioning, stepping}
use Rattle.base_outcome.proofs.Outcome.{answer_unique}
use Rattle.theorems_beams.specs.Sections.{part_at, beside}
use Rattle.theorems_beams.specs.Parts.{Starts, PartOf}
use Rattle.theorems_beams.proofs.Parts.{weights_by_parts, refused_by_a_part}

abbrev q0 : ℚ
q0 = int (pos 0)

abbrev q1 : ℚ
q1 = int (pos 1)

abbrev beam : Space
beam = three_lines (negsuc 0) (pos 0)

-- ---- the parts

two_parts : (part_end beam 0 ≡ 1) × (part_end beam 1 ≡ 3) × (last_part_start beam ≡ 1) × (first_column beam 1 ≡ 2) × (rows_before beam 1 ≡ 2)
unfolding starts_part part_end last_part_start first last first_column conditions_before
two_parts = (refl, refl, refl, refl, refl)

second-starts : Starts beam 1
unfolding starts_part
second-starts = record { below = omega arith; starts = refl }

-- ---- the tables

abbrev whole : Table
whole =
    (q1 ∷ q0 ∷ q0 ∷ q0 ∷ q0 ∷ q0 ∷ []) ∷
    (q0 ∷ q1 ∷ q0 ∷ q0 ∷ q0 ∷ q0 ∷ []) ∷
    (q0 ∷ q0 ∷ q1 ∷ q0 ∷ q0 ∷ q0 ∷ []) ∷
    (q0 ∷ q0 ∷ q0 ∷ q1 ∷ q1 ∷ q0 ∷ []) ∷
    (q0 ∷ q0 ∷ q0 ∷ q0 ∷ q0 ∷ q1 ∷ []) ∷ []

abbrev second : Table
second = (q1 ∷ q0 ∷ q0 ∷ q0 ∷ []) ∷ (q0 ∷ q1 ∷ q1 ∷ q0 ∷ []) ∷ (q0 ∷ q0 ∷ q0 ∷ q1 ∷ []) ∷ []

abbrev unit : Table
unit = (q1 ∷ q0 ∷ []) ∷ (q0 ∷ q1 ∷ []) ∷ []

accepted : Accepted beam
unfolding building
accepted = record { table = whole; is = refl }

accepted-second : space_weights (part_at beam 1) ≡ answer second
unfolding building
accepted-second = refl

-- the first part's table above and to the left of the second's
tables_beside : whole ≡ beside 2 4 unit second
unfolding beside tab
tables_beside = refl

-- the buffers hold the second part
second-held : last_part beam whole ≡ second
unfolding starts_part last_part_start last first_column conditions_before last_part
second-held = refl

-- ---- what the theorem says of the second part
by_parts : PartOf beam whole 1
unfolding accepted
by_parts = weights_by_parts beam accepted 1 second-starts

part_is_second : by_parts.accepted.table ≡ second
part_is_second = answer_unique by_parts.accepted.is accepted-second

-- ---- a beam whose second part is refused: breaks 0,1,131,132, degrees 1,3,4, orders -1 and 2

abbrev refused_beam : Space
refused_beam = record { breaks = pos 0 ∷ pos 1 ∷ pos 131 ∷ pos 132 ∷ []; degrees = pos 1 ∷ pos 3 ∷ pos 4 ∷ []; orders = negsuc 0 ∷ pos 2 ∷ [] }

legal : checked refused_beam ≡ answer refused_beam
unfolding checking
legal = refl

first-accepted : space_weights (part_at refused_beam 0) ≡ answer unit
unfolding checking gcd gcd_f mk int tab repeat first_column identity join_steps weights space_weights
first-accepted = refl

-- by itself the second part is refused at its own join 0
second_refused : weights (part_at refused_beam 1) ≡ refusal 8 0
unfolding stepping conditioning repeat starts_part part_end order_steps join_steps weights
second_refused = refl

-- and so the beam at join 1
refused_second : weights refused_beam ≡ refusal 8 1
unfolding starts_part capped
refused_second = refused_by_a_part refused_beam legal 8 1 (record {
  start = 1;
  starts = record { below = omega arith; starts = refl };
  earlier = λ a h A. earlier a h;
  own = 0;
  refuses = second_refused;
  place_is = refl;
})
  where
    earlier : (a : ℕ) → a < 1 → Accepted (part_at refused_beam a)
    earlier zero h = record { table = unit; is = first-accepted }
    earlier (suc a) h = absurd (omega arith)
