-- A series: "Consecutive lines with the same eight bytes of name are a series, its fields consecutive years." (§ 14) Its last field
-- closes it and says the unit; widths are held in thousandths of a millimetre.
use Rattle.std.specs.Prelude.{Bool, true, cond, ◌&&◌, List, [], ◌∷◌, map, ℕ, ℤ, pos, ◌*ℤ◌}
use Rattle.std.proofs.Math.Option.{Option, some, none}
use Rattle.std.specs.Int.Signed.{le_z}
use Rattle.base_text.specs.Bytes.{Text}
use Rattle.spec_tucson.specs.Line.{same, thousandths}

-- A name, the year of the first width, and the widths in thousandths, one for each year.
pub record Series : Type 0 where
  pub name : Text
  pub first_year : ℤ
  pub widths : List ℤ

-- "999 for hundredths of a millimetre" (§ 14): the field that closes a series of hundredths.
abbrev pub hundredths : ℤ
hundredths = pos 999

-- "0 to 9,999 in hundredths" (§ 14).
abbrev pub hundredths_limit : ℕ
hundredths_limit = 9999

-- No width is too large for hundredths.
unfoldable pub all_hundredths : List ℤ → Bool
all_hundredths [] = true
all_hundredths (w ∷ ws) = le_z w (pos hundredths_limit) && all_hundredths ws

-- Thousandths in a hundredth.
abbrev pub per_hundredth : ℕ
per_hundredth = 10

-- "all widths in thousandths" (§ 14).
unfoldable pub from_hundredths : List ℤ → List ℤ
from_hundredths ws = map (λ w. w *ℤ pos per_hundredth) ws

-- The widths in thousandths of a series that this field closes, if it is a closing and the widths are in its unit's range.
unfoldable pub closed_by : ℤ → List ℤ → Option (List ℤ)
closed_by closing ws =
    cond (same closing thousandths) (some ws)
    (cond (same closing hundredths && all_hundredths ws) (some (from_hundredths ws)) none)
