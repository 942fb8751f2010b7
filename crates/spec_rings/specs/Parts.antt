-- The parts of the program's input: "a line `wood=earlywood` or `wood=latewood`, the five lines of a sheet (§ 13), then a Tucson text
-- (§ 14) to the end" (§ 18).
use Rattle.std.specs.Prelude.{cond, [], ◌∷◌, ℕ, zero, suc, ◌+◌, ltb, length, take, drop}
use Rattle.std.proofs.Math.Option.{Option, some, none}
use Rattle.spec_spline.specs.Reading.{Wood, earlywood, latewood}
use Rattle.base_text.specs.Bytes.{Text, newline, stripped, index_of}

-- wood=earlywood and byte 10
abbrev pub earlywood_line : Text
earlywood_line = 119 ∷ 111 ∷ 111 ∷ 100 ∷ 61 ∷ 101 ∷ 97 ∷ 114 ∷ 108 ∷ 121 ∷ 119 ∷ 111 ∷ 111 ∷ 100 ∷ newline ∷ []

-- wood=latewood and byte 10
abbrev pub latewood_line : Text
latewood_line = 119 ∷ 111 ∷ 111 ∷ 100 ∷ 61 ∷ 108 ∷ 97 ∷ 116 ∷ 101 ∷ 119 ∷ 111 ∷ 111 ∷ 100 ∷ newline ∷ []

-- The wood that the first line names, and the text behind that line.
pub record Headed : Type 0 where
  pub wood : Wood
  pub rest : Text

abbrev pub of_wood : Wood → Option Text → Option Headed → Option Headed
of_wood wood none other = other
of_wood wood (some rest) other = some (record { wood = wood; rest = rest })

-- None where "the first line is neither of the two, or has no byte 10" (§ 18).
unfoldable pub headed : Text → Option Headed
headed t = of_wood earlywood (stripped earlywood_line t) (of_wood latewood (stripped latewood_line t) none)

-- The index behind the n-th byte 10, or the length where there are fewer.
unfoldable pub lines_end : ℕ → Text → ℕ
lines_end zero t = 0
lines_end (suc n) t =
    let i = index_of newline t in
    cond (ltb i (length t)) (suc i + lines_end n (drop (suc i) t)) (length t)

-- The lines of a sheet.
abbrev pub sheet_lines : ℕ
sheet_lines = 5

-- "the next five lines (up to the fifth byte 10 behind the first line, or to the end where there are fewer)" (§ 18).
abbrev pub sheet_part : Text → Text
sheet_part rest = take (lines_end sheet_lines rest) rest

-- "the rest" (§ 18).
abbrev pub series_part : Text → Text
series_part rest = drop (lines_end sheet_lines rest) rest
