-- The machine's form of the first line.
use Rattle.std.proofs.Math.Option as math
use Rattle.std.specs.Prelude.{◌≡◌, ◌≤◌, length, drop, Option, Some, None}
use Rattle.base_text.specs.Bytes.{Text}
use Rattle.curve_ordinates.specs.Wood.{wood_of}
use Rattle.spec_rings.specs.Parts.{Headed}
use Rattle.rings_input.specs.declared.Heading.{Heading}

-- The answer names the wood and the index behind the line, or says that the line is another.
abbrev pub HeadedAs : Text → math.Option Headed → Option Heading → Type 0
HeadedAs t math.none (Some line) = ⊥
HeadedAs t math.none None = Unit {0}
HeadedAs t (math.some h) (Some line) = (h.wood ≡ wood_of line.wood) × ((h.rest ≡ drop line.next t) × (line.next ≤ length t))
HeadedAs t (math.some h) None = ⊥
