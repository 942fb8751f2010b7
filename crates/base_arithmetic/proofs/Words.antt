-- The parts of an operand, read back from their words.
use mathlib.Core.Path.{◌≡◌}
use mir.Syntax.{w64}
use mir.Val.{of_z, to_z}
use mir.ValLaws.{to_z-of_z}
use Rattle.base_fraction.specs.Machine.{FractionFits}
use Rattle.base_fraction.specs.declared.Fraction.{Fraction}
use Rattle.base_fraction.proofs.Bounds.{num_fits, den-fits}

pub num_word : {f : Fraction} → FractionFits f → to_z w64 (of_z w64 f.num) ≡ f.num
num_word h = to_z-of_z w64 _ (num_fits h)

pub den-word : {f : Fraction} → FractionFits f → to_z w64 (of_z w64 f.den) ≡ f.den
den-word h = to_z-of_z w64 _ (den-fits h)

-- and of the numbers that are made of them, where these fit
pub ruleset words = (num_word, den-word, to_z-of_z)
