-- The specification's wood parts for the cases of the machine's.
use Rattle.spec_spline.specs.Reading.{Wood, earlywood, latewood}
use Rattle.curve_ordinates.specs.declared.Wood as machine
use Rattle.curve_ordinates.specs.declared.Wood.TheVariants.{Earlywood, Latewood}

-- The wood part that a case names.
abbrev pub wood_of : machine.Wood → Wood
wood_of Earlywood = earlywood
wood_of Latewood = latewood
