-- Each turn masks one byte more.
use Rattle.std.proofs.Common.{arith}
use Rattle.std.proofs.lemmas.Grind.{common_steps}
use Rattle.spec_tucson.specs.StrictLine.{bytes_masked}
use Rattle.tucson_masks.proofs.mask_bytes.Goals as goal

pub loop-i-init : goal.loop-i-init
unfolding bytes_masked
loop-i-init c = grind (arith, common_steps)

pub loop-i-preserved : goal.loop-i-preserved
unfolding bytes_masked
loop-i-preserved c = grind (arith, common_steps)
