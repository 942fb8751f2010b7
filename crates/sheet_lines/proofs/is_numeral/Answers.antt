-- The machine's option has a number where the definition's has one.
use Rattle.std.proofs.Common.{◌≡◌, ◌∙◌, ap, refl, ℤ}
use Rattle.std.proofs.Math.Option as math
use Rattle.std.specs.Option as std
use Rattle.base_text.specs.Machine.{field}
use Rattle.sheet_lines.specs.Machine.{is_some}
use Rattle.sheet_lines.proofs.is_numeral.Goals as goal

same : (o : math.Option ℤ) → std.is_some (field o) ≡ is_some o
unfolding field
same math.none = refl
same (math.some z) = refl

pub returns : goal.returns
returns c = c.is_some.ensures ∙ ap std.is_some c.numeral.ensures ∙ same _
