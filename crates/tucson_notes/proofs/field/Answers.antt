-- The number of the field, or 0.
use Rattle.std.proofs.Common.{◌≡◌, refl, ◌∙◌, ap, ℤ, pos, Option}
use Rattle.std.proofs.Math.Option as math
use Rattle.std.specs.Option as machine
use mir.Syntax.{w32}
use mir.Val.{SFits}
use Rattle.base_exact.proofs.Word.{to_z-of_z}
use Rattle.base_text.specs.Machine.{field}
use Rattle.tucson_notes.specs.Machine.{number_in}
use Rattle.tucson_notes.proofs.field.Goals as goal

number_is : (o : math.Option ℤ) → machine.unwrap_or (field o) (pos 0) ≡ number_in o
unfolding field number_in
number_is math.none = refl
number_is (math.some z) = refl

pub returns : goal.returns
returns c =
    let fits : SFits w32 c.unwrap_or.result = record { sfits = c.unwrap_or.type_inv } in
    simp to_z-of_z (c.unwrap_or.ensures ∙ ap (λ (o : Option ℤ). machine.unwrap_or o (pos 0)) c.numeral.ensures ∙ number_is _)
