-- Four tests of a byte, two by two.
use borrow.Author.Rules.{rules}
use mathlib.Core.Bool.{Bool, ◌||◌}
use mathlib.Core.Path.{◌∙◌, ap₂}
use Rattle.tucson_file.proofs.is_special.Statement.{statement}
use Rattle.tucson_file.proofs.is_special.Tie as tie

returns : tie.Need-returns
returns c = c.either-2.ensures ∙ ap₂ (λ (a b : Bool). a || b) c.either-low.ensures c.either.ensures

pub is_special_spec : {M : Type 1} → statement M
is_special_spec = tie.close (tie.spec (λ c κs. search rules) (λ c κs. search rules) (λ c κs. search rules) returns)
