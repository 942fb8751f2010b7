-- Three stores.
use mathlib.Core.Path.{refl}
use Rattle.base_exact.proofs.Word.{to_z-of_z}
use borrow.Author.Rules.{rules}
use Rattle.tucson_read.proofs.enter.Statement.{statement}
use Rattle.tucson_read.proofs.enter.Tie as tie

returns : tie.Need-returns
returns c =
    let s = c in
    let f = s.ranges.first in
    simp to_z-of_z (record { name-put = c.copy_name.ensures; year-put = refl; count-put = refl })

pub enter_spec : {M : Type 1} → statement M
enter_spec =
    tie.close (tie.spec (λ c. search rules) (λ c κs. c.requires.name) (λ c. search rules) (λ c. search rules)
    (λ c. search rules) (λ c. search rules) (λ c. search rules) (λ c. search rules) (λ c. search rules) (λ c. search rules) returns)
