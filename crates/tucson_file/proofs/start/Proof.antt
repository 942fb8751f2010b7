-- Three bytes of a mark, or none.
use borrow.Author.Rules.{rules}
use native.Mathlib.Omega.{arith}
use mathlib.Core.Path.{◌∙◌, sym}
use Rattle.tucson_file.proofs.Faults.{marked_long, unmarked-marked, unmarked_other}
use Rattle.tucson_file.proofs.start.Statement.{statement}
use Rattle.tucson_file.proofs.start.Tie as tie

returns : tie.Need-returns-then-is_marked
returns c = let e = sym c.is_marked.ensures ∙ c.if-is_marked.true in record { within = marked_long _ e; text_is = unmarked-marked _ e }

returns-2 : tie.Need-returns
returns-2 c = let e = sym c.is_marked.ensures ∙ c.if-is_marked.false in record { within = omega arith; text_is = unmarked_other _ e }

pub start_spec : {M : Type 1} → statement M
start_spec = tie.close (tie.spec (λ c κs. search rules) returns returns-2)
