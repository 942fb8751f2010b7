-- What is put into buffers that are too short counts as well.
use borrow.Author.Rules.{rules}
use Rattle.tucson_clean.proofs.Room.{measured}
use Rattle.tucson_clean.proofs.measure.Statement.{statement}
use Rattle.tucson_clean.proofs.measure.Tie as tie

returns : tie.Need-returns
returns c ks e = measured (c.put_all.ensures ks e)

pub measure_spec : {M : Type 1} → statement M
measure_spec = tie.close (tie.spec (λ c. search rules) (λ c. search rules) (λ c. search rules) (λ c κs. search rules) returns)
