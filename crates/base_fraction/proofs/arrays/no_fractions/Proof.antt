-- 0/1 at every index is the array of no fraction.
use Rattle.base_fraction.proofs.Fractions.{none_num, none-den}
use Rattle.base_fraction.proofs.arrays.no_fractions.Statement.{statement}
use Rattle.base_fraction.proofs.arrays.no_fractions.Tie as tie

pub no_fractions_spec : {M : Type 1} → statement M
no_fractions_spec = tie.close (tie.spec (λ c. λ i. record { num = none_num i; den = none-den i }))
