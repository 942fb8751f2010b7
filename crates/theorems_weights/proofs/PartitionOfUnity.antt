-- No weight is negative, and the weights on each ordinate sum to one: proved.
use mathlib.Core.Path.{sym, ◌∙◌, ap}
use Rattle.base_exact.specs.Sum.{sum}
use Rattle.base_exact.proofs.Order.{nn_zero_le}
use Rattle.spec_spline.specs.Table.{cell}
use Rattle.theorems_weights.specs.PartitionOfUnity.{NoWeightNegative, ColumnSumsOne}
use Rattle.theorems_weights.proofs.Built.{built, row_count_lem}

pub no_weight_negative : NoWeightNegative
no_weight_negative s a i c = nn_zero_le ((built s a.table a.is).basis.not_negative i c)

pub column_sums_one : ColumnSumsOne
column_sums_one s a c h = let b = built s a.table a.is in ap (λ n. sum n (λ i. cell a.table i c)) (sym (row_count_lem s a.table b)) ∙ b.basis.column_sums c h
