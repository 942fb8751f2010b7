-- The refusal 6 by its count, and from what its search found.
use mathlib.Core.Path.{◌≡◌}
use mathlib.Core.List.{List}
use Prim.Native.Nat.{◌*◌}
use borrow.Author.Tests.{eq-eqb, ne_eqb}
use lib.IntN.{ℤ}
use lib.ListN.{length}
use Rattle.base_exact.proofs.Decide.{cond_true, cond_false}
use Rattle.base_outcome.specs.Outcome.{answer, refusal, largest_place, capped}
use Rattle.base_outcome.specs.Search.{first}
use Rattle.spec_spline.specs.Space.{Space, row_count}
use Rattle.base_outcome.specs.Tests.{refuse_first}
use Rattle.spec_spline.specs.CurveCall.{bad_coefficient}
use Rattle.curve_entries.specs.Limits.{coefficients_checked}

module _ (s : Space) (coefs : List ℤ) where
  pub coefficients_count : (length coefs ≡ 2 * row_count s → ⊥) → coefficients_checked s coefs ≡ refusal 6 largest_place
  unfolding coefficients_checked capped
  coefficients_count h = cond_false _ _ (ne_eqb _ _ h)

  -- a count that fits leaves what the search finds
  pub coefficients_sought : length coefs ≡ 2 * row_count s
      → coefficients_checked s coefs ≡ refuse_first 6 (first (length coefs) (bad_coefficient coefs)) (answer tt)
  unfolding coefficients_checked
  coefficients_sought h = cond_true _ _ (eq-eqb _ _ h)
