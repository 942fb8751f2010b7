-- Code 18 from what its search found, and what legal ordinates are.
use mathlib.Core.Path.{◌≡◌, refl, ◌∙◌, ap}
use mathlib.Core.Logic.{◌⊎◌, inl, inr}
use mathlib.Core.Bool.{false, cond}
use mathlib.Core.List.{List, [], map}
use Prim.Native.Nat.{ℕ, ◌<◌, ◌≤◌}
use native.Mathlib.Omega.{arith}
use borrow.Author.Tests.{eqb-true, eq-eqb, ne_eqb}
use lib.Dec.{eqb}
use lib.IntN.{ℤ, pos, neg_ℤ, nat_abs}
use lib.ListN.{length, get_or, get_or-eq_default, get_or-map}
use Rattle.base_exact.specs.Rational.{int}
use Rattle.base_exact.proofs.Decide.{le_or_lt, cond_true, cond_false}
use Rattle.base_fraction.specs.Size.{limit, fits}
use Rattle.base_fraction.proofs.Size.{int-fits}
use Rattle.base_outcome.specs.Outcome.{Outcome, answer, refusal, refuse, largest_place, capped}
use Rattle.base_outcome.specs.Search.{first}
use Rattle.spec_spline.specs.Space.{Space, column_count}
use Rattle.base_outcome.specs.Tests.{refuse_first}
use Rattle.base_outcome.proofs.Search.{first-none_inverts}
use Rattle.spec_spline.proofs.Legal.{refuse_first_inverts, fitting_inverts}
use Rattle.build_space.specs.Machine.{space}
use Rattle.build_space.proofs.Partial.{column-count_partial}
use Rattle.build_factors.specs.Jumps.{AllFit}
use Rattle.curve_entries.specs.Limits.{outside}
use Rattle.curve_entries.proofs.Entries.{inside-size}
use Rattle.spec_calls.specs.RecoveryCall.{ordinate_limit, bad_ordinate}
use Rattle.recover_limits.specs.Ordinates.{ordinates_checked}

abbrev pub passed : Outcome (Unit {0})
passed = answer tt

-- the definition's test of an ordinate, as the bounds that the search takes
pub ordinate-outside : (ordinates : List ℤ) → bad_ordinate ordinates ≡ outside ordinates (neg_ℤ (pos ordinate_limit)) (pos ordinate_limit)
unfolding bad_ordinate
ordinate-outside ordinates = refl

module _ (s : Space) (ordinates : List ℤ) where
  pub ordinates-count : (length ordinates ≡ column_count s → ⊥) → ordinates_checked s ordinates ≡ refusal 18 largest_place
  unfolding ordinates_checked capped
  ordinates-count h = cond_false _ _ (ne_eqb _ _ h)

  -- a count that fits leaves what the search finds
  pub ordinates_sought : length ordinates ≡ column_count s
      → ordinates_checked s ordinates ≡ refuse_first 18 (first (length ordinates) (bad_ordinate ordinates)) passed
  unfolding ordinates_checked
  ordinates_sought h = cond_true _ _ (eq-eqb _ _ h)

-- the breakpoints and the orders do not matter to the ordinates
pub ordinates_partial : (b d o ordinates : List ℤ) → ordinates_checked (space [] d []) ordinates ≡ ordinates_checked (space b d o) ordinates
unfolding ordinates_checked
ordinates_partial b d o ordinates = ap (λ n. cond (eqb (length ordinates) n) (refuse_first 18 (first (length ordinates) (bad_ordinate ordinates)) passed)
    (refuse 18 largest_place)) (column-count_partial b d o)

-- ordinates in their range fit the size limit
ordinates_fit : (ordinates : List ℤ) → ((i : ℕ) → i < length ordinates → bad_ordinate ordinates i ≡ false) → AllFit (map int ordinates)
unfolding bad_ordinate
ordinates_fit ordinates good i = ap fits (get_or-map int ordinates i (pos 0)) ∙ int-fits (get_or ordinates i (pos 0)) (small (le_or_lt (length ordinates) i))
  where
    small : (length ordinates ≤ i) ⊎ (i < length ordinates) → nat_abs (get_or ordinates i (pos 0)) < limit
    small (inl h) = omega (arith, ap nat_abs (get_or-eq_default ordinates (pos 0) h))
    small (inr h) = omega (arith, inside-size ordinates ordinate_limit i (good i h))

-- legal ordinates are as many as the columns, and all of them fit
pub ordinates_legal : (s : Space) (ordinates : List ℤ) → ordinates_checked s ordinates ≡ passed → (length ordinates ≡ column_count s) × AllFit (map int ordinates)
unfolding ordinates_checked
ordinates_legal s ordinates e =
    let a = fitting_inverts (eqb (length ordinates) (column_count s)) 18 largest_place (refuse_first 18 (first (length ordinates) (bad_ordinate ordinates)) passed) e in
    let b = refuse_first_inverts 18 (first (length ordinates) (bad_ordinate ordinates)) passed a.1 in
    (eqb-true _ _ a.0, ordinates_fit ordinates (first-none_inverts (bad_ordinate ordinates) (length ordinates) b.0))
