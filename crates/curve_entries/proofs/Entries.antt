-- The tests of an entry, as the machine takes them one bound after the other.
use mathlib.Core.Path.{◌≡◌, refl, sym, ◌∙◌, ap}
use mathlib.Core.Bool.{true, false, not, ◌||◌}
use mathlib.Core.List.{List}
use Prim.Native.Nat.{ℕ, ◌≤◌}
use lib.IntN.{ℤ, pos, neg_ℤ, nat_abs}
use lib.ListN.{get_or}
use lib.Signed.{lt_z, ◌≤ℤ◌}
use Rattle.base_exact.proofs.Integer.{abs_le_in}
use Rattle.spec_spline.specs.Space.{Space, segments, break}
use Rattle.base_outcome.specs.Tests.{between}
use Rattle.spec_spline.specs.Reading.{fine}
use Rattle.spec_spline.specs.CurveCall.{coefficient_limit, bad_coefficient, bad_position}
use Rattle.spec_spline.proofs.Space.{between_inverts}
use Rattle.build_space.proofs.Tests as tests
use Rattle.curve_entries.specs.Limits.{outside}

module _ (low high z : ℤ) where
  pub below : lt_z z low ≡ true → true ≡ not (between low high z)
  below e = sym (tests.outside low high z ∙ ap (λ b. b || lt_z high z) e)

  pub above : lt_z z low ≡ false → lt_z high z ≡ not (between low high z)
  above e = sym (tests.outside low high z ∙ ap (λ b. b || lt_z high z) e)

-- the definition's test of a coefficient, as the bounds that the search takes
pub coefficient-outside : (coefs : List ℤ) → bad_coefficient coefs ≡ outside coefs (neg_ℤ (pos coefficient_limit)) (pos coefficient_limit)
unfolding bad_coefficient
coefficient-outside coefs = refl

-- ---- entries that break no rule

-- an entry within a limit on both sides has at most its size
pub inside-size : (list : List ℤ) (limit i : ℕ) → outside list (neg_ℤ (pos limit)) (pos limit) i ≡ false
    → nat_abs (get_or list i (pos 0)) ≤ limit
inside-size list limit i e =
    let r = between_inverts (neg_ℤ (pos limit)) (pos limit) (get_or list i (pos 0)) e in abs_le_in (get_or list i (pos 0)) limit r.0 r.1

pub good-coefficient : (coefs : List ℤ) (i : ℕ) → bad_coefficient coefs i ≡ false → nat_abs (get_or coefs i (pos 0)) ≤ coefficient_limit
unfolding bad_coefficient
good-coefficient coefs i e = inside-size coefs coefficient_limit i e

pub good-position : (s : Space) (positions : List ℤ) (i : ℕ) → bad_position s positions i ≡ false
    → (fine (break s 0) ≤ℤ get_or positions i (pos 0)) × (get_or positions i (pos 0) ≤ℤ fine (break s (segments s)))
unfolding bad_position
good-position s positions i e = between_inverts (fine (break s 0)) (fine (break s (segments s))) (get_or positions i (pos 0)) e
