-- The refusals 6 and 7 together, and the refusals 2 to 5, 15, 6 and 7 as one chain.
use mathlib.Core.Path.{◌≡◌, refl, sym, ◌∙◌, ap}
use mathlib.Core.Bool.{Bool, true, false, cond}
use mathlib.Core.List.{List, []}
use mathlib.Core.Option.{Option, some, none}
use Prim.Native.Nat.{ℕ, ◌*◌, ◌<◌, ◌≤◌}
use borrow.Author.Tests.{lt-ltb, le-ltb}
use lib.Dec.{eqb}
use lib.IntN.{ℤ}
use lib.ListN.{length}
use Rattle.base_exact.proofs.Decide.{cond_true, cond_false}
use Rattle.base_outcome.specs.Outcome.{Outcome, answer, refusal, refuse, largest_place, capped, ◌then◌}
use Rattle.base_outcome.specs.Search.{first}
use Rattle.spec_spline.specs.Space.{Space, break, segments, lengths_fit, checked, row_count}
use Rattle.base_outcome.specs.Tests.{refuse_first}
use Rattle.spec_spline.specs.Reading.{fine}
use Rattle.spec_spline.specs.CurveCall.{position_limit, bad_coefficient, bad_position, legal_entries, curve_checked}
use Rattle.build_space.specs.Machine.{space}
use Rattle.build_space.proofs.Partial.{row-count_partial}
use Rattle.curve_entries.specs.Limits.{coefficients_checked, positions_checked}

-- ---- both

abbrev passed : Outcome (Unit {0})
passed = answer tt

chain : {A : Type 0} (rest : Outcome A) (b : Bool) (p q : Option ℕ)
    → cond b (refuse_first 6 p (refuse_first 7 q rest)) (refuse 6 largest_place)
    ≡ (cond b (refuse_first 6 p passed) (refuse 6 largest_place) then λ _. (refuse_first 7 q passed then λ _. rest))
chain rest true none none = refl
chain rest true none (some i) = refl
chain rest true (some i) q = refl
chain rest false p q = refl

module _ (s : Space) (coefs positions : List ℤ) where
  -- the coefficients, then the positions
  pub entries-chain : {A : Type 0} (rest : Outcome A)
      → legal_entries s coefs positions rest ≡ (coefficients_checked s coefs then
      λ _. (positions_checked positions (fine (break s 0)) (fine (break s (segments s))) then λ _. rest))
  unfolding coefficients_checked positions_checked bad_position
  entries-chain rest =
      chain rest (eqb (length coefs) (2 * row_count s)) (first (length coefs) (bad_coefficient coefs))
      (first (length positions) (bad_position s positions))

-- the breakpoints do not matter to the coefficients
pub coefficients_partial : (b d o coefs : List ℤ) → coefficients_checked (space [] d o) coefs ≡ coefficients_checked (space b d o) coefs
unfolding coefficients_checked
coefficients_partial b d o coefs =
    ap (λ n. cond (eqb (length coefs) (2 * n)) (refuse_first 6 (first (length coefs) (bad_coefficient coefs)) passed)
    (refuse 6 largest_place)) (row-count_partial b d o)

-- ---- all numbers of the check

module _ (s : Space) (coefs positions : List ℤ) where
  pub curve_lengths : lengths_fit s ≡ false → curve_checked s coefs positions ≡ refusal 2 0
  unfolding curve_checked capped
  curve_lengths e = cond_false _ _ e

  module _ (fit : lengths_fit s ≡ true) where
    pub curve_positions : position_limit < length positions → curve_checked s coefs positions ≡ refusal 2 1
    unfolding curve_checked capped
    curve_positions h = cond_true _ _ fit ∙ cond_true _ _ (lt-ltb _ _ h)

    -- the lists, then the entries
    pub curve_chain : length positions ≤ position_limit
        → curve_checked s coefs positions ≡ (checked s then λ legal. legal_entries legal coefs positions (answer legal))
    unfolding curve_checked checked
    curve_chain h =
        cond_true _ _ fit ∙ cond_false _ _ (le-ltb _ _ h)
        ∙ ap (λ o. o then λ legal. legal_entries legal coefs positions (answer legal)) (sym (cond_true _ _ fit))
