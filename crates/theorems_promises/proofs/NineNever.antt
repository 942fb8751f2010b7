-- Code 9 never comes from recovering coefficients, proved: it would be the build's own.
use mathlib.Core.Path.{◌≡◌, refl, sym, ◌∙◌, ap}
use mathlib.Core.Bool.{Bool, true, false, cond}
use mathlib.Core.Option.{Option, some, none}
use Prim.Native.Nat.{ℕ}
use lib.Dec.{eqb, ltb}
use lib.ListN.{length}
use Rattle.base_exact.proofs.Decide.{true_not_false}
use Rattle.base_outcome.specs.Outcome.{refusal, refuse, largest_place, ◌then◌}
use Rattle.base_outcome.specs.Search.{first}
use Rattle.spec_spline.specs.Space.{Space, checked, column_count, row_count}
use Rattle.base_outcome.specs.Tests.{refuse_first}
use Rattle.spec_spline.specs.Table.{table_cells}
use Rattle.spec_spline.specs.Build.{weights}
use Rattle.base_outcome.proofs.Outcome.{with_refuses, then_breaks, Broken, first-refuses, second-refuses}
use Rattle.spec_spline.proofs.Legal.{Checked, checked_inverts, checked_codes, keeping_refusal}
use Rattle.spec_calls.specs.Recovery.{recovered}
use Rattle.spec_calls.specs.RecoveryCall.{bad_ordinate, legal_ordinates, recovery_outcome}
use Rattle.theorems_recovery.proofs.Refusals.{eight_and_nine_are_the_builds}
use Rattle.theorems_acceptance.proofs.NineNever.{weights_not_nine}
use Rattle.theorems_promises.specs.NineNever.{RecoveryNeverGivesNine}

pub recovery_never_gives_nine : RecoveryNeverGivesNine
unfolding recovery_outcome
recovery_never_gives_nine s ordinates num den coef_num coef_den place e =
    long (ltb (length num) table_cells) (ltb (length den) table_cells) (ltb (length coef_num) (length ordinates)) (ltb (length coef_den) (length ordinates)) (with_refuses (λ _. row_count s) _ e)
  where
    -- past the checks of the lists
    entries : (l : Space) (b : Bool) → l ≡ s → Checked s
        → cond b (refuse_first 18 (first (length ordinates) (bad_ordinate ordinates)) (recovered l ordinates)) (refuse 18 largest_place) ≡ refusal 9 place → ⊥
    entries l false z c r = true_not_false refl (keeping_refusal 18 largest_place refl r)
    entries l true z c r = tested (first (length ordinates) (bad_ordinate ordinates)) r
      where
        tested : (o : Option ℕ) → refuse_first 18 o (recovered l ordinates) ≡ refusal 9 place → ⊥
        tested none r = weights_not_nine s c (ap weights (sym z) ∙ eight_and_nine_are_the_builds l ordinates 9 place refl r)
        tested (some i) r = true_not_false refl (keeping_refusal 18 i refl r)

    rest : Broken (checked s) (λ legal. legal_ordinates legal ordinates (recovered legal ordinates)) 9 place → ⊥
    rest (first-refuses p) = true_not_false refl (checked_codes s p)
    rest (second-refuses l p r) = let c = checked_inverts s p in entries l (eqb (length ordinates) (column_count l)) (sym c.0) c.1 r

    long : (a b c d : Bool) → cond a (refuse 1 0)
        (cond b (refuse 1 1) (cond c (refuse 1 3) (cond d (refuse 1 4) (checked s then λ legal. legal_ordinates legal ordinates (recovered legal ordinates)))))
        ≡ refusal 9 place → ⊥
    long true b c d r = true_not_false refl (keeping_refusal 1 0 refl r)
    long false true c d r = true_not_false refl (keeping_refusal 1 1 refl r)
    long false false true d r = true_not_false refl (keeping_refusal 1 3 refl r)
    long false false false true r = true_not_false refl (keeping_refusal 1 4 refl r)
    long false false false false r = rest (then_breaks (checked s) (λ legal. legal_ordinates legal ordinates (recovered legal ordinates)) r)
