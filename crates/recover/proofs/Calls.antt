-- The call for coefficients, case by case: what it ends with after too short a buffer, lists or ordinates that are refused, and where all
-- is legal, and the refusals that leave all four buffers.
use mathlib.Core.Path.{◌≡◌, refl, sym, ◌∙◌}
use mathlib.Core.Bool.{Bool, true, false, cond}
use mathlib.Core.List.{List}
use mathlib.Core.Option.{Option, some, none}
use Prim.Native.Nat.{ℕ, ◌<◌, ◌≤◌}
use borrow.Author.Tests.{lt-ltb, le-ltb}
use lib.Dec.{eqb}
use lib.IntN.{ℤ}
use lib.ListN.{length}
use Rattle.std.specs.Prelude.{Err}
use Rattle.base_outcome.specs.Machine.{refused}
use Rattle.base_exact.proofs.Decide.{cond_true, cond_false}
use Rattle.base_outcome.specs.Outcome.{Outcome, answer, refusal, refuse, largest_place, capped, ◌then◌}
use Rattle.base_outcome.specs.Search.{first}
use Rattle.spec_spline.specs.Space.{Space, checked, column_count}
use Rattle.base_outcome.specs.Tests.{refuse_first}
use Rattle.spec_spline.specs.Table.{table_cells}
use Rattle.base_outcome.proofs.Outcome.{answer_not_refusal, then_answers, then_refuses}
use Rattle.spec_spline.proofs.Legal.{refusal-code, first_code, checked-code}
use Rattle.spec_spline.proofs.Build.{long-enough}
use Rattle.spec_calls.specs.Recovery.{Combination, recovered}
use Rattle.spec_calls.specs.RecoveryCall.{bad_ordinate, legal_ordinates, recovery_outcome, clears_all}
use Rattle.recover_limits.specs.Ordinates.{ordinates_checked}
use Rattle.recover.specs.Leaves.{BeamEnds}
use Rattle.recover_limits.proofs.Ordinates.{passed}

-- ---- what the call ends with

tested : {A : Type 0} (rest : Outcome A) (b : Bool) (o : Option ℕ) → cond b (refuse_first 18 o rest)
    (refuse 18 largest_place) ≡ (cond b (refuse_first 18 o passed) (refuse 18 largest_place) then λ _. rest)
tested rest true none = refl
tested rest true (some i) = refl
tested rest false o = refl

-- the ordinates, then the rest
ordinates-chain : {A : Type 0} (s : Space) (ordinates : List ℤ) (rest : Outcome A) → legal_ordinates s ordinates rest ≡ (ordinates_checked s ordinates then λ _. rest)
unfolding ordinates_checked
ordinates-chain s ordinates rest = tested rest (eqb (length ordinates) (column_count s)) (first (length ordinates) (bad_ordinate ordinates))

module _ (s : Space) (ordinates : List ℤ) (num_length den_length coef_num_length coef_den_length : ℕ) where
  abbrev ends : Outcome Combination
  ends = recovery_outcome s ordinates num_length den_length coef_num_length coef_den_length

  pub recovery_first-short : num_length < table_cells → ends ≡ refusal 1 0
  unfolding recovery_outcome capped
  recovery_first-short h = cond_true _ _ (lt-ltb _ _ h)

  module _ (h : table_cells ≤ num_length) where
    pub recovery_second-short : den_length < table_cells → ends ≡ refusal 1 1
    unfolding recovery_outcome capped
    recovery_second-short k = cond_false _ _ (le-ltb _ _ h) ∙ cond_true _ _ (lt-ltb _ _ k)

    module _ (k : table_cells ≤ den_length) where
      pub recovery_third_short : coef_num_length < length ordinates → ends ≡ refusal 1 3
      unfolding recovery_outcome capped
      recovery_third_short l = long-enough num_length den_length _ h k ∙ cond_true _ _ (lt-ltb _ _ l)

      module _ (l : length ordinates ≤ coef_num_length) where
        pub recovery_fourth_short : coef_den_length < length ordinates → ends ≡ refusal 1 4
        unfolding recovery_outcome capped
        recovery_fourth_short m = long-enough num_length den_length _ h k ∙ cond_false _ _ (le-ltb _ _ l) ∙ cond_true _ _ (lt-ltb _ _ m)

        module _ (m : length ordinates ≤ coef_den_length) where
          -- after the buffers the lists
          checks-next : ends ≡ (checked s then λ legal. legal_ordinates legal ordinates (recovered legal ordinates))
          unfolding recovery_outcome
          checks-next = long-enough num_length den_length _ h k ∙ cond_false _ _ (le-ltb _ _ l) ∙ cond_false _ _ (le-ltb _ _ m)

          pub recovery_lists_refused : {code place : ℕ} → checked s ≡ refusal code place → ends ≡ refusal code place
          recovery_lists_refused e = checks-next ∙ then_refuses _ e

          module _ (legal : checked s ≡ answer s) where
            -- then the ordinates
            ordinates-next : ends ≡ (ordinates_checked s ordinates then λ _. recovered s ordinates)
            ordinates-next = checks-next ∙ then_answers (λ s. legal_ordinates s ordinates (recovered s ordinates)) legal ∙ ordinates-chain s ordinates (recovered s ordinates)

            pub recovery_ordinates_refused : {code place : ℕ} → ordinates_checked s ordinates ≡ refusal code place → ends ≡ refusal code place
            recovery_ordinates_refused e = ordinates-next ∙ then_refuses (λ _. recovered s ordinates) e

            pub recovery_legal : ordinates_checked s ordinates ≡ passed → ends ≡ recovered s ordinates
            recovery_legal e = ordinates-next ∙ then_answers (λ _. recovered s ordinates) e

-- ---- refusals that leave all buffers

abbrev Keeps : ℕ → Type 0
Keeps code = clears_all code ≡ false

pub lists_keep : (s : Space) {code place : ℕ} → checked s ≡ refusal code place → clears_all code ≡ false
lists_keep s e = checked-code Keeps s refl refl refl refl refl e

pub ordinates-keep : (s : Space) (ordinates : List ℤ) {code place : ℕ} → ordinates_checked s ordinates ≡ refusal code place → clears_all code ≡ false
unfolding ordinates_checked
ordinates-keep s ordinates {code} {place} e = go (eqb (length ordinates) (column_count s)) e
  where
    go : (b : Bool) → cond b (refuse_first 18 (first (length ordinates) (bad_ordinate ordinates)) passed) (refuse 18 largest_place) ≡ refusal code place → clears_all code ≡ false
    go true r = first_code Keeps 18 (first (length ordinates) (bad_ordinate ordinates)) passed refl (λ z. absurd (answer_not_refusal refl z)) r
    go false r = refusal-code Keeps 18 largest_place refl r

pub beam_unchanged : (s : Space) (n : ℕ) {num den coef_num coef_den : List ℤ} {code place : ℕ} → clears_all code ≡ false
    → BeamEnds s n (refusal code place) (Err (refused code place)) num den coef_num coef_den num den coef_num coef_den
beam_unchanged s n kept = record {
  answers = refl;
  numerators_are = sym (cond_false _ _ kept);
  denominators_are = sym (cond_false _ _ kept);
  coefficient-numerators_are = sym (cond_false _ _ kept);
  coefficient-denominators_are = sym (cond_false _ _ kept);
}
