-- What a curve call ends with, case by case, and what its lists and entries are once they pass.
use mathlib.Core.Path.{◌≡◌, sym, ◌∙◌, ap}
use mathlib.Core.Logic.{◌⊎◌, inl, inr}
use Prim.Native.Nat.{ℕ, ◌/◌, ◌<◌, ◌≤◌}
use native.Mathlib.Omega.{arith}
use borrow.Author.Tests.{lt-ltb, le-ltb}
use lib.IntN.{pos, nat_abs}
use lib.ListN.{length, get_or, get_or-eq_default}
use Rattle.base_exact.proofs.Decide.{le_or_lt, cond_true, cond_false}
use Rattle.base_outcome.specs.Outcome.{Outcome, answer, refusal, capped, with_answer, ◌then◌}
use Rattle.base_outcome.specs.Machine.{passed}
use Rattle.base_outcome.proofs.Machine.{passed_answers}
use Rattle.base_outcome.proofs.Outcome.{then_answers, then_refuses}
use Rattle.base_outcome.proofs.Search.{first-none_inverts}
use Rattle.spec_spline.specs.Space.{Space, row_count}
use Rattle.spec_spline.specs.Table.{Table, table_cells}
use Rattle.spec_spline.specs.Build.{weights}
use Rattle.spec_spline.specs.Reading.{values}
use Rattle.spec_spline.specs.CurveCall.{CurveResult, bad_coefficient, bad_position, curve_checked, curve_read, curve_outcome}
use Rattle.spec_spline.proofs.Build.{long-enough}
use Rattle.theorems_values.proofs.LegalCall.{ChecksPassed, checks-passed}
use Rattle.build_space.specs.Legal.{ListsLegal}
use Rattle.build_space.proofs.Legal.{checked_legal}
use Rattle.curve_entries.proofs.Entries.{good-coefficient, good-position}
use Rattle.curve_ordinates.specs.Ordinates.{Coefficients}
use Rattle.curve_places.specs.Offsets.{Within}
use Rattle.curve_parts.specs.Parts.{Lent, TableRoom}
use Rattle.curve_start.specs.Machine.{Call, outcome_of}

-- What the tests of lists and entries give.
abbrev pub checked_of : Call → Outcome Space
checked_of c = curve_checked c.lists c.coefs c.positions

-- What an answer of the build becomes.
abbrev pub result_of : Call → Table → CurveResult
result_of c t = record { table = t; values = values c.lists t c.coefs c.positions }

-- ---- lists and entries that pass

module _ (c : Call) (e : answer (tt {0}) ≡ passed (checked_of c)) where
  reached : Space
  reached = (passed_answers (checked_of c) e).given

  passing : ChecksPassed c.lists c.coefs c.positions × (c.lists ≡ reached)
  unfolding reached
  passing = checks-passed c.lists c.coefs c.positions (passed_answers (checked_of c) e).is

  pub checks-answer : checked_of c ≡ answer c.lists
  unfolding reached
  checks-answer = (passed_answers (checked_of c) e).is ∙ ap answer (sym passing.1)

  pub lists_legal : ListsLegal c.lists.breaks c.lists.degrees c.lists.orders
  lists_legal = checked_legal c.lists.breaks c.lists.degrees c.lists.orders passing.0.space

  pub coefficients_good : Coefficients c.coefs (row_count c.lists)
  coefficients_good = record { count = passing.0.entries.count; small = λ i. small i (le_or_lt (length c.coefs) i) }
    where
      none-bad : (i : ℕ) → i < length c.coefs → nat_abs (get_or c.coefs i (pos 0)) ≤ 1000000
      none-bad i h = good-coefficient c.coefs i
          (first-none_inverts (bad_coefficient c.coefs) (length c.coefs) passing.0.entries.coefficients i h)

      small : (i : ℕ) → (length c.coefs ≤ i) ⊎ (i < length c.coefs) → nat_abs (get_or c.coefs i (pos 0)) ≤ 1000000
      small i (inl h) = rw (get_or-eq_default c.coefs (pos 0) {n = i} h) (omega arith)
      small i (inr h) = none-bad i h

  pub positions_good : (k : ℕ) → k < length c.positions → Within c.lists (get_or c.positions k (pos 0))
  positions_good k h =
      let none-bad = first-none_inverts (bad_position c.lists c.positions) (length c.positions)
      passing.0.entries.positions_inside in
      let inside = good-position c.lists c.positions k (none-bad k h) in
      record { low = inside.0; high = inside.1 }

-- ---- the call's outcome

module _ (c : Call) (l : Lent) where
  pub first_short : length l.num < table_cells → outcome_of c l ≡ refusal 1 0
  unfolding curve_outcome capped
  first_short h = cond_true _ _ (lt-ltb (length l.num) table_cells h)

  pub second_short : table_cells ≤ length l.num → length l.den < table_cells → outcome_of c l ≡ refusal 1 1
  unfolding curve_outcome capped
  second_short h k = cond_false _ _ (le-ltb (length l.num) table_cells h) ∙ cond_true _ _ (lt-ltb (length l.den) table_cells k)

  module _ (long : TableRoom l) where
    pub third_short : c.room / 2 < length c.positions → outcome_of c l ≡ refusal 1 2
    unfolding curve_outcome capped
    third_short h =
        long-enough (length l.num) (length l.den) _ long.num_long long.den_long
        ∙ cond_true _ _ (lt-ltb (c.room / 2) (length c.positions) h)

    module _ (h : length c.positions ≤ c.room / 2) where
      all_long : outcome_of c l ≡ (checked_of c then curve_read c.coefs c.positions)
      unfolding curve_outcome
      all_long =
          long-enough (length l.num) (length l.den) _ long.num_long long.den_long
          ∙ cond_false _ _ (le-ltb (c.room / 2) (length c.positions) h)

      pub call_refused : {code place : ℕ} → checked_of c ≡ refusal code place → outcome_of c l ≡ refusal code place
      call_refused e = all_long ∙ then_refuses (curve_read c.coefs c.positions) e

      module _ (e : answer (tt {0}) ≡ passed (checked_of c)) where
        all_pass : outcome_of c l ≡ with_answer (result_of c) (weights c.lists)
        unfolding curve_read
        all_pass = all_long ∙ then_answers (curve_read c.coefs c.positions) (checks-answer c e)

        pub call_stopped : {code place : ℕ} → weights c.lists ≡ refusal code place → outcome_of c l ≡ refusal code place
        call_stopped w = all_pass ∙ ap (with_answer (result_of c)) w

        pub call-answers : {t : Table} → weights c.lists ≡ answer t → outcome_of c l ≡ answer (result_of c t)
        call-answers w = all_pass ∙ ap (with_answer (result_of c)) w
