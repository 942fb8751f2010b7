-- Which curve calls answer: those within the specification's limits on an accepted space, and no others. Each test of the call
-- passes for such a call, and each is read back from an answer.
use mathlib.Core.Path.{◌≡◌, refl, sym, ◌∙◌, ap, subst}
use mathlib.Core.Bool.{Bool, true, false, cond, not}
use mathlib.Core.List.{List}
use mathlib.Core.Option.{none}
use Prim.Native.Nat.{ℕ, ◌*◌, ◌/◌, ◌≤◌}
use lib.Dec.{T, eqb, ltb, eqb_refl, eqb→eq, nltb→le}
use lib.IntN.{ℤ}
use lib.ListN.{length, length-map}
use Rattle.base_exact.proofs.Decide.{true_holds, holds_true, fails_false, cond_true, cond_false}
use borrow.Author.Tests.{le-ltb}
use Rattle.base_outcome.specs.Outcome.{Outcome, answer, refusal, refuse, largest_place, ◌then◌, with_answer}
use Rattle.base_outcome.specs.Search.{first}
use Rattle.spec_spline.specs.Space.{Space, lengths_fit, checked_entries, checked, row_count}
use Rattle.base_outcome.specs.Tests.{refuse_first}
use Rattle.spec_spline.specs.Table.{Table, table_cells}
use Rattle.spec_spline.specs.Build.{weights, space_weights, clears}
use Rattle.spec_spline.specs.Reading.{pair_at, values}
use Rattle.spec_spline.specs.CurveCall.{position_limit, bad_coefficient, bad_position, legal_entries, curve_checked, curve_read, curve_outcome}
use Rattle.spec_spline.specs.ExactCurve.{Legal}
use Rattle.base_outcome.proofs.Outcome.{answer_unique, answer_not_refusal, then_answers, Chained, then_inverts, then_breaks, Broken, first-refuses, second-refuses}
use Rattle.base_outcome.proofs.Search.{first-none, first-none_inverts}
use Rattle.spec_spline.proofs.Legal.{checked_inverts, checked_codes, refuse_first_inverts, cond_refuse_inverts, fitting_inverts, keeping_refusal, keeping_first}
use Rattle.spec_spline.proofs.Pairs.{le_half, half_le}
use Rattle.theorems_weights.proofs.Built.{built}
use Rattle.theorems_values.specs.ValueLimits.{legal_result, LegalCallsAnswer, LegalCallsReturnCount, AnsweredCallsAreLegal}
use Rattle.theorems_values.proofs.Segment.{accepted-checked}

below_not : (m n : ℕ) → ltb m n ≡ false → n ≤ m
below_not m n e = nltb→le m n (rw e tt)

not_holds : {b : Bool} → b ≡ false → T (not b)
not_holds e = rw e tt

-- ---- a legal call passes all tests

module _ {s : Space} {coefs positions : List ℤ} {num_length den_length values_length : ℕ} (l : Legal s coefs positions num_length den_length values_length) where
  entries-pass : legal_entries s coefs positions (answer s) ≡ answer s
  entries-pass =
      cond_true _ (refuse 6 largest_place) (holds_true (eqb (length coefs) (2 * row_count s)) (subst (λ n. T (eqb (length coefs) n)) l.coefficient_count (eqb_refl (length coefs))))
      ∙ ap (λ o. refuse_first 6 o (refuse_first 7 (first (length positions) (bad_position s positions)) (answer s)))
      (first-none (bad_coefficient coefs) (length coefs) (λ k h. fails_false _ (l.coefficients k h)))
      ∙ ap (λ o. refuse_first 7 o (answer s)) (first-none (bad_position s positions) (length positions) (λ k h. fails_false _ (l.in_span k h)))

  checks-pass : curve_checked s coefs positions ≡ answer s
  unfolding curve_checked checked
  checks-pass = let c = accepted-checked s l.accepted in
      cond_true _ (refuse 2 0) c.1.lengths
      ∙ cond_false (refuse 2 1) _ (le-ltb _ _ l.position_count)
      ∙ then_answers (λ legal. legal_entries legal coefs positions (answer legal)) (sym (cond_true (checked_entries s) (refuse 2 0) c.1.lengths) ∙ c.0)
      ∙ entries-pass

  call-answers : curve_outcome s coefs positions num_length den_length values_length ≡ answer (legal_result s l.accepted coefs positions)
  unfolding curve_outcome curve_read
  call-answers =
      cond_false (refuse 1 0) _ (le-ltb _ _ l.numerators)
      ∙ cond_false (refuse 1 1) _ (le-ltb _ _ l.denominators)
      ∙ cond_false (refuse 1 2) _ (le-ltb _ _ (le_half (length positions) values_length l.values))
      ∙ then_answers (curve_read coefs positions) checks-pass
      ∙ ap (with_answer (λ t. record { table = t; values = values s t coefs positions })) (built s l.accepted.table l.accepted.is).weights_are

pub legal_calls_answer : LegalCallsAnswer
legal_calls_answer s coefs positions num_length den_length values_length l = call-answers l

pub values_length_lem : (s : Space) (t : Table) (coefs positions : List ℤ) → length (values s t coefs positions) ≡ length positions
unfolding values
values_length_lem s t coefs positions = length-map positions (pair_at s t coefs)

pub legal_calls_return_count : LegalCallsReturnCount
legal_calls_return_count s coefs positions num_length den_length values_length l =
    ap (with_answer (λ r. length r.values)) (call-answers l) ∙ ap answer (values_length_lem s l.accepted.table coefs positions)

-- ---- an answered call is legal

-- What the answer of the tests 6 and 7 tells.
pub record EntriesPassed (s : Space) (coefs positions : List ℤ) : Type 0 where
  pub count : length coefs ≡ 2 * row_count s
  pub coefficients : first (length coefs) (bad_coefficient coefs) ≡ none
  pub positions_inside : first (length positions) (bad_position s positions) ≡ none

entries-passed : (s : Space) (coefs positions : List ℤ) {s' : Space} → legal_entries s coefs positions (answer s) ≡ answer s' → EntriesPassed s coefs positions × (s ≡ s')
entries-passed s coefs positions e =
    let inner = refuse_first 7 (first (length positions) (bad_position s positions)) (answer s) in
    let a = fitting_inverts (eqb (length coefs) (2 * row_count s)) 6 largest_place (refuse_first 6 (first (length coefs) (bad_coefficient coefs)) inner) e in
    let b = refuse_first_inverts 6 (first (length coefs) (bad_coefficient coefs)) inner a.1 in
    let c = refuse_first_inverts 7 (first (length positions) (bad_position s positions)) (answer s) b.1 in
    (record { count = eqb→eq (length coefs) (2 * row_count s) (true_holds a.0); coefficients = b.0; positions_inside = c.0 }, answer_unique refl c.1)

-- What the answer of the tests 2 to 7 and 15 tells.
pub record ChecksPassed (s : Space) (coefs positions : List ℤ) : Type 0 where
  pub space : checked s ≡ answer s
  pub few : length positions ≤ position_limit
  pub entries : EntriesPassed s coefs positions

pub checks-passed : (s : Space) (coefs positions : List ℤ) {s' : Space} → curve_checked s coefs positions ≡ answer s' → ChecksPassed s coefs positions × (s ≡ s')
unfolding curve_checked checked
checks-passed s coefs positions {s'} e =
    let rest = checked_entries s then λ legal. legal_entries legal coefs positions (answer legal) in
    let a = fitting_inverts (lengths_fit s) 2 0 (cond (ltb position_limit (length positions)) (refuse 2 1) rest) e in
    let b = cond_refuse_inverts (ltb position_limit (length positions)) 2 1 rest a.1 in
    go a.0 (below_not position_limit (length positions) b.0) (then_inverts (checked_entries s) (λ legal. legal_entries legal coefs positions (answer legal)) b.1)
  where
    finish : (s'' : Space) → length positions ≤ position_limit → checked s ≡ answer s'' → s ≡ s'' → EntriesPassed s'' coefs positions × (s'' ≡ s') → ChecksPassed s coefs positions × (s ≡ s')
    finish s'' few c z p = (record { space = c ∙ ap answer (sym z); few = few; entries = subst (λ r. EntriesPassed r coefs positions) (sym z) p.0 }, z ∙ p.1)

    go : lengths_fit s ≡ true → length positions ≤ position_limit → Chained (checked_entries s) (λ legal. legal_entries legal coefs positions (answer legal)) s' → ChecksPassed s coefs positions × (s ≡ s')
    go fit few c = let k = cond_true (checked_entries s) (refuse 2 0) fit ∙ c.before in
        finish c.middle few k (checked_inverts s k).0 (entries-passed c.middle coefs positions c.after)

-- the checks of a curve call give neither 8 nor 9
pub curve_checks : (s : Space) (coefs positions : List ℤ) {code place : ℕ} → curve_checked s coefs positions ≡ refusal code place → clears code ≡ false
unfolding curve_checked checked
curve_checks s coefs positions {code} {place} e = fit (lengths_fit s) refl e
  where
    entries : (legal : Space) (b : Bool)
        → cond b (refuse_first 6 (first (length coefs) (bad_coefficient coefs)) (refuse_first 7 (first (length positions) (bad_position legal positions)) (answer legal)))
        (refuse 6 largest_place) ≡ refusal code place → clears code ≡ false
    entries legal true r =
        keeping_first 6 (first (length coefs) (bad_coefficient coefs)) _ refl
        (keeping_first 7 (first (length positions) (bad_position legal positions)) (answer legal) refl (λ r. absurd (answer_not_refusal refl r))) r
    entries legal false r = keeping_refusal 6 largest_place refl r

    listed : lengths_fit s ≡ true → Broken (checked_entries s) (λ legal. legal_entries legal coefs positions (answer legal)) code place → clears code ≡ false
    listed f (first-refuses p) = checked_codes s (ap (λ b. cond b (checked_entries s) (refuse 2 0)) f ∙ p)
    listed f (second-refuses legal p q) = entries legal (eqb (length coefs) (2 * row_count legal)) q

    few : lengths_fit s ≡ true → (b : Bool) → cond b (refuse 2 1) (checked_entries s then λ legal. legal_entries legal coefs positions (answer legal)) ≡ refusal code place → clears code ≡ false
    few f true r = keeping_refusal 2 1 refl r
    few f false r = listed f (then_breaks (checked_entries s) (λ legal. legal_entries legal coefs positions (answer legal)) r)

    fit : (b : Bool) → lengths_fit s ≡ b
        → cond b (cond (ltb position_limit (length positions)) (refuse 2 1) (checked_entries s then λ legal. legal_entries legal coefs positions (answer legal))) (refuse 2 0)
        ≡ refusal code place → clears code ≡ false
    fit true f r = few f (ltb position_limit (length positions)) r
    fit false f r = keeping_refusal 2 0 refl r

pub answered_calls_are_legal : AnsweredCallsAreLegal
unfolding curve_outcome curve_read space_weights
answered_calls_are_legal s coefs positions num_length den_length values_length r e =
    let rest = curve_checked s coefs positions then curve_read coefs positions in
    let third = cond (ltb (values_length / 2) (length positions)) (refuse 1 2) rest in
    let second = cond (ltb den_length table_cells) (refuse 1 1) third in
    let a = cond_refuse_inverts (ltb num_length table_cells) 1 0 second e in
    let b = cond_refuse_inverts (ltb den_length table_cells) 1 1 third a.1 in
    let c = cond_refuse_inverts (ltb (values_length / 2) (length positions)) 1 2 rest b.1 in
    go a.0 b.0 c.0 (then_inverts (curve_checked s coefs positions) (curve_read coefs positions) c.1)
  where
    with_table : (o : Outcome Table) → with_answer (λ t. record { table = t; values = values s t coefs positions }) o ≡ answer r → o ≡ answer r.table
    with_table (answer t) p = ap (λ q. answer q.table) (answer_unique {a = record { table = t; values = values s t coefs positions }} refl p)
    with_table (refusal code place) p = absurd (answer_not_refusal p refl)

    go : ltb num_length table_cells ≡ false → ltb den_length table_cells ≡ false → ltb (values_length / 2) (length positions) ≡ false
        → Chained (curve_checked s coefs positions) (curve_read coefs positions) r
        → Legal s coefs positions num_length den_length values_length
    go n d v c = finish (checks-passed s coefs positions c.before)
      where
        finish : ChecksPassed s coefs positions × (s ≡ c.middle) → Legal s coefs positions num_length den_length values_length
        finish p = let q = p.0 in let m = q.entries in record {
          accepted = record { table = r.table; is = then_answers weights q.space ∙ with_table (weights s) (subst (λ s'. curve_read coefs positions s' ≡ answer r) (sym p.1) c.after) };
          coefficient_count = m.count;
          coefficients = λ i h. not_holds (first-none_inverts (bad_coefficient coefs) (length coefs) m.coefficients i h);
          position_count = q.few;
          in_span = λ i h. not_holds (first-none_inverts (bad_position s positions) (length positions) m.positions_inside i h);
          numerators = below_not num_length table_cells n;
          denominators = below_not den_length table_cells d;
          values = half_le (length positions) values_length (below_not (values_length / 2) (length positions) v);
        }
