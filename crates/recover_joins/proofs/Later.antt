-- Rows that no condition of a step touches, with coefficients of their own at the end: a step and its undoing leave both as they are. So
-- the coefficients of later segments need not be there before their join comes.
use mathlib.Core.Path.{◌≡◌, refl, sym, ◌∙◌, ap, ap₂}
use mathlib.Core.Bool.{Bool, not, cond}
use mathlib.Core.List.{List, ◌∷◌, [], ◌++◌}
use Prim.Native.Nat.{ℕ, zero, suc, ◌+◌, ◌-◌, ◌<◌, ◌≤◌}
use native.Mathlib.Omega.{arith}
use lib.IntN.{pos}
use lib.ListN.{length, take, drop, length-append, get_or-append}
use Rattle.base_exact.specs.Rational.{ℚ, int, ◌+ᵠ◌, ◌*ᵠ◌}
use Rattle.base_exact.specs.Order.{is_zero}
use Rattle.base_exact.proofs.Order.{zero_test}
use Rattle.base_exact.proofs.Tabulate.{tab_length}
use Rattle.base_outcome.specs.Outcome.{Outcome, answer, refusal, refuse, ◌then◌, with_answer}
use Rattle.spec_spline.specs.Space.{Space}
use Rattle.spec_spline.specs.Conditions.{Entry, conditions}
use Rattle.spec_spline.specs.Table.{Table, row, entry}
use Rattle.spec_spline.specs.Step.{jump, jumps_at, Planned, rows_renewed}
use Rattle.spec_spline.proofs.Table.{entry_past}
use Rattle.build_step.proofs.Plan.{Works}
use Rattle.build_joins.proofs.Later.{longer, same_entries, spliced-within, renewed_all, with_zeros, then_all, repeat_through}
use Rattle.spec_calls.specs.Recovery.{Combination, fitted, jump_sum, balanced, undone_coefficient, undone_row, undone_rows, undone, recover_step, recover_orders, undoing}
use Rattle.recover_joins.proofs.Stepped.{recovering, recover_planned}
use Rattle.recover_joins.proofs.Orders.{Sound, recover_one_less}

-- ---- the zero test: jumps of zero add nothing
module _ (j : ℕ) (js longer : List ℚ) (same : (i : ℕ) → entry longer i ≡ entry js i) (ps qs : List ℚ) (size : length js ≡ length ps) where
  abbrev all : List ℚ
  all = ps ++ qs

  sum_same : (n : ℕ) → n ≤ length ps → jump_sum j longer all n ≡ jump_sum j js ps n
  unfolding jump_sum
  sum_same zero h = refl
  sum_same (suc n) h =
      ap₂ (λ (o : Outcome ℚ) (x : ℚ). o then λ s. cond (not (is_zero x)) (fitted j (entry all n *ᵠ x) then λ p. fitted j (s +ᵠ p)) (answer s)) (sum_same n (omega arith)) (same n)
      ∙ ap (λ c. jump_sum j js ps n then λ s. cond (jumps_at js n) (fitted j (c *ᵠ entry js n) then λ p. fitted j (s +ᵠ p)) (answer s)) (get_or-append ps qs (int (pos 0)) n (omega arith))

  sum_past : (n : ℕ) → jump_sum j longer all (length ps + n) ≡ jump_sum j js ps (length ps)
  unfolding jump_sum
  sum_past zero = ap (jump_sum j longer all) (let z : length ps + 0 ≡ length ps = omega arith in z) ∙ sum_same (length ps) (omega arith)
  sum_past (suc n) =
      ap (jump_sum j longer all) (let z : length ps + suc n ≡ suc (length ps + n) = omega arith in z)
      ∙ ap₂ (λ (o : Outcome ℚ) (b : Bool). o then λ s. cond (not b) (fitted j (entry all (length ps + n) *ᵠ entry longer (length ps + n)) then λ p. fitted j
      (s +ᵠ p)) (answer s)) (sum_past n) (zero_test (same (length ps + n) ∙ entry_past js (length ps + n) (omega arith)))
      ∙ go (jump_sum j js ps (length ps))
    where
      go : (o : Outcome ℚ) → (o then λ s. answer s) ≡ o
      go (answer s) = refl
      go (refusal code place) = refl

  balanced_all : length js ≤ length longer → balanced j longer all ≡ balanced j js ps
  unfolding balanced
  balanced_all more =
      ap (λ (o : Outcome ℚ). o then λ s. cond (is_zero s) (answer tt) (refuse 19 j))
      (ap (jump_sum j longer all) (let z : length longer ≡ length ps + (length longer - length ps) = omega (arith, size) in z) ∙ sum_past (length longer - length ps) ∙ ap (jump_sum j js ps) (sym size))

-- ---- the new coefficients
rows_all : (j : ℕ) (ws ps qs : List ℚ) (f n : ℕ) → f + n ≤ length ps → undone_rows j ws (ps ++ qs) f n ≡ undone_rows j ws ps f n
unfolding undone_rows
rows_all j ws ps qs f zero h = refl
rows_all j ws ps qs f (suc n) h = ap (λ (o : Outcome (List ℚ)). o then λ ds. undone_row j ws (ps ++ qs) f n ds then λ d. answer (ds ++ (d ∷ [])))
    (rows_all j ws ps qs f n (omega arith)) ∙ go (undone_rows j ws ps f n)
  where
    row_all : (m : ℕ) (ds : List ℚ) → f + m < length ps → undone_row j ws (ps ++ qs) f m ds ≡ undone_row j ws ps f m ds
    row_all zero ds l = ap answer (get_or-append ps qs (int (pos 0)) f (omega arith))
    row_all (suc m) ds l = ap (λ c. undone_coefficient j (entry ws (suc m)) c (entry ds m)) (get_or-append ps qs (int (pos 0)) (f + suc m) l)

    go : (o : Outcome (List ℚ)) → (o then λ ds. undone_row j ws (ps ++ qs) f n ds then λ d. answer (ds ++ (d ∷ []))) ≡ (o then λ ds. undone_row j ws ps f n ds then λ d. answer (ds ++ (d ∷ [])))
    go (answer ds) = ap (λ (o : Outcome ℚ). o then λ d. answer (ds ++ (d ∷ []))) (row_all n ds (omega arith))
    go (refusal code place) = refl

-- ---- a step with its undoing
module _ (j : ℕ) (κ : List Entry) (t later : Table) (idle : (i : ℕ) → i < length later → jump j κ (row later i) ≡ answer (int (pos 0))) (ps qs : List ℚ) (count : length ps ≡ length t) where
  undoing_all : (p : Planned) → Works j κ t p → undoing j (with_zeros j κ t later idle p) (ps ++ qs) ≡ with_answer (λ ds. ds ++ qs) (undoing j p ps)
  unfolding undone
  undoing_all p w =
      ap₂ (λ (o : Outcome (Unit {0})) (r : Outcome (List ℚ)). o then λ _. r then λ ds. answer (take p.span.f (ps ++ qs) ++ (ds ++ drop (suc p.span.l) (ps ++ qs))))
      (balanced_all j p.jumps (longer j κ t later idle p.jumps) (same_entries j κ t later idle p.jumps w.count) ps qs
      (omega (arith, w.count, count)) (omega (arith, w.count, tab_length (length (t ++ later)) (entry p.jumps), length-append t later)))
      (rows_all j p.factors ps qs p.span.f (p.span.l - p.span.f) (omega (arith, w.spans.ordered, w.spans.below, w.count, count)))
      ∙ go (balanced j p.jumps ps) (undone_rows j p.factors ps p.span.f (p.span.l - p.span.f))
    where
      go : (o : Outcome (Unit {0})) (r : Outcome (List ℚ)) → (o then λ _. r then λ ds. answer (take p.span.f (ps ++ qs) ++ (ds ++ drop (suc p.span.l) (ps ++ qs))))
          ≡ with_answer (λ ds. ds ++ qs) (o then λ _. r then λ ds. answer (take p.span.f ps ++ (ds ++ drop (suc p.span.l) ps)))
      go (answer u) (answer ds) = ap answer (spliced-within p.span.f p.span.l ps qs ds w.spans.ordered (omega (arith, w.spans.below, w.count, count)))
      go (answer u) (refusal code place) = refl
      go (refusal code place) r = refl

  abbrev with_later : Combination → Combination
  with_later r = record { table = r.table ++ later; coefficients = r.coefficients ++ qs }

  recovering_all : (p : Planned) → Works j κ t p → recovering j κ (t ++ later) (ps ++ qs) (with_zeros j κ t later idle p) ≡ with_answer with_later (recovering j κ t ps p)
  recovering_all p w =
      ap₂ (λ (o : Outcome Table) (r : Outcome (List ℚ)). o then λ u. r then λ ds. answer (record { table = u; coefficients = ds }))
      (renewed_all j κ t later idle p.span p.factors w.spans.ordered (omega (arith, w.spans.below, w.count))) (undoing_all p w)
      ∙ go (rows_renewed j p.span p.factors t) (undoing j p ps)
    where
      go : (o : Outcome Table) (r : Outcome (List ℚ)) → (with_answer (λ u. u ++ later) o then λ u. with_answer (λ ds. ds ++ qs) r then λ ds. answer (record { table = u; coefficients = ds }))
          ≡ with_answer with_later (o then λ u. r then λ ds. answer (record { table = u; coefficients = ds }))
      go (answer u) (answer ds) = refl
      go (answer u) (refusal code place) = refl
      go (refusal code place) r = refl

  pub recover_all : recover_step j κ (record { table = t ++ later; coefficients = ps ++ qs }) ≡ with_answer with_later (recover_step j κ (record { table = t; coefficients = ps }))
  recover_all =
      recover_planned j κ (t ++ later) (ps ++ qs)
      ∙ then_all j κ t later idle (recovering j κ (t ++ later) (ps ++ qs)) (recovering j κ t ps) with_later recovering_all
      ∙ ap (with_answer with_later) (sym (recover_planned j κ t ps))

-- ---- all orders of a join
pub orders_all : (s : Space) (j n : ℕ) (r : Combination) (later : Table) (qs : List ℚ) {rows columns : ℕ} → Sound r rows columns
    → ((k : ℕ) → k < n → (i : ℕ) → i < length later → jump j (conditions s j k) (row later i) ≡ answer (int (pos 0)))
    → recover_orders s j n (record { table = r.table ++ later; coefficients = r.coefficients ++ qs }) ≡ with_answer
    (λ u. record { table = u.table ++ later; coefficients = u.coefficients ++ qs }) (recover_orders s j n r)
unfolding recover_orders
orders_all s j n r later qs {rows} {columns} sound idle =
    repeat_through (λ k u. (m : ℕ) × Sound u m columns) n (λ k. recover_step j (conditions s j k)) (λ u. record { table = u.table ++ later; coefficients = u.coefficients ++ qs }) r (rows, sound)
    (λ k u v l p e. (p.0 - 1, recover_one_less j (conditions s j k) u e p.1))
    (λ k u l p. recover_all j (conditions s j k) u.table later (idle k l) u.coefficients qs (omega (arith, p.1.count, p.1.proper.shaped.row_count_lem)))
