-- The numbers with which a curve call can refuse: none is above 15, so 16 comes after them all and from the search alone.
use mathlib.Core.Path.{◌≡◌}
use mathlib.Core.Logic.{◌⊎◌, inl, inr}
use mathlib.Core.Bool.{Bool, true, false, cond}
use mathlib.Core.List.{List}
use mathlib.Core.Option.{Option, some, none}
use Prim.Native.Nat.{ℕ, ◌+◌, ◌-◌, ◌*◌, ◌/◌, ◌≤◌}
use native.Mathlib.Omega.{arith}
use lib.Dec.{eqb, ltb}
use lib.IntN.{ℤ}
use lib.ListN.{length}
use Rattle.base_outcome.specs.Outcome.{Outcome, answer, refuse, largest_place, ◌then◌}
use Rattle.base_outcome.specs.Search.{first}
use Rattle.spec_spline.specs.Space.{Space, segments, lengths_fit, bad_break, span_too_long, bad_degree, bad_order, too_many_segments, part_end_at}
use Rattle.spec_spline.specs.Space.{checked_entries, column_count, condition_count, row_count}
use Rattle.base_outcome.specs.Tests.{refuse_first}
use Rattle.spec_spline.specs.Conditions.{conditions}
use Rattle.spec_spline.specs.Table.{identity, table_cells}
use Rattle.spec_spline.specs.Step.{step}
use Rattle.spec_spline.specs.Build.{order_steps, join_steps, weights}
use Rattle.spec_spline.specs.Reading.{values}
use Rattle.spec_spline.specs.CurveCall.{position_limit, bad_coefficient, bad_position, legal_entries, curve_checked, curve_read, curve_outcome}
use Rattle.base_outcome.proofs.Outcome.{RefusedAs, answer_refused, then_refused, repeat_refused, with_refuses}
use Rattle.spec_spline.proofs.Refusals.{step-refuses}

-- Every refusal of the outcome has a number of at most 15.
abbrev pub Low : {A : Type 0} → Outcome A → Type 0
Low o = RefusedAs (λ code place. code ≤ 15) o

low_refuse : {A : Type 0} (n p : ℕ) → n ≤ 15 → Low {A = A} (refuse n p)
low_refuse n p h code place e = let z : n ≡ code = cc in omega arith

low_first : {A : Type 0} (n : ℕ) (o : Option ℕ) (rest : Outcome A) → n ≤ 15 → Low rest → Low (refuse_first n o rest)
low_first n none rest h l = l
low_first n (some i) rest h l = low_refuse n i h

low_cond : {A : Type 0} (b : Bool) (x y : Outcome A) → Low x → Low y → Low (cond b x y)
low_cond true x y l m = l
low_cond false x y l m = m

low_answer : {A : Type 0} (a : A) → Low (answer a)
low_answer = answer_refused (λ code place. code ≤ 15)

low_then : {A B : Type 0} (o : Outcome A) (f : A → Outcome B) → Low o → ((a : A) → Low (f a)) → Low (o then f)
low_then o f l m = then_refused (λ code place. code ≤ 15) o f l (λ a e. m a)

low_entries : (s : Space) → Low (checked_entries s)
unfolding checked_entries
low_entries s =
    low_first 3 (first (segments s + 1) (bad_break s)) _ (omega arith)
    (low_first 3 (part_end_at s (first (segments s) (span_too_long s))) _ (omega arith)
    (low_first 4 (first (segments s) (bad_degree s)) _ (omega arith)
    (low_first 5 (first (segments s - 1) (bad_order s)) _ (omega arith)
    (low_first 15 (first (segments s) (too_many_segments s)) _ (omega arith) (low_answer s)))))

low_legal : (coefs positions : List ℤ) (s : Space) → Low (legal_entries s coefs positions (answer s))
low_legal coefs positions s = low_cond (eqb (length coefs) (2 * row_count s)) _ _
    (low_first 6 (first (length coefs) (bad_coefficient coefs)) _ (omega arith)
    (low_first 7 (first (length positions) (bad_position s positions)) _ (omega arith) (low_answer s)))
    (low_refuse 6 largest_place (omega arith))

low_checked : (s : Space) (coefs positions : List ℤ) → Low (curve_checked s coefs positions)
unfolding curve_checked
low_checked s coefs positions = low_cond (lengths_fit s) _ _
    (low_cond (ltb position_limit (length positions)) _ _ (low_refuse 2 1 (omega arith))
    (low_then (checked_entries s) (λ legal. legal_entries legal coefs positions (answer legal)) (low_entries s) (low_legal coefs positions)))
    (low_refuse 2 0 (omega arith))

low_weights : (s : Space) → Low (weights s)
unfolding weights join_steps order_steps
low_weights s = repeat_refused P (segments s - 1) (λ j. order_steps s j (condition_count s j)) (identity (column_count s))
    (λ j t h e. repeat_refused P (condition_count s j) (λ k. step j (conditions s j k)) t
    (λ k u l f code place r. either (step-refuses j (conditions s j k) u code place r).0))
  where
    P : ℕ → ℕ → Type 0
    P code place = code ≤ 15

    either : {code : ℕ} → (code ≡ 8) ⊎ (code ≡ 9) → code ≤ 15
    either (inl e) = omega arith
    either (inr e) = omega arith

pub curve_codes : (s : Space) (coefs positions : List ℤ) (num_length den_length values_length : ℕ)
    → Low (curve_outcome s coefs positions num_length den_length values_length)
unfolding curve_outcome curve_read
curve_codes s coefs positions num_length den_length values_length =
    low_cond (ltb num_length table_cells) _ _ (low_refuse 1 0 (omega arith))
    (low_cond (ltb den_length table_cells) _ _ (low_refuse 1 1 (omega arith))
    (low_cond (ltb (values_length / 2) (length positions)) _ _ (low_refuse 1 2 (omega arith))
    (low_then (curve_checked s coefs positions) (curve_read coefs positions) (low_checked s coefs positions)
    (λ legal code place e. low_weights legal code place
    (with_refuses (λ t. record { table = t; values = values legal t coefs positions }) (weights legal) e)))))
