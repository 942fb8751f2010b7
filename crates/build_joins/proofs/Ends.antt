-- What a part's joins end with, a table or a refusal, and what the machine answers and leaves in each.
use mathlib.Core.Path.{◌≡◌, refl, sym, ◌∙◌, ap, subst}
use mathlib.Core.Bool.{true, false, cond}
use mathlib.Core.Logic.{◌⊎◌, inl, inr}
use mathlib.Core.List.{List, []}
use Prim.Native.Nat.{ℕ, ◌-◌, ◌≤◌}
use native.Mathlib.Omega.{arith}
use lib.IntN.{ℤ, pos}
use lib.ListN.{length}
use Rattle.base_outcome.specs.Outcome.{Outcome, answer, refusal}
use Rattle.spec_spline.specs.Space.{Space, segments, column_count, condition_count}
use Rattle.spec_spline.specs.Table.{Table, identity, table_cells, numerators, denominators}
use Rattle.spec_spline.specs.Build.{order_steps, join_steps, weights, clears, numerators_after, denominators_after}
use Rattle.base_outcome.proofs.Outcome.{RefusedAs, repeat_refused}
use Rattle.build_cells.specs.Held.{Kept}
use Rattle.build_cells.specs.Region.{filled}
use Rattle.build_cells.proofs.Buffer.{numerators-again, denominators-again, numerators_cleared, denominators_cleared, kept-numerators, kept-denominators, kept_then}
use Rattle.build_joins.specs.Leaves.{JoinsLeave, Ends}
use Rattle.base_outcome.specs.Machine.{reply}
use Rattle.std.specs.Prelude.{Result, Ok, Err}
use Rattle.std.specs.Result.{is_err}
use Rattle.base_outcome.specs.declared.Refusal.{Refusal}
use Rattle.build_step.proofs.Orders.{orders_refuse}

-- the weights are refused by code 8 or 9 alone
weights-refuse : (s : Space) → RefusedAs (λ code place. (code ≡ 8) ⊎ (code ≡ 9)) (weights s)
unfolding weights join_steps
weights-refuse s = repeat_refused (λ code place. (code ≡ 8) ⊎ (code ≡ 9)) (segments s - 1) (λ j. order_steps s j (condition_count s j)) (identity (column_count s))
    (λ j t h e code place r. (orders_refuse s j (condition_count s j) t code place r).0)

-- after which the buffers are cleared
clears-either : {code : ℕ} → (code ≡ 8) ⊎ (code ≡ 9) → clears code ≡ true
clears-either (inl e) = ap clears e
clears-either (inr e) = ap clears e

pub weights_cleared : (s : Space) {code place : ℕ} → weights s ≡ refusal code place → clears code ≡ true
weights_cleared s {code} {place} e = clears-either (weights-refuse s code place e)

-- what the joins leave of buffers that held a table, where they answer, and where the buffers are then cleared
module _ (n : ℕ) (i : Table) (num₀ den₀ num den num' den' : List ℤ) (num_is : num ≡ numerators i num₀) (den_is : den ≡ denominators i den₀) where
  ends-rows : (o : Outcome Table) {m : ℕ} → JoinsLeave o n (Ok m) num den num' den' → Ends o n (Ok m) num₀ den₀ num' den'
  unfolding numerators_after denominators_after
  ends-rows (answer t) {m} left = record {
    answers = ap answer (let z : m ≡ n = let e = left.0 in cc in z);
    numerators_are = left.1 ∙ ap (numerators t) num_is ∙ numerators-again t i num₀;
    denominators_are = left.2 ∙ ap (denominators t) den_is ∙ denominators-again t i den₀;
  }
  ends-rows (refusal code place) left = absurd (let e = left.0 in let z : ◌≡◌ {A = ℕ} 0 1 = cc in omega arith)

  ends_cleared : (s : Space) {r : Refusal} {num₂ den₂ : List ℤ} → table_cells ≤ length num₀ → table_cells ≤ length den₀
      → JoinsLeave (weights s) n (Err r) num den num' den' → num₂ ≡ filled 0 table_cells (pos 0) num'
      → den₂ ≡ filled 0 table_cells (pos 1) den'
      → Ends (weights s) n (Err r) num₀ den₀ num₂ den₂
  unfolding numerators_after denominators_after
  ends_cleared s {r} {num₂} {den₂} long long' left p q = go (weights s) refl left
    where
      go : (o : Outcome Table) → weights s ≡ o → JoinsLeave o n (Err r) num den num' den' → Ends o n (Err r) num₀ den₀ num₂ den₂
      go (answer t) z left = absurd (let e = left.0 in let z : ◌≡◌ {A = ℕ} 0 1 = cc in omega arith)
      go (refusal a b) z left =
          let told = weights_cleared s z in
          record {
            answers = ap reply left.0;
            numerators_are = p ∙ numerators_cleared num₀ num' long (kept_then (subst (Kept num₀) (sym num_is) (kept-numerators i num₀ long)) left.1)
                ∙ sym (ap (λ c. cond c (numerators [] num₀) num₀) told);
            denominators_are = q ∙ denominators_cleared den₀ den' long' (kept_then (subst (Kept den₀) (sym den_is) (kept-denominators i den₀ long')) left.2)
                ∙ sym (ap (λ c. cond c (denominators [] den₀) den₀) told);
          }

  -- by whether the machine's answer is a refusal
  pub ends_kept : (o : Outcome Table) (r : Result ℕ Refusal) → false ≡ is_err r → JoinsLeave o n r num den num' den'
      → Ends o n r num₀ den₀ num' den'
  ends_kept o (Ok m) e left = ends-rows o left
  ends_kept o (Err r) e left = absurd (let z : ◌≡◌ {A = ℕ} 0 1 = cc in omega arith)

  pub ends_after : (s : Space) (r : Result ℕ Refusal) {num₂ den₂ : List ℤ} → true ≡ is_err r → table_cells ≤ length num₀
      → table_cells ≤ length den₀
      → JoinsLeave (weights s) n r num den num' den' → num₂ ≡ filled 0 table_cells (pos 0) num'
      → den₂ ≡ filled 0 table_cells (pos 1) den' → Ends (weights s) n r num₀ den₀ num₂ den₂
  ends_after s (Ok m) e long long' left p q = absurd (let z : ◌≡◌ {A = ℕ} 0 1 = cc in omega arith)
  ends_after s (Err r) e long long' left p q = ends_cleared s long long' left p q
