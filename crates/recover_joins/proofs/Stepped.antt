-- A step of the build with its undoing: by the two halves of the step, and what is left after each answer and refusal.
use mathlib.Core.Path.{◌≡◌, refl, sym, ◌∙◌, ap, subst}
use native.Mathlib.Omega.{arith}
use mathlib.Core.List.{List}
use Prim.Native.Nat.{ℕ, ◌≤◌}
use lib.IntN.{ℤ}
use lib.ListN.{length}
use Rattle.base_exact.specs.Rational.{ℚ}
use Rattle.base_outcome.specs.Outcome.{Outcome, answer, refusal, ◌then◌}
use Rattle.base_outcome.proofs.Outcome.{then_answers, then_refuses}
use Rattle.spec_spline.specs.Conditions.{Entry}
use Rattle.spec_spline.specs.Table.{Table, table_cells, numerators, denominators}
use Rattle.spec_spline.specs.Step.{Planned, planned, rows_renewed}
use Rattle.build_cells.specs.Held.{Kept}
use Rattle.build_cells.proofs.Buffer.{kept-numerators, kept-denominators}
use Rattle.build_cells.specs.Left.{LeavesIf}
use Rattle.build_cells.proofs.Left.{left-answer, left-refusal}
use Rattle.build_step.proofs.Leaving.{renewed_refuses}
use Rattle.spec_calls.specs.Recovery.{Combination, recover_step, undoing}
use Rattle.recover_joins.specs.Leaves.{coefficients_of, told_coefficients, Leaves}
use Rattle.std.specs.Prelude.{Result, Some, None, Err}
use Rattle.base_fraction.specs.declared.arrays.Fractions.{Fractions}

module _ (j : ℕ) (κ : List Entry) (t : Table) (ps : List ℚ) where
  -- what follows the first half of the step
  abbrev pub recovering : Planned → Outcome Combination
  recovering p = rows_renewed j p.span p.factors t then λ u. undoing j p ps then λ ds. answer (record { table = u; coefficients = ds })

  pub recover_planned : recover_step j κ (record { table = t; coefficients = ps }) ≡ (planned j κ t then recovering)
  unfolding recover_step
  recover_planned = refl

  -- ---- what is left
  module _ (num den num' den' : List ℤ) where
    abbrev Leaving : Result Fractions ℕ → Type 0
    Leaving r = Leaves (recover_step j κ (record { table = t; coefficients = ps })) r num den num' den'

    -- the first half is refused, or the second
    pub leaves_unplanned : {code place : ℕ} {r : Result Fractions ℕ} → planned j κ t ≡ refusal code place
        → r ≡ coefficients_of (refusal code place) → Kept num num' → Kept den den'
        → Leaving r
    leaves_unplanned e h p q = left-refusal (λ q. q.table) told_coefficients num den num' den' (recover_planned ∙ then_refuses recovering e) h p q

    module _ {p : Planned} (e : planned j κ t ≡ answer p) where
      abbrev made : Outcome Table
      made = rows_renewed j p.span p.factors t

      planned_is : recover_step j κ (record { table = t; coefficients = ps }) ≡ recovering p
      planned_is = recover_planned ∙ then_answers recovering e

      pub leaves_unmade : LeavesIf made None num den num' den' → Leaving (Err 8)
      leaves_unmade left = go made refl left
        where
          go : (o : Outcome Table) → made ≡ o → LeavesIf o None num den num' den' → Leaving (Err 8)
          go (answer u) z left = absurd (let e = left.0 in let z : ◌≡◌ {A = ℕ} 0 1 = cc in omega arith)
          go (refusal code place) z left = left-refusal (λ q. q.table) told_coefficients num den num' den'
              (planned_is ∙ then_refuses (λ u. undoing j p ps then λ ds. answer (record { table = u; coefficients = ds })) z)
              (ap Err (sym (renewed_refuses j t p.factors p.span code place z))) left.1 left.2

      -- the table is made: the undoing decides
      pub leaves_made : {r : Result Fractions ℕ} → table_cells ≤ length num → table_cells ≤ length den
          → LeavesIf made (Some tt) num den num' den'
          → r ≡ coefficients_of (undoing j p ps) → Leaving r
      leaves_made {r} long long' left h = go made refl left
        where
          undoes : (u : Table) → made ≡ answer u → num' ≡ numerators u num → den' ≡ denominators u den → (o : Outcome (List ℚ)) → undoing j p ps ≡ o → r ≡ coefficients_of o
              → Leaving r
          undoes u z k l (answer ds) e h = left-answer (λ q. q.table) told_coefficients num den num' den'
              (planned_is ∙ then_answers (λ u. undoing j p ps then λ ds. answer (record { table = u; coefficients = ds })) z
              ∙ then_answers (λ ds. answer (record { table = u; coefficients = ds })) e) h k l
          undoes u z k l (refusal code place) e h = left-refusal (λ q. q.table) told_coefficients num den num' den'
              (planned_is ∙ then_answers (λ u. undoing j p ps then λ ds. answer (record { table = u; coefficients = ds })) z
              ∙ then_refuses (λ ds. answer (record { table = u; coefficients = ds })) e) h
              (subst (Kept num) (sym k) (kept-numerators u num long)) (subst (Kept den) (sym l) (kept-denominators u den long'))

          go : (o : Outcome Table) → made ≡ o → LeavesIf o (Some tt) num den num' den' → Leaving r
          go (answer u) z left = undoes u z left.1 left.2 (undoing j p ps) refl h
          go (refusal code place) z left = absurd (let e = left.0 in let z : ◌≡◌ {A = ℕ} 0 1 = cc in omega arith)
