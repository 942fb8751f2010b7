-- What a step leaves: its second half from what the new rows and the row that is left out leave, and the step from its halves.
use mathlib.Core.Path.{◌≡◌, refl, sym, ◌∙◌, ap}
use Rattle.std.specs.Prelude.{Option, Some, None, Ok, Err}
use Rattle.std.specs.Option.{ok_or}
use mathlib.Core.List.{List, ◌++◌}
use Prim.Native.Nat.{ℕ, suc, ◌<◌, ◌≤◌}
use native.Mathlib.Omega.{arith}
use lib.IntN.{ℤ}
use lib.ListN.{length, take, drop}
use Rattle.base_exact.specs.Rational.{ℚ}
use Rattle.base_outcome.specs.Outcome.{Outcome, answer, refusal, ◌then◌, with_answer}
use Rattle.spec_spline.specs.Table.{Table, numerators, denominators}
use Rattle.spec_spline.specs.Conditions.{Entry}
use Rattle.spec_spline.specs.Step.{Span, new_rows, step, Planned, planned, rows_renewed}
use Rattle.base_outcome.proofs.Outcome.{answer_not_refusal, then_answers, then_refuses, Broken, first-refuses, second-refuses, then_breaks}
use Rattle.spec_spline.proofs.Refusals.{new_rows-refuse_8}
use Rattle.build_cells.specs.Held.{Holds, Shaped}
use Rattle.build_cells.proofs.Tables.{renewed_without}
use Rattle.build_cells.proofs.Buffer.{holds-left, numerators-again, denominators-again}
use Rattle.build_factors.specs.declared.StepRefusal.{StepRefusal}
use Rattle.build_factors.specs.declared.StepRefusal.TheVariants as refusals
use Rattle.build_factors.proofs.Quotients.{Ended}
use Rattle.build_factors.proofs.Answers.{eight_named}
use Rattle.build_cells.specs.Left.{LeavesIf}
use Rattle.build_cells.proofs.Left.{kept_same, left-answer, left-refusal, Done, left_done, Halted, left-halted}
use Rattle.build_step.specs.Leaves.{Leaves, told_step}
use Rattle.build_step.proofs.Plan.{step-planned}
use Rattle.build_step.proofs.Stepped.{renewed_fits, renewed_shaped, new_rows_fit, new_rows_length}

-- ---- what the machine's answer tells

module _ {num den num' den' : List ℤ} (o : Outcome Table) where
  pub leaves_ok : Leaves o (Ok tt) num den num' den' → Done (λ t. t) told_step num den num' den' o (Ok tt)
  leaves_ok left = left_done (λ t. t) told_step num den num' den' o (Ok tt)
      (λ code place z h. let x : ◌≡◌ {A = ℕ} 0 1 = cc in omega arith) left

  pub leaves_err : {reason : StepRefusal} → Leaves o (Err reason) num den num' den'
      → Halted (λ t. t) told_step num den num' den' o (Err reason)
  leaves_err {reason} left = left-halted (λ t. t) told_step num den num' den' o (Err reason)
      (λ t z h. let x : ◌≡◌ {A = ℕ} 0 1 = cc in omega arith) left

-- ---- the second half of a step, from what the new rows leave

module _ (j : ℕ) (t : Table) (ws : List ℚ) (g : Span) where
  -- the table with the new rows before row l is left out, and the table that the step answers
  abbrev with_new : Table → Table
  with_new rs = take g.f t ++ (rs ++ drop g.l t)

  abbrev stepped : Table → Table
  stepped rs = take g.f t ++ (rs ++ drop (suc g.l) t)

  pub renewed_large : (num den num' den' : List ℤ) → LeavesIf (with_answer with_new (new_rows j g ws t)) None num den num' den'
      → LeavesIf (rows_renewed j g ws t) None num den num' den'
  unfolding rows_renewed
  renewed_large num den num' den' left = go (new_rows j g ws t) left
    where
      go : (o : Outcome Table) → LeavesIf (with_answer with_new o) None num den num' den'
          → LeavesIf (o then λ rs. answer (stepped rs)) None num den num' den'
      go (answer rs) left = absurd (let e = left.0 in let z : ◌≡◌ {A = ℕ} 0 1 = cc in omega arith)
      go (refusal code place) left = (refl, left.1, left.2)

  pub renewed_done : {rows columns : ℕ} (num den num' den' num₂ den₂ : List ℤ) → Holds num den t → Shaped t rows columns → g.f ≤ g.l
      → g.l < rows
      → LeavesIf (with_answer with_new (new_rows j g ws t)) (Some tt) num den num' den'
      → ((s : Table) → Holds num' den' s → length s ≡ rows
      → (num₂ ≡ numerators (take g.l s ++ drop (suc g.l) s) num') × (den₂ ≡ denominators (take g.l s ++ drop (suc g.l) s) den'))
      → LeavesIf (rows_renewed j g ws t) (Some tt) num den num₂ den₂
  unfolding rows_renewed
  renewed_done {rows} {columns} num den num' den' num₂ den₂ holds shaped order below left dropped = go (new_rows j g ws t) refl left
    where
      go : (o : Outcome Table) → new_rows j g ws t ≡ o → LeavesIf (with_answer with_new o) (Some tt) num den num' den'
          → LeavesIf (o then λ rs. answer (stepped rs)) (Some tt) num den num₂ den₂
      go (answer rs) z left =
          let fit = renewed_fits g.f t rs g.l holds.fit (new_rows_fit j g ws t z) in
          let made = holds-left num den (with_new rs) holds.num_long holds.den_long left.1 left.2 fit in
          let shape = renewed_shaped j g ws t z g.l shaped order (omega arith) (omega arith) in
          let d = dropped (with_new rs) made (shape.row_count_lem ∙ omega arith) in
          let whole = renewed_without g.f t rs g.l order (omega (arith, shaped.row_count_lem)) (new_rows_length j g ws t z) in (
            refl,
            d.0 ∙ ap (numerators _) left.1 ∙ numerators-again _ (with_new rs) num ∙ ap (λ s. numerators s num) whole,
            d.1 ∙ ap (denominators _) left.2 ∙ denominators-again _ (with_new rs) den ∙ ap (λ s. denominators s den) whole,
          )
      go (refusal code place) z left = absurd (let e = left.0 in let z : ◌≡◌ {A = ℕ} 0 1 = cc in omega arith)

  -- only code 8 refuses it
  pub renewed_refuses : (code place : ℕ) → rows_renewed j g ws t ≡ refusal code place → code ≡ 8
  unfolding rows_renewed
  renewed_refuses code place e = go (then_breaks (new_rows j g ws t) (λ rs. answer (stepped rs)) e)
    where
      go : Broken (new_rows j g ws t) (λ rs. answer (stepped rs)) code place → code ≡ 8
      go (first-refuses z) = (new_rows-refuse_8 j g ws t code place z).0
      go (second-refuses rs z q) = absurd (answer_not_refusal refl q)

-- ---- a step, from its halves

module _ (j : ℕ) (κ : List Entry) (t : Table) where
  pub step-ended : (num den : List ℤ) {reason : StepRefusal} → Ended (planned j κ t) reason
      → Leaves (step j κ t) (Err reason) num den num den
  step-ended num den e = left-refusal (λ t. t) told_step num den num den (step-planned j κ t ∙ then_refuses _ e.refuses)
      (ap Err (sym e.named)) (kept_same num) (kept_same den)

  module _ {p : Planned} (e : planned j κ t ≡ answer p) (num den num' den' : List ℤ) where
    abbrev made : Outcome Table
    made = rows_renewed j p.span p.factors t

    halves : step j κ t ≡ made
    halves = step-planned j κ t ∙ then_answers (λ p. rows_renewed j p.span p.factors t) e

    pub step_renewed : (r : Option (Unit {0})) → LeavesIf made r num den num' den'
        → Leaves (step j κ t) (ok_or r refusals.TooLarge) num den num' den'
    step_renewed r left = go made refl left
      where
        go : (o : Outcome Table) → made ≡ o → LeavesIf o r num den num' den'
            → Leaves (step j κ t) (ok_or r refusals.TooLarge) num den num' den'
        go (answer u) z left = left-answer (λ t. t) told_step num den num' den' (halves ∙ z)
            (ap (λ r. ok_or r refusals.TooLarge) left.0) left.1 left.2
        go (refusal code place) z left = left-refusal (λ t. t) told_step num den num' den' (halves ∙ z)
            (ap (λ r. ok_or r refusals.TooLarge) left.0
            ∙ ap Err (sym (eight_named (renewed_refuses j t p.factors p.span code place z)))) left.1 left.2
