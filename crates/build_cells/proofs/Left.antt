-- A computation in place, as its callers see it: what leads to what it leaves, by its answer or its refusal, and what the machine's
-- answer tells of it.
use mathlib.Core.Path.{◌≡◌, refl, sym, ◌∙◌, ap, subst}
use mathlib.Core.List.{List}
use Prim.Native.Nat.{ℕ, ◌≤◌}
use lib.IntN.{ℤ}
use lib.ListN.{length}
use Rattle.base_outcome.specs.Outcome.{Outcome, answer, refusal}
use Rattle.spec_spline.specs.Table.{Table, table_cells, numerators, denominators}
use Rattle.build_cells.specs.Held.{Kept}
use Rattle.build_cells.proofs.Buffer.{numerators-again, denominators-again, kept_then, kept-numerators, kept-denominators}
use Rattle.build_cells.specs.Left.{Left}

-- nothing was written
pub kept_same : (b : List ℤ) → Kept b b
kept_same b = record { long = refl; rest = refl }

module _ {A R : Type 0} (table : A → Table) (told : Outcome A → R) (num den num' den' : List ℤ) where
  -- ---- to what is left

  pub left-answer : {o : Outcome A} {a : A} {r : R} → o ≡ answer a → r ≡ told (answer a) → num' ≡ numerators (table a) num
      → den' ≡ denominators (table a) den → Left table told o r num den num' den'
  left-answer {r = r} e h p q = subst (λ (o : Outcome A). Left table told o r num den num' den') (sym e) (h, p, q)

  pub left-refusal : {o : Outcome A} {code place : ℕ} {r : R} → o ≡ refusal code place → r ≡ told (refusal code place)
      → Kept num num' → Kept den den' → Left table told o r num den num' den'
  left-refusal {r = r} e h p q = subst (λ (o : Outcome A). Left table told o r num den num' den') (sym e) (h, p, q)

  -- from buffers that another table was laid in before
  pub left_from : (r : R) (g : Table) (num₀ den₀ : List ℤ) → table_cells ≤ length num₀ → table_cells ≤ length den₀
      → num ≡ numerators g num₀ → den ≡ denominators g den₀ → (o : Outcome A) → Left table told o r num den num' den'
      → Left table told o r num₀ den₀ num' den'
  left_from r g num₀ den₀ long long' p q (answer a) left = (
    left.0,
    left.1 ∙ ap (numerators (table a)) p ∙ numerators-again (table a) g num₀,
    left.2 ∙ ap (denominators (table a)) q ∙ denominators-again (table a) g den₀,
  )
  left_from r g num₀ den₀ long long' p q (refusal code place) left = (
    left.0,
    kept_then (subst (Kept num₀) (sym p) (kept-numerators g num₀ long)) left.1,
    kept_then (subst (Kept den₀) (sym q) (kept-denominators g den₀ long')) left.2,
  )

  -- ---- from what is left

  -- done: the table of what is answered is in the buffers
  pub record Done (o : Outcome A) (r : R) : Type 0 where
    pub reached : A
    pub answers : o ≡ answer reached
    pub told_is : r ≡ told (answer reached)
    pub num_is : num' ≡ numerators (table reached) num
    pub den_is : den' ≡ denominators (table reached) den

  pub left_done : (o : Outcome A) (r : R) → ((code place : ℕ) → o ≡ refusal code place → r ≡ told (refusal code place) → ⊥)
      → Left table told o r num den num' den' → Done o r
  left_done (answer a) r other left = record { reached = a; answers = refl; told_is = left.0; num_is = left.1; den_is = left.2 }
  left_done (refusal code place) r other left = absurd (other code place refl left.0)

  -- refused
  pub record Halted (o : Outcome A) (r : R) : Type 0 where
    pub code : ℕ
    pub place : ℕ
    pub refuses : o ≡ refusal code place
    pub told_is : r ≡ told (refusal code place)
    pub num_kept : Kept num num'
    pub den-kept : Kept den den'

  pub left-halted : (o : Outcome A) (r : R) → ((a : A) → o ≡ answer a → r ≡ told (answer a) → ⊥) → Left table told o r num den num' den'
      → Halted o r
  left-halted (answer a) r other left = absurd (other a refl left.0)
  left-halted (refusal code place) r other left = record {
    code = code;
    place = place;
    refuses = refl;
    told_is = left.0;
    num_kept = left.1;
    den-kept = left.2;
  }
