-- The steps one after the other: what a step that is answered leaves of the coefficients, which refusals end it, and what the machine's
-- answer tells.
use mathlib.Core.Path.{◌≡◌, refl, sym, ◌∙◌, ap, subst}
use mathlib.Core.Bool.{true}
use mathlib.Core.List.{List, [], ◌∷◌, ◌++◌}
use Prim.Native.Nat.{ℕ, zero, suc, ◌+◌, ◌-◌, ◌<◌, ◌≤◌}
use native.Mathlib.Omega.{arith}
use native.Mathlib.Decide.{dec_lt}
use lib.IntN.{ℤ, pos}
use lib.ListN.{length, take, drop}
use Rattle.base_exact.specs.Rational.{ℚ, int}
use Rattle.base_fraction.specs.Size.{fits}
use Rattle.base_fraction.proofs.Size.{int-fits}
use Rattle.base_outcome.specs.Outcome.{Outcome, answer, ◌then◌}
use Rattle.spec_spline.specs.Conditions.{Entry, conditions}
use Rattle.spec_spline.specs.Space.{Space}
use Rattle.spec_spline.specs.Table.{entry}
use Rattle.base_outcome.proofs.Outcome.{answer_unique, Chained, then_inverts, repeat-keeps}
use Rattle.spec_spline.proofs.Answers.{jumps_length, span_inverts}
use Rattle.spec_spline.proofs.Splice.{spliced_length, spliced-before, spliced-inside, spliced-after}
use Rattle.build_factors.specs.Jumps.{AllFit}
use Rattle.build_cells.proofs.Left.{Done, left_done, Halted, left-halted}
use Rattle.recover_counted.proofs.FractionFits.{undone-fits}
use Rattle.recover_rows.proofs.Rows.{more_fit}
use Rattle.build_step.proofs.Stepped.{Proper, step_one_less}
use Rattle.spec_calls.specs.Recovery.{Combination, undone_row, undone_rows, recover_step, recover_orders}
use Rattle.theorems_recovery.proofs.Answers.{rows-undone}
use Rattle.theorems_recovery.proofs.Steps.{parts_of}
use Rattle.recover_joins.specs.Leaves.{told_coefficients, Leaves}
use Rattle.std.specs.Prelude.{Ok, Err}
use Rattle.base_fraction.specs.Fractions.{fractions}
use Rattle.base_fraction.specs.declared.arrays.Fractions.{Fractions}

-- ---- what the machine's answer tells

module _ {num den num' den' : List ℤ} (o : Outcome Combination) where
  pub leaves_ok : {of : Fractions} → Leaves o (Ok of) num den num' den' → Done (λ q. q.table) told_coefficients num den num' den' o (Ok of)
  leaves_ok {of} left = left_done (λ q. q.table) told_coefficients num den num' den' o (Ok of)
      (λ code place z h. let x : ◌≡◌ {A = ℕ} 0 1 = cc in omega arith) left

  pub leaves_err : {code : ℕ} → Leaves o (Err code) num den num' den'
      → Halted (λ q. q.table) told_coefficients num den num' den' o (Err code)
  leaves_err {code} left = left-halted (λ q. q.table) told_coefficients num den num' den' o (Err code)
      (λ t z h. let x : ◌≡◌ {A = ℕ} 0 1 = cc in omega arith) left

  -- the coefficients that are told, and the code
  pub coefficients_told : {of : Fractions} → (d : Done (λ q. q.table) told_coefficients num den num' den' o (Ok of))
      → of ≡ fractions d.reached.coefficients
  coefficients_told d = let z = d.told_is in cc

  pub code_told : {code : ℕ} → (h : Halted (λ q. q.table) told_coefficients num den num' den' o (Err code)) → code ≡ h.code
  code_told h = let z = h.told_is in cc

-- ---- a step that is answered: one coefficient less, and all fit

rows_fit : (j : ℕ) (us ps : List ℚ) (f n : ℕ) {ds : List ℚ} → AllFit ps → undone_rows j us ps f n ≡ answer ds → AllFit ds
unfolding undone_rows
rows_fit j us ps f zero {ds} p e = subst AllFit (answer_unique {a = []} refl e) (λ k. int-fits (pos 0) (omega arith))
rows_fit j us ps f (suc n) {ds} p e = go (then_inverts (undone_rows j us ps f n) (λ xs. undone_row j us ps f n xs then λ d. answer (xs ++ (d ∷ []))) e) (λ xs q. rows_fit j us ps f n {ds = xs} p q)
  where
    go : (c : Chained (undone_rows j us ps f n) (λ xs. undone_row j us ps f n xs then λ d. answer (xs ++ (d ∷ []))) ds) → ((xs : List ℚ) → undone_rows j us ps f n ≡ answer xs → AllFit xs) → AllFit ds
    go c ih =
        let d = then_inverts (undone_row j us ps f n c.middle) (λ d. answer (c.middle ++ (d ∷ []))) c.after in
        subst AllFit (answer_unique refl d.after) (more_fit c.middle d.middle (ih c.middle c.before) (undone-fits j us ps f n c.middle (p f) d.before))

spliced_fit : (ps ds : List ℚ) (f i : ℕ) → f ≤ length ps → f + length ds ≤ i → AllFit ps → AllFit ds → AllFit (take f ps ++ (ds ++ drop i ps))
spliced_fit ps ds f i within after p q k = go (dec_lt k f) (dec_lt k (f + length ds))
  where
    go : Dec (k < f) → Dec (k < f + length ds) → fits (entry (take f ps ++ (ds ++ drop i ps)) k) ≡ true
    go (yes a) b = ap fits (spliced-before ps ds f i within k (int (pos 0)) a) ∙ p k
    go (no a) (yes b) = ap fits (spliced-inside ps ds f i within k (int (pos 0)) (omega arith) b) ∙ q (k - f)
    go (no a) (no b) = ap fits (spliced-after ps ds f i within k (k + i - (f + length ds)) (int (pos 0)) (omega arith) (omega arith)) ∙ p (k + i - (f + length ds))

-- A table of this shape whose entries all fit, with a coefficient for each row, which fits too.
pub record Sound (r : Combination) (rows columns : ℕ) : Type 0 where
  pub proper : Proper r.table rows columns
  pub count : length r.coefficients ≡ rows
  pub fit : AllFit r.coefficients

pub recover_one_less : (j : ℕ) (κ : List Entry) (r : Combination) {next : Combination} {rows columns : ℕ} → recover_step j κ r ≡ answer next → Sound r rows columns → Sound next (rows - 1) columns
recover_one_less j κ r {next} {rows} {columns} e sound =
    let p = parts_of j κ r next e in
    let s = span_inverts j p.own.js p.own.has_span in
    let below : p.own.g.l < length r.coefficients = omega (arith, s.below, jumps_length j κ r.table p.own.has_jumps, sound.proper.shaped.row_count_lem, sound.count) in
    let size = (rows-undone j p.own.ws r.coefficients p.own.g.f (p.own.g.l - p.own.g.f) p.has_rows).size in
    record {
      proper = step_one_less j κ r.table p.has_step sound.proper;
      count = ap length (sym p.whole) ∙ spliced_length r.coefficients p.ds p.own.g.f (suc p.own.g.l) (omega (arith, s.ordered, below))
          ∙ omega (arith, size, s.ordered, below, sound.count);
      fit = subst AllFit p.whole (spliced_fit r.coefficients p.ds p.own.g.f (suc p.own.g.l) (omega (arith, s.ordered, below))
          (omega (arith, size, s.ordered)) sound.fit (rows_fit j p.own.ws r.coefficients p.own.g.f (p.own.g.l - p.own.g.f) sound.fit
          p.has_rows));
    }

-- ---- the orders at a join

pub orders_sound : (s : Space) (j n : ℕ) (r : Combination) {next : Combination} {rows columns : ℕ} → recover_orders s j n r ≡ answer next → Sound r rows columns → Sound next (rows - n) columns
unfolding recover_orders
orders_sound s j n r {next} {rows} {columns} e sound =
    repeat-keeps (λ k u. Sound u (rows - k) columns) n (λ k. recover_step j (conditions s j k)) r (subst (λ m. Sound r m columns) (let z : rows ≡ rows - 0 = omega arith in z) sound)
    (λ k u v h p f. subst (λ m. Sound v m columns) (let z : rows - k - 1 ≡ rows - suc k = omega arith in z) (recover_one_less j (conditions s j k) u f p))
    next e
