-- A turn mixes the old row i and the old row after it.
use mathlib.Core.Path.{◌≡◌, refl, sym, ◌∙◌, ap, ap₂, subst}
use Rattle.std.specs.Prelude.{Option, Some, None}
use mathlib.Core.List.{List, [], ◌∷◌, ◌++◌}
use Prim.Native.Nat.{ℕ, suc, ◌+◌, ◌-◌, ◌<◌, ◌≤◌}
use native.Mathlib.Omega.{arith}
use native.Mathlib.Numerals.{add-one}
use lib.IntN.{ℤ}
use lib.ListN.{length, set, take, drop}
use Rattle.base_exact.specs.Rational.{ℚ}
use Rattle.base_fraction.specs.Size.{fits}
use Rattle.base_fraction.specs.Machine.{fraction, value, FractionFits}
use Rattle.base_fraction.specs.declared.Fraction.{Fraction}
use Rattle.base_fraction.proofs.Answer.{fits-sized}
use Rattle.base_fraction.proofs.Value.{value-fraction}
use Rattle.base_outcome.specs.Outcome.{Outcome, answer, refusal, with_answer, collect}
use Rattle.spec_spline.specs.Table.{Row, Table, row, cell, entry, numerators, denominators}
use Rattle.spec_spline.specs.Step.{new_row, new_rows}
use Rattle.base_outcome.proofs.Outcome.{collect_inverts, collect_more, collect-ends, collect_stays}
use Rattle.build_cells.specs.Held.{Holds, Shaped, Kept}
use Rattle.build_cells.proofs.Tables.{renewed, renewed_none, renewed_length, renewed_old, renewed_more}
use Rattle.build_cells.proofs.Buffer.{numerators-again, denominators-again, holds-left, kept-numerators, kept-denominators, kept_then}
use Rattle.build_cells.specs.Left.{LeavesIf}
use Rattle.spec_spline.proofs.TableFits.{new_row-fits}
use Rattle.build_rows.proofs.Mixing.{set_fits}
use Rattle.build_rows.proofs.mix_rows.Invariants.{made, State}
use Rattle.build_rows.proofs.mix_rows.Goals as goal

-- ---- one turn, in the definitions' terms

module _ {num₀ den₀ num dens : List ℤ} {f i rows columns : ℕ} {t : Table} {j : ℕ} {qs : List ℚ} (h : Holds num₀ den₀ t)
    (shaped : Shaped t rows columns)
    (order : f ≤ i) (inside : i + 1 < rows) (st : State num₀ den₀ num dens f i t j qs) where
  abbrev current : Table
  current = renewed f t st.new i

  count : length st.new ≡ i - f
  count = (collect_inverts (i - f) (made j qs t f) st.answers).size

  holds : Holds num dens current
  holds = holds-left num₀ den₀ current h.num_long h.den_long st.num_is st.den_is st.fit

  current_length : length current ≡ rows
  current_length = renewed_length f t st.new i order (omega (arith, shaped.row_count_lem)) count ∙ shaped.row_count_lem

  old : (k : ℕ) → i ≤ k → row current k ≡ row t k
  old k = renewed_old f t st.new i order (omega (arith, shaped.row_count_lem)) count k

  current_wide : length (row current i) ≡ columns
  current_wide = ap length (old i (omega arith)) ∙ shaped.wide i (omega arith)

  -- the turn's row is the definition's
  row_is : (w v : ℚ) → w ≡ entry qs (i - f) → v ≡ entry qs (suc (i - f))
      → new_row j w v (row current i) (row current (suc i)) ≡ made j qs t f (i - f)
  row_is w v p q =
      ap₂ (λ (x y : ℚ). new_row j x y (row current i) (row current (suc i))) p q
      ∙ ap₂ (λ (r r' : Row). new_row j (entry qs (i - f)) (entry qs (suc (i - f))) r r')
      (old i (omega arith) ∙ ap (row t) (let e : i ≡ f + (i - f) = omega arith in e))
      (old (suc i) (omega arith) ∙ ap (row t) (let e : suc i ≡ f + suc (i - f) = omega arith in e))

  -- it is done: one new row more
  goes_on_lem : (num' dens' : List ℤ) (o : Outcome Row) → made j qs t f (i - f) ≡ o
      → LeavesIf (with_answer (set current i) o) (Some tt) num dens num' dens' → State num₀ den₀ num' dens' f (i + 1) t j qs
  goes_on_lem num' dens' (answer r) e left = record {
    new = st.new ++ (r ∷ []);
    answers = ap (λ n. collect n (made j qs t f)) (let z : i + 1 - f ≡ suc (i - f) = omega arith in z)
        ∙ collect_more (i - f) (made j qs t f) st.answers e;
    num_is = left.1 ∙ ap (numerators (set current i r)) st.num_is ∙ numerators-again (set current i r) current num₀
        ∙ ap (λ s. numerators s num₀) next;
    den_is = left.2 ∙ ap (denominators (set current i r)) st.den_is ∙ denominators-again (set current i r) current den₀
        ∙ ap (λ s. denominators s den₀) next;
    fit = λ k c. ap (λ s. fits (cell s k c)) (sym next) ∙ set_fits current i r (omega (arith, current_length)) st.fit
        (new_row-fits j (entry qs (i - f)) (entry qs (suc (i - f))) (row t (f + (i - f))) (row t (f + suc (i - f))) e) k c;
  }
    where
      next : set current i r ≡ renewed f t (st.new ++ (r ∷ [])) (i + 1)
      next = renewed_more f t st.new i order (omega (arith, shaped.row_count_lem)) count r (omega (arith, shaped.row_count_lem))
          ∙ ap (renewed f t (st.new ++ (r ∷ []))) (let z : suc i ≡ i + 1 = omega arith in z)
  goes_on_lem num' dens' (refusal code place) e left = absurd (let e = left.0 in let z : ◌≡◌ {A = ℕ} 0 1 = cc in omega arith)

  -- it is refused: so are all
  ends : (l : ℕ) → i < l → (num' dens' : List ℤ) (o : Outcome Row) → made j qs t f (i - f) ≡ o
      → LeavesIf (with_answer (set current i) o) None num dens num' dens'
      → LeavesIf (with_answer (λ rs. take f t ++ (rs ++ drop l t)) (new_rows j (record { f = f; l = l }) qs t)) None num₀ den₀ num' dens'
  unfolding new_rows
  ends l k num' dens' (answer r) e left = absurd (let e = left.0 in let z : ◌≡◌ {A = ℕ} 0 1 = cc in omega arith)
  ends l k num' dens' (refusal code place) e left =
      subst (λ (out : Outcome Table). LeavesIf (with_answer (λ rs. take f t ++ (rs ++ drop l t)) out) None num₀ den₀ num' dens')
      (sym (collect_stays (suc (i - f)) (l - f) (made j qs t f) (omega arith) (collect-ends (i - f) (made j qs t f) st.answers e))) (
        refl,
        kept_then (subst (Kept num₀) (sym st.num_is) (kept-numerators current num₀ h.num_long)) left.1,
        kept_then (subst (Kept den₀) (sym st.den_is) (kept-denominators current den₀ h.den_long)) left.2,
      )

-- no row yet
none : (n : ℕ) (f : ℕ → Outcome Row) → n ≡ 0 → collect n f ≡ answer []
unfolding collect
none n f e = ap (λ k. collect k f) e

-- every row: the buffers hold what the definition answers
finished : {num₀ den₀ num dens : List ℤ} {f i : ℕ} {t : Table} {j : ℕ} {qs : List ℚ} (l : ℕ) → i ≡ l → State num₀ den₀ num dens f i t j qs
    → LeavesIf (with_answer (λ rs. take f t ++ (rs ++ drop l t)) (new_rows j (record { f = f; l = l }) qs t)) (Some tt) num₀ den₀ num dens
unfolding new_rows
finished {num₀} {den₀} {num} {dens} {f} {i} {t} {j} {qs} l e st =
    subst (λ (out : Outcome Table). LeavesIf (with_answer (λ rs. take f t ++ (rs ++ drop l t)) out) (Some tt) num₀ den₀ num dens)
    (sym (ap (λ n. collect (n - f) (made j qs t f)) (sym e) ∙ st.answers)) (
      refl,
      st.num_is ∙ ap (λ n. numerators (renewed f t st.new n) num₀) e,
      st.den_is
          ∙ ap (λ n. denominators (renewed f t st.new n) den₀) e,
    )

-- the row that a turn mixes, in the definition's terms
leaves : {num₀ den₀ num dens : List ℤ} {f i rows columns : ℕ} {t : Table} {j : ℕ} {qs : List ℚ} (h : Holds num₀ den₀ t)
    (shaped : Shaped t rows columns)
    (order : f ≤ i) (inside : i + 1 < rows) (st : State num₀ den₀ num dens f i t j qs) {w v : Fraction} (r : Option (Unit {0}))
    (num' dens' : List ℤ)
    → w ≡ fraction (entry qs (i - f)) → v ≡ fraction (entry qs (i - f + 1))
    → LeavesIf (with_answer (set (current h shaped order inside st) i)
    (new_row j (value w) (value v) (row (current h shaped order inside st) i)
    (row (current h shaped order inside st) (suc i)))) r num dens num' dens'
    → LeavesIf (with_answer (set (current h shaped order inside st) i) (made j qs t f (i - f))) r num dens num' dens'
leaves {num = num} {dens} {f} {i} {qs = qs} h shaped order inside st r num' dens' p q left =
    subst (λ (o : Outcome Row). LeavesIf (with_answer (set (current h shaped order inside st) i) o) r num dens num' dens')
    (row_is h shaped order inside st _ _ (ap value p ∙ value-fraction _)
    (ap value q ∙ value-fraction _ ∙ ap (entry qs) (add-one (i - f)))) left

pub loop-i-init : goal.loop-i-init
loop-i-init c t j qs h shaped e = record {
  new = [];
  answers = none _ _ (omega arith);
  num_is = h.num_is ∙ ap (λ s. numerators s c.args.num.now) (renewed_none c.args.f t);
  den_is = h.den_is ∙ ap (λ s. denominators s c.args.den.now) (renewed_none c.args.f t);
  fit = λ k m. ap (λ s. fits (cell s k m)) (sym (renewed_none c.args.f t)) ∙ h.fit k m;
}

pub complement-u-requires : goal.complement-u-requires
complement-u-requires c =
    let u = c.requires.unit_factors in
    record { of = _; is = c.fraction_at-v.ensures u.of u.is; fit = u.fit _; low = u.low _; high = u.high _ }

pub mix_row-requires : goal.mix_row-requires
mix_row-requires c =
    let u = c.requires.unit_factors in
    let k = c.requires.f_le_l.1.1 in
    let st = c.loop-i.invariant k.table 0 u.of k.holds k.shaped u.is in
    record {
      fraction_fits = (
        subst FractionFits (sym (c.fraction_at-w.ensures u.of u.is)) (fits-sized _ (u.fit _)),
        (c.complement-u.ensures.1, (omega arith, omega arith)),
      );
      holds = (_, holds k.holds k.shaped (omega arith) (omega arith) st);
    }

pub returns-in_err-mix_row : goal.returns-in_err-mix_row
returns-in_err-mix_row c t j qs h shaped e =
    let i = c.loop-i.i in
    let order : c.args.f ≤ i = omega arith in
    let inside : i + 1 < c.args.rows = omega arith in
    let st = c.loop-i.invariant t j qs h shaped e in
    let left = leaves h shaped order inside st None c.mix_row.new.num c.mix_row.new.den (c.fraction_at-w.ensures qs e)
    (c.fraction_at-v.ensures qs e)
    (c.in_err-mix_row.ensures _ j _ (holds h shaped order inside st) c.complement-u.ensures.0
    (omega (arith, current_length h shaped order inside st)) (current_wide h shaped order inside st)) in
    rw c.from_residual.ensures (ends h shaped order inside st c.args.l c.loop-i-test.true _ _ _ refl left)

pub loop-i-preserved : goal.loop-i-preserved
loop-i-preserved c t j qs h shaped e =
    let i = c.loop-i.i in
    let order : c.args.f ≤ i = omega arith in
    let inside : i + 1 < c.args.rows = omega arith in
    let st = c.loop-i.invariant t j qs h shaped e in
    let left = leaves h shaped order inside st (Some tt) c.mix_row.new.num c.mix_row.new.den (c.fraction_at-w.ensures qs e)
    (c.fraction_at-v.ensures qs e)
    (c.in_ok-mix_row.ensures _ j _ (holds h shaped order inside st) c.complement-u.ensures.0
    (omega (arith, current_length h shaped order inside st)) (current_wide h shaped order inside st)) in
    goes_on_lem h shaped order inside st _ _ _ refl left

pub returns : goal.returns
returns c t j qs h shaped e = finished c.args.l (omega arith) (c.loop-i.invariant t j qs h shaped e)
