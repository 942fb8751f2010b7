-- A turn reads the old entry of its own row and of the next, and its own cell takes the new entry.
use borrow.Author.Rules.{rules}
use mathlib.Core.Path.{◌≡◌, refl, sym, ◌∙◌, ap, ap₂, subst}
use mathlib.Core.List.{List}
use Prim.Native.Nat.{ℕ, suc, ◌+◌, ◌*◌, ◌<◌, ◌≤◌}
use native.Mathlib.Decide.{ℕ_discrete}
use native.Mathlib.Omega.{arith}
use lib.IntN.{ℤ, pos}
use lib.ListN.{length, get_or, set}
use lib.Seq.{get_or-set_same, get_or-set_other}
use mir.Syntax.{w64}
use mir.Val.{SFits}
use mir.ValLaws.{to_z-of_z}
use Rattle.std.specs.Prelude.{Option, None, Some}
use Rattle.base_exact.specs.Rational.{ℚ}
use Rattle.base_fraction.specs.Machine.{fraction, value, FractionFits}
use Rattle.base_fraction.specs.declared.Fraction.{Fraction}
use Rattle.base_fraction.proofs.Answer.{fits-sized}
use Rattle.base_fraction.proofs.Value.{value-fraction}
use Rattle.base_outcome.specs.Outcome.{Outcome, answer, with_answer}
use Rattle.spec_spline.specs.Table.{Table, row, cell, row_cells}
use Rattle.spec_spline.specs.Step.{new_entry}
use Rattle.base_outcome.proofs.Outcome.{collect-answers, collect_stops}
use Rattle.build_cells.specs.Held.{Holds}
use Rattle.build_cells.proofs.Region.{Written, written_none, written_more, written_wider}
use Rattle.build_cells.proofs.Buffer.{numerator, denominator, numerators-laid, denominators-laid, holds_num, holds-den, holds-cell}
use Rattle.build_cells.proofs.Buffer.{written-kept}
use Rattle.build_counted.specs.Machine.{counted}
use Rattle.build_counted.proofs.Counted.{fits_answered, large_refused}
use Rattle.build_cells.specs.Left.{LeavesIf}
use Rattle.build_entry.proofs.Mixing.{new_entry-answers}
use Rattle.build_rows.proofs.Mixed.{row_laid}
use Rattle.build_rows.proofs.mix_row.Invariants.{mixed, Made, Inv}
use Rattle.build_rows.proofs.mix_row.Goals as goal

-- what the definition answers for the new entry of row i and column c
abbrev entries : Fraction → ℚ → Table → ℕ → ℕ → ℕ → Outcome ℚ
entries w v t i j c = new_entry j (value w) v (cell t i c) (cell t (suc i) c)

-- ---- reading

-- a fraction read past what is written is the table's
read_cell : {num₀ den₀ num dens : List ℤ} {t : Table} {from to : ℕ} → Holds num₀ den₀ t → Written num₀ num from to
    → Written den₀ dens from to
    → (i c : ℕ) → i < row_cells → c < row_cells → (k : ℕ) → k ≡ 72 * i + c → to ≤ k → (x : Fraction)
    → (x.num ≡ get_or num k (pos 0)) × (x.den ≡ get_or dens k (pos 0)) → x ≡ fraction (cell t i c)
read_cell {num₀} {den₀} h n d i c p q k e l x read =
    (λ z. record {
      num = (read.0 ∙ n.after k l ∙ ap (λ m. get_or num₀ m (pos 0)) e) z;
      den =
          (read.1 ∙ d.after k l ∙ ap (λ m. get_or den₀ m (pos 0)) e) z;
    })
    ∙ holds-cell h i c p q

module _ {num₀ den₀ num dens : List ℤ} {i c : ℕ} {w u : Fraction} (inv : Inv num₀ den₀ i w u num dens c) (low : i + 1 < 72)
    (taken : c < 72) where
  module _ {x y : Fraction} (x_read : (x.num ≡ get_or num (72 * i + c) (pos 0)) × (x.den ≡ get_or dens (72 * i + c) (pos 0)))
      (y_read : (y.num ≡ get_or num (72 * i + c + 72) (pos 0)) × (y.den ≡ get_or dens (72 * i + c + 72) (pos 0))) where
    x_is : (t : Table) → Holds num₀ den₀ t → x ≡ fraction (cell t i c)
    x_is t h = read_cell h inv.num_written inv.den-written i c (omega arith) taken (72 * i + c) refl (omega arith) x x_read

    y_is : (t : Table) → Holds num₀ den₀ t → y ≡ fraction (cell t (suc i) c)
    y_is t h = read_cell h inv.num_written inv.den-written (suc i) c (omega arith) taken (72 * i + c + 72) (omega arith)
        (omega arith) y y_read

    -- what the turn makes is counted from the old entries
    outcome : (t : Table) (j : ℕ) (v : ℚ) → Holds num₀ den₀ t → {o : Option Fraction}
        → o ≡ counted (new_entry j (value w) v (value x) (value y)) → o ≡ counted (entries w v t i j c)
    outcome t j v h e =
        e
        ∙ ap₂ (λ (a b : Fraction). counted (new_entry j (value w) v (value a) (value b))) (x_is t h) (y_is t h)
        ∙ ap₂ (λ (a b : ℚ). counted (new_entry j (value w) v a b)) (value-fraction _) (value-fraction _)

  -- ---- writing

  -- the cell at column c takes its new entry
  module _ (t : Table) (j : ℕ) (v : ℚ) (q : Fraction) (num_room : 72 * i + c < length num) (den-room : 72 * i + c < length dens)
      (answers : entries w v t i j c ≡ answer (mixed w v t i c)) (is : q ≡ fraction (mixed w v t i c)) where
    turn : ((d : ℕ) → d < c → Made num dens i w t j v d) → (d : ℕ) → d < c + 1
        → Made (set num (72 * i + c) q.num) (set dens (72 * i + c) q.den) i w t j v d
    unfolding fraction
    turn before d l = go (ℕ_discrete d c)
      where
        here : Made (set num (72 * i + c) q.num) (set dens (72 * i + c) q.den) i w t j v c
        here = record {
          answers = answers;
          num_is = get_or-set_same num (72 * i + c) q.num (pos 0) num_room ∙ ap (λ (f : Fraction). f.num) is;
          den_is = get_or-set_same dens (72 * i + c) q.den (pos 0) den-room ∙ ap (λ (f : Fraction). f.den) is;
        }

        go : Dec (d ≡ c) → Made (set num (72 * i + c) q.num) (set dens (72 * i + c) q.den) i w t j v d
        go (yes e) = subst (Made (set num (72 * i + c) q.num) (set dens (72 * i + c) q.den) i w t j v) (sym e) here
        go (no e) = let m = before d (omega arith) in record {
          answers = m.answers;
          num_is = get_or-set_other num (72 * i + c) (72 * i + d) q.num (pos 0) (λ z. omega arith) ∙ m.num_is;
          den_is = get_or-set_other dens (72 * i + c) (72 * i + d) q.den (pos 0) (λ z. omega arith) ∙ m.den_is;
        }

pub loop-c-init : goal.loop-c-init
loop-c-init c = record { num_written = written_none _ _ _; den-written = written_none _ _ _; made = λ t j v h e d l. absurd (omega arith) }

pub new_entry-requires : goal.new_entry-requires
new_entry-requires c =
    let t = c.requires.holds.0 in
    let h = c.requires.holds.1 in
    let v = c.loop-c.invariant in
    record {
      first-factor = c.requires.fraction_fits.0;
      second-factor = c.requires.fraction_fits.1.0;
      first_entry = subst FractionFits (sym (x_is v (omega arith) (omega arith) c.read-x.ensures c.read-y.ensures t h))
          (fits-sized _ (h.fit _ _));
      second-entry = subst FractionFits (sym (y_is v (omega arith) (omega arith) c.read-x.ensures c.read-y.ensures t h))
          (fits-sized _ (h.fit _ _));
    }

pub returns-in_default : goal.returns-in_default
returns-in_default c t j v h e inside wide =
    let l = c.loop-c in
    let a = c.args in
    let o = large_refused _ (sym (outcome l.invariant (omega arith) (omega arith) c.read-x.ensures c.read-y.ensures t j v h
    (c.in_default.ensures j v e))) in
    let stops = collect_stops (length (row t a.i)) l.c (entries a.w v t a.i j) (mixed a.w v t a.i) (omega arith)
    (λ d k. (l.invariant.made t j v h e d k).answers) o.refuses in
    subst (λ (out : Outcome (List ℚ)). LeavesIf (with_answer (set t a.i) out) None a.num.now a.den.now l.num l.den)
    (sym stops)
    (refl, written-kept (omega arith) l.invariant.num_written, written-kept (omega arith) l.invariant.den-written)

pub loop-c-preserved : goal.loop-c-preserved
loop-c-preserved c =
    let l = c.loop-c in
    let a = c.args in
    let q = c.in-Some.q in
    let x : SFits w64 q.num = search rules in
    let y : SFits w64 q.den = search rules in
    let room : 72 * a.i + l.c < length l.num = let h = c.requires.holds.1 in omega arith in
    let room' : 72 * a.i + l.c < length l.den = let h = c.requires.holds.1 in omega arith in
    simp to_z-of_z (record {
      num_written = written_more _ _ (omega arith) (omega arith) l.invariant.num_written;
      den-written = written_more _ _ (omega arith) (omega arith) l.invariant.den-written;
      made = λ t j v h e.
          let o = fits_answered _ q (sym
          (outcome l.invariant (omega arith) (omega arith) c.read-x.ensures c.read-y.ensures t j v h (c.in-Some.ensures j v e))) in
          let k = new_entry-answers j _ v _ _ o.answers in
          turn l.invariant (omega arith) (omega arith) t j v q room room' (o.answers ∙ ap answer k.0) (o.lowest ∙ ap fraction k.0)
          (l.invariant.made t j v h e);
    })

pub returns : goal.returns
returns c t j v h e inside wide =
    let a = c.args in
    let l = c.loop-c in
    let m = l.invariant.made t j v h e in
    let done : l.c ≡ length (row t a.i) = omega arith in
    let answers = collect-answers (length (row t a.i)) (entries a.w v t a.i j) (mixed a.w v t a.i) (λ d k. (m d (omega arith)).answers) in
    subst (λ (out : Outcome (List ℚ)). LeavesIf (with_answer (set t a.i) out) (Some tt) a.num.now a.den.now l.num l.den) (sym answers) (
      refl,
      row_laid numerator t a.i _ (mixed a.w v t a.i) a.num.now l.num h.num_long (holds_num h) inside (omega arith) refl (omega arith)
          (written_wider _ (omega arith) l.invariant.num_written) (λ d k. (m d (omega arith)).num_is) ∙ sym (numerators-laid _ _),
      row_laid denominator t a.i _ (mixed a.w v t a.i) a.den.now l.den h.den_long (holds-den h) inside (omega arith) refl (omega arith)
          (written_wider _ (omega arith) l.invariant.den-written) (λ d k. (m d (omega arith)).den_is) ∙ sym (denominators-laid _ _),
    )
