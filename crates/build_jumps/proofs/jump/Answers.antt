-- A turn adds the product of the entry's condition and the row's weight in its column, as the definition does.
use native.Mathlib.Omega.{arith}
use native.Mathlib.Numerals.{add-one}
use mathlib.Core.Path.{◌≡◌, sym, ◌∙◌, ap, ap₂}
use mathlib.Core.List.{List, ◌∷◌}
use Prim.Native.Nat.{ℕ, suc, ◌+◌, ◌*◌, ◌<◌, ◌^◌}
use lib.IntN.{ℤ, pos, nat_abs}
use lib.ListN.{get_or, drop, drop_of_length-le}
use lib.Seq.{drop-cons}
use mir.Syntax.{w64}
use mir.Val.{SFits}
use mir.ValLaws.{to_z-of_z}
use Rattle.std.specs.Prelude.{Option, Some}
use Rattle.base_exact.specs.Rational.{ℚ, int, ◌+ᵠ◌, ◌*ᵠ◌}
use Rattle.base_exact.proofs.Word.{sfits_abs}
use Rattle.base_fraction.specs.Machine.{fraction, value, FractionFits}
use Rattle.base_fraction.specs.declared.Fraction.{Fraction}
use Rattle.base_fraction.proofs.Value.{value-fraction, fraction-int, value-int}
use Rattle.base_fraction.proofs.Size.{int-fits}
use Rattle.base_fraction.proofs.Answer.{fits-sized}
use Rattle.base_outcome.specs.Outcome.{Outcome, ◌then◌}
use Rattle.spec_spline.specs.Space.{Space}
use Rattle.spec_spline.specs.Conditions.{Entry, conditions}
use Rattle.spec_spline.specs.Table.{Table, row, entry, cell, row_cells}
use Rattle.spec_spline.specs.Step.{count, add_products}
use Rattle.spec_spline.proofs.Step.{one_more, products_none, products_more, products_refused}
use Rattle.build_cells.specs.Held.{Holds}
use Rattle.build_cells.proofs.Buffer.{holds-cell}
use Rattle.build_conditions.specs.Sides.{JoinIs}
use Rattle.build_conditions.specs.Terms.{no_entry, column_of}
use Rattle.build_conditions.specs.declared.Join.{Join}
use Rattle.build_conditions.proofs.Terms.{conditions_length, entries_get_d, entry-small}
use Rattle.build_counted.specs.Machine.{counted}
use Rattle.build_counted.proofs.Counted.{fits_answered, large_refused, refused_large, then_count-sized}
use Rattle.build_jumps.specs.Jump.{JumpAsks}
use Rattle.build_jumps.proofs.jump.Goals as goal

-- entry e of the conditions of order k
abbrev this : Space → ℕ → ℕ → ℕ → Entry
this s j k e = get_or (conditions s j k) e no_entry

-- one more product, with entry e of row `at`
abbrev more : Space → ℕ → ℕ → Table → ℕ → ℕ → ℚ → Outcome ℚ
more s j k t at e sum = one_more j (row t at) sum (this s j k e)

module _ {num den entries : List ℤ} {at : ℕ} {join : Join} {k : ℕ} (asks : JumpAsks num den at join k entries) (e : ℕ)
    (inside : e < 2 * k + 2) where
  condition_is : (s : Space) (j : ℕ) → JoinIs join s j → get_or entries e (pos 0) ≡ (this s j k e).condition
  condition_is s j i = ap (λ xs. get_or xs e (pos 0)) (asks.entries_are s j i)
      ∙ entries_get_d (conditions s j k) e (let k = asks.join-fits.order in omega arith)

  condition-small : nat_abs (get_or entries e (pos 0)) < 2 ^ 31
  condition-small = let f = asks.join-fits in rw (condition_is f.space f.index f.is) (entry-small f e)

  read_fits : SFits w64 (get_or entries e (pos 0))
  read_fits = sfits_abs (omega (arith, condition-small))

  module _ {n : ℕ} {w : Fraction} (column : ((s : Space) (j : ℕ) → JoinIs join s j → n ≡ column_of (conditions s j k) e) × (n < row_cells))
      (read : (w.num ≡ get_or num (72 * at + n) (pos 0)) × (w.den ≡ get_or den (72 * at + n) (pos 0))) where
    weight_is : (s : Space) (j : ℕ) (t : Table) → JoinIs join s j → Holds num den t → w ≡ fraction (entry (row t at) (this s j k e).column)
    weight_is s j t i h =
        (λ z. record { num = read.0 z; den = read.1 z })
        ∙ holds-cell h at n asks.row_within column.1
        ∙ ap (λ m. fraction (cell t at m)) (column.0 s j i)

    weight-fits : FractionFits w
    weight-fits = let f = asks.join-fits in
        rw (weight_is f.space f.index asks.table f.is asks.held) (fits-sized _ (asks.held.fit at (this f.space f.index k e).column))

    more_is : (s : Space) (j : ℕ) (t : Table) → JoinIs join s j → Holds num den t → (sum : Fraction) {o : Option Fraction}
        → o ≡ counted (count j (value w *ᵠ int (get_or entries e (pos 0))) then λ p. count j (value sum +ᵠ p))
        → o ≡ counted (more s j k t at e (value sum))
    more_is s j t i h sum is =
        is
        ∙ ap₂ (λ q z. counted (count j (q *ᵠ int z) then λ p. count j (value sum +ᵠ p)))
        (ap value (weight_is s j t i h) ∙ value-fraction _) (condition_is s j i)

  -- what is left of the jump from entry e on begins with this one
  jump_from : (s : Space) (j : ℕ) (t : Table) (sum : ℚ)
      → add_products j (row t at) sum (drop e (conditions s j k)) ≡ add_products j (row t at) sum
      (this s j k e ∷ drop (suc e) (conditions s j k))
  jump_from s j t sum = ap (add_products j (row t at) sum)
      (drop-cons (conditions s j k) e no_entry (omega (arith, conditions_length s j k)))

pub loop-e-init : goal.loop-e-init
loop-e-init c = record {
  fitted = rw (← fraction-int (pos 0)) (fits-sized (int (pos 0)) (int-fits (pos 0) (omega arith)));
  lowest = sym (fraction-int (pos 0)) ∙ ap fraction (sym (value-int (pos 0)));
  rest = λ s j t i h. ap (λ q. add_products j (row t c.args.at) q (conditions s j c.args.k)) (sym (value-int (pos 0)));
}

pub add_product-requires : goal.add_product-requires
add_product-requires c =
    let f = read_fits c.requires c.loop-e.e c.loop-e-test.true in
    record {
      sum_fits = c.loop-e.invariant.fitted;
      weight-fits = weight-fits c.requires c.loop-e.e c.loop-e-test.true c.column-c.ensures c.read-weight.ensures;
      condition_small = simp (to_z-of_z, f) (condition-small c.requires c.loop-e.e c.loop-e-test.true);
      sum_lowest = c.loop-e.invariant.lowest;
    }

pub returns-in_err-sum : goal.returns-in_err-sum
returns-in_err-sum c s j t i h =
    let e = c.loop-e.e in
    let inside = c.loop-e-test.true in
    let f = read_fits c.requires e inside in
    let is = simp (to_z-of_z, f) at (c.in_err-sum.ensures j) in
    let r = large_refused (more s j c.args.k t c.args.at e (value c.loop-e.sum))
    (sym (more_is c.requires e inside c.column-c.ensures c.read-weight.ensures s j t i h c.loop-e.sum is)) in
    c.from_residual.ensures
    ∙ sym (refused_large (c.loop-e.invariant.rest s j t i h
    ∙ jump_from c.requires e inside s j t (value c.loop-e.sum)
    ∙ products_refused j (row t c.args.at) _ _ _ r.refuses))

pub loop-e-preserved : goal.loop-e-preserved
loop-e-preserved c =
    let e = c.loop-e.e in
    let inside = c.loop-e-test.true in
    let f = read_fits c.requires e inside in
    let is = λ (j : ℕ). simp (to_z-of_z, f) at (c.in_ok-sum.ensures j) in
    let κ = λ (s : Space) (j : ℕ). conditions s j c.args.k in
    record {
      fitted = then_count-sized 0 _ (λ p. value c.loop-e.sum +ᵠ p) c.in_ok-sum.sum (sym (is 0));
      lowest = (fits_answered _ c.in_ok-sum.sum (sym (is 0))).lowest;
      rest = λ s j t i h.
          let cells = row t c.args.at in
          let x = fits_answered (more s j c.args.k t c.args.at e (value c.loop-e.sum)) c.in_ok-sum.sum
          (sym (more_is c.requires e inside c.column-c.ensures c.read-weight.ensures s j t i h c.loop-e.sum (is j))) in
          c.loop-e.invariant.rest s j t i h
          ∙ jump_from c.requires e inside s j t (value c.loop-e.sum)
          ∙ products_more j cells _ _ _ x.answers
          ∙ ap (λ n. add_products j cells (value c.in_ok-sum.sum) (drop n (κ s j))) (sym (add-one e));
    }

pub returns : goal.returns
unfolding counted
returns c s j t i h =
    let l = c.loop-e in
    ap Some l.invariant.lowest
    ∙ sym (ap counted (
    l.invariant.rest s j t i h
    ∙ ap (add_products j (row t c.args.at) (value l.sum))
    (drop_of_length-le (conditions s j c.args.k) {i = l.e} (omega (arith, conditions_length s j c.args.k, c.loop-e-test.false)))
    ∙ products_none j (row t c.args.at) (value l.sum)))
