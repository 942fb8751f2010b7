-- Fractions in a list of cells, from the first cell on: the cells past them written over with 0/1.
use mathlib.Core.Path.{◌≡◌, sym, ◌∙◌, ap}
use mathlib.Core.List.{List, []}
use Prim.Native.Nat.{ℕ, ◌<◌, ◌≤◌}
use native.Mathlib.Omega.{arith}
use native.Mathlib.Decide.{dec_lt}
use lib.IntN.{ℤ, pos}
use lib.ListN.{length, get_or}
use lib.Seq.{ext_get_or}
use Rattle.base_exact.specs.Rational.{ℚ, int}
use Rattle.base_exact.proofs.Rational.{int_num, int-den}
use Rattle.base_exact.proofs.Tabulate.{get_d_tab, length_tab, get_d_past-tab}
use Rattle.spec_spline.specs.Table.{entry}
use Rattle.spec_spline.proofs.Table.{entry_past}
use Rattle.build_cells.specs.Region.{filled}
use Rattle.build_cells.proofs.Region.{filled_length, filled-inside, filled-before, filled-after}
use Rattle.spec_calls.specs.RecoveryCall.{listed, numerator_of, denominator_of}

module _ (part : ℚ → ℤ) where
  -- cells that hold fractions up to `from`, and later ones as before, cleared from there up to n
  cleared : (v : ℤ) → v ≡ part (int (pos 0)) → (from n : ℕ) (qs : List ℚ) (xs before : List ℤ) → n ≤ length before → length xs ≡ length before → length qs ≤ from
      → ((k : ℕ) → k < from → get_or xs k (pos 0) ≡ part (entry qs k)) → ((k : ℕ) → n ≤ k → get_or xs k (pos 0) ≡ get_or before k (pos 0)) → filled from n v xs ≡ listed part n qs before
  cleared v e from n qs xs before inside long short low high =
      ext_get_or (pos 0) (filled from n v xs) (listed part n qs before) (filled_length from n v xs ∙ long
      ∙ sym (length_tab n (λ k. part (entry qs k)) before inside)) (λ k h. at k (dec_lt k n) (dec_lt k from))
    where
      at : (k : ℕ) → Dec (k < n) → Dec (k < from) → get_or (filled from n v xs) k (pos 0) ≡ get_or (listed part n qs before) k (pos 0)
      at k (yes h) (yes l) = filled-before from n v xs k l ∙ low k l ∙ sym (get_d_tab n (λ i. part (entry qs i)) _ k (pos 0) h)
      at k (yes h) (no l) = filled-inside from n v xs k (omega arith) h (omega arith) ∙ e ∙ sym (ap part (entry_past qs k (omega arith))) ∙ sym (get_d_tab n (λ i. part (entry qs i)) _ k (pos 0) h)
      at k (no h) l = filled-after from n v xs k (omega arith) ∙ high k (omega arith) ∙ sym (get_d_past-tab n (λ i. part (entry qs i)) before k (pos 0) (omega arith))

  pub listed_length : (n : ℕ) (qs : List ℚ) (before : List ℤ) → n ≤ length before → length (listed part n qs before) ≡ length before
  listed_length n qs before h = length_tab n (λ k. part (entry qs k)) before h

  -- the cells of m fractions, cleared from there on
  pub rest_cleared : {v : ℤ} → v ≡ part (int (pos 0)) → {m n : ℕ} (qs : List ℚ) {xs : List ℤ} (before : List ℤ) → length qs ≡ m → m ≤ n → n ≤ length before
      → xs ≡ listed part m qs before → filled m n v xs ≡ listed part n qs before
  rest_cleared {v} e {m} {n} qs {xs} before count within inside held =
      cleared v e m n qs xs before inside (ap length held ∙ listed_length m qs before (omega arith)) (omega (arith, count))
      (λ k h. ap (λ ys. get_or ys k (pos 0)) held ∙ get_d_tab m (λ i. part (entry qs i)) _ k (pos 0) h)
      (λ k h. ap (λ ys. get_or ys k (pos 0)) held ∙ get_d_past-tab m (λ i. part (entry qs i)) before k (pos 0) (omega arith))

  -- and all of them cleared
  pub all_cleared : {v : ℤ} → v ≡ part (int (pos 0)) → {m n : ℕ} (qs : List ℚ) {xs : List ℤ} (before : List ℤ) → m ≤ n → n ≤ length before
      → xs ≡ listed part m qs before → filled 0 n v xs ≡ listed part n [] before
  all_cleared {v} e {m} {n} qs {xs} before within inside held =
      cleared v e 0 n [] xs before inside (ap length held ∙ listed_length m qs before (omega arith)) (omega arith)
      (λ k h. absurd (omega arith))
      (λ k h. ap (λ ys. get_or ys k (pos 0)) held ∙ get_d_past-tab m (λ i. part (entry qs i)) before k (pos 0) (omega arith))

-- zero as the cells hold it
pub zero_numerator : pos 0 ≡ numerator_of (int (pos 0))
zero_numerator = sym (int_num (pos 0))

pub zero_denominator : pos 1 ≡ denominator_of (int (pos 0))
zero_denominator = ap pos (sym (int-den (pos 0)))
