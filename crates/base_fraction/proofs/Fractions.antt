-- The two arrays that hold a list of fractions: what stands at an index, arrays after a store, and one fraction more at the end.
use mathlib.Core.Path.{◌≡◌, refl, sym, ◌∙◌, ap, ap₂}
use mathlib.Core.Logic.{◌≢◌}
use mathlib.Core.Bool.{true, false}
use mathlib.Core.List.{List, [], ◌∷◌, ◌++◌}
use Prim.Native.Nat.{ℕ, zero, suc, ◌<◌}
use native.Mathlib.Omega.{arith}
use native.Mathlib.Decide.{ℕ_discrete, dec_lt}
use lib.IntN.{ℤ, pos}
use lib.ListN.{length, get_or, set, replicate, get_or-append, get_or-eq_default, length-append}
use lib.Seq.{get_or_at}
use Rattle.base_exact.specs.Rational.{ℚ, den, int}
use Rattle.base_exact.specs.Order.{is_zero}
use Rattle.base_exact.proofs.Tabulate.{tab_get_d, tab_ext, tab_const, tab_store}
use Rattle.base_exact.proofs.Rational.{int_num, int-den, zero_is, zero_num}
use Rattle.base_exact.proofs.Order.{zero_test, nonzero_test}
use Rattle.base_fraction.specs.Machine.{fraction, value}
use Rattle.base_fraction.specs.Fractions.{row_cells, fraction_at, fractions}
use Rattle.base_fraction.specs.declared.Fraction.{Fraction}
use Rattle.base_fraction.specs.declared.arrays.Fractions.{Fractions}
use Rattle.base_fraction.proofs.Value.{value-fraction}

-- ---- one more fraction at the end of a list

module _ (qs : List ℚ) (q : ℚ) where
  pub entry_new : (i : ℕ) → length qs ≡ i → fraction_at (qs ++ (q ∷ [])) i ≡ q
  entry_new i e = get_or_at qs q [] (int (pos 0)) i e

  pub entry_kept : (i : ℕ) → i ≢ length qs → fraction_at qs i ≡ fraction_at (qs ++ (q ∷ [])) i
  entry_kept i e = go (dec_lt i (length qs))
    where
      go : Dec (i < length qs) → fraction_at qs i ≡ fraction_at (qs ++ (q ∷ [])) i
      go (yes h) = sym (get_or-append qs (q ∷ []) (int (pos 0)) i h)
      go (no h) = get_or-eq_default qs (int (pos 0)) (omega arith)
          ∙ sym (get_or-eq_default (qs ++ (q ∷ [])) (int (pos 0)) (simp length-append (omega (arith, e))))

-- ---- the arrays

module _ (qs : List ℚ) where
  num_at : (i : ℕ) → i < row_cells → get_or (fractions qs).num i (pos 0) ≡ (fraction_at qs i).num
  unfolding fractions
  num_at i h = tab_get_d row_cells (λ i. (fraction_at qs i).num) i (pos 0) h

  den_at : (i : ℕ) → i < row_cells → get_or (fractions qs).den i (pos 0) ≡ pos (den (fraction_at qs i))
  unfolding fractions
  den_at i h = tab_get_d row_cells (λ i. pos (den (fraction_at qs i))) i (pos 0) h

  -- arrays that are known by an equation, read at an index
  pub fraction-at : (js : Fractions) → js ≡ fractions qs → (i : ℕ) → i < row_cells
      → record { num = get_or js.num i (pos 0); den = get_or js.den i (pos 0) } ≡ fraction (fraction_at qs i)
  unfolding fraction
  fraction-at js is i h =
      ap (λ (a : Fractions). record { num = get_or a.num i (pos 0); den = get_or a.den i (pos 0) }) is
      ∙ (λ k. record { num = num_at i h k; den = den_at i h k })

  -- a numerator that is read tells whether the fraction is zero
  module _ {js : List ℤ} (is : js ≡ (fractions qs).num) where
    num_read : (i : ℕ) → i < row_cells → get_or js i (pos 0) ≡ (fraction_at qs i).num
    num_read i h = ap (λ (ns : List ℤ). get_or ns i (pos 0)) is ∙ num_at i h

    pub zero-read : (i : ℕ) → i < row_cells → get_or js i (pos 0) ≡ pos 0 → is_zero (fraction_at qs i) ≡ true
    zero-read i h e = zero_test (zero_is (fraction_at qs i) (sym (num_read i h) ∙ e))

    pub nonzero_read : (i : ℕ) → i < row_cells → get_or js i (pos 0) ≢ pos 0 → is_zero (fraction_at qs i) ≡ false
    nonzero_read i h e = nonzero_test (λ z. e (num_read i h ∙ zero_num z))

-- equal arrays hold the same fractions, and the same fractions are in equal arrays
pub entries-same : (us vs : List ℚ) → fractions us ≡ fractions vs → (i : ℕ) → i < row_cells → fraction_at us i ≡ fraction_at vs i
entries-same us vs e i h =
    sym (value-fraction (fraction_at us i)) ∙ ap value (sym (fraction-at us (fractions vs) (sym e) i h) ∙ fraction-at vs (fractions vs) refl i h)
    ∙ value-fraction (fraction_at vs i)

pub fractions_ext : (ps qs : List ℚ) → ((k : ℕ) → k < row_cells → fraction_at ps k ≡ fraction_at qs k) → fractions ps ≡ fractions qs
unfolding fractions
fractions_ext ps qs same = λ k. record {
  num = tab_ext row_cells (λ i h. ap (λ (q : ℚ). q.num) (same i h)) k;
  den = tab_ext row_cells (λ i h. ap (λ (q : ℚ). pos (den q)) (same i h)) k;
}

-- ---- arrays that are made

pub none_num : replicate row_cells (pos 0) ≡ (fractions []).num
unfolding fractions
none_num = sym (tab_ext row_cells (λ i h. int_num (pos 0)) ∙ tab_const row_cells (pos 0))

pub none-den : replicate row_cells (pos 1) ≡ (fractions []).den
unfolding fractions
none-den = sym (tab_ext row_cells (λ i h. ap pos (int-den (pos 0))) ∙ tab_const row_cells (pos 1))

-- one store takes a list to another that has the fraction there and agrees with it elsewhere
module _ (ps qs : List ℚ) (q : ℚ) (i : ℕ) (room : i < row_cells) (here : fraction_at qs i ≡ q)
    (other : (k : ℕ) → k < row_cells → k ≢ i → fraction_at ps k ≡ fraction_at qs k) where
  store_num : set (fractions ps).num i q.num ≡ (fractions qs).num
  unfolding fractions
  store_num =
      tab_store row_cells {g = λ k. (fraction_at qs k).num} i room (ap (λ (p : ℚ). p.num) here) (λ k l h. ap (λ (p : ℚ). p.num) (other k l h))

  store_den : set (fractions ps).den i (pos (den q)) ≡ (fractions qs).den
  unfolding fractions
  store_den =
      tab_store row_cells {g = λ k. pos (den (fraction_at qs k))} i room (ap (λ (p : ℚ). pos (den p)) here)
      (λ k l h. ap (λ (p : ℚ). pos (den p)) (other k l h))

  pub fractions_store : (js : Fractions) (f : Fraction) → js ≡ fractions ps → f ≡ fraction q
      → record { num = set js.num i f.num; den = set js.den i f.den } ≡ fractions qs
  unfolding fraction
  fractions_store js f is lowest =
      ap₂ (λ (a : Fractions) (x : Fraction). record { num = set a.num i x.num; den = set a.den i x.den }) is lowest
      ∙ (λ k. record { num = store_num k; den = store_den k })

-- one fraction more behind the others
pub fractions_more : (qs : List ℚ) (q : ℚ) (i : ℕ) (js : Fractions) (f : Fraction) → length qs ≡ i → i < row_cells → js ≡ fractions qs
    → f ≡ fraction q → record { num = set js.num i f.num; den = set js.den i f.den } ≡ fractions (qs ++ (q ∷ []))
fractions_more qs q i js f size room is lowest =
    fractions_store qs (qs ++ (q ∷ [])) q i room (entry_new qs q i size) (λ k l h. entry_kept qs q k (λ e. h (e ∙ size))) js f is lowest

-- a zero at the end is 0/1 already
pub fractions-zero : (qs : List ℚ) → fractions qs ≡ fractions (qs ++ (int (pos 0) ∷ []))
fractions-zero qs = fractions_ext qs (qs ++ (int (pos 0) ∷ [])) (λ i h. go i (ℕ_discrete i (length qs)))
  where
    go : (i : ℕ) → Dec (i ≡ length qs) → fraction_at qs i ≡ fraction_at (qs ++ (int (pos 0) ∷ [])) i
    go i (yes e) = get_or-eq_default qs (int (pos 0)) (omega (arith, e)) ∙ sym (entry_new qs (int (pos 0)) i (sym e))
    go i (no e) = entry_kept qs (int (pos 0)) i e

-- the fraction 1 alone is a store of one numerator
pub one_fraction : (js : Fractions) → js ≡ fractions [] → record { num = set js.num 0 (pos 1); den = js.den } ≡ fractions (int (pos 1) ∷ [])
unfolding fractions
one_fraction js is =
    ap (λ (a : Fractions). record { num = set a.num 0 (pos 1); den = a.den }) is
    ∙ (λ k. record { num = nums k; den = dens k })
  where
    nums : set (fractions []).num 0 (pos 1) ≡ (fractions (int (pos 1) ∷ [])).num
    nums =
        ap (λ (z : ℤ). set (fractions []).num 0 z) (sym (int_num (pos 1)))
        ∙ store_num [] (int (pos 1) ∷ []) (int (pos 1)) 0 (omega arith) refl (λ k l h. entry_kept [] (int (pos 1)) k h)

    den-same : (i : ℕ) → pos (den (fraction_at [] i)) ≡ pos (den (fraction_at (int (pos 1) ∷ []) i))
    den-same zero = ap pos (int-den (pos 0) ∙ sym (int-den (pos 1)))
    den-same (suc i) = refl

    dens : (fractions []).den ≡ (fractions (int (pos 1) ∷ [])).den
    dens = tab_ext row_cells (λ i h. den-same i)
