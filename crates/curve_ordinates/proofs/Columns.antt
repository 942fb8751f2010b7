-- The ordinates of the columns: an ordinate is its column's terms within their limits, and none is larger than 256 times the
-- largest coefficient.
use mathlib.Core.Path.{◌≡◌, refl, sym, ◌∙◌, ap, ap₂}
use mathlib.Core.Logic.{◌⊎◌, inl, inr}
use mathlib.Core.Bool.{Bool, true, false}
use mathlib.Core.List.{List}
use mathlib.Core.Option
use Prim.Native.Nat.{ℕ, zero, suc, ◌<◌, ◌≤◌}
use native.Mathlib.Omega.{arith}
use lib.IntN.{ℤ, pos, nat_abs, ◌+ℤ◌}
use lib.ListN.{length, get_or, set}
use lib.Seq.{get_or-set_same, get_or-set_other}
use lib.Signed.{le_z}
use Rattle.base_exact.proofs.Decide.{le_or_lt, true_not_false, cond_false}
use Rattle.base_exact.proofs.Integer.{+-zero}
use Rattle.spec_spline.specs.Table.{Table, cell}
use Rattle.spec_spline.specs.Reading.{least, greatest, has_weight, term, term_sum, at_least, at_most, ordinate}
use Rattle.spec_spline.proofs.Reading.{best-skips, best_takes}
use Rattle.curve_ordinates.specs.Ordinates.{known, given, terms_of, Bounded, ordinate_limit}
use Rattle.curve_ordinates.specs.declared.Terms.{Terms}
use Rattle.curve_ordinates.proofs.Best.{given-known, known-best, best-small}
use Rattle.curve_ordinates.proofs.Bounds.{limits-abs}

-- ---- no weight, no sum
pub sum-zero : (t : Table) (a : ℕ → ℤ) (c n : ℕ) → known (least n (has_weight t c) a) ≡ false → term_sum t a c n ≡ pos 0
unfolding term_sum
sum-zero t a c zero e = refl
sum-zero t a c (suc n) e = go (has_weight t c n) refl (sum-zero t a c n)
  where
    go : (b : Bool) → has_weight t c n ≡ b → (known (least n (has_weight t c) a) ≡ false → term_sum t a c n ≡ pos 0)
        → term_sum t a c (suc n) ≡ pos 0
    go true w ih = absurd (true_not_false (ap known (best_takes le_z (has_weight t c) a n w)) e)
    go false w ih =
        ap (λ x. term_sum t a c n +ℤ x) (cond_false (term (cell t n c) (a n)) (pos 0) w) ∙ +-zero (term_sum t a c n)
        ∙ ih (sym (ap known (best-skips le_z (has_weight t c) a n w)) ∙ e)

-- ---- an ordinate from its column's terms

module _ (t : Table) (a : ℕ → ℤ) (c : ℕ) where
  abbrev terms : Terms
  terms = terms_of t a c (length t)

  pub limits_terms : at_most (given terms.some terms.greatest) (at_least (given terms.some terms.least) terms.sum)
      ≡ ordinate t a c
  unfolding terms_of ordinate
  limits_terms =
      ap₂ (λ g l. at_most g (at_least l (term_sum t a c (length t))))
      (ap (λ k. given k (Option.get_or (greatest (length t) (has_weight t c) a) (pos 0)))
      (known-best le_z (λ y z. le_z z y) (has_weight t c) a (length t)) ∙ given-known (greatest (length t) (has_weight t c) a))
      (given-known (least (length t) (has_weight t c) a))

module _ (t : Table) (a : ℕ → ℤ) (small : (i : ℕ) → nat_abs (a i) ≤ 1000000) (c n : ℕ) where
  pub terms_least : nat_abs (terms_of t a c n).least ≤ 1000000
  unfolding terms_of
  terms_least = best-small le_z (has_weight t c) a 1000000 small n

  pub terms_greatest : nat_abs (terms_of t a c n).greatest ≤ 1000000
  unfolding terms_of
  terms_greatest = best-small (λ y z. le_z z y) (has_weight t c) a 1000000 small n

  -- the terms within their limits
  pub terms_abs : nat_abs (at_most (given (terms_of t a c n).some (terms_of t a c n).greatest)
      (at_least (given (terms_of t a c n).some (terms_of t a c n).least) (terms_of t a c n).sum)) ≤ ordinate_limit
  unfolding terms_of
  terms_abs =
      limits-abs (terms_of t a c n).some (terms_of t a c n).sum (terms_of t a c n).least (terms_of t a c n).greatest terms_least
      terms_greatest (sum-zero t a c n)

-- a number within the limit stored among others keeps them within it
pub bounded_set : (r : List ℤ) (k : ℕ) (v : ℤ) → Bounded r → nat_abs v ≤ ordinate_limit → k < length r → Bounded (set r k v)
bounded_set r k v h l w j = go (le_or_lt j k) (le_or_lt k j)
  where
    go : (j ≤ k) ⊎ (k < j) → (k ≤ j) ⊎ (j < k) → nat_abs (get_or (set r k v) j (pos 0)) ≤ ordinate_limit
    go (inl a) (inl b) = rw (let e : j ≡ k = omega arith in e, get_or-set_same r k v (pos 0) w) l
    go (inl a) (inr b) = rw (get_or-set_other r k j v (pos 0) (omega arith)) (h j)
    go (inr a) b = rw (get_or-set_other r k j v (pos 0) (omega arith)) (h j)

-- an ordinate of coefficients in their range
pub ordinate-small : (t : Table) (a : ℕ → ℤ) → ((i : ℕ) → nat_abs (a i) ≤ 1000000) → (c : ℕ) → nat_abs (ordinate t a c) ≤ ordinate_limit
ordinate-small t a small c = rw (sym (limits_terms t a c)) (terms_abs t a small c (length t))
