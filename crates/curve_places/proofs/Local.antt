-- The ordinates of one segment in an array of six: what the copy leaves, its numbers and their size.
use mathlib.Core.Path.{◌≡◌, sym, ◌∙◌}
use mathlib.Core.Logic.{◌⊎◌, inl, inr}
use mathlib.Core.Bool.{Bool, true, false, cond}
use mathlib.Core.List.{List, ◌++◌}
use Prim.Native.Nat.{ℕ, ◌+◌, ◌<◌, ◌≤◌}
use native.Mathlib.Omega.{arith}
use borrow.Author.Tests.{le-leb, lt-leb}
use lib.Dec.{leb}
use lib.IntN.{ℤ, pos, nat_abs}
use lib.ListN.{get_or, drop, replicate, get_or-eq_default}
use Rattle.base_exact.specs.Tabulate.{tab}
use Rattle.base_exact.proofs.Decide.{le_or_lt, cond_true, cond_false}
use Rattle.base_exact.proofs.Tabulate.{tab_length, tab_get_d, tab-rest}
use Rattle.curve_ordinates.specs.Ordinates.{Bounded, ordinate_limit}
use Rattle.curve_places.specs.Offsets.{local_of}

module _ (os : List ℤ) (c p : ℕ) where
  -- the copy
  pub local_filled : p < 6 → tab (p + 1) (λ k. get_or os (c + k) (pos 0)) ++ drop (p + 1) (replicate 6 (pos 0)) ≡ local_of os c p
  unfolding local_of
  local_filled h =
      tab-rest 6 (p + 1) (omega arith) (λ k l. sym (cond_true (get_or os (c + k) (pos 0)) (pos 0) (le-leb k p (omega arith))))
      (λ k l. cond_false (get_or os (c + k) (pos 0)) (pos 0) (lt-leb k p (omega arith)))

  pub local_at : (k : ℕ) → p < 6 → k ≤ p → get_or (local_of os c p) k (pos 0) ≡ get_or os (c + k) (pos 0)
  unfolding local_of
  local_at k h l = tab_get_d 6 _ k (pos 0) (omega arith) ∙ cond_true (get_or os (c + k) (pos 0)) (pos 0) (le-leb k p l)

  pub local_bounded : Bounded os → Bounded (local_of os c p)
  unfolding local_of
  local_bounded h k = go (le_or_lt 6 k)
    where
      numbers : ℕ → ℤ
      numbers j = cond (leb j p) (get_or os (c + j) (pos 0)) (pos 0)

      number_bounded : (b : Bool) → nat_abs (cond b (get_or os (c + k) (pos 0)) (pos 0)) ≤ ordinate_limit
      number_bounded true = h (c + k)
      number_bounded false = omega arith

      go : (6 ≤ k) ⊎ (k < 6) → nat_abs (get_or (tab 6 numbers) k (pos 0)) ≤ ordinate_limit
      go (inl a) = rw (get_or-eq_default (tab 6 numbers) (pos 0) {n = k} (rw (tab_length 6 numbers) a)) (omega arith)
      go (inr a) = rw (tab_get_d 6 numbers k (pos 0) a) (number_bounded (leb k p))
