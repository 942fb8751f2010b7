-- Years in their decade: what some years later is, where the next decade begins, and where a line fills its decade.
use mathlib.Core.Path.{◌≡◌, ◌∙◌, ap}
use mathlib.Core.Logic.{◌⊎◌, inl, inr}
use Prim.Native.Nat.{ℕ, suc, ◌+◌, ◌-◌, ◌%◌, ◌<◌, ◌≤◌}
use native.Mathlib.Omega.{arith}
use borrow.Author.Tests.{lt-ltb, le-ltb}
use lib.IntN.{ℤ, pos, negsuc, sub_ℕ, ◌+ℤ◌}
use Rattle.base_exact.proofs.Decide.{le_or_lt, cond_true, cond_false}
use Rattle.spec_tucson.specs.Line.{decade, year_in_decade}

sub_decade : (n m : ℕ) → year_in_decade (sub_ℕ n (suc m)) ≡ (decade - 1 - m % decade + n) % decade
unfolding year_in_decade
sub_decade n m = go (le_or_lt (suc m) n)
  where
    go : (suc m ≤ n) ⊎ (n < suc m) → year_in_decade (sub_ℕ n (suc m)) ≡ (decade - 1 - m % decade + n) % decade
    go (inl h) = ap year_in_decade (cond_false (negsuc (suc m - suc n)) (pos (n - suc m)) (le-ltb n (suc m) h)) ∙ omega arith
    go (inr h) = ap year_in_decade (cond_true (negsuc (suc m - suc n)) (pos (n - suc m)) (lt-ltb n (suc m) h)) ∙ omega arith

pub years_later : (y : ℤ) (n : ℕ) → year_in_decade (y +ℤ pos n) ≡ (year_in_decade y + n) % decade
unfolding year_in_decade
years_later (pos m) n = omega arith
years_later (negsuc m) n = sub_decade n m
