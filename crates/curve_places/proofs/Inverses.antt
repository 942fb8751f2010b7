-- The inverses of the lengths in an array of 48: what the loops leave, and the number of a segment.
use mathlib.Core.Path.{◌≡◌, sym, ◌∙◌, ap, ap₂}
use mathlib.Core.List.{List, [], ◌++◌}
use Prim.Native.Nat.{ℕ, ◌+◌, ◌<◌, ◌≤◌}
use native.Mathlib.Omega.{arith}
use borrow.Author.Tests.{lt-ltb, le-ltb}
use lib.IntN.{ℤ, pos}
use lib.ListN.{length, get_or, set, drop, replicate}
use Rattle.base_exact.specs.Tabulate.{tab}
use Rattle.base_exact.proofs.Decide.{cond_true, cond_false}
use Rattle.base_exact.proofs.Integer.{≤_in, <_in}
use Rattle.base_exact.proofs.Tabulate.{tab-none, tab_more, tab_get_d, tab-rest}
use Rattle.spec_spline.specs.Reading.{fine_width}
use Rattle.build_space.specs.Machine.{space}
use Rattle.build_space.specs.Legal.{ListsLegal}
use Rattle.build_space.proofs.Legal.{legal_width_low, legal_width-high}
use Rattle.curve_rate.specs.Rate.{Length}
use Rattle.curve_places.specs.Inverses.{by_length}

-- ---- a loop that fills the array: below k stand the numbers of the segments, from k on 0

module _ (f : ℤ → ℤ) (b d : List ℤ) where
  abbrev pub number : ℕ → ℤ
  number i = f (pos (fine_width (space b d []) i))

  pub record Filled (xs : List ℤ) (k : ℕ) : Type 0 where
    pub within : k ≤ length d
    pub is : xs ≡ tab k number ++ drop k (replicate 48 (pos 0))

  pub filled_none : Filled (replicate 48 (pos 0)) 0
  filled_none = record { within = omega arith; is = tab-none _ _ }

  -- one segment more
  pub filled_more : {xs : List ℤ} {k : ℕ} {v : ℤ} → length d ≤ 48 → k < length d → Filled xs k → v ≡ f (pos (fine_width (space b d []) k))
      → Filled (set xs k v) (k + 1)
  filled_more {k = k} few l h e = record {
    within = omega arith;
    is = ap₂ (λ (ns : List ℤ) (z : ℤ). set ns k z) h.is e ∙ tab_more number k (replicate 48 (pos 0)) (omega arith);
  }

  -- all of them
  pub filled_all : {xs : List ℤ} {k : ℕ} → length d ≤ 48 → length d ≤ k → Filled xs k → xs ≡ by_length f (space b d [])
  unfolding by_length
  filled_all {k = k} few l h =
      h.is ∙ ap (λ (n : ℕ). tab n number ++ drop n (replicate 48 (pos 0))) (let e : k ≡ length d = omega (arith, h.within) in e)
      ∙ tab-rest 48 (length d) few (λ i l. sym (cond_true (number i) (pos 0) (lt-ltb i (length d) l)))
      (λ i l. cond_false (number i) (pos 0) (le-ltb i (length d) l))

module _ (b d o : List ℤ) (h : ListsLegal b d o) (i : ℕ) (l : i < length d) where
  pub by_length_at : (f : ℤ → ℤ) → get_or (by_length f (space b d [])) i (pos 0) ≡ f (pos (fine_width (space b d o) i))
  unfolding by_length
  by_length_at f = tab_get_d 48 _ i (pos 0) (omega (arith, h.few))
      ∙ cond_true (f (pos (fine_width (space b d []) i))) (pos 0) (lt-ltb _ _ l)

  -- a segment of legal lists has a length that has an inverse
  pub length_is : Length (pos (fine_width (space b d o) i))
  length_is = record {
    long = <_in _ _ (omega (arith, legal_width_low b d o h i l));
    short = ≤_in _ _ (omega (arith, legal_width-high b d o h i l));
  }
