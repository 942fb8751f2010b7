-- The coefficients without that of row l.
use mathlib.Core.Path.{◌≡◌, ◌∙◌}
use mathlib.Core.List.{List, [], ◌++◌}
use Prim.Native.Nat.{ℕ, suc, ◌-◌, ◌<◌, ◌≤◌}
use native.Mathlib.Omega.{arith}
use lib.IntN.{pos}
use lib.ListN.{length, take, drop}
use Rattle.base_exact.specs.Rational.{ℚ, int}
use Rattle.spec_spline.specs.Table.{entry}
use Rattle.spec_spline.proofs.Splice.{spliced_length, spliced-before, spliced-after}

module _ (ps : List ℚ) (l : ℕ) (within : l < length ps) where
  abbrev pub without : List ℚ
  without = take l ps ++ drop (suc l) ps

  pub without_length : length without ≡ length ps - 1
  without_length = spliced_length ps [] l (suc l) (omega arith) ∙ omega arith

  pub without-before : (k : ℕ) → k < l → entry without k ≡ entry ps k
  without-before k h = spliced-before ps [] l (suc l) (omega arith) k (int (pos 0)) h

  pub without_from : (k : ℕ) → l ≤ k → entry without k ≡ entry ps (suc k)
  without_from k h = spliced-after ps [] l (suc l) (omega arith) k (suc k) (int (pos 0)) (omega arith) (omega arith)
