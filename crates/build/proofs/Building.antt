-- What building ends with, case by case: too short a buffer, lists that are refused, and the weights.
use mathlib.Core.Path.{◌≡◌, ◌∙◌, ap, ap₂}
use mathlib.Core.Bool.{cond}
use Prim.Native.Nat.{ℕ, ◌<◌, ◌≤◌}
use native.Mathlib.Omega.{arith}
use borrow.Author.Tests.{lt-ltb, le-ltb}
use lib.Dec.{ltb}
use Rattle.base_outcome.specs.Outcome.{answer, refusal, refuse}
use Rattle.spec_spline.specs.Space.{Space, checked}
use Rattle.spec_spline.specs.Table.{table_cells}
use Rattle.spec_spline.specs.Build.{weights, space_weights, built}
use Rattle.base_outcome.proofs.Outcome.{then_answers, then_refuses, capped_small}
use Rattle.spec_spline.proofs.Build.{long-enough}

module _ (s : Space) (num_length den_length : ℕ) where
  pub built-first-short : num_length < table_cells → built s num_length den_length ≡ refusal 1 0
  unfolding built
  built-first-short h =
      ap (λ b. cond b (refuse 1 0) (cond (ltb den_length table_cells) (refuse 1 1) (space_weights s))) (lt-ltb num_length table_cells h)
      ∙ ap (refusal 1) (capped_small 0 (omega arith))

  pub built-second-short : table_cells ≤ num_length → den_length < table_cells → built s num_length den_length ≡ refusal 1 1
  unfolding built
  built-second-short h k =
      ap₂ (λ a b. cond a (refuse 1 0) (cond b (refuse 1 1) (space_weights s))) (le-ltb num_length table_cells h) (lt-ltb den_length table_cells k)
      ∙ ap (refusal 1) (capped_small 1 (omega arith))

  module _ (h : table_cells ≤ num_length) (k : table_cells ≤ den_length) where
    built_long : built s num_length den_length ≡ space_weights s
    unfolding built
    built_long = long-enough num_length den_length (space_weights s) h k

    pub built_refused : {code place : ℕ} → checked s ≡ refusal code place → built s num_length den_length ≡ refusal code place
    unfolding space_weights
    built_refused e = built_long ∙ then_refuses weights e

    pub built-weights : checked s ≡ answer s → built s num_length den_length ≡ weights s
    unfolding space_weights
    built-weights e = built_long ∙ then_answers weights e
