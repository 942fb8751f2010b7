-- A number brought into 32 bits.
use mathlib.Core.Path.{◌≡◌, sym, ◌∙◌}
use mathlib.Core.Bool.{true, false}
use native.Mathlib.Omega.{arith}
use lib.IntN.{ℤ, pos, negsuc}
use lib.Signed.{lt_z}
use mir.Syntax.{w32}
use mir.Val.{SFits}
use Rattle.base_exact.proofs.Decide.{cond_true, cond_false}
use Rattle.base_exact.proofs.Integer.{≤_out}
use Rattle.base_exact.proofs.Word.{lt_z_false}
use Rattle.indices.specs.Words.{least_word, greatest_word, nearest_word}

module _ (z : ℤ) where
  pub nearest-below : lt_z z least_word ≡ true → least_word ≡ nearest_word z
  unfolding nearest_word
  nearest-below e = sym (cond_true _ _ e)

  pub nearest-above : lt_z z least_word ≡ false → lt_z greatest_word z ≡ true → greatest_word ≡ nearest_word z
  unfolding nearest_word
  nearest-above e k = sym (cond_false _ _ e ∙ cond_true _ _ k)

  pub nearest-inside : lt_z z least_word ≡ false → lt_z greatest_word z ≡ false → z ≡ nearest_word z
  unfolding nearest_word
  nearest-inside e k = sym (cond_false _ _ e ∙ cond_false _ _ k)

pub word_fits : (z : ℤ) → lt_z z least_word ≡ false → lt_z greatest_word z ≡ false → SFits w32 z
word_fits (pos n) e k = record { sfits = omega (arith, ≤_out (pos n) greatest_word (lt_z_false greatest_word (pos n) k)) }
word_fits (negsuc n) e k = record { sfits = omega (arith, ≤_out least_word (negsuc n) (lt_z_false (negsuc n) least_word e)) }
