-- Laws of the weights' lines: the line of one cell, and one more cell behind others.
use mathlib.Core.Path.{◌≡◌, ap, ◌∙◌}
use mathlib.Core.List.{List, [], ◌++◌, append_assoc}
use Prim.Native.Nat.{ℕ, suc, ◌+◌, ◌/◌, ◌%◌}
use lib.IntN.{ℤ, pos, nat_abs}
use lib.ListN.{get_or}
use borrow.Author.Tests.{eq-eqb, ne_eqb}
use Rattle.base_exact.proofs.Integer.{abs-zero}
use Rattle.spec_sheet.specs.Printout.{weight_line, weight_lines}
use Rattle.sheet_weights.specs.Printed.{place_text, fraction_text, stored_weight, stored_weights}
use Rattle.spec_sheet.proofs.Printout.{weight_lines_append, weight_lines_one, weight_lines-none}

-- r and c are the row and the column of cell 0
module _ (r c : ℕ) where
  pub cell-zero : (k : ℕ) (num den : ℤ) → num ≡ pos 0 → weight_lines (stored_weight r c k num den) ≡ []
  unfolding stored_weight
  cell-zero k num den e = rw (eq-eqb (nat_abs num) 0 (ap nat_abs e)) weight_lines-none

  pub cell-line : (k : ℕ) (num den : ℤ) → (num ≡ pos 0 → ⊥)
      → weight_lines (stored_weight r c k num den) ≡ place_text (r + k / 72) (c + k % 72) ++ fraction_text num (nat_abs den)
  unfolding stored_weight weight_line
  cell-line k num den h = rw (ne_eqb (nat_abs num) 0 (λ e. h (abs-zero num e))) (weight_lines_one _ ∙ simp append_assoc)

  pub cells-none : (num den : List ℤ) → weight_lines (stored_weights r c 0 num den) ≡ []
  unfolding stored_weights
  cells-none num den = weight_lines-none

  pub cells_more : (k : ℕ) (num den : List ℤ) → weight_lines (stored_weights r c (suc k) num den) ≡ weight_lines (stored_weights r c k num den)
      ++ weight_lines (stored_weight r c k (get_or num k (pos 0)) (get_or den k (pos 0)))
  unfolding stored_weights
  cells_more k num den = weight_lines_append (stored_weights r c k num den) (stored_weight r c k (get_or num k (pos 0)) (get_or den k (pos 0)))
