-- Nodes with numbers. The space with breaks 0,1,2,3, degrees 3,3,3 and orders 2,2 has the nodes 0, 1/3, 1, 2, 8/3, 3: those of the rows 2 and 3, the
-- middle ones of its two joins, are 1 and 2 by the formula, and 1 < 2. With breaks 0,1,3, degrees 3,3 and order 2 the middle node is 4/3.
use mathlib.Core.Path.{◌≡◌, refl, sym, subst}
use mathlib.Core.List.{List, [], ◌∷◌}
use Prim.Native.Nat.{ℕ, zero, suc, ◌+◌, ◌<◌, ◌≤◌}
use native.Mathlib.Omega.{arith}
use lib.IntN.{pos}
use Rattle.base_exact.specs.Gcd.{gcd, gcd_f}
use Rattle.base_exact.specs.Rational.{ℚ, mk, int, inv, ◌+ᵠ◌, ◌*ᵠ◌, -ᵠ◌, ◌//◌}
use Rattle.base_exact.specs.Order.{◌<ᵠ◌}
use Rattle.base_exact.specs.Sum.{sum}
use Rattle.base_exact.specs.Tabulate.{tab}
use Rattle.spec_spline.specs.Space.{Space, segments, degree, first_column, conditions_before}
use Rattle.spec_spline.specs.Conditions.{falling}
use Rattle.spec_spline.specs.Table.{Table, Row, entry}
use Rattle.spec_spline.specs.Piecewise.{Accepted, combination}
use Rattle.spec_spline.specs.Cases.{space}
use Rattle.spec_spline.proofs.Computing.{building}
use Rattle.theorems_weights.proofs.Instances.{q0, q1}
use Rattle.theorems_acceptance.specs.ClosedForms.{left_size, right_size, own_row}
use Rattle.theorems_lines.specs.Lines.{place_of, Line}
use Rattle.theorems_nodes.specs.Nodes.{AreNodes, InOnePart, middle_node}
use Rattle.theorems_nodes.proofs.Middle.{middle_nodes_are_formulas}
use Rattle.theorems_nodes.proofs.Nodes.{nodes-rise}

abbrev both_space : Space
both_space = space (0 ∷ 1 ∷ 2 ∷ 3 ∷ []) (3 ∷ 3 ∷ 3 ∷ []) (pos 2 ∷ pos 2 ∷ [])

abbrev both_table : Table
both_table =
    (q1 ∷ q0 ∷ q0 ∷ q0 ∷ q0 ∷ q0 ∷ q0 ∷ q0 ∷ q0 ∷ q0 ∷ q0 ∷ q0 ∷ []) ∷
    (q0 ∷ q1 ∷ pos 1 // 1 ∷ pos 1 // 3 ∷ pos 1 // 3 ∷ q0 ∷ q0 ∷ q0 ∷ q0 ∷ q0 ∷ q0 ∷ q0 ∷ []) ∷
    (q0 ∷ q0 ∷ pos 1 // 1 ∷ pos 7 // 11 ∷ pos 7 // 11 ∷ pos 2 // 2 ∷ pos 1 // 2 ∷ pos 1 // 5 ∷ pos 1 // 5 ∷ q0 ∷ q0 ∷ q0 ∷ []) ∷
    (q0 ∷ q0 ∷ q0 ∷ pos 1 // 5 ∷ pos 1 // 5 ∷ pos 1 // 2 ∷ pos 2 // 2 ∷ pos 7 // 11 ∷ pos 7 // 11 ∷ pos 1 // 1 ∷ q0 ∷ q0 ∷ []) ∷
    (q0 ∷ q0 ∷ q0 ∷ q0 ∷ q0 ∷ q0 ∷ q0 ∷ pos 1 // 3 ∷ pos 1 // 3 ∷ pos 1 // 1 ∷ q1 ∷ q0 ∷ []) ∷
    (q0 ∷ q0 ∷ q0 ∷ q0 ∷ q0 ∷ q0 ∷ q0 ∷ q0 ∷ q0 ∷ q0 ∷ q0 ∷ q1 ∷ []) ∷ []

accepted : Accepted both_space
unfolding building
accepted = record { table = both_table; is = refl }

abbrev line : Row
line = q0 ∷ pos 1 // 2 ∷ pos 2 // 2 ∷ q1 ∷ q1 ∷ pos 4 // 2 ∷ pos 5 // 2 ∷ int (pos 2) ∷ int (pos 2) ∷ pos 7 // 2 ∷ pos 8 // 2 ∷ int (pos 3) ∷ []

abbrev nodes : List ℚ
nodes = q0 ∷ pos 1 // 2 ∷ q1 ∷ int (pos 2) ∷ pos 8 // 2 ∷ int (pos 3) ∷ []

is_line : Line both_space (λ j. q0) (λ j. q1) line
unfolding place_of first_column gcd gcd_f mk int inv ◌+ᵠ◌ ◌*ᵠ◌ ◌//◌
is_line = record { columns = refl; ordinates = on; kept = λ j h k. (refl, refl) }
  where
    on : (j t : ℕ) → j < segments both_space → t ≤ degree both_space j → entry line (first_column both_space j + t) ≡ q0 +ᵠ q1 *ᵠ place_of both_space j t
    on zero zero h l = refl
    on zero (suc zero) h l = refl
    on zero (suc (suc zero)) h l = refl
    on zero (suc (suc (suc zero))) h l = refl
    on zero (suc (suc (suc (suc t)))) h l = absurd (omega arith)
    on (suc zero) zero h l = refl
    on (suc zero) (suc zero) h l = refl
    on (suc zero) (suc (suc zero)) h l = refl
    on (suc zero) (suc (suc (suc zero))) h l = refl
    on (suc zero) (suc (suc (suc (suc t)))) h l = absurd (omega arith)
    on (suc (suc zero)) zero h l = refl
    on (suc (suc zero)) (suc zero) h l = refl
    on (suc (suc zero)) (suc (suc zero)) h l = refl
    on (suc (suc zero)) (suc (suc (suc zero))) h l = refl
    on (suc (suc zero)) (suc (suc (suc (suc t)))) h l = absurd (omega arith)
    on (suc (suc (suc j))) t h l = absurd (omega arith)

reproduces : combination 12 nodes both_table ≡ line
unfolding gcd gcd_f mk int ◌+ᵠ◌ ◌*ᵠ◌ ◌//◌ sum tab combination
reproduces = refl

are_nodes : AreNodes both_space both_table nodes
unfolding first_column
are_nodes = subst (Line both_space (λ j. q0) (λ j. q1)) (sym reproduces) is_line

-- the middle row of the second join
by_formula : int (pos 2) ≡ middle_node both_space 1
unfolding accepted first_column conditions_before own_row
by_formula = middle_nodes_are_formulas both_space accepted nodes are_nodes 1 (omega arith) refl

one_part : InOnePart both_space 2
one_part zero h e = let z : ◌≡◌ {A = ℕ} 3 0 = e in absurd (omega arith)
one_part (suc zero) h e = let z : ◌≡◌ {A = ℕ} 3 0 = e in absurd (omega arith)
one_part (suc (suc j)) h e = absurd (omega arith)

-- from one middle row to the next
rise : q1 <ᵠ int (pos 2)
unfolding accepted first_column conditions_before
rise = nodes-rise both_space accepted nodes are_nodes 2 (omega arith) one_part

-- lengths that differ move it
uneven : middle_node (space (0 ∷ 1 ∷ 3 ∷ []) (3 ∷ 3 ∷ []) (pos 2 ∷ [])) 0 ≡ pos 4 // 2
unfolding middle_node left_size right_size falling gcd gcd_f mk int inv ◌+ᵠ◌ ◌*ᵠ◌ -ᵠ◌ ◌//◌
uneven = refl
