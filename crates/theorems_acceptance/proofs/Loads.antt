-- The jumps of a row whose weights on the condition's columns are 0 or 1: integers, no larger than the conditions of the
-- columns with weight 1 together. And the sizes of the conditions of order 0 and 1.
use mathlib.Core.Path.{◌≡◌, refl, sym, ◌∙◌, ap, ap₂, subst}
use mathlib.Core.List.{List, [], ◌∷◌}
use Prim.Native.Nat.{ℕ, zero, suc, ◌+◌, ◌-◌, ◌*◌, ◌/◌, ◌≤◌}
use native.Mathlib.Omega.{arith}
use native.Mathlib.Nat.{div-le_self, pow-zero, pow-suc, one-mul as ℕ-one-mul}
use lib.IntN.{ℤ, pos, ◌+ℤ◌, ◌*ℤ◌, nat_abs}
use Rattle.base_exact.specs.Rational.{ℚ, int, signed-abs, ◌+ᵠ◌, ◌*ᵠ◌}
use Rattle.base_exact.specs.Tabulate.{tab}
use Rattle.base_exact.proofs.Integer.{abs_mul, abs_neg, abs-add}
use Rattle.base_exact.proofs.Rational.{zero-mul, one-mul, add-zero, zero-add, int-add}
use Rattle.spec_spline.specs.Space.{Space, degree, width}
use Rattle.spec_spline.specs.Conditions.{Entry, falling, binomial, alternating, scale, left_entry, right_entry, undivided, divided, common_divisor, conditions}
use Rattle.spec_spline.specs.Table.{Row, entry}
use Rattle.spec_spline.proofs.Conditions.{alternating-abs}
use Rattle.theorems_weights.specs.Counted.{jump_tests}
use Rattle.theorems_weights.proofs.Functional.{applied}
use Rattle.theorems_stages.proofs.Tests.{Good, Every, nothing, more}
use Rattle.theorems_acceptance.proofs.Small.{Small, small_int, small-zero}

-- The row has 0 or 1 in each column of the list, and the conditions at the ones have the size b together.
pub data Load (r : Row) : List Entry → ℕ → Type 0 where
  empty : Load r [] 0
  skip : {e : Entry} {es : List Entry} {b : ℕ} → entry r e.column ≡ int (pos 0) → Load r es b → Load r (e ∷ es) b
  take : {e : Entry} {es : List Entry} {b : ℕ} → entry r e.column ≡ int (pos 1) → Load r es b → Load r (e ∷ es) (nat_abs e.condition + b)

-- Every product and partial sum, from an integer on, is that small.
pub load_tests : {r : Row} {κ : List Entry} {b : ℕ} (n join : ℕ) (a : ℤ) → Load r κ b → nat_abs a + b ≤ n → 1 ≤ n → (s : ℚ) → s ≡ int a → Every (Good (Small n)) (jump_tests join r s κ)
unfolding jump_tests
load_tests n join a empty h o s e = nothing
load_tests {r} n join a (skip {e = x} {es = es} z l) h o s e =
    more (subst (Small n) (sym product) (small-zero o)) (more (subst (Small n) (sym total) (small_int a (omega arith) o)) (load_tests n join a l h o _ total))
  where
    product : entry r x.column *ᵠ int x.condition ≡ int (pos 0)
    product = ap (λ t. t *ᵠ int x.condition) z ∙ zero-mul (int x.condition)

    total : s +ᵠ entry r x.column *ᵠ int x.condition ≡ int a
    total = ap (λ t. s +ᵠ t) product ∙ add-zero s ∙ e
load_tests {r} n join a (take {e = x} {es = es} z l) h o s e =
    more (subst (Small n) (sym product) (small_int x.condition (omega arith) o)) (more (subst (Small n) (sym total) (small_int (a +ℤ x.condition) (omega (arith, abs-add a x.condition)) o))
    (load_tests n join (a +ℤ x.condition) l (omega (arith, abs-add a x.condition)) o _ total))
  where
    product : entry r x.column *ᵠ int x.condition ≡ int x.condition
    product = ap (λ t. t *ᵠ int x.condition) z ∙ one-mul (int x.condition)

    total : s +ᵠ entry r x.column *ᵠ int x.condition ≡ int (a +ℤ x.condition)
    total = ap₂ ◌+ᵠ◌ e product ∙ sym (int-add a x.condition)

-- The jump is an integer of at most that size.
pub record Whole (q : ℚ) (b : ℕ) : Type 0 where
  pub number : ℤ
  pub is : q ≡ int number
  pub size : nat_abs number ≤ b

pub load-jump : {r : Row} {κ : List Entry} {b : ℕ} → Load r κ b → Whole (applied κ (entry r)) b
unfolding applied
load-jump empty = record { number = pos 0; is = refl; size = omega arith }
load-jump (skip {e = x} z l) =
    let w = load-jump l in record {
      number = w.number;
      is = ap₂ (λ p q. p *ᵠ int x.condition +ᵠ q) z w.is
          ∙ ap (λ t. t +ᵠ int w.number) (zero-mul (int x.condition)) ∙ zero-add _;
      size = w.size;
    }
load-jump (take {e = x} z l) = let w = load-jump l in record {
  number = x.condition +ℤ w.number;
  is = ap₂ (λ p q. p *ᵠ int x.condition +ᵠ q) z w.is ∙ ap (λ t. t +ᵠ int w.number) (one-mul (int x.condition)) ∙ sym (int-add x.condition w.number);
  size = omega (arith, abs-add x.condition w.number, w.size);
}

-- ---- the conditions

divided-size : (g : ℕ) (e : Entry) → nat_abs (divided g e).condition ≤ nat_abs e.condition
divided-size g e = omega (arith, signed-abs e.condition (nat_abs e.condition / g), div-le_self (nat_abs e.condition) g)

left-size : (s : Space) (j k t : ℕ) → nat_abs (left_entry s j k t).condition ≡ scale (degree s j) k (width s (suc j)) * binomial k t
left-size s j k t =
    abs_mul (pos (scale (degree s j) k (width s (suc j)) * binomial k t)) (alternating (k - t))
    ∙ ap (λ n. scale (degree s j) k (width s (suc j)) * binomial k t * n) (alternating-abs (k - t)) ∙ omega arith

right-size : (s : Space) (j k t : ℕ) → nat_abs (right_entry s j k t).condition ≡ scale (degree s (suc j)) k (width s j) * binomial k t
right-size s j k t =
    abs_neg (pos (scale (degree s (suc j)) k (width s j) * binomial k t) *ℤ alternating (k - t))
    ∙ abs_mul (pos (scale (degree s (suc j)) k (width s j) * binomial k t)) (alternating (k - t))
    ∙ ap (λ n. scale (degree s (suc j)) k (width s j) * binomial k t * n) (alternating-abs (k - t)) ∙ omega arith

scale-zero : (p w : ℕ) → scale p 0 w ≡ 1
unfolding falling
scale-zero p w = omega (arith, pow-zero w)

scale_one : (p w : ℕ) → scale p 1 w ≡ p * w
unfolding falling
scale_one p w = ap₂ ◌*◌ (let z : 1 * (p - 0) ≡ p = omega arith in z) (pow-suc w 0 ∙ ap (λ n. n * w) (pow-zero w) ∙ ℕ-one-mul w)

-- Order 0: two entries, each 1 or -1.
pub conditions-zero : (s : Space) (j : ℕ) → conditions s j 0 ≡ divided (common_divisor (undivided s j 0)) (left_entry s j 0 0) ∷ divided (common_divisor (undivided s j 0)) (right_entry s j 0 0) ∷ []
unfolding conditions undivided tab
conditions-zero s j = refl

pub conditions_one : (s : Space) (j : ℕ) → conditions s j 1 ≡ divided (common_divisor (undivided s j 1)) (left_entry s j 1 0) ∷ divided (common_divisor (undivided s j 1)) (left_entry s j 1 1)
    ∷ divided (common_divisor (undivided s j 1)) (right_entry s j 1 0) ∷ divided (common_divisor (undivided s j 1)) (right_entry s j 1 1) ∷ []
unfolding conditions undivided tab
conditions_one s j = refl

pub left-zero : (g : ℕ) (s : Space) (j : ℕ) → nat_abs (divided g (left_entry s j 0 0)).condition ≤ 1
unfolding binomial
left-zero g s j = omega (arith, divided-size g (left_entry s j 0 0), left-size s j 0 0, scale-zero (degree s j) (width s (suc j)))

pub right_zero : (g : ℕ) (s : Space) (j : ℕ) → nat_abs (divided g (right_entry s j 0 0)).condition ≤ 1
unfolding binomial
right_zero g s j = omega (arith, divided-size g (right_entry s j 0 0), right-size s j 0 0, scale-zero (degree s (suc j)) (width s j))

-- Order 1: a degree times the other side's length.
pub left_one : (g : ℕ) (s : Space) (j t : ℕ) → t ≤ 1 → nat_abs (divided g (left_entry s j 1 t)).condition ≤ degree s j * width s (suc j)
unfolding binomial
left_one g s j zero h = omega (arith, divided-size g (left_entry s j 1 0), left-size s j 1 0, scale_one (degree s j) (width s (suc j)))
left_one g s j (suc zero) h = omega (arith, divided-size g (left_entry s j 1 1), left-size s j 1 1, scale_one (degree s j) (width s (suc j)))
left_one g s j (suc (suc t)) h = absurd (omega arith)

pub right_one : (g : ℕ) (s : Space) (j t : ℕ) → t ≤ 1 → nat_abs (divided g (right_entry s j 1 t)).condition ≤ degree s (suc j) * width s j
unfolding binomial
right_one g s j zero h = omega (arith, divided-size g (right_entry s j 1 0), right-size s j 1 0, scale_one (degree s (suc j)) (width s j))
right_one g s j (suc zero) h = omega (arith, divided-size g (right_entry s j 1 1), right-size s j 1 1, scale_one (degree s (suc j)) (width s j))
right_one g s j (suc (suc t)) h = absurd (omega arith)
