-- Polynomials in one variable over the rational numbers, with their value at a point and their formal derivative, as any
-- textbook has them. Nothing here knows of splines. Zeros at the end of a list change no coefficient and no value.
use Rattle.std.specs.Prelude.{◌≡◌, List, [], ◌∷◌, map, ℕ, zero, suc, ◌-◌, pos, length, get_or}
use Rattle.base_exact.specs.Rational.{ℚ, int, ◌+ᵠ◌, ◌*ᵠ◌}
use Rattle.base_exact.specs.Tabulate.{tab}

-- The coefficients, the constant first.
abbrev pub Polynomial : Type 0
Polynomial = List ℚ

-- The coefficient of x^i: 0 past the end of the list.
abbrev pub coefficient : Polynomial → ℕ → ℚ
coefficient p i = get_or p i (int (pos 0))

-- The value at x, by Horner's rule: c0 + x (c1 + x (c2 + ..)).
unfoldable pub value : Polynomial → ℚ → ℚ
value [] x = int (pos 0)
value (c ∷ p) x = c +ᵠ x *ᵠ value p x

infixl 65 ◌+ᵖ◌
infixl 70 ◌*ᵖ◌ ◌·ᵖ◌
-- The sum, coefficient by coefficient.
unfoldable pub ◌+ᵖ◌ : Polynomial → Polynomial → Polynomial
[] +ᵖ q = q
(a ∷ p) +ᵖ [] = a ∷ p
(a ∷ p) +ᵖ (b ∷ q) = (a +ᵠ b) ∷ (p +ᵖ q)

-- A number times a polynomial.
unfoldable pub ◌·ᵖ◌ : ℚ → Polynomial → Polynomial
c ·ᵖ p = map (λ a. c *ᵠ a) p

-- The product: (a + x p) q = a q + x (p q).
unfoldable pub ◌*ᵖ◌ : Polynomial → Polynomial → Polynomial
[] *ᵖ q = []
(a ∷ p) *ᵖ q = a ·ᵖ q +ᵖ (int (pos 0) ∷ (p *ᵖ q))

-- p to the power n.
unfoldable pub power : Polynomial → ℕ → Polynomial
power p zero = int (pos 1) ∷ []
power p (suc n) = p *ᵖ power p n

-- f 0 + f 1 + .. + f (n - 1).
unfoldable pub total : ℕ → (ℕ → Polynomial) → Polynomial
total zero f = []
total (suc n) f = total n f +ᵖ f n

-- The formal derivative: the coefficient of x^i is i + 1 times that of x^(i+1) before.
unfoldable pub derivative : Polynomial → Polynomial
derivative p = tab (length p - 1) (λ i. int (pos (suc i)) *ᵠ coefficient p (suc i))

-- The k-th derivative.
unfoldable pub iterated : ℕ → Polynomial → Polynomial
iterated zero p = p
iterated (suc k) p = derivative (iterated k p)

-- The derivative is the slope: p(x + e) = p(x) + e p'(x) + e^2 r(e) for a polynomial r.
abbrev pub DerivativeIsSlope : Type 0
DerivativeIsSlope = (p : Polynomial) (x : ℚ) → (r : Polynomial)
    × ((e : ℚ) → value p (x +ᵠ e) ≡ value p x +ᵠ e *ᵠ value (derivative p) x +ᵠ e *ᵠ e *ᵠ value r e)
