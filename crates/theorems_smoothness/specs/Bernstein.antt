-- The Bernstein polynomials of a piece and the polynomial with given Bernstein ordinates, in the ring count x measured from
-- the piece's start. They are products and sums of polynomials in the sense of Polynomial, for any length and degree.
use Rattle.std.specs.Prelude.{[], ◌∷◌, ℕ, suc, ◌-◌, pos}
use Rattle.base_exact.specs.Rational.{ℚ, int, inv, -ᵠ◌}
use Rattle.spec_spline.specs.Conditions.{binomial}
use Rattle.theorems_smoothness.specs.Polynomial.{Polynomial, ◌*ᵖ◌, ◌·ᵖ◌, power, total}

-- x / h.
abbrev pub passed : ℕ → Polynomial
passed h = int (pos 0) ∷ inv (int (pos h)) ∷ []

-- 1 - x / h.
abbrev pub ahead : ℕ → Polynomial
ahead h = int (pos 1) ∷ -ᵠ inv (int (pos h)) ∷ []

-- C(p, t) (x / h)^t (1 - x / h)^(p - t).
unfoldable pub bernstein_polynomial : ℕ → ℕ → ℕ → Polynomial
bernstein_polynomial h p t = int (pos (binomial p t)) ·ᵖ (power (passed h) t *ᵖ power (ahead h) (p - t))

-- The polynomial with the ordinates o 0, .., o p on a piece of length h: their sum over t = 0 to p, ordinate t times polynomial t.
unfoldable pub bernstein_form : ℕ → ℕ → (ℕ → ℚ) → Polynomial
bernstein_form h p o = total (suc p) (λ t. o t ·ᵖ bernstein_polynomial h p t)
