-- The rational numbers: "A fraction is in lowest terms with a positive denominator" (§ 2). Equal numbers are equal records, so
-- `≡` is equality of numbers, and the two parts are those that a machine fraction holds. Every operation computes.
-- The few lemmas are those that `mk` needs to show its lowest terms; the laws are in proofs/Rational.
use Rattle.std.specs.Prelude.{◌≡◌, refl, ℕ, zero, suc, pred, ◌*◌, ◌/◌, ◌<◌, T, eqb, ℤ, pos, negsuc, ◌+ℤ◌, ◌*ℤ◌, neg_ℤ, nat_abs}
use Rattle.std.proofs.Common.{arith}
use Rattle.std.proofs.Math.Nat.{suc-pred-eq_of_pos}
use Rattle.std.proofs.Math.Dec.{eqb_refl}
use Rattle.base_exact.specs.Gcd.{gcd}
use Rattle.base_exact.specs.Lowest.{reduced}

-- num / (dm + 1); that it is in lowest terms is a test that computes
pub record ℚ : Type 0 where
  pub num : ℤ
  pub dm : ℕ
  pub low : T (eqb (gcd (nat_abs num) (suc dm)) 1)

-- the denominator
abbrev pub den : ℚ → ℕ
den q = suc q.dm

-- m with the sign of z
abbrev pub signed : ℤ → ℕ → ℤ
signed (pos a) m = pos m
signed (negsuc a) m = neg_ℤ (pos m)

-- lowest terms of what `mk` makes
pub signed-abs : (z : ℤ) (m : ℕ) → nat_abs (signed z m) ≡ m
signed-abs (pos a) m = refl
signed-abs (negsuc a) zero = refl
signed-abs (negsuc a) (suc m) = refl

low_by : (n : ℤ) (d : ℕ) → gcd (nat_abs n) d ≡ 1 → 0 < d → T (eqb (gcd (nat_abs n) (suc (pred d))) 1)
low_by n d e h = rw (suc-pred-eq_of_pos h, e) (eqb_refl 1)

pub mk_low : (n : ℤ) (d : ℕ) → 0 < d → T (eqb (gcd (nat_abs (signed n (nat_abs n / gcd (nat_abs n) d))) (suc (pred (d / gcd (nat_abs n) d)))) 1)
mk_low n d h = low_by (signed n (nat_abs n / gcd (nat_abs n) d)) (d / gcd (nat_abs n) d)
    (rw (signed-abs n (nat_abs n / gcd (nat_abs n) d)) (reduced (nat_abs n) d h).one) (reduced (nat_abs n) d h).bot_pos

-- n / d in lowest terms
unfoldable pub mk : (n : ℤ) (d : ℕ) → 0 < d → ℚ
mk n d h = let g = gcd (nat_abs n) d in record { num = signed n (nat_abs n / g); dm = pred (d / g); low = mk_low n d h }

-- the denominators below are positive
pub suc_pos : (n : ℕ) → 0 < suc n
suc_pos n = omega arith

pub den_pos : (p q : ℚ) → 0 < den p * den q
den_pos p q = omega arith

-- an integer as a rational number
unfoldable pub int : ℤ → ℚ
int z = mk z 1 (suc_pos 0)

infixl 65 ◌+ᵠ◌ ◌-ᵠ◌
infixl 70 ◌*ᵠ◌ ◌/ᵠ◌
infixr 75 -ᵠ◌
infix 72 ◌//◌
unfoldable pub ◌+ᵠ◌ : ℚ → ℚ → ℚ
p +ᵠ q = mk (p.num *ℤ pos (den q) +ℤ q.num *ℤ pos (den p)) (den p * den q) (den_pos p q)

unfoldable pub ◌*ᵠ◌ : ℚ → ℚ → ℚ
p *ᵠ q = mk (p.num *ℤ q.num) (den p * den q) (den_pos p q)

unfoldable pub -ᵠ◌ : ℚ → ℚ
-ᵠ q = mk (neg_ℤ q.num) (den q) (suc_pos q.dm)

abbrev pub ◌-ᵠ◌ : ℚ → ℚ → ℚ
p -ᵠ q = p +ᵠ (-ᵠ q)

-- d / z; 0 at z = 0
abbrev pub inv_z : ℤ → ℕ → ℚ
inv_z (pos zero) d = int (pos 0)
inv_z (pos (suc a)) d = mk (pos d) (suc a) (suc_pos a)
inv_z (negsuc a) d = mk (neg_ℤ (pos d)) (suc a) (suc_pos a)

-- 1 / q; 0 at q = 0
unfoldable pub inv : ℚ → ℚ
inv q = inv_z q.num (den q)

abbrev pub ◌/ᵠ◌ : ℚ → ℚ → ℚ
p /ᵠ q = p *ᵠ inv q

-- n // d is n / (d + 1), for literals
unfoldable pub ◌//◌ : ℤ → ℕ → ℚ
n // d = mk n (suc d) (suc_pos d)
