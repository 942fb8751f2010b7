-- What `ratio`, `value` and `fraction` mean: laws that turn a machine pair into the fraction that it stands for, and each
-- operation on pairs into the operation on fractions.
use mathlib.Core.Path.{◌≡◌, refl, sym, ap, subst, ◌∙◌}
use mathlib.Core.Logic.{◌≢◌}
use mathlib.Core.List.{[], ◌∷◌}
use Prim.Native.Nat.{ℕ, zero, suc, ◌*◌, ◌/◌}
use native.Mathlib.Omega.{arith}
use lib.IntN.{ℤ, pos, negsuc, nat_abs, zero-*ℤ, ◌+ℤ◌, ◌-ℤ◌, ◌*ℤ◌}
use lib.Signed.{quot_z, ◌<ℤ◌}
use Rattle.base_exact.specs.Gcd.{gcd}
use Rattle.base_exact.specs.Rational.{ℚ, den, signed, int, ◌+ᵠ◌, -ᵠ◌, ◌-ᵠ◌, ◌*ᵠ◌, ◌/ᵠ◌, suc_pos}
use Rattle.base_exact.proofs.Ring.{ring}
use Rattle.base_exact.proofs.Integer.{ℤ-ring, readsℤ, *_one, <_in, *_pos_<}
use Rattle.base_exact.proofs.Word.{zero_sub}
use Rattle.base_exact.proofs.Rational.{◌is◌over◌, self, mk_is, mk_num, mk-den, is_unique, is_int, is_add, is_mul, is_opp, int_num, int-den, neg_is, div_unique}
use Rattle.base_fraction.specs.Machine.{fraction, ratio, value}
use Rattle.base_fraction.specs.declared.Fraction.{Fraction}

-- n over d stands for the fraction n / d
pub ratio_is : (n d : ℤ) → pos 0 <ℤ d → ratio n d is n over nat_abs d
unfolding ratio
ratio_is n (pos zero) h = absurd h.lt
ratio_is n (pos (suc d)) h = mk_is n (suc d) (suc_pos d)
ratio_is n (negsuc d) h = absurd h.lt

-- ---- there and back

pub den_positive : (q : ℚ) → pos 0 <ℤ (fraction q).den
unfolding fraction
den_positive q = <_in (pos 0) (pos (den q)) (omega arith)

-- a machine fraction and the fraction that it stands for
pub value-fraction : (q : ℚ) → value (fraction q) ≡ q
unfolding value fraction
value-fraction q = is_unique (ratio_is q.num (pos (den q)) (den_positive q)) (self q) refl

pub fraction-int : (z : ℤ) → fraction (int z) ≡ record { num = z; den = pos 1 }
unfolding fraction
fraction-int z = λ i. record { num = int_num z i; den = pos (int-den z i) }

pub value-int : (z : ℤ) → value (record { num = z; den = pos 1 }) ≡ int z
value-int z = ap value (sym (fraction-int z)) ∙ value-fraction (int z)

-- ---- lowest terms: both parts divided by their greatest common divisor

quot_signed : (n : ℤ) (g : ℕ) → quot_z n (pos g) ≡ signed n (nat_abs n / g)
quot_signed (pos n) g = refl
quot_signed (negsuc n) g = refl

pub fraction-ratio : (n d : ℤ) (g : ℕ) → pos 0 <ℤ d → g ≡ gcd (nat_abs n) (nat_abs d) → record { num = quot_z n (pos g); den = quot_z d (pos g) } ≡ fraction (ratio n d)
unfolding fraction ratio
fraction-ratio n d g h e = ap (λ (t : ℕ). record { num = quot_z n (pos t); den = quot_z d (pos t) }) e ∙ at n d h
  where
    at : (n d : ℤ) → pos 0 <ℤ d → record { num = quot_z n (pos (gcd (nat_abs n) (nat_abs d))); den = quot_z d (pos (gcd (nat_abs n) (nat_abs d))) } ≡ fraction (ratio n d)
    at n (pos zero) h = absurd h.lt
    at n (pos (suc d)) h = λ i. record {
      num = (quot_signed n (gcd (nat_abs n) (suc d)) ∙ sym (mk_num n (suc d) (suc_pos d))) i;
      den = pos (sym (mk-den n (suc d) (suc_pos d)) i);
    }
    at n (negsuc d) h = absurd h.lt

-- ---- the operations, part by part

pub ratio_mul : (a b c d : ℤ) → pos 0 <ℤ b → pos 0 <ℤ d → ratio (a *ℤ c) (b *ℤ d) ≡ ratio a b *ᵠ ratio c d
ratio_mul a (pos b) c (pos d) h k = is_unique (ratio_is (a *ℤ c) (pos (b * d)) (*_pos_< (pos b) (pos d) h k)) (is_mul (ratio_is a (pos b) h) (ratio_is c (pos d) k)) refl
ratio_mul a (pos b) c (negsuc d) h k = absurd k.lt
ratio_mul a (negsuc b) c d h k = absurd h.lt

pub ratio-add : (a b c d : ℤ) → pos 0 <ℤ b → pos 0 <ℤ d → ratio (a *ℤ d +ℤ c *ℤ b) (b *ℤ d) ≡ ratio a b +ᵠ ratio c d
ratio-add a (pos b) c (pos d) h k = is_unique (ratio_is (a *ℤ pos d +ℤ c *ℤ pos b) (pos (b * d)) (*_pos_< (pos b) (pos d) h k)) (is_add (ratio_is a (pos b) h) (ratio_is c (pos d) k)) refl
ratio-add a (pos b) c (negsuc d) h k = absurd k.lt
ratio-add a (negsuc b) c d h k = absurd h.lt

pub ratio_one_minus : (a b : ℤ) → pos 0 <ℤ b → ratio (b -ℤ a) b ≡ int (pos 1) -ᵠ ratio a b
ratio_one_minus a (pos b) h =
    is_unique (ratio_is (pos b -ℤ a) (pos b) h) (is_add (is_int (pos 1)) (is_mul (is_int (negsuc 0)) (ratio_is a (pos b) h))) (alg a (pos b))
    ∙ ap (λ t. int (pos 1) +ᵠ t) (sym (neg_is (ratio a (pos b))))
  where
    alg : (a b : ℤ) → (b -ℤ a) *ℤ (pos 1 *ℤ (pos 1 *ℤ b)) ≡ (pos 1 *ℤ (pos 1 *ℤ b) +ℤ negsuc 0 *ℤ a *ℤ pos 1) *ℤ b
    alg a b = ring ℤ-ring (a ∷ b ∷ []) (search readsℤ depth 20) (search readsℤ depth 20) refl
ratio_one_minus a (negsuc b) h = absurd h.lt

pub ratio_neg : (a b : ℤ) → pos 0 <ℤ b → ratio (pos 0 -ℤ a) b ≡ -ᵠ ratio a b
ratio_neg a b h = is_unique (ratio_is (pos 0 -ℤ a) b h) (is_opp (ratio_is a b h)) (ap (λ z. z *ℤ pos (nat_abs b)) (zero_sub a))

-- a numerator that is not zero makes no zero
ratio-zero : (n d : ℤ) → pos 0 <ℤ d → ratio n d ≡ int (pos 0) → n ≡ pos 0
ratio-zero n d h e =
    let z = subst (λ (q : ℚ). q is n over nat_abs d) e (ratio_is n d h) in
    sym (*_one n) ∙ ap (λ (k : ℕ). n *ℤ pos k) (sym (int-den (pos 0))) ∙ sym z.cross ∙ ap (λ (k : ℤ). k *ℤ pos (nat_abs d)) (int_num (pos 0)) ∙ zero-*ℤ (pos (nat_abs d))

-- and a numerator of zero does
pub value-zero : (f : Fraction) → pos 0 <ℤ f.den → f.num ≡ pos 0 → value f ≡ int (pos 0)
unfolding value
value-zero f h e = is_unique (ratio_is f.num f.den h) (is_int (pos 0)) (*_one f.num ∙ e ∙ sym (zero-*ℤ (pos (nat_abs f.den))))

-- n / m is the quotient of a / b by c / d where n c b = a m d
ratio_div : (a b c d n m : ℤ) → pos 0 <ℤ b → pos 0 <ℤ d → c ≢ pos 0 → pos 0 <ℤ m → n *ℤ c *ℤ b ≡ a *ℤ (m *ℤ d) → ratio n m ≡ ratio a b /ᵠ ratio c d
ratio_div a (pos b) c (pos d) n (pos m) hb hd hc hm e =
    div_unique (λ z. hc (ratio-zero c (pos d) hd z)) (is_unique (is_mul (ratio_is n (pos m) hm) (ratio_is c (pos d) hd)) (ratio_is a (pos b) hb) e)
ratio_div a (pos b) c (pos d) n (negsuc m) hb hd hc hm e = absurd hm.lt
ratio_div a (pos b) c (negsuc d) n m hb hd hc hm e = absurd hd.lt
ratio_div a (negsuc b) c d n m hb hd hc hm e = absurd hb.lt

-- the quotient crosswise, and with both signs turned where the new denominator is below zero
module _ (a b c d : ℤ) (hb : pos 0 <ℤ b) (hd : pos 0 <ℤ d) (hc : c ≢ pos 0) where
  pub ratio_div_above : pos 0 <ℤ (b *ℤ c) → ratio (a *ℤ d) (b *ℤ c) ≡ ratio a b /ᵠ ratio c d
  ratio_div_above h = ratio_div a b c d (a *ℤ d) (b *ℤ c) hb hd hc h (ring ℤ-ring (a ∷ b ∷ c ∷ d ∷ []) (search readsℤ depth 20) (search readsℤ depth 20) refl)

  pub ratio_div_below : pos 0 <ℤ (pos 0 -ℤ b *ℤ c) → ratio (pos 0 -ℤ a *ℤ d) (pos 0 -ℤ b *ℤ c) ≡ ratio a b /ᵠ ratio c d
  ratio_div_below h = ratio_div a b c d (pos 0 -ℤ a *ℤ d) (pos 0 -ℤ b *ℤ c) hb hd hc h (ring ℤ-ring (a ∷ b ∷ c ∷ d ∷ []) (search readsℤ depth 20) (search readsℤ depth 20) refl)
