-- What holds of each of the 256 bytes by computation.
use mathlib.Core.Path.{◌≡◌, refl}
use mathlib.Core.Bool.{Bool, true, cond, ◌&&◌}
use Prim.Native.Nat.{ℕ, zero, suc, ◌<◌}
use native.Mathlib.Omega.{arith}
use borrow.Author.Tests.{eqb-true}
use lib.Dec.{eqb, ltb}
use Rattle.base_exact.proofs.Decide.{and-true, below_suc}
use Rattle.spec_tucson.specs.StrictLine.{follow_of}

-- the test holds below n
abbrev all_below : ℕ → (ℕ → Bool) → Bool
all_below zero f = true
all_below (suc n) f = all_below n f && f n

below : (n : ℕ) (f : ℕ → Bool) → all_below n f ≡ true → (k : ℕ) → k < n → f k ≡ true
below zero f e k h = absurd (omega arith)
below (suc n) f e k h = let both = and-true (all_below n f) (f n) e in below_suc (λ i. f i ≡ true) (below n f both.0) both.1 k h

-- how many bytes follow
abbrev pub count_by : ℕ → ℕ
count_by c = cond (ltb c 194) 0 (cond (ltb c 224) 1 (cond (ltb c 240) 2 (cond (ltb c 245) 3 0)))

counts : all_below 256 (λ c. eqb (follow_of c).count (count_by c)) ≡ true
unfolding follow_of
counts = refl

pub count_is : (c : ℕ) → c < 256 → (follow_of c).count ≡ count_by c
count_is c h = eqb-true (follow_of c).count (count_by c) (below 256 (λ c. eqb (follow_of c).count (count_by c)) counts c h)

-- the bounds of the first of them
abbrev pub low_by : ℕ → ℕ
low_by c = cond (ltb c 194) 0 (cond (ltb 244 c) 0 (cond (eqb c 224) 160 (cond (eqb c 240) 144 128)))

lows : all_below 256 (λ c. eqb (follow_of c).low (low_by c)) ≡ true
unfolding follow_of
lows = refl

pub low_is : (c : ℕ) → c < 256 → (follow_of c).low ≡ low_by c
low_is c h = eqb-true (follow_of c).low (low_by c) (below 256 (λ c. eqb (follow_of c).low (low_by c)) lows c h)

abbrev pub high_by : ℕ → ℕ
high_by c = cond (ltb c 194) 0 (cond (ltb 244 c) 0 (cond (eqb c 237) 159 (cond (eqb c 244) 143 191)))

highs : all_below 256 (λ c. eqb (follow_of c).high (high_by c)) ≡ true
unfolding follow_of
highs = refl

pub high_is : (c : ℕ) → c < 256 → (follow_of c).high ≡ high_by c
high_is c h = eqb-true (follow_of c).high (high_by c) (below 256 (λ c. eqb (follow_of c).high (high_by c)) highs c h)
