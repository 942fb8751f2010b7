-- What a column's ordinate does where its coefficients move up by at most so much: its terms, their sum within the two limits.
use mathlib.Core.Path.{◌≡◌, refl, sym, ◌∙◌, ap, ap₂, subst}
use mathlib.Core.Bool.{Bool, true, false, cond}
use mathlib.Core.List.{[], ◌∷◌}
use mathlib.Core.Option.{some}
use Prim.Native.Nat.{ℕ, zero, suc, ◌+◌, ◌-◌, ◌<◌}
use native.Mathlib.Omega.{arith}
use lib.IntN.{ℤ, pos, negsuc, neg_ℤ, ◌+ℤ◌, ◌-ℤ◌, ◌*ℤ◌, +ℤ_idr}
use lib.ListN.{length}
use lib.Signed.{le_z, lt_z, ◌≤ℤ◌, ◌<ℤ◌}
use Rattle.base_exact.specs.Rational.{ℚ, den, int, ◌+ᵠ◌, ◌*ᵠ◌}
use Rattle.base_exact.specs.Order.{◌≤ᵠ◌, ◌<ᵠ◌, Nn}
use Rattle.base_exact.specs.Sum.{sum}
use Rattle.base_exact.specs.Floor.{nearest}
use Rattle.base_exact.proofs.Decide.{cond_true, cond_false}
use Rattle.base_exact.proofs.Floor.{nearest_error}
use Rattle.base_exact.proofs.Integer as Z
use Rattle.base_exact.proofs.Integer.{ℤ-ring, readsℤ}
use Rattle.base_exact.proofs.Ring.{ring}
use Rattle.base_exact.proofs.Rational.{ℚ-ring, readsℚ, self, is_mul_int, int_mul, int-add, mul-one, add-zero}
use Rattle.base_exact.proofs.Order.{≤-refl, ≤-<_trans, <-≤, +_mono_<, *_cancel_<, nn_int, int_cancel_<, int_mono, int_mono_<}
use Rattle.base_exact.proofs.Word.{lt_z_true, lt_z_false}
use Rattle.base_outcome.specs.Search.{how_many}
use Rattle.spec_spline.specs.Table.{Table, cell}
use Rattle.spec_spline.specs.Reading.{fine, rounded, has_weight, term, term_sum, at_least, at_most, ordinate}
use Rattle.theorems_values.proofs.Fine.{fine_mono}
use Rattle.theorems_values.proofs.Extremum.{Extreme, least_exists, greatest_exists, least_le, le_greatest}
use Rattle.theorems_values.proofs.Weights.{Column, no_weight-zero, Passing, how_many_some, some_weight}
use Rattle.theorems_promises.proofs.Directions.{climbing}

-- ---- one term

mono_right : (n x y : ℤ) → pos 0 ≤ℤ n → x ≤ℤ y → (x *ℤ n) ≤ℤ (y *ℤ n)
mono_right (pos n) x y h l = Z.*_mono x y n l
mono_right (negsuc n) x y h l = absurd h.le

-- it does not fall where its coefficient does not
pub term_mono : (w : ℚ) → Nn w → (x y : ℤ) → x ≤ℤ y → term w x ≤ℤ term w y
unfolding term
term_mono w n x y h = climbing.rounds (fine x *ℤ w.num) (fine y *ℤ w.num) (den w) (omega arith)
    (mono_right w.num (fine x) (fine y) (Z.non_neg_le w.num n.nn) (fine_mono x y h))

-- two roundings err by less than one against each other
gap : (z z' p p' : ℤ) (d : ℕ) → (pos 2 *ℤ (z -ℤ p)) <ℤ pos d → neg_ℤ (pos d) ≤ℤ (pos 2 *ℤ (z' -ℤ p')) → p' <ℤ (p +ℤ (z' -ℤ z) +ℤ pos d)
gap z z' p p' d a b =
    Z.<_in p' (p +ℤ (z' -ℤ z) +ℤ pos d) (omega (
      arith,
      Z.<_out _ _ a,
      Z.≤_out _ _ b,
      Z.bal_neg (pos d),
      Z.bal_* (pos 2) (z -ℤ p),
      Z.bal_* (pos 2) (z' -ℤ p'),
      Z.bal_+ z (neg_ℤ p),
      Z.bal_neg p,
      Z.bal_+ z' (neg_ℤ p'),
      Z.bal_neg p',
      Z.bal_+ z' (neg_ℤ z),
      Z.bal_neg z,
      Z.bal_+ p (z' -ℤ z),
      Z.bal_+ (p +ℤ (z' -ℤ z)) (pos d),
    ))

rounded-gap : (z z' : ℤ) (d : ℕ) → 0 < d → (rounded z' d *ℤ pos d) <ℤ (rounded z d *ℤ pos d +ℤ (z' -ℤ z) +ℤ pos d)
unfolding rounded
rounded-gap z z' d h = gap z z' (nearest z d *ℤ pos d) (nearest z' d *ℤ pos d) d (nearest_error z d h).1 (nearest_error z' d h).0

-- so a term moves by less than one more than 256 times the move times the weight
term_moves : (w : ℚ) (x d : ℤ) → int (term w (x +ℤ d)) <ᵠ int (term w x) +ᵠ (int (fine d) *ᵠ w +ᵠ int (pos 1))
unfolding term
term_moves w x d = *_cancel_< (nn_int (den w))
    (subst (λ l. l <ᵠ (int q +ᵠ (int (fine d) *ᵠ w +ᵠ int (pos 1))) *ᵠ int (pos (den w))) (int_mul q' (pos (den w)))
    (subst (λ r. int (q' *ℤ pos (den w)) <ᵠ r) right (int_mono_< (rounded-gap (fine x *ℤ w.num) (fine (x +ℤ d) *ℤ w.num) (den w) (omega arith)))))
  where
    q : ℤ
    q = rounded (fine x *ℤ w.num) (den w)

    q' : ℤ
    q' = rounded (fine (x +ℤ d) *ℤ w.num) (den w)

    moved : (f x d n : ℤ) → f *ℤ (x +ℤ d) *ℤ n -ℤ f *ℤ x *ℤ n ≡ f *ℤ d *ℤ n
    moved f x d n = ring ℤ-ring (f ∷ x ∷ d ∷ n ∷ []) (search readsℤ depth 20) (search readsℤ depth 20) refl

    times : (q f w D n : ℚ) → w *ᵠ D ≡ n → q *ᵠ D +ᵠ f *ᵠ n +ᵠ D ≡ (q +ᵠ (f *ᵠ w +ᵠ int (pos 1))) *ᵠ D
    times q f w D n e = rw (← e) (ring ℚ-ring (q ∷ f ∷ w ∷ D ∷ []) (search readsℚ depth 30) (search readsℚ depth 30) refl)

    right : int (q *ℤ pos (den w) +ℤ (fine (x +ℤ d) *ℤ w.num -ℤ fine x *ℤ w.num) +ℤ pos (den w)) ≡ (int q +ᵠ (int (fine d) *ᵠ w +ᵠ int (pos 1))) *ᵠ int (pos (den w))
    right =
        ap (λ z. int (q *ℤ pos (den w) +ℤ z +ℤ pos (den w))) (moved (pos 256) x d w.num)
        ∙ int-add (q *ℤ pos (den w) +ℤ fine d *ℤ w.num) (pos (den w))
        ∙ ap (λ z. z +ᵠ int (pos (den w))) (int-add (q *ℤ pos (den w)) (fine d *ℤ w.num) ∙ ap₂ ◌+ᵠ◌ (int_mul q (pos (den w))) (int_mul (fine d) w.num))
        ∙ times (int q) (int (fine d)) w (int (pos (den w))) (int w.num) (is_mul_int (self w))

-- ---- the sum of the terms

module _ (t : Table) (c : ℕ) (C : Column t c) (f g : ℕ → ℤ) where
  -- where no coefficient with weight is lower
  pub sum-raised : (n : ℕ) → ((i : ℕ) → i < n → has_weight t c i ≡ true → f i ≤ℤ g i) → term_sum t f c n ≤ℤ term_sum t g c n
  unfolding term_sum
  sum-raised zero h = Z.≤-refl (pos 0)
  sum-raised (suc n) h = Z.+_mono _ _ _ _ (sum-raised n (λ i l w. h i (omega arith) w)) (go (has_weight t c n) refl)
    where
      go : (b : Bool) → has_weight t c n ≡ b → cond b (term (cell t n c) (f n)) (pos 0) ≤ℤ cond b (term (cell t n c) (g n)) (pos 0)
      go true e = term_mono (cell t n c) (C.not_negative n) (f n) (g n) (h n (omega arith) e)
      go false e = Z.≤-refl (pos 0)

  -- a row more
  sum-takes : (a : ℕ → ℤ) (n : ℕ) → has_weight t c n ≡ true → term_sum t a c (suc n) ≡ term_sum t a c n +ℤ term (cell t n c) (a n)
  unfolding term_sum
  sum-takes a n e = ap (λ z. term_sum t a c n +ℤ z) (cond_true (term (cell t n c) (a n)) (pos 0) e)

  sum-skips : (a : ℕ → ℤ) (n : ℕ) → has_weight t c n ≡ false → term_sum t a c (suc n) ≡ term_sum t a c n
  unfolding term_sum
  sum-skips a n e = ap (λ z. term_sum t a c n +ℤ z) (cond_false (term (cell t n c) (a n)) (pos 0) e) ∙ +ℤ_idr (term_sum t a c n)

  count-takes : (n : ℕ) → has_weight t c n ≡ true → how_many (suc n) (has_weight t c) ≡ how_many n (has_weight t c) + 1
  unfolding how_many
  count-takes n e = ap (λ k. how_many n (has_weight t c) + k) (cond_true 1 0 e)

  count-skips : (n : ℕ) → has_weight t c n ≡ false → how_many (suc n) (has_weight t c) ≡ how_many n (has_weight t c)
  unfolding how_many
  count-skips n e = ap (λ k. how_many n (has_weight t c) + k) (cond_false 1 0 e) ∙ (let z : how_many n (has_weight t c) + 0 ≡ how_many n (has_weight t c) = omega arith in z)

  -- where they are at most d higher
  module _ (d : ℤ) where
    abbrev allowed : ℕ → ℚ
    allowed n = int (term_sum t f c n) +ᵠ (int (fine d) *ᵠ sum n (λ i. cell t i c) +ᵠ int (pos (how_many n (has_weight t c))))

    record Moved (n : ℕ) : Type 0 where
      at-most : int (term_sum t g c n) ≤ᵠ allowed n
      less : 0 < how_many n (has_weight t c) → int (term_sum t g c n) <ᵠ allowed n

    with_weight : (n : ℕ) → Moved n → has_weight t c n ≡ true → g n ≤ℤ (f n +ℤ d) → int (term_sum t g c (suc n)) <ᵠ allowed (suc n)
    unfolding sum
    with_weight n M e h =
        subst (λ l. l <ᵠ allowed (suc n)) (sym (int-add (term_sum t g c n) (term w (g n))) ∙ ap int (sym (sum-takes g n e)))
        (subst (λ r. int (term_sum t g c n) +ᵠ int (term w (g n)) <ᵠ r) right
        (joined _ (int (term_sum t f c n)) _ (int (term w (f n))) (int (fine d)) (sum n (λ i. cell t i c)) (int (pos (how_many n (has_weight t c)))) M.at-most
        (≤-<_trans (int_mono (term_mono w (C.not_negative n) (g n) (f n +ℤ d) h)) (term_moves w (f n) d))))
      where
        w : ℚ
        w = cell t n c

        joined : (a b x y e W m : ℚ) → a ≤ᵠ b +ᵠ (e *ᵠ W +ᵠ m) → x <ᵠ y +ᵠ (e *ᵠ w +ᵠ int (pos 1)) → a +ᵠ x <ᵠ b +ᵠ y +ᵠ (e *ᵠ (W +ᵠ w) +ᵠ (m +ᵠ int (pos 1)))
        joined a b x y e W m h l =
            subst (λ r. a +ᵠ x <ᵠ r) (ring ℚ-ring (b ∷ y ∷ e ∷ W ∷ w ∷ m ∷ []) (search readsℚ depth 30) (search readsℚ depth 30) refl)
            (subst (λ r. r <ᵠ y +ᵠ (e *ᵠ w +ᵠ int (pos 1)) +ᵠ (b +ᵠ (e *ᵠ W +ᵠ m))) (ring ℚ-ring (a ∷ x ∷ []) (search readsℚ depth 20) (search readsℚ depth 20) refl) (+_mono_< l h))

        right : int (term_sum t f c n) +ᵠ int (term w (f n)) +ᵠ (int (fine d) *ᵠ (sum n (λ i. cell t i c) +ᵠ w) +ᵠ (int (pos (how_many n (has_weight t c))) +ᵠ int (pos 1))) ≡ allowed (suc n)
        right = ap₂ (λ x y. x +ᵠ (int (fine d) *ᵠ (sum n (λ i. cell t i c) +ᵠ w) +ᵠ y)) (sym (int-add (term_sum t f c n) (term w (f n))) ∙ ap int (sym (sum-takes f n e)))
            (sym (int-add (pos (how_many n (has_weight t c))) (pos 1)) ∙ ap (λ k. int (pos k)) (sym (count-takes n e)))

    without : (n : ℕ) → has_weight t c n ≡ false → (int (term_sum t g c n) ≡ int (term_sum t g c (suc n))) × (allowed n ≡ allowed (suc n))
    unfolding sum
    without n e = (ap int (sym (sum-skips g n e)), ap₂ (λ x y. x +ᵠ y) (ap int (sym (sum-skips f n e))) (ap₂ (λ x k. int (fine d) *ᵠ x +ᵠ int (pos k)) same (sym (count-skips n e))))
      where
        same : sum n (λ i. cell t i c) ≡ sum n (λ i. cell t i c) +ᵠ cell t n c
        same = sym (add-zero (sum n (λ i. cell t i c))) ∙ ap (λ q. sum n (λ i. cell t i c) +ᵠ q) (sym (no_weight-zero t c n e))

    sum_moves : (n : ℕ) → ((i : ℕ) → i < n → has_weight t c i ≡ true → g i ≤ℤ (f i +ℤ d)) → Moved n
    unfolding term_sum sum how_many
    sum_moves zero h = record { at-most = subst (λ q. int (pos 0) ≤ᵠ q) (none (int (fine d))) (≤-refl (int (pos 0))); less = λ l. absurd (omega arith) }
      where
        none : (e : ℚ) → int (pos 0) ≡ int (pos 0) +ᵠ (e *ᵠ int (pos 0) +ᵠ int (pos 0))
        none e = ring ℚ-ring (e ∷ []) (search readsℚ depth 20) (search readsℚ depth 20) refl
    sum_moves (suc n) h = go (sum_moves n (λ i l w. h i (omega arith) w)) (has_weight t c n) refl
      where
        go : Moved n → (b : Bool) → has_weight t c n ≡ b → Moved (suc n)
        go M true e = let l = with_weight n M e (h n (omega arith) e) in record { at-most = <-≤ l; less = λ k. l }
        go M false e = let q = without n e in record {
          at-most = subst (λ x. x ≤ᵠ allowed (suc n)) q.0 (subst (λ y. int (term_sum t g c n) ≤ᵠ y) q.1 M.at-most);
          less = λ k. subst (λ x. x <ᵠ allowed (suc n)) q.0 (subst (λ y. int (term_sum t g c n) <ᵠ y) q.1 (M.less (omega (arith, count-skips n e))));
        }

    -- over the whole column, whose weights sum to one
    pub column_moves : ((i : ℕ) → i < length t → has_weight t c i ≡ true → g i ≤ℤ (f i +ℤ d))
        → term_sum t g c (length t) ≤ℤ (term_sum t f c (length t) +ℤ (fine d +ℤ pos (how_many (length t) (has_weight t c) - 1)))
    column_moves h = below (term_sum t g c (length t)) (term_sum t f c (length t)) (fine d) (how_many (length t) (has_weight t c)) some
        (int_cancel_< _ _ (subst (λ r. int (term_sum t g c (length t)) <ᵠ r) whole ((sum_moves (length t) h).less some)))
      where
        some : 0 < how_many (length t) (has_weight t c)
        some = some_weight t c C

        whole : allowed (length t) ≡ int (term_sum t f c (length t) +ℤ (fine d +ℤ pos (how_many (length t) (has_weight t c))))
        whole =
            ap (λ q. int (term_sum t f c (length t)) +ᵠ (q +ᵠ int (pos (how_many (length t) (has_weight t c))))) (ap (λ q. int (fine d) *ᵠ q) C.sums_one ∙ mul-one (int (fine d)))
            ∙ ap (λ q. int (term_sum t f c (length t)) +ᵠ q) (sym (int-add (fine d) (pos (how_many (length t) (has_weight t c)))))
            ∙ sym (int-add (term_sum t f c (length t)) (fine d +ℤ pos (how_many (length t) (has_weight t c))))

        below : (x y e : ℤ) (m : ℕ) → 0 < m → x <ℤ (y +ℤ (e +ℤ pos m)) → x ≤ℤ (y +ℤ (e +ℤ pos (m - 1)))
        below x y e m h l =
            Z.≤_in x (y +ℤ (e +ℤ pos (m - 1))) (omega (arith, Z.<_out _ _ l, Z.bal_+ y (e +ℤ pos m), Z.bal_+ e (pos m), Z.bal_+ y (e +ℤ pos (m - 1)), Z.bal_+ e (pos (m - 1))))

-- ---- the limits

-- the greater of two numbers, and the lesser, as the limits take them
module _ (z b : ℤ) where
  over_first : z ≤ℤ cond (lt_z z b) b z
  over_first = go (lt_z z b) refl
    where
      go : (p : Bool) → lt_z z b ≡ p → z ≤ℤ cond p b z
      go true e = Z.<-≤ z b (lt_z_true z b e)
      go false e = Z.≤-refl z

  over-second : b ≤ℤ cond (lt_z z b) b z
  over-second = go (lt_z z b) refl
    where
      go : (p : Bool) → lt_z z b ≡ p → b ≤ℤ cond p b z
      go true e = Z.≤-refl b
      go false e = lt_z_false z b e

  over-least : (y : ℤ) → z ≤ℤ y → b ≤ℤ y → cond (lt_z z b) b z ≤ℤ y
  over-least y h l = go (lt_z z b)
    where
      go : (p : Bool) → cond p b z ≤ℤ y
      go true = l
      go false = h

  under_first : cond (lt_z b z) b z ≤ℤ z
  under_first = go (lt_z b z) refl
    where
      go : (p : Bool) → lt_z b z ≡ p → cond p b z ≤ℤ z
      go true e = Z.<-≤ b z (lt_z_true b z e)
      go false e = Z.≤-refl z

  under-second : cond (lt_z b z) b z ≤ℤ b
  under-second = go (lt_z b z) refl
    where
      go : (p : Bool) → lt_z b z ≡ p → cond p b z ≤ℤ b
      go true e = Z.≤-refl b
      go false e = lt_z_false b z e

  under-greatest : (y e : ℤ) → y ≤ℤ (z +ℤ e) → y ≤ℤ (b +ℤ e) → y ≤ℤ (cond (lt_z b z) b z +ℤ e)
  under-greatest y e h l = go (lt_z b z)
    where
      go : (p : Bool) → y ≤ℤ (cond p b z +ℤ e)
      go true = l
      go false = h

-- numbers that move by at most e stay within e between limits that do
limited_moves : (z low high z' low' high' e : ℤ) → z' ≤ℤ (z +ℤ e) → fine low' ≤ℤ (fine low +ℤ e) → fine high' ≤ℤ (fine high +ℤ e)
    → at_most (some high') (at_least (some low') z') ≤ℤ (at_most (some high) (at_least (some low) z) +ℤ e)
limited_moves z low high z' low' high' e h l k =
    under-greatest y (fine high) _ e
    (Z.≤_trans _ y' _ (under_first y' (fine high'))
    (over-least z' (fine low') (y +ℤ e)
    (Z.≤_trans z' (z +ℤ e) (y +ℤ e) h (Z.+_mono z y e e (over_first z (fine low)) (Z.≤-refl e)))
    (Z.≤_trans (fine low') (fine low +ℤ e) (y +ℤ e) l (Z.+_mono (fine low) y e e (over-second z (fine low)) (Z.≤-refl e)))))
    (Z.≤_trans _ (fine high') _ (under-second y' (fine high')) k)
  where
    y : ℤ
    y = at_least (some low) z

    y' : ℤ
    y' = at_least (some low') z'

-- ---- the ordinate

module _ (t : Table) (c : ℕ) (C : Column t c) where
  weighted : Passing (length t) (has_weight t c)
  weighted = how_many_some (length t) (has_weight t c) (some_weight t c C)

  low : (a : ℕ → ℤ) → Extreme le_z (has_weight t c) a (length t)
  low a = least_exists (has_weight t c) a (length t) weighted.index weighted.below weighted.passes

  high : (a : ℕ → ℤ) → Extreme (λ y z. le_z z y) (has_weight t c) a (length t)
  high a = greatest_exists (has_weight t c) a (length t) weighted.index weighted.below weighted.passes

  -- both limits are there
  ordinate_is : (a : ℕ → ℤ) → at_most (some (high a).value) (at_least (some (low a).value) (term_sum t a c (length t))) ≡ ordinate t a c
  unfolding ordinate
  ordinate_is a = ap₂ (λ h l. at_most h (at_least l (term_sum t a c (length t)))) (sym (high a).found) (sym (low a).found)

  module _ (f g : ℕ → ℤ) (d e : ℤ) (off : (i : ℕ) → i < length t → has_weight t c i ≡ true → g i ≤ℤ (f i +ℤ d)) where
    low_moves : (low g).value ≤ℤ ((low f).value +ℤ d)
    low_moves = let b = (low f).is_best in
        Z.≤_trans _ (g b.index) _ (least_le (has_weight t c) g (length t) (low g).is_best b.index b.below b.passing)
        (subst (λ z. g b.index ≤ℤ (z +ℤ d)) b.is (off b.index b.below b.passing))

    high_moves : (high g).value ≤ℤ ((high f).value +ℤ d)
    high_moves = let b = (high g).is_best in subst (λ z. z ≤ℤ ((high f).value +ℤ d)) b.is
        (Z.≤_trans _ _ _ (off b.index b.below b.passing)
        (Z.+_mono (f b.index) (high f).value d d (le_greatest (has_weight t c) f (length t) (high f).is_best b.index b.below b.passing) (Z.≤-refl d)))

    fine_moves : (x y : ℤ) → fine d ≤ℤ e → x ≤ℤ (y +ℤ d) → fine x ≤ℤ (fine y +ℤ e)
    fine_moves x y l h = Z.≤_trans (fine x) (fine (y +ℤ d)) (fine y +ℤ e) (fine_mono x (y +ℤ d) h)
        (subst (λ z. z ≤ℤ (fine y +ℤ e)) (sym (Z.*-+ (pos 256) y d)) (Z.+_mono (fine y) (fine y) (fine d) e (Z.≤-refl (fine y)) l))

    -- where the sum of its terms moves by at most e, and e is not below 256 d, so does the ordinate
    pub ordinate_moves : fine d ≤ℤ e → term_sum t g c (length t) ≤ℤ (term_sum t f c (length t) +ℤ e) → ordinate t g c ≤ℤ (ordinate t f c +ℤ e)
    ordinate_moves l h = subst (λ x. x ≤ℤ (ordinate t f c +ℤ e)) (ordinate_is g)
        (subst (λ y. at_most (some (high g).value) (at_least (some (low g).value) (term_sum t g c (length t))) ≤ℤ (y +ℤ e)) (ordinate_is f)
        (limited_moves (term_sum t f c (length t)) (low f).value (high f).value (term_sum t g c (length t)) (low g).value (high g).value e h
        (fine_moves (low g).value (low f).value l low_moves) (fine_moves (high g).value (high f).value l high_moves)))
