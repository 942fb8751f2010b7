-- Laws of the column of conditions of a join and an order: its greatest common divisor is that of the two sides' scales,
-- so its entries, place by place, are the divided scales times signed binomials. With them come the sizes of the entries,
-- which the jumps of a step rest on.
use mathlib.Core.Path.{◌≡◌, refl, sym, ◌∙◌, ap, ap₂}
use mathlib.Core.Bool.{cond}
use mathlib.Core.List.{List, [], ◌++◌, map, map-append, append-nil}
use Prim.Native.Nat.{ℕ, zero, suc, ◌+◌, ◌-◌, ◌*◌, ◌^◌, ◌/◌, ◌<◌, ◌≤◌, ◌∣◌}
use native.Mathlib.Omega.{arith}
use native.Mathlib.Decide.{dec_le}
use native.Mathlib.Nat.{mul-one, mul_comm, mul-div_assoc, zero-div, div-le_self, le_trans}
use borrow.Author.Tests.{le-leb, lt-leb}
use lib.IntN.{ℤ, pos, negsuc, ◌*ℤ◌, neg_ℤ, nat_abs}
use lib.ListN.{length, get_or, length-append, get_or-eq_default}
use lib.Seq.{get_or-append-add}
use Rattle.base_exact.specs.Gcd.{gcd}
use Rattle.base_exact.specs.Rational.{signed}
use Rattle.base_exact.specs.Tabulate.{tab}
use Rattle.base_exact.proofs.Gcd.{gcd-zero, gcd_assoc, gcd_multiple, gcd_dvd_left, gcd_dvd_right}
use Rattle.base_exact.proofs.Integer.{*_assoc, *_neg, abs_neg, abs_mul, abs_mul_le}
use Rattle.base_exact.proofs.Tabulate.{tab_length, tab_get_d, get_d_tab, map_tab, tab_ext}
use Rattle.spec_spline.specs.Space.{Space, degree, width, first_column}
use Rattle.spec_spline.specs.Conditions.{Entry, binomial, alternating, scale, left_entry, right_entry, undivided, common_divisor, divided, conditions}
use Rattle.spec_spline.proofs.Conditions.{alternating-abs}
use Rattle.build_conditions.specs.Sides.{JoinFits}
use Rattle.build_conditions.specs.declared.Join.{Join}
use Rattle.build_conditions.specs.Terms.{scale_of, no_entry, column_of, entries_of}
use Rattle.build_scales.proofs.Sizes.{signed_binomial, scale_limit, scale_le, signed-binomial_le}

-- ---- the two sides' scales

-- The scale of the left entries, before the division.
abbrev pub left_scale : Space → ℕ → ℕ → ℕ
left_scale s j k = scale (degree s j) k (width s (suc j))

-- The scale of the right entries.
abbrev pub right_scale : Space → ℕ → ℕ → ℕ
right_scale s j k = scale (degree s (suc j)) k (width s j)

-- What both are divided by.
abbrev pub divisor : Space → ℕ → ℕ → ℕ
divisor s j k = gcd (left_scale s j k) (right_scale s j k)

-- The two scales without a common divisor.
abbrev pub left_quotient : Space → ℕ → ℕ → ℕ
left_quotient s j k = left_scale s j k / divisor s j k

abbrev pub right_quotient : Space → ℕ → ℕ → ℕ
right_quotient s j k = right_scale s j k / divisor s j k

-- ---- the greatest common divisor of all entries

-- Entries that are multiples of a add nothing to a.
multiples_absorbed : (a n : ℕ) (f : ℕ → Entry) (m : ℕ → ℕ) (es : List Entry) → ((i : ℕ) → nat_abs (f i).condition ≡ a * m i)
    → gcd a (common_divisor (tab n f ++ es)) ≡ gcd a (common_divisor es)
unfolding tab common_divisor
multiples_absorbed a zero f m es h = refl
multiples_absorbed a (suc n) f m es h =
    ap (λ x. gcd a (gcd x (common_divisor (tab n (λ i. f (suc i)) ++ es)))) (h 0)
    ∙ sym (gcd_assoc a (a * m 0) _)
    ∙ ap (λ x. gcd x (common_divisor (tab n (λ i. f (suc i)) ++ es))) (gcd_multiple a (m 0))
    ∙ multiples_absorbed a n (λ i. f (suc i)) (λ i. m (suc i)) es (λ i. h (suc i))

-- One side: multiples of a, of which the first is a itself.
side_divisor : (a k : ℕ) (f : ℕ → Entry) (es : List Entry) → ((i : ℕ) → nat_abs (f i).condition ≡ a * binomial k i)
    → common_divisor (tab (suc k) f ++ es) ≡ gcd a (common_divisor es)
unfolding tab common_divisor binomial
side_divisor a k f es h =
    ap (λ x. gcd x (common_divisor (tab k (λ i. f (suc i)) ++ es))) (h 0 ∙ mul-one a)
    ∙ multiples_absorbed a k (λ i. f (suc i)) (λ i. binomial k (suc i)) es (λ i. h (suc i))

product-abs : (a b n : ℕ) → nat_abs (pos (a * b) *ℤ alternating n) ≡ a * b
product-abs a b n = abs_mul (pos (a * b)) (alternating n) ∙ ap (λ t. a * b * t) (alternating-abs n) ∙ mul-one (a * b)

-- The greatest common divisor of all entries is that of the two scales.
pub common-divisor : (s : Space) (j k : ℕ) → common_divisor (undivided s j k) ≡ divisor s j k
unfolding undivided common_divisor
common-divisor s j k =
    side_divisor (left_scale s j k) k (left_entry s j k) _ (λ i. product-abs (left_scale s j k) (binomial k i) (k - i))
    ∙ ap (gcd (left_scale s j k)) right
  where
    right : common_divisor (tab (suc k) (right_entry s j k)) ≡ right_scale s j k
    right =
        ap common_divisor (sym (append-nil (tab (suc k) (right_entry s j k))))
        ∙ side_divisor (right_scale s j k) k (right_entry s j k) [] (λ i. abs_neg (pos (right_scale s j k * binomial k i) *ℤ alternating (k - i)) ∙ product-abs (right_scale s j k) (binomial k i) (k - i))
        ∙ gcd-zero (right_scale s j k)

-- ---- the entries, divided

-- Entry t of the left side.
abbrev pub left_term : Space → ℕ → ℕ → ℕ → Entry
left_term s j k t = record { column = first_column s j + (degree s j - k + t); condition = pos (left_quotient s j k) *ℤ signed_binomial k t }

-- Entry t of the right side.
abbrev pub right_term : Space → ℕ → ℕ → ℕ → Entry
right_term s j k t = record { column = first_column s (suc j) + t; condition = neg_ℤ (pos (right_quotient s j k) *ℤ signed_binomial k t) }

-- A divisor of a divides a product with a at that factor.
product-quotient : (g a c : ℕ) → g ∣ a → a * c / g ≡ a / g * c
product-quotient g a c h = ap (λ n. n / g) (mul_comm a c) ∙ mul-div_assoc g c h ∙ mul_comm c (a / g)

-- The same on either side of zero, where the sign is kept.
signed_quotient : (g a : ℕ) (u : ℤ) → g ∣ a → signed (pos a *ℤ u) (nat_abs (pos a *ℤ u) / g) ≡ pos (a / g) *ℤ u
signed_quotient g a (pos c) h = ap pos (product-quotient g a c h)
signed_quotient g a (negsuc c) h = negated (a * suc c) ∙ ap (λ n. neg_ℤ (pos n)) (product-quotient g a (suc c) h)
  where
    negated : (n : ℕ) → signed (neg_ℤ (pos n)) (nat_abs (neg_ℤ (pos n)) / g) ≡ neg_ℤ (pos (n / g))
    negated zero = rw (zero-div g)
    negated (suc n) = refl

left-divided : (s : Space) (j k t : ℕ) → divided (divisor s j k) (left_entry s j k t) ≡ left_term s j k t
left-divided s j k t = ap (λ (z : ℤ). record { column = first_column s j + (degree s j - k + t); condition = z }) (
    ap (λ (z : ℤ). signed z (nat_abs z / divisor s j k)) (*_assoc (pos (left_scale s j k)) (pos (binomial k t)) (alternating (k - t)))
    ∙ signed_quotient (divisor s j k) (left_scale s j k) (signed_binomial k t) (gcd_dvd_left (left_scale s j k) (right_scale s j k)))

right-divided : (s : Space) (j k t : ℕ) → divided (divisor s j k) (right_entry s j k t) ≡ right_term s j k t
right-divided s j k t = ap (λ (z : ℤ). record { column = first_column s (suc j) + t; condition = z }) (
    ap (λ (z : ℤ). signed z (nat_abs z / divisor s j k)) turned
    ∙ signed_quotient (divisor s j k) (right_scale s j k) (neg_ℤ (signed_binomial k t)) (gcd_dvd_right (left_scale s j k) (right_scale s j k))
    ∙ *_neg (pos (right_quotient s j k)) (signed_binomial k t))
  where
    turned : neg_ℤ (pos (right_scale s j k * binomial k t) *ℤ alternating (k - t)) ≡ pos (right_scale s j k) *ℤ neg_ℤ (signed_binomial k t)
    turned = ap neg_ℤ (*_assoc (pos (right_scale s j k)) (pos (binomial k t)) (alternating (k - t))) ∙ sym (*_neg (pos (right_scale s j k)) (signed_binomial k t))

-- The column of conditions: k + 1 entries of the left side, then k + 1 of the right.
pub conditions_terms : (s : Space) (j k : ℕ) → conditions s j k ≡ tab (suc k) (left_term s j k) ++ tab (suc k) (right_term s j k)
unfolding conditions undivided
conditions_terms s j k =
    ap (λ g. map (divided g) (undivided s j k)) (common-divisor s j k)
    ∙ map-append (divided (divisor s j k)) (tab (suc k) (left_entry s j k)) (tab (suc k) (right_entry s j k))
    ∙ ap₂ ◌++◌
    (map_tab (divided (divisor s j k)) (suc k) (left_entry s j k) ∙ tab_ext (suc k) (λ t l. left-divided s j k t))
    (map_tab (divided (divisor s j k)) (suc k) (right_entry s j k) ∙ tab_ext (suc k) (λ t l. right-divided s j k t))

-- ---- the entries by their index: k + 1 of the left side, k + 1 of the right, and none
pub conditions_length : (s : Space) (j k : ℕ) → length (conditions s j k) ≡ 2 * k + 2
conditions_length s j k =
    ap length (conditions_terms s j k)
    ∙ length-append (tab (suc k) (left_term s j k)) (tab (suc k) (right_term s j k))
    ∙ omega (arith, tab_length (suc k) (left_term s j k), tab_length (suc k) (right_term s j k))

pub entry-left : (s : Space) (j k e : ℕ) → e ≤ k → get_or (conditions s j k) e no_entry ≡ left_term s j k e
entry-left s j k e h =
    ap (λ es. get_or es e no_entry) (conditions_terms s j k)
    ∙ get_d_tab (suc k) (left_term s j k) (tab (suc k) (right_term s j k)) e no_entry (omega arith)

pub entry-right : (s : Space) (j k e : ℕ) → k < e → e < 2 * k + 2 → get_or (conditions s j k) e no_entry ≡ right_term s j k (e - k - 1)
entry-right s j k e h l =
    ap₂ (λ es n. get_or es n no_entry) (conditions_terms s j k) place
    ∙ get_or-append-add (tab (suc k) (left_term s j k)) (tab (suc k) (right_term s j k)) (e - k - 1) no_entry
    ∙ tab_get_d (suc k) (right_term s j k) (e - k - 1) no_entry (omega arith)
  where
    place : e ≡ length (tab (suc k) (left_term s j k)) + (e - k - 1)
    place = omega (arith, tab_length (suc k) (left_term s j k))

pub entry-none : (s : Space) (j k e : ℕ) → 2 * k + 2 ≤ e → get_or (conditions s j k) e no_entry ≡ no_entry
entry-none s j k e h = get_or-eq_default (conditions s j k) no_entry (omega (arith, conditions_length s j k))

pub column-left : (s : Space) (j k e : ℕ) → e ≤ k → column_of (conditions s j k) e ≡ first_column s j + (degree s j - k + e)
column-left s j k e h = ap (λ (x : Entry). x.column) (entry-left s j k e h)

pub column-right : (s : Space) (j k e : ℕ) → k < e → e < 2 * k + 2 → column_of (conditions s j k) e ≡ first_column s (suc j) + (e - k - 1)
column-right s j k e h l = ap (λ (x : Entry). x.column) (entry-right s j k e h l)

-- The entries as the machine reckons them.
pub scale-left : (x y : ℤ) (k e : ℕ) → e ≤ k → scale_of x y k e ≡ x *ℤ signed_binomial k e
unfolding scale_of
scale-left x y k e h = ap (λ b. cond b (x *ℤ signed_binomial k e) (neg_ℤ (y *ℤ signed_binomial k (e - k - 1)))) (le-leb e k h)

pub scale-right : (x y : ℤ) (k e : ℕ) → k < e → scale_of x y k e ≡ neg_ℤ (y *ℤ signed_binomial k (e - k - 1))
unfolding scale_of
scale-right x y k e h = ap (λ b. cond b (x *ℤ signed_binomial k e) (neg_ℤ (y *ℤ signed_binomial k (e - k - 1)))) (lt-leb e k h)

pub entry_is : (s : Space) (j k e : ℕ) → e < 2 * k + 2 → (get_or (conditions s j k) e no_entry).condition ≡ scale_of (pos (left_quotient s j k)) (pos (right_quotient s j k)) k e
entry_is s j k e h = go (dec_le e k)
  where
    go : Dec (e ≤ k) → (get_or (conditions s j k) e no_entry).condition ≡ scale_of (pos (left_quotient s j k)) (pos (right_quotient s j k)) k e
    go (yes l) = ap (λ (x : Entry). x.condition) (entry-left s j k e l) ∙ sym (scale-left (pos (left_quotient s j k)) (pos (right_quotient s j k)) k e l)
    go (no l) = ap (λ (x : Entry). x.condition) (entry-right s j k e (omega arith) h) ∙ sym (scale-right (pos (left_quotient s j k)) (pos (right_quotient s j k)) k e (omega arith))

pub entries_get_d : (es : List Entry) (e : ℕ) → e < 6 → get_or (entries_of es) e (pos 0) ≡ (get_or es e no_entry).condition
unfolding entries_of
entries_get_d es e h = tab_get_d 6 (λ i. (get_or es i no_entry).condition) e (pos 0) h

-- ---- the sizes

-- A divided scale times a signed binomial.
term-small : (a g k t : ℕ) → a ≤ scale_limit → k ≤ 2 → nat_abs (pos (a / g) *ℤ signed_binomial k t) < 2 ^ 31
term-small a g k t h l = omega (arith, abs_mul_le (pos (a / g)) (signed_binomial k t) scale_limit 4 (le_trans (div-le_self a g) h) (signed-binomial_le k t l))

-- Every entry is below the size of a counted fraction's parts.
pub entry-small : {join : Join} {k : ℕ} (f : JoinFits join k) (e : ℕ) → nat_abs (get_or (conditions f.space f.index k) e no_entry).condition < 2 ^ 31
entry-small {k = k} f e = go (dec_le e k) (dec_le (2 * k + 2) e)
  where
    s : Space
    s = f.space

    j : ℕ
    j = f.index

    go : Dec (e ≤ k) → Dec (2 * k + 2 ≤ e) → nat_abs (get_or (conditions s j k) e no_entry).condition < 2 ^ 31
    go (yes l) d = rw (entry-left s j k e l) (term-small (left_scale s j k) (divisor s j k) k e (scale_le (degree s j) k (width s (suc j)) f.left-degree f.order f.right-short) f.order)
    go (no l) (yes d) = rw (entry-none s j k e d) (omega arith)
    go (no l) (no d) = rw (entry-right s j k e (omega arith) (omega arith))
        (rw (abs_neg (pos (right_quotient s j k) *ℤ signed_binomial k (e - k - 1)))
        (term-small (right_scale s j k) (divisor s j k) k (e - k - 1) (scale_le (degree s (suc j)) k (width s j) f.right-degree f.order f.left-short) f.order))
