-- The parts of a condition: where the order is at most the degree the scale is positive, and a sign has size 1. The column of
-- conditions stays inside the table.
use mathlib.Core.Path.{◌≡◌, refl, ◌∙◌}
use mathlib.Core.List.{List, [], ◌∷◌, ◌++◌, map}
use Prim.Native.Nat.{ℕ, zero, suc, ◌<◌, ◌≤◌}
use native.Mathlib.Omega.{arith}
use native.Mathlib.Nat.{mul-pos, one-le-pow}
use lib.IntN.{nat_abs}
use Rattle.base_exact.specs.Tabulate.{tab}
use Rattle.base_exact.proofs.Integer.{abs_neg}
use Rattle.spec_spline.specs.Space.{Space, segments, degree, first_column, column_count}
use Rattle.spec_spline.specs.Conditions.{Entry, falling, alternating, scale, left_entry, right_entry, undivided, divided, conditions}
use Rattle.spec_spline.proofs.Space.{first_column_mono}

falling_pos : (p k : ℕ) → k ≤ p → 0 < falling p k
unfolding falling
falling_pos p zero h = omega arith
falling_pos p (suc k) h = mul-pos (falling_pos p k (omega arith)) (omega arith)

pub scale_pos : (p k other : ℕ) → k ≤ p → 0 < other → 0 < scale p k other
scale_pos p k other h l = mul-pos (falling_pos p k h) (one-le-pow k other l)

pub alternating-abs : (n : ℕ) → nat_abs (alternating n) ≡ 1
unfolding alternating
alternating-abs zero = refl
alternating-abs (suc n) = abs_neg (alternating n) ∙ alternating-abs n

-- ---- inside the table

-- All entries stand in the first columns.
pub data Inside (width : ℕ) : List Entry → Type 0 where
  none : Inside width []
  more : {e : Entry} {es : List Entry} → e.column < width → Inside width es → Inside width (e ∷ es)

inside_append : (n : ℕ) {xs ys : List Entry} → Inside n xs → Inside n ys → Inside n (xs ++ ys)
inside_append n none I = I
inside_append n (more h J) I = more h (inside_append n J I)

inside-tab : (n m : ℕ) (f : ℕ → Entry) → ((t : ℕ) → t < m → (f t).column < n) → Inside n (tab m f)
unfolding tab
inside-tab n zero f h = none
inside-tab n (suc m) f h = more (h 0 (omega arith)) (inside-tab n m (λ t. f (suc t)) (λ t l. h (suc t) (omega arith)))

inside-divided : (n g : ℕ) {es : List Entry} → Inside n es → Inside n (map (divided g) es)
inside-divided n g none = none
inside-divided n g (more h I) = more h (inside-divided n g I)

pub conditions-inside : (s : Space) (j k : ℕ) → suc j < segments s → k ≤ degree s j → k ≤ degree s (suc j) → Inside (column_count s) (conditions s j k)
unfolding conditions undivided first_column
conditions-inside s j k h p q =
    let a = first_column_mono s (suc (suc j)) (segments s) h in
    inside-divided (column_count s) _
    (inside_append (column_count s) (inside-tab (column_count s) (suc k) (left_entry s j k) (λ t l. omega arith))
    (inside-tab (column_count s) (suc k) (right_entry s j k) (λ t l. omega arith)))
