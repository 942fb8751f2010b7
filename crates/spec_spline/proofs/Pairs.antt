-- The two wood parts: a part's number in a pair, and a list of pairs as its numbers side by side: length, cells, and how two
-- stores grow it at the front of a buffer. And twice a count against a length, which the tests compare by halves.
use mathlib.Core.Path.{◌≡◌, refl, sym, ◌∙◌, ap}
use mathlib.Core.List.{List, [], ◌∷◌, ◌++◌, append_assoc}
use Prim.Native.Nat.{ℕ, zero, suc, ◌+◌, ◌*◌, ◌-◌, ◌/◌, ◌<◌, ◌≤◌}
use native.Mathlib.Numerals.{add-one}
use native.Mathlib.Omega.{arith}
use native.Mathlib.Nat.{div-add-mod', mod-lt}
use lib.IntN.{ℤ, pos}
use lib.ListN.{length, get_or, drop, set, length-append, get_or-append}
use lib.Seq.{drop-cons, set_at, length_front, length-take-le, get_or-append-add, get_or-drop}
use Rattle.base_exact.specs.Tabulate.{tab}
use Rattle.base_exact.proofs.Tabulate.{tab_length, tab_snoc}
use Rattle.spec_spline.specs.Space.{Space}
use Rattle.spec_spline.specs.Table.{Table}
use Rattle.spec_spline.specs.Reading.{Wood, earlywood, latewood, wood_index, Pair, side_by_side, value_at, pair_at}

-- ---- a wood part

pub wood_index-below : (wood : Wood) → wood_index wood < 2
wood_index-below earlywood = omega arith
wood_index-below latewood = omega arith

-- a part's number of pair i stands below twice the count of pairs
pub part-below : (wood : Wood) {i n : ℕ} → i < n → 2 * i + wood_index wood < 2 * n
part-below wood h = omega (arith, wood_index-below wood)

-- A part's number of a pair.
abbrev pub of_the_wood : Wood → Pair → ℤ
of_the_wood earlywood p = p.early
of_the_wood latewood p = p.late

pub pair_at-part : (s : Space) (t : Table) (wood : Wood) (coefs : List ℤ) (x : ℤ) → of_the_wood wood (pair_at s t coefs x) ≡ value_at s t wood coefs x
unfolding pair_at
pair_at-part s t earlywood coefs x = refl
pair_at-part s t latewood coefs x = refl

-- ---- twice a count against a length

pub le_half : (n m : ℕ) → 2 * n ≤ m → n ≤ m / 2
le_half n m h = omega (arith, div-add-mod' m 2, mod-lt m {m = 2} (omega arith))

pub half_le : (n m : ℕ) → n ≤ m / 2 → 2 * n ≤ m
half_le n m h = omega (arith, div-add-mod' m 2)

-- ---- pairs side by side

pub side_by_side_length : (ps : List Pair) → length (side_by_side ps) ≡ 2 * length ps
unfolding side_by_side
side_by_side_length [] = refl
side_by_side_length (p ∷ ps) = omega (arith, side_by_side_length ps)

pub side_by_side_append : (ps qs : List Pair) → side_by_side (ps ++ qs) ≡ side_by_side ps ++ side_by_side qs
unfolding side_by_side
side_by_side_append [] qs = refl
side_by_side_append (p ∷ ps) qs = ap (λ l. p.early ∷ p.late ∷ l) (side_by_side_append ps qs)

pub side_by_side_get_d : (ps : List Pair) (wood : Wood) (k : ℕ) (d : ℤ) (e : Pair) → k < length ps → get_or (side_by_side ps) (2 * k + wood_index wood) d ≡ of_the_wood wood (get_or ps k e)
unfolding side_by_side
side_by_side_get_d [] wood k d e h = absurd (omega arith)
side_by_side_get_d (p ∷ ps) earlywood zero d e h = refl
side_by_side_get_d (p ∷ ps) latewood zero d e h = refl
side_by_side_get_d (p ∷ ps) wood (suc k) d e h =
    ap (λ j. get_or (p.early ∷ p.late ∷ side_by_side ps) j d) (let z : 2 * suc k + wood_index wood ≡ suc (suc (2 * k + wood_index wood)) = omega arith in z)
    ∙ side_by_side_get_d ps wood k d e (omega arith)

-- ---- pairs in front of other cells

module _ (ps : List Pair) where
  pub get_d_pairs : (r : List ℤ) (wood : Wood) (k : ℕ) (d : ℤ) (e : Pair) → k < length ps → get_or (side_by_side ps ++ r) (2 * k + wood_index wood) d ≡ of_the_wood wood (get_or ps k e)
  get_d_pairs r wood k d e h = get_or-append (side_by_side ps) r d (2 * k + wood_index wood) (rw (side_by_side_length ps) (part-below wood h)) ∙ side_by_side_get_d ps wood k d e h

  pub length_pairs : (l : List ℤ) → 2 * length ps ≤ length l → length (side_by_side ps ++ drop (2 * length ps) l) ≡ length l
  length_pairs l h = length_front l (side_by_side ps) (2 * length ps) (side_by_side_length ps ∙ sym (length-take-le (2 * length ps) l h))

  -- past the pairs the cells are the old ones
  pub get_d_past-pairs : (l : List ℤ) (k : ℕ) (d : ℤ) → 2 * length ps ≤ k → get_or (side_by_side ps ++ drop (2 * length ps) l) k d ≡ get_or l k d
  get_d_past-pairs l k d h =
      ap (λ j. get_or (side_by_side ps ++ drop (2 * length ps) l) j d) (let e : k ≡ length (side_by_side ps) + (k - 2 * length ps) = omega (arith, side_by_side_length ps) in e)
      ∙ get_or-append-add (side_by_side ps) (drop (2 * length ps) l) (k - 2 * length ps) d ∙ get_or-drop (2 * length ps) l (k - 2 * length ps) d
      ∙ ap (λ j. get_or l j d) (let e : 2 * length ps + (k - 2 * length ps) ≡ k = omega arith in e)

-- ---- a loop's stores: none yet, and both numbers of one pair more

module _ (f : ℕ → Pair) where
  pub pairs-none : (l : List ℤ) → l ≡ side_by_side (tab 0 f) ++ drop (2 * 0) l
  unfolding tab side_by_side
  pairs-none l = refl

  tab-pairs_length : (n : ℕ) → length (side_by_side (tab n f)) ≡ 2 * n
  tab-pairs_length n = side_by_side_length (tab n f) ∙ ap (λ m. 2 * m) (tab_length n f)

  pairs_snoc : (n : ℕ) → side_by_side (tab (suc n) f) ≡ side_by_side (tab n f) ++ ((f n).early ∷ (f n).late ∷ [])
  unfolding side_by_side
  pairs_snoc n = ap side_by_side (tab_snoc n f) ∙ side_by_side_append (tab n f) (f n ∷ [])

  pub pairs_more : (n : ℕ) (l : List ℤ) → 2 * n + 1 < length l
      → set (set (side_by_side (tab n f) ++ drop (2 * n) l) (2 * n) (f n).early) (2 * n + 1) (f n).late ≡ side_by_side (tab (n + 1) f) ++ drop (2 * (n + 1)) l
  pairs_more n l h =
      let front = side_by_side (tab n f) in
      let rest = drop (suc (suc (2 * n))) l in
      let cells : drop (2 * n) l ≡ get_or l (2 * n) (pos 0) ∷ get_or l (suc (2 * n)) (pos 0) ∷ rest
      = drop-cons l (2 * n) (pos 0) (omega arith) ∙ ap (λ t. get_or l (2 * n) (pos 0) ∷ t) (drop-cons l (suc (2 * n)) (pos 0) (omega arith)) in
      ap (λ t. set (set (front ++ t) (2 * n) (f n).early) (2 * n + 1) (f n).late) cells
      ∙ ap (λ t. set t (2 * n + 1) (f n).late) (set_at front _ (get_or l (suc (2 * n)) (pos 0) ∷ rest) (f n).early (2 * n) (tab-pairs_length n))
      ∙ ap (λ t. set t (2 * n + 1) (f n).late) (sym (append_assoc front ((f n).early ∷ []) (get_or l (suc (2 * n)) (pos 0) ∷ rest)))
      ∙ set_at (front ++ ((f n).early ∷ [])) _ rest (f n).late (2 * n + 1) (length-append front ((f n).early ∷ []) ∙ omega (arith, tab-pairs_length n))
      ∙ append_assoc front ((f n).early ∷ []) ((f n).late ∷ rest)
      ∙ sym (append_assoc front ((f n).early ∷ (f n).late ∷ []) rest)
      ∙ ap (λ t. t ++ rest) (sym (pairs_snoc n))
      ∙ ap (λ k. side_by_side (tab (suc n) f) ++ drop k l) (let e : suc (suc (2 * n)) ≡ 2 * suc n = omega arith in e)
      ∙ ap (λ k. side_by_side (tab k f) ++ drop (2 * k) l) (sym (add-one n))
