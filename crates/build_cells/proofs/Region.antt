-- Laws of a buffer that is written over in part: its length, its cells, and what the library's calls or one turn of a loop
-- leave. They know nothing of tables.
use mathlib.Core.Path.{◌≡◌, refl, sym, ◌∙◌, ap}
use mathlib.Core.Bool.{Bool, true, false, cond, ◌&&◌}
use mathlib.Core.Logic.{◌≢◌}
use mathlib.Core.List.{List}
use Prim.Native.Nat.{ℕ, ◌+◌, ◌-◌, ◌*◌, ◌/◌, ◌%◌, ◌<◌, ◌≤◌}
use native.Mathlib.Omega.{arith}
use native.Mathlib.Decide.{dec_lt, ℕ_discrete}
use borrow.Author.Tests.{lt-ltb, le-ltb, le-leb, lt-leb, eq-eqb, ne_eqb}
use borrow.Rule.Slice.PartMut.{put_mid}
use lib.Dec.{eqb, leb, ltb}
use lib.IntN.{ℤ, pos}
use lib.ListN.{length, get_or, set, take, replicate, length-set, length-append, length-drop, get_or-eq_default}
use lib.Seq.{get_or-set_other, ext_get_or, length-take-le}
use Rattle.std.specs.List.{CopiedTo, SameBelow, SameFrom}
use Rattle.std.proofs.lemmas.List.{length-replicate, places}
use Rattle.base_exact.specs.Tabulate.{tab}
use Rattle.base_exact.proofs.Tabulate.{tab_length, tab_get_d, tab_ext, tab_self, tab_store}
use Rattle.spec_spline.specs.Table.{row_cells}
use Rattle.build_cells.specs.Region.{inside, filled, moved, marked}

-- ---- the range from one index up to another

pub inside_yes : (from to k : ℕ) → from ≤ k → k < to → inside from to k ≡ true
inside_yes from to k h l = simp (le-leb from k h, lt-ltb k to l)

pub inside-before : (from to k : ℕ) → k < from → inside from to k ≡ false
inside-before from to k h = simp (lt-leb from k h)

pub inside-after : (from to k : ℕ) → to ≤ k → inside from to k ≡ false
inside-after from to k h = go (leb from k)
  where
    go : (b : Bool) → (b && ltb k to) ≡ false
    go true = le-ltb k to h
    go false = refl

-- ---- a rule for all cells of a list

tab-reads : (xs : List ℤ) (f : ℕ → ℤ) (k : ℕ) → k < length xs → get_or (tab (length xs) f) k (pos 0) ≡ f k
tab-reads xs f k h = tab_get_d (length xs) f k (pos 0) h

-- where the rule keeps a cell, the cell stays, past the end too
tab-keeps : (xs : List ℤ) (f : ℕ → ℤ) (k : ℕ) → f k ≡ get_or xs k (pos 0) → get_or (tab (length xs) f) k (pos 0) ≡ get_or xs k (pos 0)
tab-keeps xs f k e = go (dec_lt k (length xs))
  where
    go : Dec (k < length xs) → get_or (tab (length xs) f) k (pos 0) ≡ get_or xs k (pos 0)
    go (yes l) = tab-reads xs f k l ∙ e
    go (no l) = get_or-eq_default (tab (length xs) f) (pos 0) (rw (tab_length (length xs) f) (omega arith)) ∙ sym (get_or-eq_default xs (pos 0) (omega arith))

-- ---- filled

pub filled_length : (from to : ℕ) (v : ℤ) (xs : List ℤ) → length (filled from to v xs) ≡ length xs
unfolding filled
filled_length from to v xs = tab_length (length xs) _

pub filled-inside : (from to : ℕ) (v : ℤ) (xs : List ℤ) (k : ℕ) → from ≤ k → k < to → to ≤ length xs → get_or (filled from to v xs) k (pos 0) ≡ v
unfolding filled
filled-inside from to v xs k h l m = tab-reads xs _ k (omega arith) ∙ ap (λ b. cond b v (get_or xs k (pos 0))) (inside_yes from to k h l)

-- outside the range the cells stay
filled-outside : (from to : ℕ) (v : ℤ) (xs : List ℤ) (k : ℕ) → inside from to k ≡ false → get_or (filled from to v xs) k (pos 0) ≡ get_or xs k (pos 0)
unfolding filled
filled-outside from to v xs k out = tab-keeps xs (λ i. cond (inside from to i) v (get_or xs i (pos 0))) k (ap (λ b. cond b v (get_or xs k (pos 0))) out)

pub filled-before : (from to : ℕ) (v : ℤ) (xs : List ℤ) (k : ℕ) → k < from → get_or (filled from to v xs) k (pos 0) ≡ get_or xs k (pos 0)
filled-before from to v xs k h = filled-outside from to v xs k (inside-before from to k h)

pub filled-after : (from to : ℕ) (v : ℤ) (xs : List ℤ) (k : ℕ) → to ≤ k → get_or (filled from to v xs) k (pos 0) ≡ get_or xs k (pos 0)
filled-after from to v xs k h = filled-outside from to v xs k (inside-after from to k h)

-- what a part written over with one number leaves of the whole
pub filled_part : (from to n : ℕ) (v : ℤ) (xs ys : List ℤ) → from ≤ to → to ≤ length xs → n ≡ to - from → ys ≡ replicate n v
    → put_mid from (to - from) xs ys ≡ filled from to v xs
filled_part from to n v xs ys h l e y =
    ext_get_or (pos 0) _ _ (whole ∙ sym (filled_length from to v xs)) (λ k m. at k (dec_lt k from) (dec_lt k to))
  where
    front : length (take from xs) ≡ from
    front = length-take-le from xs (omega arith)

    part : length ys ≡ to - from
    part = ap length y ∙ length-replicate n v ∙ e

    whole : length (put_mid from (to - from) xs ys) ≡ length xs
    whole = omega (arith, length-append {A = ℤ}, length-drop {A = ℤ}, front, part)

    at : (k : ℕ) → Dec (k < from) → Dec (k < to)
        → get_or (put_mid from (to - from) xs ys) k (pos 0) ≡ get_or (filled from to v xs) k (pos 0)
    at k (yes b) c = grind (arith, places, filled-before from to v xs k b)
    at k (no b) (yes c) = grind (arith, places, filled-inside from to v xs k (omega arith) c l)
    at k (no b) (no c) = grind (arith, places, filled-after from to v xs k (omega arith))

-- ---- moved

pub moved_length : (from to : ℕ) (xs : List ℤ) → length (moved from to xs) ≡ length xs
unfolding moved
moved_length from to xs = tab_length (length xs) _

pub moved_inside : (from to : ℕ) (xs : List ℤ) (k : ℕ) → from ≤ k → k < to → to ≤ length xs → get_or (moved from to xs) k (pos 0) ≡ get_or xs (k + row_cells) (pos 0)
unfolding moved
moved_inside from to xs k h l m = tab-reads xs _ k (omega arith) ∙ ap (λ b. get_or xs (cond b (k + row_cells) k) (pos 0)) (inside_yes from to k h l)

moved-outside : (from to : ℕ) (xs : List ℤ) (k : ℕ) → inside from to k ≡ false → get_or (moved from to xs) k (pos 0) ≡ get_or xs k (pos 0)
unfolding moved
moved-outside from to xs k out = tab-keeps xs (λ i. get_or xs (cond (inside from to i) (i + row_cells) i) (pos 0)) k (ap (λ b. get_or xs (cond b (k + row_cells) k) (pos 0)) out)

pub moved_before : (from to : ℕ) (xs : List ℤ) (k : ℕ) → k < from → get_or (moved from to xs) k (pos 0) ≡ get_or xs k (pos 0)
moved_before from to xs k h = moved-outside from to xs k (inside-before from to k h)

pub moved-after : (from to : ℕ) (xs : List ℤ) (k : ℕ) → to ≤ k → get_or (moved from to xs) k (pos 0) ≡ get_or xs k (pos 0)
moved-after from to xs k h = moved-outside from to xs k (inside-after from to k h)

-- what `copy_within` leaves where the cells a row further on are copied
pub moved_copied : (from to : ℕ) (xs ys : List ℤ) → to + row_cells ≤ length xs → length ys ≡ length xs
    → CopiedTo xs ys (from + row_cells) from ((to + row_cells) - (from + row_cells))
    × SameBelow xs ys from × SameFrom xs ys (from + ((to + row_cells) - (from + row_cells))) → ys ≡ moved from to xs
moved_copied from to xs ys h e c =
    ext_get_or (pos 0) ys (moved from to xs) (e ∙ sym (moved_length from to xs)) (λ k m. at k (dec_lt k from) (dec_lt k to))
  where
    at : (k : ℕ) → Dec (k < from) → Dec (k < to) → get_or ys k (pos 0) ≡ get_or (moved from to xs) k (pos 0)
    at k (yes b) d = c.1 k (pos 0) b ∙ sym (moved_before from to xs k b)
    at k (no b) (yes d) =
        c.0 k (pos 0) (omega arith) (omega arith)
        ∙ ap (λ j. get_or xs j (pos 0)) (let next : from + row_cells + (k - from) ≡ k + row_cells = omega arith in next)
        ∙ sym (moved_inside from to xs k (omega arith) d (omega arith))
    at k (no b) (no d) = c.2 k (pos 0) (omega arith) ∙ sym (moved-after from to xs k (omega arith))

-- ---- marked

-- the first n places of the diagonal
abbrev pub diagonal : ℕ → ℕ → Bool
diagonal n k = eqb (k % 73) 0 && ltb (k / 73) n

pub diagonal_yes : (n k : ℕ) → k % 73 ≡ 0 → k / 73 < n → diagonal n k ≡ true
diagonal_yes n k e h = simp (eq-eqb (k % 73) 0 e, lt-ltb (k / 73) n h)

pub diagonal_off : (n k : ℕ) → k % 73 ≢ 0 → diagonal n k ≡ false
diagonal_off n k e = simp (ne_eqb (k % 73) 0 e)

pub diagonal-after : (n k : ℕ) → n ≤ k / 73 → diagonal n k ≡ false
diagonal-after n k h = go (eqb (k % 73) 0)
  where
    go : (b : Bool) → (b && ltb (k / 73) n) ≡ false
    go true = le-ltb (k / 73) n h
    go false = refl

pub marked_length : (n : ℕ) (xs : List ℤ) → length (marked n xs) ≡ length xs
unfolding marked
marked_length n xs = tab_length (length xs) _

pub marked_on : (n : ℕ) (xs : List ℤ) (k : ℕ) → k < length xs → diagonal n k ≡ true → get_or (marked n xs) k (pos 0) ≡ pos 1
unfolding marked
marked_on n xs k h e = tab-reads xs _ k h ∙ ap (λ b. cond b (pos 1) (get_or xs k (pos 0))) e

pub marked_off : (n : ℕ) (xs : List ℤ) (k : ℕ) → diagonal n k ≡ false → get_or (marked n xs) k (pos 0) ≡ get_or xs k (pos 0)
unfolding marked
marked_off n xs k e = tab-keeps xs (λ i. cond (diagonal n i) (pos 1) (get_or xs i (pos 0))) k (ap (λ b. cond b (pos 1) (get_or xs k (pos 0))) e)

pub marked-none : (xs : List ℤ) → xs ≡ marked 0 xs
unfolding marked
marked-none xs = sym (tab_self xs (pos 0)) ∙ tab_ext (length xs) (λ k h. ap (λ b. cond b (pos 1) (get_or xs k (pos 0))) (sym (diagonal-after 0 k (omega arith))))

pub marked_more : (i : ℕ) (xs : List ℤ) → 73 * i < length xs → set (marked i xs) (73 * i) (pos 1) ≡ marked (i + 1) xs
unfolding marked
marked_more i xs h = tab_store (length xs) (73 * i) h
    (ap (λ b. cond b (pos 1) (get_or xs (73 * i) (pos 0))) (diagonal_yes (i + 1) (73 * i) (omega arith) (omega arith)))
    (λ k m e. ap (λ b. cond b (pos 1) (get_or xs k (pos 0))) (other k e (ℕ_discrete (k % 73) 0) (dec_lt (k / 73) i)))
  where
    other : (k : ℕ) → k ≢ 73 * i → Dec (k % 73 ≡ 0) → Dec (k / 73 < i) → diagonal i k ≡ diagonal (i + 1) k
    other k e (no z) d = diagonal_off i k z ∙ sym (diagonal_off (i + 1) k z)
    other k e (yes z) (yes l) = diagonal_yes i k z l ∙ sym (diagonal_yes (i + 1) k z (omega arith))
    other k e (yes z) (no l) = diagonal-after i k (omega arith) ∙ sym (diagonal-after (i + 1) k (omega arith))

-- ---- a buffer that differs from another at most from the one index up to the other

pub record Written (b xs : List ℤ) (from to : ℕ) : Type 0 where
  pub long : length xs ≡ length b
  pub before : (k : ℕ) → k < from → get_or xs k (pos 0) ≡ get_or b k (pos 0)
  pub after : (k : ℕ) → to ≤ k → get_or xs k (pos 0) ≡ get_or b k (pos 0)

pub written_none : (b : List ℤ) (from to : ℕ) → Written b b from to
written_none b from to = record { long = refl; before = λ k h. refl; after = λ k h. refl }

-- one store more
pub written_more : {b xs : List ℤ} {from to : ℕ} (v : ℤ) (next : ℕ) → next ≡ to + 1 → from ≤ to → Written b xs from to → Written b (set xs to v) from next
written_more {b} {xs} {from} {to} v next e h w = record {
  long = length-set xs to v ∙ w.long;
  before = λ k l. get_or-set_other xs to k v (pos 0) (λ z. omega arith) ∙ w.before k l;
  after = λ k l. get_or-set_other xs to k v (pos 0) (λ z. omega arith) ∙ w.after k (omega arith);
}

pub written_wider : {b xs : List ℤ} {from to : ℕ} (next : ℕ) → to ≤ next → Written b xs from to → Written b xs from next
written_wider next h w = record { long = w.long; before = w.before; after = λ k l. w.after k (omega arith) }
