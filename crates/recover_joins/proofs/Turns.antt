-- The two loops of the recovery: the orders at a join, and the joins of a part. The rows of a segment come in with the join before
-- it, and their coefficients with them.
use mathlib.Core.Path.{◌≡◌, refl, sym, ◌∙◌, ap, ap₂, subst}
use mathlib.Core.Bool.{true}
use mathlib.Core.List.{List, [], ◌∷◌, ◌++◌, map, append_assoc}
use Prim.Native.Nat.{ℕ, suc, ◌+◌, ◌-◌, ◌<◌, ◌≤◌}
use native.Mathlib.Omega.{arith}
use native.Mathlib.Decide.{dec_lt}
use lib.IntN.{ℤ, pos}
use lib.ListN.{length, take, drop, length-append, length-map, length-drop, take-append-drop, get_or-append}
use lib.Seq.{drop-drop, get_or-append-add, length-take-le}
use Rattle.base_exact.specs.Rational.{ℚ, int}
use Rattle.base_fraction.specs.Size.{fits}
use Rattle.base_fraction.proofs.Size.{int-fits}
use Rattle.base_outcome.specs.Outcome.{with_answer}
use Rattle.spec_spline.specs.Space.{Space, segments, degree, first_column, column_count, condition_count}
use Rattle.spec_spline.specs.Conditions.{conditions}
use Rattle.spec_spline.specs.Table.{Table, entry, row_cells, identity}
use Rattle.spec_spline.proofs.Space.{first_column_mono}
use Rattle.spec_spline.proofs.Table.{entry_past}
use Rattle.build_space.specs.Machine.{space}
use Rattle.build_space.specs.Legal.{PartLegal}
use Rattle.build_space.proofs.Bounds.{first-column-next}
use Rattle.build_factors.specs.Jumps.{AllFit}
use Rattle.build_joins.specs.Leaves.{grown}
use Rattle.build_step.proofs.Stepped.{Proper}
use Rattle.build_step.proofs.Repeated.{Turns}
use Rattle.build_joins.proofs.Joins.{join-idle}
use Rattle.build_step.proofs.Orders.{with_all}
use Rattle.build_joins.proofs.Turns.{later, grown-whole, within, rows_in, laid_proper, rows_left}
use Rattle.spec_calls.specs.Recovery.{Combination, recover_step, recover_orders}
use Rattle.recover_joins.specs.Leaves.{grown_combination}
use Rattle.recover_joins.proofs.Orders.{Sound, recover_one_less, orders_sound}
use Rattle.recover_joins.proofs.Later.{orders_all}

-- the orders 0 up to n - 1 at join j
abbrev pub order-turns : Space → ℕ → ℕ → ℕ → ℕ → Combination → Turns Combination
order-turns s j n rows columns r = record {
  table = λ u. u.table;
  first = r;
  count = n;
  step = λ k. recover_step j (conditions s j k);
  work = λ k. recover_step j (conditions s j k);
  whole = λ k u. u;
  Sound = λ k u. Sound u (rows - k) columns;
  fits = λ k u p. p.proper.fit;
  turn = λ k u l p. with_all (recover_step j (conditions s j k) u);
  keeps = λ k u v l p e. subst (λ m. Sound v m columns) (let z : rows - k - 1 ≡ rows - suc k = omega arith in z) (recover_one_less j (conditions s j k) u e p);
}

-- ---- the ordinates of the segments to come

-- those of the segments after segment j
abbrev pub later_coefficients : Space → List ℤ → ℕ → List ℚ
later_coefficients s os j = map int (drop (first_column s (suc j)) os)

pub map-append : (xs ys : List ℤ) → map int (xs ++ ys) ≡ map int xs ++ map int ys
map-append [] ys = refl
map-append (x ∷ xs) ys = ap (λ zs. int x ∷ zs) (map-append xs ys)

-- with those of the segment on the right of join j, those of the segments after it are left
pub grown_coefficients : (s : Space) (os : List ℤ) (j : ℕ) (ps : List ℚ)
    → ps ++ later_coefficients s os j ≡ (ps ++ map int (take (degree s (suc j) + 1) (drop (first_column s (suc j)) os))) ++ later_coefficients s os (suc j)
grown_coefficients s os j ps =
    ap (λ xs. ps ++ map int xs) (sym (take-append-drop n (drop c os)) ∙ ap (λ xs. take n (drop c os) ++ xs)
    (drop-drop n c os ∙ ap (λ i. drop i os) (let z : c + n ≡ first_column s (suc (suc j)) = omega (arith, first-column-next s (suc j)) in z)))
    ∙ ap (λ xs. ps ++ xs) (map-append (take n (drop c os)) (drop (first_column s (suc (suc j))) os))
    ∙ sym (append_assoc ps (map int (take n (drop c os))) (later_coefficients s os (suc j)))
  where
    c : ℕ
    c = first_column s (suc j)

    n : ℕ
    n = degree s (suc j) + 1

-- they fit
pub append_fit : (ps qs : List ℚ) → AllFit ps → AllFit qs → AllFit (ps ++ qs)
append_fit ps qs p q k = go (dec_lt k (length ps))
  where
    go : Dec (k < length ps) → fits (entry (ps ++ qs) k) ≡ true
    go (yes h) = ap fits (get_or-append ps qs (int (pos 0)) k h) ∙ p k
    go (no h) = ap (λ n. fits (entry (ps ++ qs) n)) (let z : k ≡ length ps + (k - length ps) = omega arith in z) ∙ ap fits (get_or-append-add ps qs (k - length ps) (int (pos 0))) ∙ q (k - length ps)

middle_fit : (xs ys zs : List ℚ) → AllFit (xs ++ (ys ++ zs)) → AllFit ys
middle_fit xs ys zs p k = go (dec_lt k (length ys))
  where
    go : Dec (k < length ys) → fits (entry ys k) ≡ true
    go (yes h) = ap fits (sym (get_or-append-add xs (ys ++ zs) k (int (pos 0)) ∙ get_or-append ys zs (int (pos 0)) k h)) ∙ p (length xs + k)
    go (no h) = ap fits (entry_past ys k (omega arith)) ∙ int-fits (pos 0) (omega arith)

pub columns-fit : (os : List ℤ) (c n : ℕ) → AllFit (map int os) → AllFit (map int (take n (drop c os)))
columns-fit os c n p = middle_fit (map int (take c os)) (map int (take n (drop c os))) (map int (drop n (drop c os))) (subst AllFit split p)
  where
    split : map int os ≡ map int (take c os) ++ (map int (take n (drop c os)) ++ map int (drop n (drop c os)))
    split =
        ap (map int) (sym (take-append-drop c os) ∙ ap (λ xs. take c os ++ xs) (sym (take-append-drop n (drop c os))))
        ∙ map-append (take c os) (take n (drop c os) ++ drop n (drop c os))
        ∙ ap (λ xs. map int (take c os) ++ xs) (map-append (take n (drop c os)) (drop n (drop c os)))

pub columns-count : (os : List ℤ) (c n : ℕ) → c + n ≤ length os → length (map int (take n (drop c os))) ≡ n
columns-count os c n h = length-map (take n (drop c os)) int ∙ length-take-le n (drop c os) (omega (arith, length-drop c os))

-- with rows and ordinates that came in
pub grown_sound : (s : Space) (j columns : ℕ) (os : List ℤ) (r : Combination) {rows : ℕ} → length os ≡ columns → AllFit (map int os) → first_column s (suc j) + (degree s (suc j) + 1) ≤ columns
    → Proper (grown s j columns r.table) (rows + (degree s (suc j) + 1)) columns → length r.coefficients ≡ rows → AllFit r.coefficients
    → Sound (grown_combination s j columns os r) (rows + (degree s (suc j) + 1)) columns
grown_sound s j columns os r {rows} size fit wide proper count present = record {
  proper = proper;
  count = length-append r.coefficients (map int (take n (drop c os))) ∙ omega (arith, count, columns-count os c n (omega (arith, size, wide)));
  fit = append_fit r.coefficients (map int (take n (drop c os))) present (columns-fit os c n fit);
}
  where
    c : ℕ
    c = first_column s (suc j)

    n : ℕ
    n = degree s (suc j) + 1

-- ---- the joins of a part
module _ (b d o : List ℤ) (part : PartLegal b d o) (columns : ℕ) (columns_are : columns ≡ column_count (space b d o)) (room : columns ≤ row_cells)
    (os : List ℤ) (size : length os ≡ columns) (fit : AllFit (map int os)) where
  abbrev s : Space
  s = space b d o

  -- with the rows and the ordinates of the segments after segment j
  abbrev pub with_later : ℕ → Combination → Combination
  with_later j r = record { table = r.table ++ later s columns j; coefficients = r.coefficients ++ later_coefficients s os j }

  wide : {j : ℕ} → j < segments s - 1 → first_column s (suc j) + (degree s (suc j) + 1) ≤ columns
  wide {j} l = omega (arith, first-column-next s (suc j), first_column_mono s (suc (suc j)) (length d) (omega (arith, l)), columns_are)

  pub laid_sound : (j : ℕ) (r : Combination) → j < segments s - 1 → Sound r (rows_in b d o part columns columns_are room j) columns
      → Sound (grown_combination s j columns os r) (rows_in b d o part columns columns_are room j + (degree s (suc j) + 1)) columns
  laid_sound j r l p = grown_sound s j columns os r size fit (wide l) (laid_proper b d o part columns columns_are room j r.table l p.proper) p.count p.fit

  pub turn_at : (j : ℕ) (r : Combination) → j < segments s - 1 → Sound r (rows_in b d o part columns columns_are room j) columns
      → recover_orders s j (condition_count s j) (with_later j r) ≡ with_answer (with_later (suc j)) (recover_orders s j (condition_count s j) (grown_combination s j columns os r))
  turn_at j r l p =
      ap₂ (λ (t : Table) (ps : List ℚ). recover_orders s j (condition_count s j) (record { table = t; coefficients = ps })) (grown-whole s columns j r.table)
      (grown_coefficients s os j r.coefficients)
      ∙ orders_all s j (condition_count s j) (grown_combination s j columns os r) (later s columns (suc j)) (later_coefficients s os (suc j))
      (laid_sound j r l p) (λ k h i i-low. join-idle b d o part j (within b d o part columns columns_are room l) columns k h i)

  abbrev pub join-turns : Turns Combination
  join-turns = record {
    table = λ r. r.table;
    first = record { table = identity (column_count s); coefficients = map int os };
    count = segments s - 1;
    step = λ j. recover_orders s j (condition_count s j);
    work = λ j r. recover_orders s j (condition_count s j) (grown_combination s j columns os r);
    whole = with_later;
    Sound = λ j r. Sound r (rows_in b d o part columns columns_are room j) columns;
    fits = λ j r p. p.proper.fit;
    turn = turn_at;
    keeps = λ j r u l p e. subst (λ m. Sound u m columns) (rows_left b d o part columns columns_are room j l)
        (orders_sound s j (condition_count s j) (grown_combination s j columns os r) e (laid_sound j r l p));
  }
