-- A beam cut at a discontinuity: the steps of the joins before the cut change the upper left table and the coefficients of its rows
-- alone, those behind it the lower right table and its coefficients. So the beam's coefficients are those of its two sections.
use mathlib.Core.Path.{◌≡◌, refl, sym, ◌∙◌, ap, ap₂}
use mathlib.Core.List.{List, [], ◌++◌, map, map-append, append-nil}
use Prim.Native.Nat.{ℕ, ◌+◌, ◌-◌, ◌≤◌}
use native.Mathlib.Omega.{arith}
use native.Mathlib.Nat.{zero-add as nothing-add}
use lib.IntN.{ℤ}
use lib.ListN.{length, take, drop, length-map, length-drop}
use lib.Seq.{length-take-le, take_all, take-add, drop-drop}
use Rattle.base_exact.specs.Rational.{ℚ, int}
use Rattle.base_exact.specs.Tabulate.{tab}
use Rattle.base_outcome.specs.Outcome.{answer, capped}
use Rattle.spec_spline.specs.Space.{Space, column_count}
use Rattle.spec_spline.specs.Conditions.{Entry}
use Rattle.spec_spline.specs.Table.{Table, identity}
use Rattle.spec_spline.proofs.Legal.{checked_inverts}
use Rattle.spec_spline.proofs.Table.{identity-rows}
use Rattle.spec_spline.proofs.Conditions.{Inside}
use Rattle.spec_spline.proofs.Shape.{Wide, Shaped, step_shaped}
use Rattle.theorems_beams.specs.Sections.{section, zeros, beside}
use Rattle.theorems_beams.proofs.Carried.{carried, carried_ext, joined}
use Rattle.theorems_beams.proofs.Embedded.{Around}
use Rattle.theorems_beams.proofs.Sections.{moved, OrdersFit, orders_fit}
use Rattle.theorems_beams.proofs.Cut.{Kind, both-columns, cut-run}
use Rattle.theorems_beams.proofs.Sides.{left_around, right_around, right_embedded, identity-beside, identity_is_wide}
use Rattle.spec_calls.specs.Recovery.{Combination, recover_step, recover_orders, recover_joins, recovered}
use Rattle.theorems_recovery.specs.Beams.{together, CutRecovered}
use Rattle.theorems_recovery.proofs.Steps.{Parts, parts_of, numbers-less}
use Rattle.theorems_recovery.proofs.Moved.{within, recover_embedded}

-- ---- rows of one width, and a coefficient for each

pub record Fine (width : ℕ) (r : Combination) : Type 0 where
  pub wide : Wide width r.table
  pub count : length r.coefficients ≡ length r.table

pub step-fine : (width j : ℕ) (κ : List Entry) (r r' : Combination) → Fine width r → recover_step j κ r ≡ answer r' → Fine width r'
step-fine width j κ r r' F e = record { wide = S.wide; count = omega (arith, numbers-less F.count P, F.count, S.rows) }
  where
    P : Parts j κ r r'
    P = parts_of j κ r r' e

    S : Shaped width (length r.table - 1) r'.table
    S = step_shaped width (length r.table) j κ r.table (record { wide = F.wide; rows = refl }) P.has_step

-- ---- one step on two tables side by side, with their coefficients
abbrev pub side_by_side : ℕ → ℕ → Combination → Combination → Combination
side_by_side left right r q = record { table = beside left right r.table q.table; coefficients = r.coefficients ++ q.coefficients }

module _ (left right : ℕ) where
  -- the left one changes, with its coefficients
  pub recover_left : (j : ℕ) (κ : List Entry) (r q : Combination) → Fine left r → Inside left κ
      → recover_step j (moved 0 κ) (side_by_side left right r q) ≡ carried (λ p. p) (λ x. side_by_side left right x q) (recover_step j κ r)
  unfolding beside tab left_around
  recover_left j κ r q F inside = recover_embedded (left_around left right j κ q.table inside) [] q.coefficients refl r F.count left F.wide

  -- the right one changes, d joins later
  pub recover_right : (d j : ℕ) (κ : List Entry) (r q : Combination) → Fine left r → Fine right q → Inside right κ
      → recover_step (d + j) (moved left κ) (side_by_side left right r q) ≡ carried (λ p. capped (d + p)) (side_by_side left right r) (recover_step j κ q)
  unfolding right_around
  recover_right d j κ r q F G inside =
      ap (recover_step (d + j) (moved left κ)) (sym (same q))
      ∙ recover_embedded around r.coefficients [] rows q G.count right G.wide
      ∙ carried_ext (λ p. capped (d + p)) (recover_step j κ q) same
    where
      around : Around (λ p. capped (d + p)) j (d + j) κ (moved left κ)
      around = right_around left right d j κ r.table F.wide inside

      rows : length r.coefficients ≡ length around.above
      rows = F.count ∙ sym (length-map r.table (λ x. x ++ zeros right))

      same : (x : Combination) → within around r.coefficients [] rows x ≡ side_by_side left right r x
      same x =
          ap₂ (λ (u : Table) (ns : List ℚ). record { table = u; coefficients = ns })
          (right_embedded left right d j κ r.table x.table F.wide inside) (append-nil (r.coefficients ++ x.coefficients))

-- ---- tables with coefficients as a kind of state

-- at first the identity, with the ordinates of its columns
module _ (ordinates : List ℤ) where
  abbrev pub begun : ℕ → ℕ → Combination
  begun c n = record { table = identity n; coefficients = map int (take n (drop c ordinates)) }

  pub begun-fine : (c n : ℕ) → c + n ≤ length ordinates → Fine n (begun c n)
  begun-fine c n h = record {
    wide = identity_is_wide n;
    count = length-map (take n (drop c ordinates)) int ∙ length-take-le n (drop c ordinates) (omega (arith, length-drop c ordinates)) ∙ sym (identity-rows n);
  }

  pub begun-beside : (c m n : ℕ) → begun c (m + n) ≡ side_by_side m n (begun c m) (begun (c + m) n)
  begun-beside c m n = ap₂ (λ (t : Table) (ns : List ℚ). record { table = t; coefficients = ns }) (identity-beside m n)
      (ap (map int) (take-add m n (drop c ordinates) ∙ ap (λ xs. take m (drop c ordinates) ++ take n xs) (drop-drop m c ordinates))
      ∙ map-append int (take m (drop c ordinates)) (take n (drop (c + m) ordinates)))

  abbrev pub with_coefficients : Kind Combination
  with_coefficients = record {
    act = recover_step;
    Fits = Fine;
    beside = side_by_side;
    keeps = step-fine;
    on-left = recover_left;
    on-right = recover_right;
    columns = length ordinates;
    start = begun;
    start_fits = begun-fine;
    start-beside = begun-beside;
  }

-- ---- a beam that is cut
pub cut-recovered : CutRecovered
unfolding recovered recover_joins recover_orders
cut-recovered s e a n A whole ordinates size =
    ap (recovered s) (sym (take_all (column_count s) ordinates (omega (arith, size))))
    ∙ cut-run (with_coefficients ordinates) s F a n (sym whole) A.starts (omega (arith, A.below)) 0 (omega (arith, size))
    ∙ ap (λ xs. joined a (together before behind) (recovered before (take L ordinates)) (recovered behind xs))
    (ap (λ c. take R (drop c ordinates)) (nothing-add L) ∙ take_all R (drop L ordinates) rest)
  where
    F : OrdersFit s
    F = orders_fit s (checked_inverts s e).1

    before : Space
    before = section s 0 a

    behind : Space
    behind = section s a n

    L : ℕ
    L = column_count before

    R : ℕ
    R = column_count behind

    rest : length (drop L ordinates) ≤ R
    rest = omega (arith, length-drop L ordinates, size, both-columns (with_coefficients ordinates) s F a n (sym whole))
