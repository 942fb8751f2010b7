-- A table and the rows of the segment on the right of a join, once they have come in: they fit, and what is still to come is the
-- rows of the segments after it.
use mathlib.Core.Path.{◌≡◌, sym, ◌∙◌, ap}
use mathlib.Core.List.{List, [], ◌++◌, append_assoc}
use Prim.Native.Nat.{ℕ, ◌+◌, ◌-◌, ◌/◌, ◌%◌, ◌<◌, ◌≤◌}
use native.Mathlib.Omega.{arith}
use native.Mathlib.Decide.{dec_lt, ℕ_discrete}
use lib.IntN.{ℤ, pos}
use lib.ListN.{length, take, drop, length-append, length-take, take-append-drop, get_or-append}
use lib.Seq.{get_or-append-add, get_or-take, drop-drop}
use Rattle.base_exact.specs.Rational.{den}
use Rattle.base_exact.proofs.Tabulate.{tab_ext}
use Rattle.spec_spline.specs.Table.{Table, row, entry, cell, identity, row_cells, table_cells, numerators, denominators}
use Rattle.spec_spline.proofs.Table.{cell-past, identity-rows, identity_wide, identity_on, identity_off, identity_low}
use Rattle.build_cells.specs.Held.{Holds}
use Rattle.build_table.proofs.Added.{units_length, unit_row, denominators-kept}
use Rattle.build_cells.proofs.Buffer.{holds-left}
use Rattle.build_step.proofs.Stepped.{Proper, append_fits, take_fits, drop-fits, identity-fits}

module _ (t : Table) (rows column n columns : ℕ) (proper : Proper t rows columns) (wide : column + n ≤ columns) (low : rows + n ≤ row_cells) where
  abbrev units : Table
  units = take n (drop column (identity columns))

  size : length (t ++ units) ≡ rows + n
  size = length-append t units ∙ omega (arith, proper.shaped.row_count_lem, units_length t column n columns wide)

  row_wide : (i : ℕ) → i < rows + n → Dec (i < rows) → length (row (t ++ units) i) ≡ columns
  row_wide i h (yes l) = ap length (get_or-append t units [] i (omega (arith, proper.shaped.row_count_lem))) ∙ proper.shaped.wide i l
  row_wide i h (no l) =
      ap (λ k. length (row (t ++ units) k)) (let z : i ≡ length t + (i - rows) = omega (arith, proper.shaped.row_count_lem) in z)
      ∙ ap length (get_or-append-add t units (i - rows) [])
      ∙ ap length (unit_row t column n columns wide (i - rows) (omega arith))
      ∙ identity_wide columns (column + (i - rows)) (omega arith)

  pub grown_proper : Proper (t ++ units) (rows + n) columns
  grown_proper = record {
    shaped = record { row_count_lem = size; wide = λ i h. row_wide i h (dec_lt i rows); rows_fit = low; columns-fit = proper.shaped.columns-fit };
    fit = append_fits t units proper.fit (take_fits n (drop column (identity columns)) (drop-fits column (identity columns) (identity-fits columns)));
  }

  -- in the buffers, to whose numerators the rows were added
  module _ {num den num' : List ℤ} (h : Holds num den t) (added : num' ≡ numerators (t ++ units) num) where
    pub grown-denominators : den ≡ denominators (t ++ units) den
    grown-denominators = h.den_is ∙ sym (denominators-kept t column n columns wide den)

    pub grown-holds : Holds num' den (t ++ units)
    grown-holds = holds-left num den (t ++ units) h.num_long h.den_long added grown-denominators grown_proper.fit

-- what is still to come
pub grown-later : (t : Table) (column n columns : ℕ) → t ++ drop column (identity columns) ≡ (t ++ take n (drop column (identity columns))) ++ drop (column + n) (identity columns)
grown-later t column n columns =
    ap (λ r. t ++ r) (sym (take-append-drop n (drop column (identity columns))) ∙ ap (λ r. take n (drop column (identity columns)) ++ r) (drop-drop n column (identity columns)))
    ∙ sym (append_assoc t (take n (drop column (identity columns))) (drop (column + n) (identity columns)))

-- the first rows of the identity
pub first_proper : (n columns : ℕ) → n ≤ columns → columns ≤ row_cells → Proper (take n (identity columns)) n columns
first_proper n columns h k = record {
  shaped = record {
    row_count_lem = omega (arith, length-take n (identity columns), identity-rows columns);
    wide = λ i l. ap length (get_or-take n (identity columns) i [] l) ∙ identity_wide columns i (omega arith);
    rows_fit = omega arith;
    columns-fit = k;
  };
  fit = take_fits n (identity columns) (identity-fits columns);
}

-- which are a smaller identity, as far as the buffers go
first_cell : (n columns i c : ℕ) → n ≤ columns → cell (identity n) i c ≡ cell (take n (identity columns)) i c
first_cell n columns i c h = go (dec_lt i n) (ℕ_discrete i c)
  where
    inside : i < n → cell (take n (identity columns)) i c ≡ cell (identity columns) i c
    inside l = ap (λ r. entry r c) (get_or-take n (identity columns) i [] l)

    go : Dec (i < n) → Dec (i ≡ c) → cell (identity n) i c ≡ cell (take n (identity columns)) i c
    go (no l) d = identity_low n i c (omega arith) ∙ sym (cell-past (take n (identity columns)) i c (omega (arith, length-take n (identity columns))))
    go (yes l) (no e) = identity_off n i c e ∙ sym (inside l ∙ identity_off columns i c e)
    go (yes l) (yes e) = ap (cell (identity n) i) (sym e) ∙ identity_on n i l ∙ sym (inside l ∙ ap (cell (identity columns) i) (sym e) ∙ identity_on columns i (omega arith))

pub first-numerators : (n columns : ℕ) (b : List ℤ) → n ≤ columns → numerators (identity n) b ≡ numerators (take n (identity columns)) b
unfolding numerators
first-numerators n columns b h = ap (λ xs. xs ++ drop table_cells b) (tab_ext table_cells (λ k l. ap (λ q. q.num) (first_cell n columns (k / row_cells) (k % row_cells) h)))

pub first-denominators : (n columns : ℕ) (b : List ℤ) → n ≤ columns → denominators (identity n) b ≡ denominators (take n (identity columns)) b
unfolding denominators
first-denominators n columns b h = ap (λ xs. xs ++ drop table_cells b) (tab_ext table_cells (λ k l. ap (λ q. pos (den q)) (first_cell n columns (k / row_cells) (k % row_cells) h)))
