-- What a step leaves, for its callers: new rows fit and are as wide as the old ones, and the table with one row less is
-- shaped and fits where the table before did.
use mathlib.Core.Path.{◌≡◌, ◌∙◌, ap, subst}
use mathlib.Core.Bool.{true}
use mathlib.Core.List.{List, [], ◌++◌}
use Prim.Native.Nat.{ℕ, suc, ◌+◌, ◌-◌, ◌<◌, ◌≤◌}
use native.Mathlib.Omega.{arith}
use native.Mathlib.Decide.{dec_lt}
use lib.ListN.{length, take, drop, length-take, get_or-append}
use lib.Seq.{get_or-take, get_or-drop, get_or-append-add}
use Rattle.base_fraction.specs.Size.{fits}
use Rattle.base_outcome.specs.Outcome.{answer}
use Rattle.spec_spline.specs.Table.{Row, Table, entry, row, cell, identity, row_cells}
use Rattle.spec_spline.specs.Space.{Space, segments, column_count, condition_count, conditions_before, row_count}
use Rattle.spec_spline.specs.Conditions.{Entry, conditions}
use Rattle.spec_spline.specs.Step.{Span, new_entry, new_row, new_rows, step}
use Rattle.spec_spline.specs.Build.{order_steps, join_steps, weights}
use Rattle.base_outcome.proofs.Outcome.{Collected, collect_inverts, repeat-keeps}
use Rattle.spec_spline.proofs.Table.{cell-past, identity-rows, identity_wide}
use Rattle.spec_spline.proofs.Splice.{spliced_length, spliced-before, spliced-inside, spliced-after}
use Rattle.build_cells.specs.Held.{Shaped}
use Rattle.build_cells.proofs.Tables.{renewed}
use Rattle.spec_spline.proofs.Shape as Shape
use Rattle.spec_spline.proofs.TableFits.{new_row-fits, step_fits}
pub use Rattle.spec_spline.proofs.TableFits.{TableFits, zero-fits, identity-fits}

-- ---- tables whose entries all fit

pub append_fits : (s t : Table) → TableFits s → TableFits t → TableFits (s ++ t)
append_fits s t p q i c = go (dec_lt i (length s))
  where
    go : Dec (i < length s) → fits (cell (s ++ t) i c) ≡ true
    go (yes h) = ap (λ r. fits (entry r c)) (get_or-append s t [] i h) ∙ p i c
    go (no h) =
        ap (λ n. fits (cell (s ++ t) n c)) (let e : i ≡ length s + (i - length s) = omega arith in e)
        ∙ ap (λ r. fits (entry r c)) (get_or-append-add s t (i - length s) [])
        ∙ q (i - length s) c

pub take_fits : (n : ℕ) (t : Table) → TableFits t → TableFits (take n t)
take_fits n t p i c = go (dec_lt i n)
  where
    go : Dec (i < n) → fits (cell (take n t) i c) ≡ true
    go (yes h) = ap (λ r. fits (entry r c)) (get_or-take n t i [] h) ∙ p i c
    go (no h) = ap fits (cell-past (take n t) i c (omega (arith, length-take n t))) ∙ zero-fits

pub drop-fits : (n : ℕ) (t : Table) → TableFits t → TableFits (drop n t)
drop-fits n t p i c = ap (λ r. fits (entry r c)) (get_or-drop n t i []) ∙ p (n + i) c

pub renewed_fits : (f : ℕ) (t rs : Table) (i : ℕ) → TableFits t → TableFits rs → TableFits (renewed f t rs i)
renewed_fits f t rs i p q = append_fits (take f t) (rs ++ drop i t) (take_fits f t p) (append_fits rs (drop i t) q (drop-fits i t p))

-- ---- new rows

module _ (j : ℕ) (g : Span) (ws : Row) (t : Table) {rs : Table} (e : new_rows j g ws t ≡ answer rs) where
  collected : Collected (g.l - g.f) (λ d. new_row j (entry ws d) (entry ws (suc d)) (row t (g.f + d)) (row t (g.f + suc d))) rs
  unfolding new_rows
  collected = collect_inverts (g.l - g.f) _ e

  pub new_rows_length : length rs ≡ g.l - g.f
  new_rows_length = collected.size

  pub new_rows_wide : (d : ℕ) → d < g.l - g.f → length (row rs d) ≡ length (row t (g.f + d))
  new_rows_wide d h = (collect_inverts (length (row t (g.f + d))) (λ c. new_entry j (entry ws d) (entry ws (suc d)) (entry (row t (g.f + d)) c)
      (entry (row t (g.f + suc d)) c)) (collected.at d h [])).size

  pub new_rows_fit : TableFits rs
  new_rows_fit d c = go (dec_lt d (g.l - g.f))
    where
      go : Dec (d < g.l - g.f) → fits (cell rs d c) ≡ true
      go (yes h) = new_row-fits j (entry ws d) (entry ws (suc d)) (row t (g.f + d)) (row t (g.f + suc d)) (collected.at d h []) c
      go (no h) = ap fits (cell-past rs d c (omega (arith, new_rows_length))) ∙ zero-fits

  -- with the rows up to i new, every row is as wide as before and there are as many rows but for those between
  pub renewed_shaped : {rows columns : ℕ} (i : ℕ) → Shaped t rows columns → g.f ≤ g.l → g.l ≤ i → i ≤ rows → Shaped (renewed g.f t rs i) (rows - (i - g.l)) columns
  renewed_shaped {rows} {columns} i shaped h k m = record {
    row_count_lem = spliced_length t rs g.f i (omega (arith, shaped.row_count_lem)) ∙ omega (arith, new_rows_length, shaped.row_count_lem);
    wide = λ n l. place n l (dec_lt n g.f) (dec_lt n g.l);
    rows_fit = omega (arith, shaped.rows_fit);
    columns-fit = shaped.columns-fit;
  }
    where
      within : g.f ≤ length t
      within = omega (arith, shaped.row_count_lem)

      place : (n : ℕ) → n < rows - (i - g.l) → Dec (n < g.f) → Dec (n < g.l) → length (row (renewed g.f t rs i) n) ≡ columns
      place n l (yes a) b = ap length (spliced-before t rs g.f i within n [] a) ∙ shaped.wide n (omega arith)
      place n l (no a) (yes b) =
          ap length (spliced-inside t rs g.f i within n [] (omega arith) (omega (arith, new_rows_length)))
          ∙ new_rows_wide (n - g.f) (omega arith)
          ∙ ap (λ d. length (row t d)) (let e : g.f + (n - g.f) ≡ n = omega arith in e)
          ∙ shaped.wide n (omega arith)
      place n l (no a) (no b) =
          ap length (spliced-after t rs g.f i within n (i + (n - g.l)) [] (omega (arith, new_rows_length)) (omega (arith, new_rows_length)))
          ∙ shaped.wide (i + (n - g.l)) (omega arith)

-- ---- the identity's shape

pub identity_shaped : (n : ℕ) → n ≤ row_cells → Shaped (identity n) n n
identity_shaped n h = record { row_count_lem = identity-rows n; wide = λ i l. identity_wide n i l; rows_fit = h; columns-fit = h }

-- ---- a step's table: one row less, as wide as before, and it fits

-- a table of this shape whose entries all fit
pub record Proper (t : Table) (rows columns : ℕ) : Type 0 where
  pub shaped : Shaped t rows columns
  pub fit : TableFits t

pub step_one_less : (j : ℕ) (κ : List Entry) (t : Table) {next : Table} {rows columns : ℕ} → step j κ t ≡ answer next → Proper t rows columns → Proper next (rows - 1) columns
step_one_less j κ t {next} {rows} {columns} e proper = record {
  shaped = record {
    row_count_lem = left.rows;
    wide = λ i h. left.wide.each i (omega (arith, left.rows));
    rows_fit = omega (arith, proper.shaped.rows_fit);
    columns-fit = proper.shaped.columns-fit;
  };
  fit = step_fits j κ t proper.fit e;
}
  where
    left : Shape.Shaped columns (rows - 1) next
    left = Shape.step_shaped columns rows j κ t (record { wide = record { each = λ i h. proper.shaped.wide i (omega (arith, proper.shaped.row_count_lem)) }; rows = proper.shaped.row_count_lem }) e

-- the orders below n at a join: n rows less
pub orders_less : (s : Space) (j n : ℕ) (t : Table) {next : Table} {rows columns : ℕ} → order_steps s j n t ≡ answer next → Proper t rows columns → Proper next (rows - n) columns
unfolding order_steps
orders_less s j n t {next} {rows} {columns} e proper =
    repeat-keeps (λ k u. Proper u (rows - k) columns) n (λ k. step j (conditions s j k)) t (subst (λ m. Proper t m columns) (let z : rows ≡ rows - 0 = omega arith in z) proper)
    (λ k u v h p f. subst (λ m. Proper v m columns) (let z : rows - k - 1 ≡ rows - suc k = omega arith in z) (step_one_less j (conditions s j k) u f p))
    next e

-- ---- the whole build: a row less for each condition
pub weights_proper : (s : Space) {t : Table} → column_count s ≤ row_cells → weights s ≡ answer t → Proper t (row_count s) (column_count s)
unfolding weights join_steps conditions_before
weights_proper s {t} h e =
    repeat-keeps (λ k u. Proper u (column_count s - conditions_before s k) (column_count s)) (segments s - 1) (λ j. order_steps s j (condition_count s j)) (identity (column_count s))
    (subst (λ m. Proper (identity (column_count s)) m (column_count s)) (let z : column_count s ≡ column_count s - 0 = omega arith in z)
    (record { shaped = identity_shaped (column_count s) h; fit = identity-fits (column_count s) }))
    (λ j u v l p f. subst (λ m. Proper v m (column_count s)) (let z : column_count s - conditions_before s j - condition_count s j ≡
    column_count s - (conditions_before s j + condition_count s j) = omega arith in z) (orders_less s j (condition_count s j) u f p))
    t e
