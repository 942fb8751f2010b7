-- The columns of the weight buffers sum to one, proved: they hold the last part, which is built by itself, and zeros below it.
use mathlib.Core.Path.{◌≡◌, sym, ◌∙◌, ap, ap₂, subst}
use mathlib.Core.Logic.{inr}
use mathlib.Core.List.{List}
use Prim.Native.Nat.{ℕ, zero, suc, ◌+◌, ◌*◌, ◌/◌, ◌%◌, ◌<◌, ◌≤◌}
use native.Mathlib.Omega.{arith}
use lib.Dec.{ltb}
use lib.IntN.{ℤ, pos}
use lib.ListN.{length, get_or}
use lib.Signed.{◌≤ℤ◌, ◌<ℤ◌}
use Rattle.base_exact.specs.Rational.{den, int, ◌/ᵠ◌}
use Rattle.base_exact.specs.Sum.{sum}
use Rattle.base_exact.proofs.Integer as Z
use Rattle.base_exact.proofs.Rational.{self, is_mul_int, int_nonzero, div_unique}
use Rattle.base_exact.proofs.Sum.{sum_ext, sum_past}
use Rattle.base_outcome.specs.Outcome.{Outcome, answer, with_answer}
use Rattle.spec_spline.specs.Space.{Space, segments, part_end, last_part_start, first_column, column_count, row_count, rows_before}
use Rattle.spec_spline.specs.Table.{Table, row_cells, table_cells}
use Rattle.spec_spline.specs.Build.{space_weights, built, last_part, numerators_after, denominators_after}
use Rattle.spec_spline.specs.Piecewise.{Accepted}
use Rattle.spec_spline.specs.CurveCall.{curve_outcome, held_by}
use Rattle.base_outcome.proofs.Outcome.{with_inverts}
use Rattle.spec_spline.proofs.Parts.{Ends, ends_unique, whole_boundary}
use Rattle.spec_spline.proofs.Legal.{Checked, cond_refuse_inverts, legal, lengths_fit_inverts}
use Rattle.theorems_weights.specs.Cells.{last_part_cell}
use Rattle.theorems_weights.proofs.Built.{built as built-basis}
use Rattle.theorems_weights.proofs.Cells.{last-part-held}
use Rattle.theorems_weights.proofs.PartitionOfUnity.{column_sums_one}
use Rattle.theorems_beams.specs.Sections.{part_at}
use Rattle.theorems_beams.specs.Parts.{Starts, PartOf}
use Rattle.theorems_beams.proofs.Sections.{orders_fit, section_all}
use Rattle.theorems_beams.proofs.Ends.{Before, part-before, front-last_part_start}
use Rattle.theorems_beams.proofs.PartLegal.{part_few, part-checked}
use Rattle.theorems_beams.proofs.Fronts.{part-columns}
use Rattle.theorems_beams.proofs.Parts.{weights_by_parts}
use Rattle.theorems_values.proofs.Segment.{accepted-checked}
use Rattle.theorems_values.proofs.LegalCall.{legal_calls_answer}
use Rattle.theorems_stages.proofs.Limits.{Limits, limits}
use Rattle.theorems_promises.specs.WeightColumns.{held_fraction, last_columns, SumsToOne, BuiltCellsSumToOne, CurveCellsSumToOne}

-- ---- the last part

-- six columns a segment at most
columns_few : (s : Space) → Limits s → (n : ℕ) → n ≤ segments s → first_column s n ≤ 6 * n
unfolding first_column
columns_few s L zero h = omega arith
columns_few s L (suc n) h = omega (arith, columns_few s L n (omega arith), L.low_degree n (omega arith))

module _ (s : Space) (x : Accepted s) where
  c : Checked s
  c = (accepted-checked s x).1

  before : Before s (segments s)
  before = part-before s (segments s) (legal s c).lengths.some_segment (whole_boundary s)

  -- where it starts
  abbrev a : ℕ
  a = last_part_start s

  start_is : a ≡ before.start
  start_is = ap last_part_start (sym (section_all s (lengths_fit_inverts s c.lengths))) ∙ front-last_part_start s before.start (segments s) before.starts.starts before.ends

  A : Starts s a
  A = subst (Starts s) (sym start_is) before.starts

  ends : part_end s a ≡ segments s
  ends = ends_unique s a (segments s) (subst (λ i. Ends s i (segments s)) (sym start_is) before.ends)

  part : PartOf s x.table a
  part = weights_by_parts s x a A

  columns : column_count s ≡ first_column s a + column_count (part_at s a)
  columns = ap (first_column s) (sym ends) ∙ part-columns s (orders_fit s c) a A

  last-columns : last_columns s ≡ column_count (part_at s a)
  last-columns = omega (arith, columns)

  fit : column_count (part_at s a) ≤ row_cells
  fit = omega (arith, columns_few (part_at s a) (limits (part_at s a) (part-checked s a A c)) (segments (part_at s a)) (omega arith), part_few s a A c)

  -- its columns in the whole table sum to one
  column_sums : (k : ℕ) → k < last_columns s → sum row_cells (λ i. last_part_cell s x.table i k) ≡ int (pos 1)
  column_sums k h =
      sum_past (row_count (part_at s a)) row_cells (λ i. last_part_cell s x.table i k) (omega (arith, fit))
      (λ i l m. part.zero-above_and_below (rows_before s a + i) k (omega (arith, last-columns)) (inr (omega arith)))
      ∙ sum_ext (row_count (part_at s a)) (λ i l. part.same i k l (omega (arith, last-columns)))
      ∙ column_sums_one (part_at s a) part.accepted k (omega (arith, last-columns))

  -- ---- in the buffers

  module _ (nums dens : List ℤ) where
    abbrev nums' : List ℤ
    nums' = numerators_after (answer (last_part s x.table)) nums

    abbrev dens' : List ℤ
    dens' = denominators_after (answer (last_part s x.table)) dens

    held : (i k : ℕ) → i < row_cells → k < row_cells → held_fraction nums' dens' (row_cells * i + k) ≡ last_part_cell s x.table i k
    held i k h l = let H = last-part-held s x.table nums dens i k h l in
        ap₂ (λ n d. int n /ᵠ int d) H.numerator H.denominator ∙ sym (div_unique (int_nonzero _) (is_mul_int (self (last_part_cell s x.table i k))))

    cell-signs : (i k : ℕ) → i < row_cells → k < row_cells → (pos 0 ≤ℤ get_or nums' (row_cells * i + k) (pos 0)) × (pos 0 <ℤ get_or dens' (row_cells * i + k) (pos 0))
    cell-signs i k h l = let H = last-part-held s x.table nums dens i k h l in (
      subst (λ z. pos 0 ≤ℤ z) (sym H.numerator) (Z.non_neg_le _ ((built-basis s x.table x.is).basis.not_negative _ _).nn),
      subst (λ z. pos 0 <ℤ z) (sym H.denominator) (Z.<_in (pos 0) (pos (den (last_part_cell s x.table i k))) (omega arith)),
    )

    laid_sums : SumsToOne s nums' dens'
    laid_sums = record {
      not_negative =
          λ k h. subst (λ j. (pos 0 ≤ℤ get_or nums' j (pos 0)) × (pos 0 <ℤ get_or dens' j (pos 0))) (let z : row_cells * (k / row_cells) + k % row_cells ≡ k = omega arith in z)
          (cell-signs (k / row_cells) (k % row_cells) (omega arith) (omega arith));
      columns-fit = omega (arith, last-columns, fit);
      sums = λ k h. sum_ext row_cells (λ i l. held i k l (omega (arith, last-columns, fit))) ∙ column_sums k h;
    }

    -- after a call that ends with this last part
    pub ended_sums : (o : Outcome Table) → o ≡ answer (last_part s x.table) → SumsToOne s (numerators_after o nums) (denominators_after o dens)
    ended_sums o e = subst (λ o. SumsToOne s (numerators_after o nums) (denominators_after o dens)) (sym e) laid_sums

-- a build that answers has an accepted space
built-accepted : (s : Space) (num_length den_length : ℕ) {t : Table} → built s num_length den_length ≡ answer t → space_weights s ≡ answer t
unfolding built
built-accepted s num_length den_length e =
    let first = cond_refuse_inverts (ltb num_length table_cells) 1 0 _ e in
    (cond_refuse_inverts (ltb den_length table_cells) 1 1 (space_weights s) first.1).1

pub built-cells-sum_to_one : BuiltCellsSumToOne
built-cells-sum_to_one s nums dens n e =
    let o = built s (length nums) (length dens) in
    let C = with_inverts (λ _. row_count s) o e in
    ended_sums s (record { table = C.before; is = built-accepted s (length nums) (length dens) C.answers }) nums dens (with_answer (last_part s) o) (ap (with_answer (last_part s)) C.answers)

pub curve_cells-sum_to_one : CurveCellsSumToOne
curve_cells-sum_to_one s coefs positions num den values l =
    ended_sums s l.accepted num den (held_by s (curve_outcome s coefs positions (length num) (length den) (length values)))
    (ap (held_by s) (legal_calls_answer s coefs positions (length num) (length den) (length values) l))
