-- Lists that pass the check are legal, legal lists pass it, and what legal lists give: the laws that other crates cite.
-- The space of the three lists is written out as `space b d o`, as the contracts have it.
use mathlib.Core.Path.{◌≡◌, sym}
use mathlib.Core.Bool.{false}
use mathlib.Core.List.{List}
use Prim.Native.Nat.{ℕ, zero, suc, ◌+◌, ◌*◌, ◌-◌, ◌<◌, ◌≤◌}
use native.Mathlib.Omega.{arith}
use lib.IntN.{ℤ}
use lib.ListN.{length}
use Rattle.base_outcome.specs.Outcome.{answer}
use Rattle.spec_spline.specs.Space.{Space, bad_break, checked, part_end, degree, width, condition_count, first_column, column_count, conditions_before, row_count}
use Rattle.spec_spline.proofs.Space.{first_column_mono}
use Rattle.spec_spline.proofs.Parts.{part-ends, segment_in_part}
use Rattle.spec_spline.proofs.Legal.{Checked, checked_inverts, checked-passes, Lengths, lengths_fit_inverts, lengths-fit, good-break_rises}
use Rattle.build_space.specs.Machine.{space}
use Rattle.base_outcome.specs.Machine.{passed}
use Rattle.build_space.specs.Legal.{JoinsLegal, ListsLegal, PartLegal}
use Rattle.build_space.proofs.Entries.{good-break-size, break-good-first, break-good, good-degree_low, good-degree-high, degree-good}
use Rattle.build_space.proofs.Entries.{GoodOrder, good-order, order-good, good-span, span-good, good-part, part-good}
use Rattle.build_space.proofs.Bounds.{width_positive, width-within, degree-high, first-column-next, first-column-high}
use Rattle.build_space.proofs.Bounds.{condition_count-high, condition_count-left, condition_count-right, conditions-before-columns}
use Rattle.build_space.proofs.Bounds.{row-count-sum}
use Rattle.base_outcome.proofs.Machine.{passed_answers}

-- ---- the check and its meaning

module _ (b d o : List ℤ) where
  -- a check that answers: the lists are legal
  pub checked_legal : {s : Space} → checked (space b d o) ≡ answer s → ListsLegal b d o
  checked_legal e = record {
    some = lengths.some_segment;
    few = lengths.few_segments;
    break-count = lengths.break-count;
    order-count = lengths.order-count;
    breaks_legal = record {
      size = λ i l. good-break-size whole i (passed.breaks i (omega (arith, lengths.break-count)));
      rise = λ i l. good-break_rises whole i (passed.breaks (suc i) (omega (arith, lengths.break-count)));
    };
    degrees_legal = record { low = λ i l. good-degree_low whole i (passed.degrees i l); high = λ i l. good-degree-high whole i (passed.degrees i l) };
    orders_legal = record { low = λ i l. (good i l).low; high = λ i l. (good i l).high };
    left = λ i l. (good i l).left;
    right = λ i l. (good i l).right;
    spans = λ i l. good-span whole i (passed.spans i l);
    part-counts = λ i l. good-part whole i (passed.few i l);
  }
    where
      whole : Space
      whole = space b d o

      passed : Checked (space b d o)
      passed = (checked_inverts (space b d o) e).1

      lengths : Lengths (space b d o)
      lengths = lengths_fit_inverts (space b d o) passed.lengths

      good : (i : ℕ) → i < length o → GoodOrder (space b d o) i
      good i l = good-order (space b d o) i (passed.orders i (omega (arith, lengths.order-count)))

  -- and back
  pub legal_checked : ListsLegal b d o → checked (space b d o) ≡ answer (space b d o)
  legal_checked h = checked-passes (space b d o) (record {
    lengths = lengths-fit (space b d o) (record { some_segment = h.some; few_segments = h.few; break-count = h.break-count; order-count = h.order-count });
    breaks = good-break;
    spans = λ i l. span-good (space b d o) i (h.spans i l);
    degrees = λ i l. degree-good (space b d o) i (h.degrees_legal.low i l) (h.degrees_legal.high i l);
    orders = λ i l. let k : i < length o = omega (arith, h.order-count) in
        order-good (space b d o) i (record { low = h.orders_legal.low i k; high = h.orders_legal.high i k; left = h.left i k; right = h.right i k });
    few = λ i l. part-good (space b d o) i (h.part-counts i l);
  })
    where
      good-break : (i : ℕ) → i < length d + 1 → bad_break (space b d o) i ≡ false
      good-break zero l = break-good-first (space b d o) (h.breaks_legal.size 0 (omega (arith, h.break-count)))
      good-break (suc i) l = break-good (space b d o) i (h.breaks_legal.size (suc i) (omega (arith, h.break-count))) (h.breaks_legal.rise i (omega (arith, h.break-count)))

  -- the same of what the check tells
  pub passed_legal : answer tt ≡ passed (checked (space b d o)) → ListsLegal b d o
  passed_legal e = checked_legal (passed_answers _ e).is

-- ---- what legal lists give

module _ (b d o : List ℤ) (h : ListsLegal b d o) where
  -- the degrees and the orders by themselves
  pub legal_joins : JoinsLegal d o
  legal_joins = record {
    few = h.few;
    count = sym h.order-count;
    degrees_legal = h.degrees_legal;
    orders_legal = h.orders_legal;
    left = h.left;
    right = h.right;
  }

  pub legal_width_low : (i : ℕ) → i < length d → 1 ≤ width (space b d o) i
  legal_width_low i l = width_positive (space b d o) h.breaks_legal i (omega (arith, h.break-count))

  -- no longer than the span of the part that it lies in
  pub legal_width-high : (i : ℕ) → i < length d → width (space b d o) i ≤ 2000
  legal_width-high i l =
      let p = segment_in_part (space b d o) i l in
      let a = p.start in
      let e = part-ends (space b d o) a (omega (arith, p.from)) in
      width-within (space b d o) h.breaks_legal a (part_end (space b d o) a) i p.from p.to (omega (arith, e.boundary.within, h.break-count))
      (h.spans a (omega (arith, p.from)) p.starts)

  pub legal_degree-high : (i : ℕ) → i < length d → degree (space b d o) i ≤ 5
  legal_degree-high i l = degree-high (space b d o) h.degrees_legal i l

  -- the conditions at a join: at most three, and no more than either neighbouring degree
  pub legal_conditions-high : (i : ℕ) → i < length o → condition_count (space b d o) i ≤ 3
  legal_conditions-high i l = condition_count-high (space b d o) h.orders_legal i l

  pub legal_conditions-left : (i : ℕ) → i < length o → condition_count (space b d o) i ≤ degree (space b d o) i
  legal_conditions-left i l = condition_count-left (space b d o) legal_joins i l

  pub legal_conditions-right : (i : ℕ) → i < length o → condition_count (space b d o) i ≤ degree (space b d o) (suc i)
  legal_conditions-right i l = condition_count-right (space b d o) legal_joins i l

  -- at most six columns a segment, 288 in all
  pub legal_first-column-high : (i : ℕ) → i ≤ length d → first_column (space b d o) i ≤ 6 * i
  legal_first-column-high i l = first-column-high (space b d o) h.degrees_legal i l

  pub legal_column-count-high : column_count (space b d o) ≤ 288
  legal_column-count-high = omega (arith, legal_first-column-high (length d) (omega arith), h.few)

  -- a segment's columns are among all
  pub legal_columns-within : (i : ℕ) → i < length d → first_column (space b d o) i + degree (space b d o) i < column_count (space b d o)
  legal_columns-within i l = omega (arith, first-column-next (space b d o) i, first_column_mono (space b d o) (suc i) (length d) l)

  -- fewer conditions than columns
  pub legal_conditions-before : (i : ℕ) → i < length d → conditions_before (space b d o) i + i ≤ first_column (space b d o) i
  legal_conditions-before i l = conditions-before-columns (space b d o) legal_joins i l

  -- the number of rows: nothing underflows, and there is one for each segment and one more
  pub legal_row-count-sum : row_count (space b d o) + conditions_before (space b d o) (length d - 1) ≡ column_count (space b d o)
  legal_row-count-sum = row-count-sum (space b d o) legal_joins

-- ---- what the lists of a part give

-- as many columns as the buffers have for a row
pub part-column-count-high : (b d o : List ℤ) → PartLegal b d o → column_count (space b d o) ≤ 72
part-column-count-high b d o h = omega (arith, legal_first-column-high b d o h.lists (length d) (omega arith), h.few)
