-- A segment in which no offset reaches the target leads to the next one; the first offset that does is the position found.
use Rattle.std.proofs.Common.{ℕ, suc, ◌+◌, ◌<◌, ◌≤◌, ◌≡◌, ◌∙◌, sym, ap, subst, arith, ℤ, List, [], pos, to_z, of_z, Some}
use lib.IntN.{nat_abs}
use lib.Signed.{mag}
use mir.Syntax.{w32, w64}
use mir.ValLaws.{to_z-of_z}
use Rattle.base_outcome.specs.Search.{first}
use Rattle.spec_spline.specs.Space.{Space}
use Rattle.spec_spline.proofs.Legal.{Checked, checked_inverts}
use Rattle.build_space.specs.Machine.{space}
use Rattle.build_space.specs.Legal.{ListsLegal}
use Rattle.build_space.proofs.Bounds.{degree_low}
use Rattle.build_space.proofs.Legal.{legal_checked, legal_width_low, legal_width-high, legal_degree-high, legal_columns-within}
use Rattle.build_space.proofs.Legal.{legal_column-count-high}
use Rattle.spec_calls.specs.Positions.{position_count}
use Rattle.curve_reach_search.specs.Machine.{start_offset, found, reaches_held}
use Rattle.curve_reach_search.proofs.Offsets.{start_at_most_one}
use Rattle.curve_reach_search.proofs.Searching.{before-first, before-next, found_in, found-past, start_partial}
use Rattle.curve_reach_search.proofs.search.Goals as goal

checks : {b d o : List ℤ} → ListsLegal b d o → Checked (space b d o)
checks {b} {d} {o} legal = (checked_inverts (space b d o) (legal_checked b d o legal)).1

-- the width, read back from its word
width_told : {z : ℤ} {n : ℕ} → mag z < 9223372036854775808 → z ≡ pos n → nat_abs (to_z w64 (of_z w64 z)) ≡ n
width_told {z} f e = ap nat_abs (to_z-of_z w64 z (record { sfits = f }) ∙ e)

-- the first offset of the segment after segment i
next_told : (b d o : List ℤ) (i : ℕ) {n : ℕ} → n ≡ start_offset (space [] d o) (i + 1) → n ≡ start_offset (space b d o) (suc i)
next_told b d o i e = e ∙ start_partial b d o (i + 1) ∙ ap (start_offset (space b d o)) (let next : i + 1 ≡ suc i = omega arith in next)

-- a first offset is 0 or 1
start_low : (s : Space) (i : ℕ) {n : ℕ} → n ≡ start_offset s i → n ≤ 1
start_low s i e = subst (λ n. n ≤ 1) (sym e) (start_at_most_one s i)

pub loop-i-init : goal.loop-i-init
loop-i-init c =
    let a = c.args in
    before-first (space a.breaks.now a.degrees.now a.orders.now) a.ordinates.now _ (checks c.requires.legal)

pub overflow_add-d : goal.overflow_add-d
overflow_add-d c =
    let a = c.args in
    let d = width_told c.fine_width-d.type_inv c.fine_width-d.ensures in
    let n = start_low _ _ (next_told a.breaks.now a.degrees.now a.orders.now c.loop-i.i c.start_offset-next.ensures) in
    omega (arith, d, n, legal_width-high _ _ _ c.requires.legal c.loop-i.i c.loop-i-test.true)

pub first_offset-u-requires : goal.first_offset-u-requires
first_offset-u-requires c =
    let a = c.args in
    let s : Space = space a.breaks.now a.degrees.now a.orders.now in
    let l = c.requires.legal in
    let i = c.loop-i.i in
    let below = c.loop-i-test.true in
    let p = c.degree_at-p.ensures in
    let d = width_told c.fine_width-d.type_inv c.fine_width-d.ensures in
    let n = start_low _ _ (next_told a.breaks.now a.degrees.now a.orders.now i c.start_offset-next.ensures) in
    let low = legal_width_low _ _ _ l i below in
    let high = legal_width-high _ _ _ l i below in
    record {
      segment = record {
        columns = record {
          columns-within = omega (
            arith,
            p,
            c.loop-i.invariant.column_is,
            legal_columns-within _ _ _ l i below,
            legal_column-count-high _ _ _ l,
          );
          ordinates = c.requires.ordinates;
        };
        degree_some = omega (arith, p, degree_low s l.degrees_legal i below);
        degree_low = omega (arith, p, legal_degree-high _ _ _ l i below);
        long = omega (arith, d, low);
        short = omega (arith, d, high);
      };
      end_within = omega (arith, n);
      start-within = omega (arith, d, low, start_low s i c.loop-i.invariant.start_is);
    }

pub overflow_add-d-in-loop-i : goal.overflow_add-d-in-loop-i
overflow_add-d-in-loop-i c =
    let a = c.args in
    let d = width_told c.fine_width-d.type_inv c.fine_width-d.ensures in
    let n = start_low _ _ (next_told a.breaks.now a.degrees.now a.orders.now c.loop-i.i c.start_offset-next.ensures) in
    omega (arith, d, n, legal_width-high _ _ _ c.requires.legal c.loop-i.i c.loop-i-test.true)

pub position_at-requires : goal.position_at-requires
position_at-requires c =
    let a = c.args in
    let l = c.requires.legal in
    let d = width_told c.fine_width-d.type_inv c.fine_width-d.ensures in
    let n = start_low _ _ (next_told a.breaks.now a.degrees.now a.orders.now c.loop-i.i c.start_offset-next.ensures) in
    record {
      break = record { within = omega (arith, c.loop-i-test.true, l.break-count); legal = l.breaks_legal };
      short = omega (arith, d, n, c.if-u-d.true, legal_width-high _ _ _ l c.loop-i.i c.loop-i-test.true);
    }

pub returns-then-u-d : goal.returns-then-u-d
returns-then-u-d c =
    let a = c.args in
    let s : Space = space a.breaks.now a.degrees.now a.orders.now in
    ap Some (to_z-of_z w32 _ (record { sfits = c.position_at.type_inv }) ∙ c.position_at.ensures)
    ∙ found_in s a.ordinates.now (to_z w64 (of_z w64 a.target)) (checks c.requires.legal) c.loop-i.invariant c.loop-i-test.true
    c.degree_at-p.ensures (width_told c.fine_width-d.type_inv c.fine_width-d.ensures)
    (next_told a.breaks.now a.degrees.now a.orders.now c.loop-i.i c.start_offset-next.ensures) c.first_offset-u.ensures c.if-u-d.true
    ∙ ap (λ t. found s (first (position_count s) (reaches_held s a.ordinates.now t))) (to_z-of_z w64 _ c.ranges.target)

pub overflow_add-column-in-loop-i : goal.overflow_add-column-in-loop-i
overflow_add-column-in-loop-i c =
    let l = c.requires.legal in
    omega (
      arith,
      c.degree_at-p.ensures,
      c.loop-i.invariant.column_is,
      legal_columns-within _ _ _ l c.loop-i.i c.loop-i-test.true,
      legal_column-count-high _ _ _ l,
    )

pub loop-i-preserved : goal.loop-i-preserved
loop-i-preserved c =
    let a = c.args in
    before-next (space a.breaks.now a.degrees.now a.orders.now) a.ordinates.now (to_z w64 (of_z w64 a.target))
    (checks c.requires.legal) c.loop-i.invariant c.loop-i-test.true
    c.degree_at-p.ensures (width_told c.fine_width-d.type_inv c.fine_width-d.ensures)
    (next_told a.breaks.now a.degrees.now a.orders.now c.loop-i.i c.start_offset-next.ensures) c.first_offset-u.ensures
    (omega (arith, c.if-u-d.false))

pub returns : goal.returns
returns c =
    let a = c.args in
    let s : Space = space a.breaks.now a.degrees.now a.orders.now in
    found-past s a.ordinates.now (to_z w64 (of_z w64 a.target)) (checks c.requires.legal) c.loop-i.invariant
    (omega (arith, c.loop-i-test.false))
    ∙ ap (λ t. found s (first (position_count s) (reaches_held s a.ordinates.now t))) (to_z-of_z w64 _ c.ranges.target)
