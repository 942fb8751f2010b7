-- A row with weight on the column adds its term, and one without leaves the terms.
use Rattle.std.proofs.Common.{◌≡◌, ap, arith, ℕ, ◌+◌, ◌*◌, ◌^◌, ◌<◌, ◌≤◌, List, ℤ, pos, nat_abs, get_or, ◌<ℤ◌, w32, w64}
use mir.Val.{SFits, of_z}
use Rattle.base_exact.specs.Rational
use Rattle.base_exact.proofs.Word.{to_z-of_z, of_z_inj, sfits_abs}
use Rattle.base_exact.proofs.Integer.{<_in}
use Rattle.base_fraction.proofs.Size.{fits-den}
use Rattle.spec_spline.specs.Table.{cell}
use Rattle.curve_ordinates.specs.Ordinates.{TermAsks, ColumnAsks, entries, ordinate_limit}
use Rattle.curve_ordinates.proofs.Gathered.{gathered_none, gathered_skip, gathered_more, cell_num, cell-den}
use Rattle.curve_ordinates.proofs.column_terms.Goals as goal
use Rattle.curve_ordinates.proofs.column_terms.Goals.{then-x-ne0, else-x-ne0}

-- what the buffers hold for row i
module _ {num den coefs : List ℤ} {index n c : ℕ} (r : ColumnAsks num den coefs index n c) (i : ℕ) (before : i < n) where
  abbrev x : ℤ
  x = get_or num (72 * i + c) (pos 0)

  abbrev d : ℤ
  d = get_or den (72 * i + c) (pos 0)

  abbrev a : ℤ
  a = entries coefs index i

  row_within : i < 72
  row_within = omega (arith, r.rows.weights.few)

  x_is : x ≡ (cell r.rows.weights.table i c).num
  x_is = cell_num r.rows.weights.holds i c row_within r.column-within

  d_is : d ≡ pos (Rational.den (cell r.rows.weights.table i c))
  d_is = cell-den r.rows.weights.holds i c row_within r.column-within

  d_small : nat_abs d < 2 ^ 31
  d_small = rw d_is (fits-den _ (r.rows.weights.holds.fit i c))

  d_positive : pos 0 <ℤ d
  d_positive = rw d_is (<_in _ _ (omega arith))

  x_unit : nat_abs x ≤ nat_abs d
  x_unit = rw (x_is, d_is) (r.rows.weights.unit i c)

  a_small : nat_abs a ≤ 1000000
  a_small = r.rows.coefficients.small (2 * i + index)

  a_fits_32 : SFits w32 a
  a_fits_32 = sfits_abs (omega (arith, a_small))

  a_fits : SFits w64 a
  a_fits = sfits_abs (omega (arith, a_small))

  x_fits : SFits w64 x
  x_fits = sfits_abs (omega (arith, x_unit, d_small))

  d_fits : SFits w64 d
  d_fits = sfits_abs (omega (arith, d_small))

  term_asks : {sum : ℤ} → nat_abs sum ≤ i * ordinate_limit → TermAsks sum a x d
  term_asks h = record {
    coefficient-small = a_small;
    den-short = d_small;
    den_positive = d_positive;
    unit = x_unit;
    sum-short = omega (arith, row_within);
  }

pub loop-i-init : goal.loop-i-init
loop-i-init c = gathered_none _ _ _ _

pub with_term-all-requires : goal.with_term-all-requires
with_term-all-requires c =
    let r = c.requires in
    let i = c.loop-i.i in
    let h = c.loop-i-test.true in
    simp (to_z-of_z, a_fits_32 r i h, a_fits r i h, x_fits r i h, d_fits r i h) (term_asks r i h c.loop-i.invariant.small)

pub loop-i-preserved : goal.loop-i-preserved
loop-i-preserved c =
    let r = c.requires in
    let l = c.loop-i in
    let h = c.loop-i-test.true in
    let within = row_within r l.i h in
    elim c.if-x-ne0.branch [
      | then-x-ne0 w ↦
          rw w.all-is
          (gathered_more _ _ _ _ l.i within r.column-within l.all l.invariant w.with_term-all.result
          (λ z. w.if-x-ne0.true (ap (of_z w64) z))
          (simp (to_z-of_z, a_fits_32 r l.i h, a_fits r l.i h, x_fits r l.i h, d_fits r l.i h) at w.with_term-all.ensures))
      | else-x-ne0 w ↦
          rw w.all-is
          (gathered_skip _ _ _ _ l.i within r.column-within l.all l.invariant
          (of_z_inj w64 (x r l.i h) (pos 0) (x_fits r l.i h) (sfits_abs (omega arith)) w.if-x-ne0.false))
    ]
