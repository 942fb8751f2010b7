-- The ordinates from the segment's first column on, and its two breakpoints.
use Rattle.std.proofs.Common.{ℕ, suc, ◌+◌, ◌<◌, ◌≡◌, ◌∙◌, ap, subst, arith, ℤ, List, pos, length, get_or}
use mir.Syntax.{w32}
use mir.Val.{SFits}
use mir.ValLaws.{to_z-of_z}
use Rattle.base_exact.specs.Tabulate.{tab}
use Rattle.base_exact.proofs.Word.{sfits_abs}
use Rattle.spec_spline.specs.Space.{first_column}
use Rattle.spec_spline.specs.Reading.{fineness}
use Rattle.build_space.specs.Machine.{space}
use Rattle.build_space.specs.Legal.{BreaksLegal}
use Rattle.build_space.proofs.Bounds.{degree_low}
use Rattle.build_space.proofs.Partial.{first-column_partial}
use Rattle.build_space.proofs.Legal.{legal_columns-within, legal_column-count-high}
use Rattle.curve_drawing.specs.Floats.{Is, Each, floats}
use Rattle.curve_pieces.proofs.piece_at.Goals as goal

-- a breakpoint fits its word
fits : {breaks : List ℤ} → BreaksLegal breaks → (i : ℕ) → i < length breaks → SFits w32 (get_or breaks i (pos 0))
fits legal i h = sfits_abs (omega (arith, legal.size i h))

pub curve_at-curve-requires : goal.curve_at-curve-requires
curve_at-curve-requires c =
    let a = c.args in
    let l = c.requires.legal in
    let d = c.degree_at-degree.ensures in
    let low = degree_low (space a.breaks.now a.degrees.now a.orders.now) l.degrees_legal a.k c.requires.segment-within in
    record {
      degree_some = omega (arith, d, low);
      drawable = omega (arith, d, c.requires.drawable);
      within = omega (
        arith,
        d,
        c.first_column-column.ensures ∙ first-column_partial a.breaks.now a.degrees.now a.orders.now a.k,
        legal_columns-within _ _ _ l a.k c.requires.segment-within,
        legal_column-count-high _ _ _ l,
        c.requires.long,
      );
      long = omega (arith, c.requires.long);
    }

pub returns : goal.returns
returns c =
    let a = c.args in
    let l = c.requires.legal in
    let f = fits l.breaks_legal a.k (omega (arith, l.break-count, c.requires.segment-within)) in
    let g = fits l.breaks_legal (a.k + 1) (omega (arith, l.break-count, c.requires.segment-within)) in
    let p = c.degree_at-degree.result in
    let one_more : 1 + p ≡ suc p = omega arith in
    let next : a.k + 1 ≡ suc a.k = omega arith in
    let column = c.first_column-column.ensures ∙ first-column_partial a.breaks.now a.degrees.now a.orders.now a.k in
    let shown : ℕ → ℕ → Type 0 = λ m column. Each fineness (floats c.curve_at-curve.result)
    (tab m (λ i. get_or a.ordinates.now (column + i) (pos 0))) in
    record {
      ordinates = subst (λ m. shown m (first_column (space a.breaks.now a.degrees.now a.orders.now) a.k))
          (one_more ∙ ap suc c.degree_at-degree.ensures) (subst (shown (1 + p)) column c.curve_at-curve.ensures);
      start = simp to_z-of_z at c.whole-start.ensures;
      end = subst (λ n. Is c.whole-end.result (get_or a.breaks.now n (pos 0)) 1) next (simp to_z-of_z at c.whole-end.ensures);
    }
