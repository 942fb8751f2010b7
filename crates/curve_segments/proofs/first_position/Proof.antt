-- `curve_segments::first_position` meets its contract: the two arms are the two of the definition. Assumes nothing.
use borrow.Author.Rules.{rules}
use mathlib.Core.Bool.{Bool}
use mathlib.Core.List.{[]}
use mathlib.Core.Path.{◌≡◌, sym, ◌∙◌}
use native.Mathlib.Omega.{arith}
use lib.IntN.{ℤ, pos, ◌+ℤ◌, ◌*ℤ◌}
use lib.ListN.{get_or}
use mir.Syntax.{w32}
use mir.Val.{SFits, of_z, to_z}
use Rattle.base_exact.proofs.Decide.{cond_true, cond_false}
use Rattle.base_exact.proofs.Word.{to_z-of_z, sfits_abs, abs-add, abs_mul_le}
use Rattle.spec_spline.specs.Reading.{fine, starts_at_discontinuity}
use Rattle.build_space.specs.Machine.{space}
use Rattle.build_space.proofs.Partial.{starts_at_discontinuity_partial}
use Rattle.curve_segments.specs.Segments.{first_position}
use Rattle.curve_segments.proofs.first_position.Statement.{statement}
use Rattle.curve_segments.proofs.first_position.Tie as tie

module _ (c : tie.After-start-1) where
  abbrev break : ℤ
  break = get_or c.before.args.breaks.now c.before.args.i (pos 0)

  break-fits : SFits w32 break
  break-fits = record { sfits = c.start-1.given }

  start_fits : SFits w32 (pos 256 *ℤ break)
  start_fits =
      let at = c.before.requires in
      sfits_abs (omega (arith, abs_mul_le (pos 256) break 256 10000 (omega arith) (at.legal.size c.before.args.i at.within)))

module _ (c : tie.After-starts_at_discontinuity) where
  abbrev at_start : tie.After-start-1
  at_start = c.before

  -- the segment starts at a discontinuity or not
  told : {b : Bool} → c.starts_at_discontinuity.result ≡ b
      → starts_at_discontinuity (space at_start.before.args.breaks.now [] at_start.before.args.orders.now)
      at_start.before.args.i ≡ b
  told e =
      sym (starts_at_discontinuity_partial at_start.before.args.breaks.now [] at_start.before.args.orders.now
      at_start.before.args.i) ∙ sym c.starts_at_discontinuity.ensures ∙ e

module _ (c : tie.After-start-1) where
  more_fits : SFits w32 (pos 256 *ℤ break c +ℤ pos 1)
  more_fits =
      let at = c.before.requires in
      let size = abs_mul_le (pos 256) (break c) 256 10000 (omega arith) (at.legal.size c.before.args.i at.within) in
      sfits_abs (omega (arith, size, abs-add (pos 256 *ℤ break c) (pos 1)))

add-result : tie.Need-overflow_add-result
add-result c = simp (to_z-of_z, break-fits (at_start c.before), start_fits (at_start c.before)) (more_fits (at_start c.before))

returns : tie.Need-returns-then-starts_at_discontinuity
unfolding first_position
returns c =
    let a = at_start c.before in
    let e : to_z w32 (of_z w32 (to_z w32 (of_z w32 (pos 256 *ℤ to_z w32 (of_z w32 (break a)))) +ℤ pos 1)) ≡ fine (break a) +ℤ pos 1 =
    simp (to_z-of_z, break-fits a, start_fits a, more_fits a) in
    e ∙ sym (cond_true _ _ (told c.before c.if-starts_at_discontinuity.true))

returns-2 : tie.Need-returns
unfolding first_position
returns-2 c =
    let a = at_start c.before in
    let e : to_z w32 (of_z w32 (pos 256 *ℤ to_z w32 (of_z w32 (break a)))) ≡ fine (break a) = simp (to_z-of_z, break-fits a, start_fits a) in
    e ∙ sym (cond_false _ _ (told c.before c.if-starts_at_discontinuity.false))

pub first_position_spec : {M : Type 1} → statement M
first_position_spec =
    tie.close (tie.spec (λ c. search rules) (λ c. search rules) (λ c. let f = break-fits c in simp to_z-of_z (start_fits c))
    (λ c κs. search rules) add-result returns returns-2)
