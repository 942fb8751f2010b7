-- `build_rules::span_is_too_long` meets its contract: a segment that starts no part, then the part's breakpoints, whose difference fits
-- 64 bits, whatever they are. Assumes nothing.
use borrow.Author.Rules.{rules}
use native.Mathlib.Omega.{arith}
use mathlib.Core.Bool.{Bool}
use mathlib.Core.Path.{◌≡◌, sym, ◌∙◌, ap}
use Prim.Native.Nat.{ℕ, ◌<◌}
use lib.IntN.{ℤ, pos, ◌-ℤ◌}
use lib.ListN.{length, get_or}
use lib.Signed.{lt_z}
use mir.Syntax.{w32, w64}
use mir.Val.{SFits}
use Rattle.base_exact.proofs.Word.{to_z-of_z, sfits_abs, abs_sfits, sfits_widen, abs_sub}
use Rattle.spec_spline.specs.Space.{Space, starts_part, part_end}
use Rattle.spec_spline.proofs.Parts.{part-ends}
use Rattle.build_space.specs.Machine.{space}
use Rattle.build_space.proofs.Partial.{starts-part_partial, part_end_partial}
use Rattle.build_space.proofs.Tests.{no_part_no_span, span-test}
use Rattle.build_rules.proofs.span_is_too_long.Statement.{statement}
use Rattle.build_rules.proofs.span_is_too_long.Tie as tie

abbrev lists : tie.Start → Space
lists s = space s.args.breaks.now s.args.degrees.now s.args.orders.now

-- whether the segment starts a part
starts : (c : tie.After-starts_part) {b : Bool} → c.starts_part.result ≡ b → starts_part (lists c.before) c.before.args.i ≡ b
starts c e = sym (starts-part_partial c.before.args.breaks.now c.before.args.degrees.now c.before.args.orders.now c.before.args.i) ∙ sym c.starts_part.ensures ∙ e

-- the part's end, and that there is a breakpoint
module _ (c : tie.After-part_end-end) where
  abbrev start : tie.Start
  start = c.before.before.before

  end_is : c.part_end-end.result ≡ part_end (lists start) start.args.i
  end_is = c.part_end-end.ensures ∙ part_end_partial start.args.breaks.now start.args.degrees.now start.args.orders.now start.args.i

  end_within : c.part_end-end.result < length start.args.breaks.now
  end_within = omega (arith, end_is, (part-ends (lists start) start.args.i start.requires.0).boundary.within, start.requires.1.1)

first-fits-at : (c : tie.After-first-1) → SFits w32 (get_or (start c.before).args.breaks.now (start c.before).args.i (pos 0))
first-fits-at c = record { sfits = c.first-1.given }

module _ (c : tie.After-last-1) where
  abbrev ended : tie.After-part_end-end
  ended = c.before.before

  abbrev first : ℤ
  first = get_or (start ended).args.breaks.now (start ended).args.i (pos 0)

  abbrev last : ℤ
  last = get_or (start ended).args.breaks.now ended.part_end-end.result (pos 0)

  first_fits : SFits w32 first
  first_fits = first-fits-at c.before

  last_fits : SFits w32 last
  last_fits = record { sfits = c.last-1.given }

  span_fits : SFits w64 (last -ℤ first)
  span_fits = sfits_abs (omega (arith, abs_sub last first, abs_sfits first_fits, abs_sfits last_fits))

sub-result : tie.Need-overflow_sub-result
sub-result c =
    let f = first_fits c in
    let g = last_fits c in
    let f' = sfits_widen f in
    let g' = sfits_widen g in
    simp to_z-of_z (span_fits c)

returns-2 : tie.Need-returns
returns-2 c =
    let f = first_fits c in
    let g = last_fits c in
    let f' = sfits_widen f in
    let g' = sfits_widen g in
    let h = span_fits c in
    let d = ended c in
    simp to_z-of_z (ap (λ (e : ℕ). lt_z (pos 2000) (get_or (start d).args.breaks.now e (pos 0) -ℤ first c)) (end_is d)
    ∙ sym (span-test _ _ (starts d.before.before d.before.if-not-starts_part.false)))

pub span_is_too_long_spec : {M : Type 1} → statement M
span_is_too_long_spec =
    tie.close (tie.spec (λ c κs. search rules) (λ c. no_part_no_span _ _ (starts c.before c.if-not-starts_part.true))
    (λ c κs. search rules) (λ c. search rules) (λ c. search rules) (λ c. let f = first-fits-at c in simp to_z-of_z (sfits_widen f))
    (λ c. let l = end_within c.before in search rules) (λ c. let l = end_within c.before in search rules)
    (λ c. let g = last_fits c in simp to_z-of_z (sfits_widen g)) sub-result returns-2)
