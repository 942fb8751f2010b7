-- `curve_reach_search::start_offset` meets its contract: the end, the first segment, and the join before any other. Assumes nothing.
use borrow.Author.Rules.{rules}
use mathlib.Core.Bool.{Bool, cond}
use mathlib.Core.List.{[]}
use mathlib.Core.Path.{◌≡◌, sym, ap, ◌∙◌}
use Prim.Native.Nat.{ℕ, suc, ◌-◌, ◌<◌}
use native.Mathlib.Omega.{arith}
use Rattle.spec_spline.specs.Space.{Space, segments}
use Rattle.build_space.specs.Machine.{space}
use Rattle.curve_reach_search.specs.Machine.{start_offset}
use Rattle.curve_reach_search.proofs.Offsets.{start_at_end, start_of_first, start_of_later}
use Rattle.curve_reach_search.proofs.start_offset.Statement.{statement}
use Rattle.curve_reach_search.proofs.start_offset.Tie as tie

first : (s : Space) (i : ℕ) → i ≡ 0 → i < segments s → 0 ≡ start_offset s i
first s i e h = sym (ap (start_offset s) e ∙ start_of_first s (omega arith))

returns-2 : tie.Need-returns-then-i-eq0
returns-2 c =
    let s = c in
    first (space [] s.args.degrees.now s.args.orders.now) s.args.i (omega arith) (omega (arith, s.requires.within))

-- the join before segment i
module _ (c : tie.After-is_discontinuity) where
  abbrev start : tie.Start
  start = c.before.before.before

  abbrev i : ℕ
  i = start.args.i

  after-join : {b : Bool} → c.is_discontinuity.result ≡ b
      → cond b 1 0 ≡ start_offset (space [] start.args.degrees.now start.args.orders.now) i
  after-join e =
      let s = space [] start.args.degrees.now start.args.orders.now in
      ap (λ t. cond t 1 0) (sym e ∙ c.is_discontinuity.ensures)
      ∙ sym (ap (start_offset s) (let z : i ≡ suc (i - 1) = omega arith in z) ∙ start_of_later s (i - 1) (omega (arith, start.requires.within)))

pub start_offset_spec : {M : Type 1} → statement M
start_offset_spec =
    tie.close (tie.spec (λ c. sym (start_at_end _ c.args.i (omega arith))) returns-2 (λ c. search rules) (λ c κs. search rules)
    (λ c. after-join c.before c.if-is_discontinuity.true) (λ c. after-join c.before c.if-is_discontinuity.false))
