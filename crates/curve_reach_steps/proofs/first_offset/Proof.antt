-- `curve_reach_steps::first_offset` meets its contract: one ordinate reaches the target, or no value does. Assumes nothing.
use borrow.Author.Rules.{rules}
use mathlib.Core.Bool.{Bool}
use mathlib.Core.Path.{◌≡◌, sym, ◌∙◌}
use Prim.Native.Nat.{suc, ◌+◌}
use native.Mathlib.Omega.{arith}
use lib.IntN.{pos}
use lib.ListN.{get_or}
use lib.Signed.{le_z}
use mir.ValLaws.{to_z-of_z}
use Rattle.base_outcome.specs.Search.{first, found}
use Rattle.curve_reach_steps.proofs.Passing.{one_bounds, none-reaches, all_below}
use Rattle.curve_reach_steps.proofs.first_offset.Statement.{statement}
use Rattle.curve_reach_steps.proofs.first_offset.Tie as tie

module _ (c : tie.After-one_reaches) where
  abbrev start : tie.Start
  start = c.before

  told : {b : Bool} → c.one_reaches.result ≡ b → let a = start.args in
      found (first (suc a.p) (λ k. le_z a.target (get_or a.ordinates.now (a.c + k) (pos 0)))) ≡ b
  told e = let f = start.ranges.target in sym (simp to_z-of_z at c.one_reaches.ensures) ∙ e

step-through-requires : tie.Need-step_through-requires
step-through-requires c κs =
    let s = start c.before in
    let f = s.ranges.target in
    let a = s.args in
    let bounded = s.requires.segment.columns.ordinates.bounded in
    let small = one_bounds a.ordinates.now a.c a.p a.target bounded (told c.before c.if-one_reaches.true) in
    record { segment = s.requires.segment; end_within = s.requires.end_within; target_small = simp to_z-of_z small }

returns-2 : tie.Need-returns
returns-2 c =
    let s = start c.before in
    let a = s.args in
    let bounded = s.requires.segment.columns.ordinates.bounded in
    let none = none-reaches a.ordinates.now a.c a.p a.target (told c.before c.if-one_reaches.false) in
    record {
      after = s.requires.start-within;
      none_before = λ u h k l. all_below a.ordinates.now a.c a.p a.d u s.requires.segment.long
          (omega (arith, s.requires.end_within)) bounded a.target none;
      there = λ h. absurd (omega arith);
    }

pub first_offset_spec : {M : Type 1} → statement M
first_offset_spec =
    tie.close (tie.spec (λ c κs. search rules) step-through-requires
    (λ c. let f = (start c.before.before).ranges.target in simp to_z-of_z at c.step_through.ensures) returns-2)
