-- `curve_segments::segment_near` meets its contract: the segment given holds the position, or all are tried. Assumes nothing.
use borrow.Author.Rules.{rules}
use native.Mathlib.Omega.{arith}
use mathlib.Core.Bool.{true}
use mathlib.Core.List.{List}
use mathlib.Core.Logic.{inl, inr}
use mathlib.Core.Option
use mathlib.Core.Path.{◌≡◌, sym, ap, ap₂, ◌∙◌}
use Prim.Native.Nat.{ℕ, suc, ◌+◌, ◌<◌}
use lib.IntN.{ℤ, pos}
use lib.ListN.{length, get_or}
use lib.Signed.{le_z, lt_z}
use mir.Syntax.{w32}
use mir.Val.{of_z, to_z}
use Rattle.base_exact.proofs.Word.{to_z-of_z, lt_z_true}
use Rattle.base_outcome.specs.Search.{last}
use Rattle.build_space.specs.Machine.{space}
use Rattle.build_space.specs.Legal.{ListsLegal}
use Rattle.curve_segments.specs.Segments.{first_position, first_positions_of}
use Rattle.curve_segments.proofs.First.{first_at, near_is, segment-found}
use Rattle.curve_segments.proofs.segment_near.Statement.{statement}
use Rattle.curve_segments.proofs.segment_near.Tie as tie

-- a number read back from its word
abbrev word : ℤ → ℤ
word z = to_z w32 (of_z w32 z)

module _ (c : tie.After-first-1) where
  abbrev start : tie.Start
  start = c.before

  abbrev first : ℤ
  first = get_or start.args.firsts.now start.args.near (pos 0)

  -- the segment given starts by the position
  starts : le_z (word first) (word start.args.x) ≡ true → le_z first start.args.x ≡ true
  starts e =
      ap₂ le_z (sym (to_z-of_z w32 first (record { sfits = c.first-1.given }))) (sym (to_z-of_z w32 start.args.x start.ranges.x)) ∙ e

-- a number of the array is a first position
module _ (s : tie.Start) (b d o : List ℤ) (legal : ListsLegal b d o) (is : s.args.firsts.now ≡ first_positions_of (space b d o)) where
  as_first : (k : ℕ) → k < length d → get_or s.args.firsts.now k (pos 0) ≡ first_position (space b d o) k
  as_first k l = ap (λ fs. get_or fs k (pos 0)) is ∙ first_at b d o legal k l

  starts_there : s.args.near < length d → le_z (get_or s.args.firsts.now s.args.near (pos 0)) s.args.x ≡ true
      → le_z (first_position (space b d o) s.args.near) s.args.x ≡ true
  starts_there l e = ap (λ z. le_z z s.args.x) (sym (as_first s.args.near l)) ∙ e

returns : tie.Need-returns-then-next-m
returns c b d o legal is count =
    let f = c.before.before in
    let s = start f in
    sym (near_is b d o legal s.args.x s.args.near (omega (arith, count))
    (starts_there s b d o legal is (omega (arith, count)) (starts f c.before.if-first-x.true)) (inl (omega (arith, count))))

returns-2 : tie.Need-returns-then-x-after
returns-2 c b d o legal is count =
    let f = c.before.before.before.before in
    let s = start f in
    let x = s.args.x in
    let after = get_or s.args.firsts.now (s.args.near + 1) (pos 0) in
    let more : suc s.args.near < length d = omega (arith, count) in
    let next : after ≡ first_position (space b d o) (suc s.args.near) =
    ap (λ (k : ℕ). get_or s.args.firsts.now k (pos 0)) (let e : s.args.near + 1 ≡ suc s.args.near = omega arith in e)
    ∙ as_first s b d o legal is (suc s.args.near) more in
    let below : lt_z x after ≡ true = ap₂ lt_z (sym (to_z-of_z w32 x s.ranges.x))
    (sym (to_z-of_z w32 after (record { sfits = c.before.after-1.given }))) ∙ c.if-x-after.true in
    sym (near_is b d o legal x s.args.near (omega (arith, count))
    (starts_there s b d o legal is (omega (arith, count)) (starts f c.before.before.before.if-first-x.true))
    (inr (lt_z_true _ _ (ap (lt_z x) (sym next) ∙ below))))

returns-3 : tie.Need-returns
returns-3 c b d o legal is count =
    let s = c.before.before.before in
    c.segment_at.ensures
    ∙ ap (λ (z : ℤ). Option.get_or (last s.args.m (λ k. le_z (get_or s.args.firsts.now k (pos 0)) z)) 0)
    (to_z-of_z w32 s.args.x s.ranges.x)
    ∙ segment-found b d o legal s.args.x s.args.firsts.now s.args.m is count

pub segment_near_spec : {M : Type 1} → statement M
segment_near_spec =
    tie.close (tie.spec (λ c. search rules) (λ c. search rules) (λ c. search rules) returns (λ c. search rules) (λ c. search rules)
    returns-2 (λ c κs. search rules) returns-3)
