-- `curve_places::pair_at` meets its contract: both triangles of the location's ordinates by the location's rate.
-- Assumes nothing.
use borrow.Author.Rules.{rules}
use native.Mathlib.Omega.{arith}
use mathlib.Core.List.{List}
use mathlib.Core.Path.{◌≡◌, refl, ◌∙◌}
use Prim.Native.Nat.{ℕ}
use lib.IntN.{ℤ}
use mir.Syntax.{w32, w64}
use mir.Val.{SFits, of_z, to_z}
use mir.ValLaws.{to_z-of_z}
use Rattle.curve_places.specs.Offsets.{BeamOrdinates}
use Rattle.curve_places.specs.Location.{value_of, ValueAsks, ValueIs}
use Rattle.curve_rate.specs.Rate.{Rated}
use Rattle.curve_places.specs.declared.Location.{Location}
use Rattle.curve_places.proofs.Position.{value_arm}
use Rattle.curve_places.proofs.pair_at.Statement.{statement}
use Rattle.curve_places.proofs.pair_at.Tie as tie

-- a number read back from its word
abbrev word : ℤ → ℤ
word z = to_z w64 (of_z w64 z)

module _ (c : tie.After-struct_told-3-1) where
  abbrev start : tie.Start
  start = c.before.before.before.before

  abbrev location : Location
  location = start.args.location

  abbrev high : ℤ
  high = c.rate_of-rate.result.high

  abbrev low : ℤ
  low = c.rate_of-rate.result.low

  offset-fits : SFits w64 location.offset
  offset-fits = record { sfits = c.struct_told-1.given.1.1.0.1 }

  high_fits : SFits w64 high
  high_fits = record { sfits = c.struct_told-2-1.given.0.1 }

  low_fits : SFits w64 low
  low_fits = record { sfits = c.struct_told-3-1.given.1.0.1 }

  -- the rate of the location, as its two numbers are passed on
  rated : Rated (word high) (word low) location.offset location.width
  rated =
      let f = offset-fits in
      let g = start.ranges.whole in
      let h = start.ranges.tail in
      let k = high_fits in
      let l = low_fits in
      simp to_z-of_z ((simp to_z-of_z at c.rate_of-rate.ensures) _ start.requires.sound.inside start.requires.inverted)

  -- the value there, in the arm of degree p
  there : (p : ℕ) → location.degree ≡ p → (os : List ℤ) (r : ℤ) → ValueIs os location.column p (word high) (word low) r → r ≡ value_of os location
  there p e os r h = value_arm os location p r e (h _ _ rated)

  -- what the ordinates of a wood part are asked
  asked : (p : ℕ) → location.degree ≡ p → (os : List ℤ) → BeamOrdinates os → ValueAsks os location.column p (word high) (word low)
  asked p e os h = record {
    degree_low = omega (arith, start.requires.sound.low, e);
    columns-within = omega (arith, start.requires.sound.within, e);
    rate = record { offset = _; width = _; rated = rated };
    ordinates = h;
  }

returns : tie.Need-returns-then-p-eq1
returns c =
    let t = c in
    let e = c.if-p-eq1.true in
    record {
      early_is = to_z-of_z w32 _ (record { sfits = c.value_of-first.type_inv }) ∙ there t.before.before.before 1 e _ _ c.value_of-first.ensures;
      late_is = to_z-of_z w32 _ (record { sfits = c.value_of-second.type_inv }) ∙ there t.before.before.before 1 e _ _ c.value_of-second.ensures;
    }

returns-2 : tie.Need-returns
returns-2 c =
    let t = c in
    record {
      early_is = to_z-of_z w32 _ (record { sfits = c.value_by-early.type_inv }) ∙ there t.before.before.before _ refl _ _ c.value_by-early.ensures;
      late_is = to_z-of_z w32 _ (record { sfits = c.value_by-late.type_inv }) ∙ there t.before.before.before _ refl _ _ c.value_by-late.ensures;
    }

pub pair_at_spec : {M : Type 1} → statement M
pair_at_spec =
    tie.close (tie.spec (λ c κs. search rules) (λ c κs. let t = c in asked t.before 1 c.if-p-eq1.true _ (start t.before).requires.early_ordinates)
    (λ c κs. let t = c in asked t.before.before 1 c.if-p-eq1.true _ (start t.before.before).requires.late_ordinates) returns
    (λ c κs. let t = c in asked t.before _ refl _ (start t.before).requires.early_ordinates)
    (λ c κs. let t = c in asked t.before.before _ refl _ (start t.before.before).requires.late_ordinates) returns-2)
