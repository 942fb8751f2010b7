-- `curve_places::value_at` meets its contract: the triangle of the location's ordinates by the location's rate.
-- Assumes nothing.
use borrow.Author.Rules.{rules}
use mathlib.Core.List.{List}
use mathlib.Core.Path.{◌≡◌, refl, ◌∙◌}
use lib.IntN.{ℤ}
use mir.Syntax.{w32, w64}
use mir.Val.{SFits, of_z, to_z}
use mir.ValLaws.{to_z-of_z}
use Rattle.curve_places.specs.Offsets.{BeamOrdinates}
use Rattle.curve_places.specs.Location.{value_of, ValueAsks, ValueIs}
use Rattle.curve_rate.specs.Rate.{Inverted, Rated}
use Rattle.curve_places.specs.declared.Location.{Location}
use Rattle.curve_places.proofs.Position.{value_arm}
use Rattle.curve_places.proofs.value_at.Statement.{statement}
use Rattle.curve_places.proofs.value_at.Tie as tie

-- a number read back from its word
abbrev word : ℤ → ℤ
word z = to_z w64 (of_z w64 z)

module _ (c : tie.After-struct_told-2-1) where
  abbrev begin : tie.Start
  begin = c.before.before.before.before

  offset-fits : SFits w64 begin.args.location.offset
  offset-fits = record { sfits = c.struct_told-2-1.given.1.1.0.1 }

  width_fits : SFits w64 begin.args.location.width
  width_fits = record { sfits = c.struct_told-1.given.1.1.1.0.1 }

  whole-fits : SFits w64 c.whole_of-whole.result
  whole-fits = record { sfits = c.whole_of-whole.type_inv }

  tail-fits : SFits w64 c.tail_of-tail.result
  tail-fits = record { sfits = c.tail_of-tail.type_inv }

  -- the inverse of the segment's length
  inverted : Inverted c.whole_of-whole.result c.tail_of-tail.result begin.args.location.width
  inverted =
      let f = width_fits in
      record { whole_is = simp to_z-of_z at c.whole_of-whole.ensures; tail_is = simp to_z-of_z at c.tail_of-tail.ensures }

rate-of-requires : tie.Need-rate_of-rate-requires
rate-of-requires c κs =
    simp (to_z-of_z, offset-fits c, whole-fits c, tail-fits c)
    (record { width = _; inside = (begin c).requires.sound.inside; inverted = inverted c })

module _ (c : tie.After-struct_told-4-1) where
  abbrev start : tie.Start
  start = begin c.before.before.before

  abbrev location : Location
  location = start.args.location

  abbrev high : ℤ
  high = c.rate_of-rate.result.high

  abbrev low : ℤ
  low = c.rate_of-rate.result.low

  high_fits : SFits w64 high
  high_fits = record { sfits = c.struct_told-3-1.given.0.1 }

  low_fits : SFits w64 low
  low_fits = record { sfits = c.struct_told-4-1.given.1.0.1 }

  -- the rate of the location, as its two numbers are passed on
  rated : Rated (word high) (word low) location.offset location.width
  rated =
      let t = c in
      let f = offset-fits t.before.before.before in
      let g = whole-fits t.before.before.before in
      let h = tail-fits t.before.before.before in
      let k = high_fits in
      let l = low_fits in
      simp to_z-of_z ((simp to_z-of_z at c.rate_of-rate.ensures) _ start.requires.sound.inside (inverted t.before.before.before))

  -- the value there
  there : (os : List ℤ) (r : ℤ) → ValueIs os location.column location.degree (word high) (word low) r → r ≡ value_of os location
  there os r h = value_arm os location location.degree r refl (h _ _ rated)

  -- what the ordinates of a wood part are asked
  asked : (os : List ℤ) → BeamOrdinates os → ValueAsks os location.column location.degree (word high) (word low)
  asked os h = record {
    degree_low = start.requires.sound.low;
    columns-within = start.requires.sound.within;
    rate = record { offset = _; width = _; rated = rated };
    ordinates = h;
  }

returns : tie.Need-returns
returns c = to_z-of_z w32 _ (record { sfits = c.value_by.type_inv }) ∙ there c.before _ _ c.value_by.ensures

pub value_at_spec : {M : Type 1} → statement M
value_at_spec =
    tie.close (tie.spec (λ c κs. search rules) (λ c κs. search rules) rate-of-requires (λ c κs. asked c _ (start c).requires.ordinates)
    returns)
