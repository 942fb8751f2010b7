-- `curve_places::value_by` meets its contract: in the arm of its degree, the same. Assumes nothing.
use native.Mathlib.Omega.{arith}
use mathlib.Core.Path.{◌≡◌, refl, sym, ap, ◌∙◌}
use Prim.Native.Nat.{ℕ, ◌+◌}
use lib.IntN.{ℤ, pos, nat_abs}
use lib.ListN.{get_or}
use mir.Syntax.{w32, w64}
use mir.Val.{SFits, of_z, to_z}
use mir.ValLaws.{to_z-of_z}
use Rattle.spec_spline.specs.Reading.{triangle}
use Rattle.curve_places.specs.Location.{ValueAsks, ValueIs}
use Rattle.curve_rate.specs.Rate.{Rated}
use Rattle.curve_places.proofs.value_by.Statement.{statement}
use Rattle.curve_places.proofs.value_by.Tie as tie

-- a number read back from its word
abbrev word : ℤ → ℤ
word z = to_z w64 (of_z w64 z)

module _ (s : tie.Start) where
  -- the rate, as its two numbers are passed on
  passed : (u d : ℤ) → Rated s.args.high s.args.low u d → Rated (word s.args.high) (word s.args.low) u d
  passed u d rated = let f = s.ranges.high in let g = s.ranges.low in simp to_z-of_z rated

  -- what an arm asks
  asked : (p : ℕ) → s.args.p ≡ p → ValueAsks s.args.ordinates.now s.args.c p (word s.args.high) (word s.args.low)
  asked p e = let r = s.requires.rate in record {
    degree_low = omega (arith, s.requires.degree_low, e);
    columns-within = omega (arith, s.requires.columns-within, e);
    rate = record { offset = r.offset; width = r.width; rated = passed _ _ r.rated };
    ordinates = s.requires.ordinates;
  }

  -- and what it gives
  arm : (p : ℕ) (v : ℤ) → s.args.p ≡ p → SFits w32 v
      → ValueIs s.args.ordinates.now s.args.c p (word s.args.high) (word s.args.low) v
      → ValueIs s.args.ordinates.now s.args.c s.args.p s.args.high s.args.low (to_z w32 (of_z w32 v))
  arm p v e fits is u d rated =
      to_z-of_z w32 v fits
      ∙ is u d (passed u d rated)
      ∙ ap (λ (n : ℕ). triangle (nat_abs d) u (λ k. get_or s.args.ordinates.now (s.args.c + k) (pos 0)) n 0) (sym e)

returns : tie.Need-returns-in-1
returns c u d rated =
    arm c.before.before 1 _ c.in-1.is (record { sfits = c.value_of.type_inv }) c.value_of.ensures u d rated

returns-2 : tie.Need-returns-in-2
returns-2 c u d rated =
    arm c.before.before 2 _ c.in-2.is (record { sfits = c.value_of-in-2.type_inv }) c.value_of-in-2.ensures u d rated

returns-3 : tie.Need-returns-in-3
returns-3 c u d rated =
    arm c.before.before 3 _ c.in-3.is (record { sfits = c.value_of-in-3.type_inv }) c.value_of-in-3.ensures u d rated

returns-4 : tie.Need-returns-in-4
returns-4 c u d rated =
    arm c.before.before 4 _ c.in-4.is (record { sfits = c.value_of-in-4.type_inv }) c.value_of-in-4.ensures u d rated

returns-5 : tie.Need-returns-in-5
returns-5 c u d rated =
    arm c.before.before 5 _ c.in-5.is (record { sfits = c.value_of-in-5.type_inv }) c.value_of-in-5.ensures u d rated

returns-6 : tie.Need-returns-in_default
returns-6 c u d rated = arm c.before.before _ _ refl (record { sfits = c.value_of-in_default.type_inv }) c.value_of-in_default.ensures u d rated

pub value_by_spec : {M : Type 1} → statement M
value_by_spec =
    tie.close (tie.spec (λ c κs. asked c.before 1 c.in-1.is) (λ c κs. asked c.before 2 c.in-2.is)
    (λ c κs. asked c.before 3 c.in-3.is) (λ c κs. asked c.before 4 c.in-4.is)
    (λ c κs. asked c.before 5 c.in-5.is) (λ c κs. asked c.before _ refl) returns returns-2 returns-3 returns-4 returns-5
    returns-6)
