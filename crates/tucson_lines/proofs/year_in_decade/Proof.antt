-- Below zero the year's place is counted back from its decade's end: -1 - year is the number that negsuc holds.
use borrow.Author.Rules.{rules}
use mathlib.Core.Path.{◌≡◌, sym, ◌∙◌, ap}
use Prim.Native.Nat.{◌-◌, ◌%◌}
use native.Mathlib.Omega.{arith}
use lib.IntN.{ℤ, pos, negsuc, nat_abs, ◌-ℤ◌}
use lib.Signed.{mag, ◌<ℤ◌, ◌≤ℤ◌}
use mir.Syntax.{w32}
use mir.Val.{SFits}
use Rattle.base_exact.proofs.Integer.{≤_in}
use Rattle.base_exact.proofs.Word.{to_z-of_z, lt_z_true, lt_z_false, flip, is_neg, is_pos, fits-unsigned}
use Rattle.spec_tucson.specs.Line.{year_in_decade}
use Rattle.tucson_lines.proofs.year_in_decade.Statement.{statement}
use Rattle.tucson_lines.proofs.year_in_decade.Tie as tie

-- ---- the definition by the sign
negative-year : (z : ℤ) → z <ℤ pos 0 → 9 - nat_abs (negsuc 0 -ℤ z) % 10 ≡ year_in_decade z
unfolding year_in_decade
negative-year z h = ap (λ (y : ℤ). 9 - nat_abs y % 10) (flip z h) ∙ sym (ap year_in_decade (is_neg z h))

natural-year : (z : ℤ) → pos 0 ≤ℤ z → nat_abs z % 10 ≡ year_in_decade z
unfolding year_in_decade
natural-year z h = sym (ap year_in_decade (is_pos z h))

-- a year below zero
module _ (c : tie.Then-year-lt0) where
  abbrev year : ℤ
  year = c.args.year

  below : year <ℤ pos 0
  below = let f = c.ranges.year in lt_z_true _ _ (simp to_z-of_z at c.if-year-lt0.true)

  turned-fits : SFits w32 (negsuc 0 -ℤ year)
  turned-fits = rw (flip year below) (record { sfits = c.ranges.year.sfits })

  turned-above : pos 0 ≤ℤ (negsuc 0 -ℤ year)
  turned-above = rw (flip year below) (≤_in (pos 0) (pos (mag year)) (omega arith))

-- a year from zero on
above : (c : tie.Else-year-lt0) → pos 0 ≤ℤ c.args.year
above c = let f = c.ranges.year in lt_z_false _ _ (simp to_z-of_z at c.if-year-lt0.false)

sub-result-2 : tie.Need-overflow_sub-result-then-year-lt0
sub-result-2 c = let f = c.ranges.year in simp to_z-of_z (turned-fits c)

cast-result : tie.Need-overflow_cast-result
cast-result c =
    let f = c.ranges.year in
    let g = turned-fits c in
    simp to_z-of_z (fits-unsigned (turned-above c) g)

returns : tie.Need-returns-then-year-lt0
returns c =
    let f = c.ranges.year in
    let g = turned-fits c in
    simp to_z-of_z (negative-year (year c) (below c))

cast-result-3 : tie.Need-overflow_cast-result-2
cast-result-3 c = let f = c.ranges.year in simp to_z-of_z (fits-unsigned (above c) f)

returns-2 : tie.Need-returns
returns-2 c = let f = c.ranges.year in simp to_z-of_z (natural-year _ (above c))

pub year_in_decade_spec : {M : Type 1} → statement M
year_in_decade_spec = tie.close (tie.spec (λ c. search rules) sub-result-2 cast-result (λ c. search rules) (λ c. search rules) returns cast-result-3 (λ c. search rules) returns-2)
