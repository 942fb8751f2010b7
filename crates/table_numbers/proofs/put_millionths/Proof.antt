-- `put_millionths` meets its contract: the sign, then wholes, point and six digits.
use borrow.Author.Rules.{rules}
use native.Mathlib.Omega.{arith}
use mathlib.Core.Path.{◌≡◌, ap}
use mathlib.Core.List.{◌∷◌, ◌++◌}
use Prim.Native.Nat.{ℕ, ◌/◌}
use lib.IntN.{nat_abs}
use lib.ListN.{length}
use Rattle.base_exact.proofs.Word.{to_z-of_z}
use Rattle.base_text.specs.Numeral.{digits}
use Rattle.spec_table.specs.Decimals.{point, last_digits, sign, with_decimals}
use Rattle.tucson_putting.proofs.Wrote.{wrote_then, wrote_as, wrote_length}
use Rattle.table_numbers.proofs.Digits.{decimals_length}
use Rattle.table_numbers.proofs.put_millionths.Statement.{statement}
use Rattle.table_numbers.proofs.put_millionths.Tie as tie

-- the size, and the index after the sign
size_is : (c : tie.After-magnitude-size) → c.magnitude-size.result ≡ nat_abs c.args.z
size_is c = let f = c.ranges.z in simp to_z-of_z at c.magnitude-size.ensures

put-sign-requires : tie.Need-put_sign-a-requires
put-sign-requires c κs =
    let s = c in
    let f = s.ranges.z in
    simp to_z-of_z (omega (arith, s.requires, decimals_length 6 s.args.z))

put-point-requires : tie.Need-put_point-requires
put-point-requires c κs =
    let p = c in
    let s = p in
    let f = s.ranges.z in
    let w = simp to_z-of_z at p.put_sign-a.ensures in
    omega (
      arith,
      s.requires,
      decimals_length 6 s.args.z,
      w.behind,
      wrote_length w,
      ap (λ (k : ℕ). length (digits (k / 1000000))) (size_is p.before.before.before.before.before),
    )

returns : tie.Need-returns
unfolding with_decimals
returns c =
    let p = c in
    let s = p in
    let f = s.ranges.z in
    wrote_as (ap (λ (k : ℕ). sign s.args.z ++ (digits (k / 1000000) ++ (point ∷ last_digits 6 k))) (size_is p.before.before.before.before.before.before.before.before))
    (wrote_then (simp to_z-of_z at p.put_sign-a.ensures) c.put_point.ensures)

pub put_millionths_spec : {M : Type 1} → statement M
put_millionths_spec = tie.close (tie.spec (λ c κs. search rules) put-sign-requires put-point-requires (λ c. search rules) returns)
