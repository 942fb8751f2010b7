-- `put_curve` meets its contract: a comma, and the value's millionths behind it.
use borrow.Author.Rules.{rules}
use native.Mathlib.Omega.{arith}
use mathlib.Core.Path.{◌≡◌, ap}
use mathlib.Core.List.{◌∷◌}
use lib.IntN.{ℤ}
use lib.ListN.{length}
use mir.Syntax.{w32, w64}
use mir.Val.{SFits}
use Rattle.base_exact.proofs.Word.{to_z-of_z}
use Rattle.base_text.specs.Bytes.{comma}
use Rattle.spec_table.specs.Decimals.{with_decimals}
use Rattle.spec_table.specs.Decimals as Decimals
use Rattle.tucson_putting.proofs.Wrote.{wrote_then, wrote_as, wrote_length}
use Rattle.table_line.proofs.put_curve.Statement.{statement}
use Rattle.table_line.proofs.put_curve.Tie as tie

module _ (c : tie.After-millionths-millionths) where
  narrow : SFits w32 c.args.value
  narrow = c.ranges.value

  fits : SFits w64 c.millionths-millionths.result
  fits = record { sfits = c.millionths-millionths.type_inv }

  curve : c.millionths-millionths.result ≡ Decimals.millionths c.args.value
  curve = let f = narrow in let g = fits in simp to_z-of_z at c.millionths-millionths.ensures

put-millionths-requires : tie.Need-put_millionths-requires
put-millionths-requires c κs =
    let m = c in
    let f = fits m.before.before.before.before.before in
    let p = c.put_byte-next.ensures in
    simp to_z-of_z (omega (arith, m.requires, p.behind, wrote_length p, ap (λ (z : ℤ). length (with_decimals 6 z)) (curve m.before.before.before.before.before)))

returns : tie.Need-returns
returns c =
    let byte = c in
    let m = byte in
    let f = fits m.before.before.before.before.before.before.before.before in
    wrote_as (ap (λ (z : ℤ). comma ∷ with_decimals 6 z) (curve m.before.before.before.before.before.before.before.before))
    (wrote_then byte.put_byte-next.ensures (simp to_z-of_z at c.put_millionths.ensures))

pub put_curve_spec : {M : Type 1} → statement M
put_curve_spec = tie.close (tie.spec (λ c κs. search rules) (λ c κs. search rules) put-millionths-requires (λ c. search rules) returns)
