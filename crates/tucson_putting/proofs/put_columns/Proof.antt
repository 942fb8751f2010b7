-- `put_columns` meets its contract: blanks, and the number behind them.
use native.Mathlib.Omega.{arith}
use borrow.Author.Rules.{rules}
use mathlib.Core.Path.{◌≡◌, ap}
use Prim.Native.Nat.{ℕ, ◌-◌}
use mathlib.Core.List.{◌++◌}
use lib.ListN.{length, replicate}
use mir.Syntax.{w32, w64}
use mir.Val.{SFits}
use Rattle.base_exact.proofs.Word.{to_z-of_z, sfits_widen}
use Rattle.base_text.specs.Numeral.{decimal}
use Rattle.spec_tucson.specs.Columns.{blank, columns}
use Rattle.tucson_putting.proofs.Wrote.{wrote_then, wrote_as, puts_wrote, blanks_all}
use Rattle.tucson_putting.proofs.put_columns.Statement.{statement}
use Rattle.tucson_putting.proofs.put_columns.Tie as tie

length_is : (c : tie.After-decimal_length-length) → c.decimal_length-length.result ≡ length (decimal c.args.z)
length_is c =
    let f : SFits w32 c.args.z = c.ranges.z in
    let g : SFits w64 c.args.z = sfits_widen f in
    simp to_z-of_z at c.decimal_length-length.ensures

put-blanks-requires : tie.Need-put_blanks-next-requires
put-blanks-requires c κs = omega (arith, length_is c.before, c.requires.short, c.requires.fits)

put-decimal-requires : tie.Need-put_decimal-requires
put-decimal-requires c κs =
    let b = c.put_blanks-next in
    let s = c in
    let d = c in
    omega (arith, b.ensures.behind, blanks_all (s.args.size - d.decimal_length-length.result), length_is d.before.before.before.before.before, s.requires.short, s.requires.fits)

returns : tie.Need-returns
unfolding columns
returns c =
    let s = c in
    let f : SFits w32 s.args.z = s.ranges.z in
    let g : SFits w64 s.args.z = sfits_widen f in
    let b = c in
    wrote_as (ap (λ (n : ℕ). replicate (s.args.size - n) blank ++ decimal s.args.z) (length_is b.before.before.before.before.before.before.before.before))
    (wrote_then b.put_blanks-next.ensures (puts_wrote (simp to_z-of_z at c.put_decimal.ensures)))

pub put_columns_spec : {M : Type 1} → statement M
put_columns_spec =
    tie.close (tie.spec (λ c. let f : SFits w32 c.args.z = c.ranges.z in simp to_z-of_z (sfits_widen f))
    (λ c κs. search rules) (λ c. omega (arith, length_is c.before, c.requires.short)) put-blanks-requires
    put-decimal-requires (λ c. search rules) returns)
