-- `series_bytes` meets its contract: there are at most 10,998 widths.
use native.Mathlib.Omega.{arith}
use borrow.Author.Rules.{rules}
use mathlib.Core.Path.{◌≡◌}
use Prim.Native.Nat.{◌≤◌}
use mir.Syntax.{w32}
use mir.Val.{SFits}
use Rattle.base_exact.proofs.Word.{to_z-of_z}
use Rattle.tucson_series.specs.Sizes.{years_left, most_left, series_bytes}
use Rattle.tucson_series.proofs.Years.{closing-parts}
use Rattle.tucson_series.proofs.room.series_bytes.Statement.{statement}
use Rattle.tucson_series.proofs.room.series_bytes.Tie as tie

few : (c : tie.After-years_left-line_room) → c.args.count ≤ most_left
few c = (closing-parts c.args.year c.args.count c.requires).few

years-left-requires : tie.Need-years_left-line_room-requires
years-left-requires c κs = let f : SFits w32 c.args.year = c.ranges.year in simp to_z-of_z (closing-parts c.args.year c.args.count c.requires).dated

returns : tie.Need-returns
unfolding series_bytes
returns c =
    let s = c in
    let f : SFits w32 s.args.year = s.ranges.year in
    let e : c.years_left-line_room.result ≡ years_left s.args.year = simp to_z-of_z at c.years_left-line_room.ensures in
    rw e

pub series_bytes_spec : {M : Type 1} → statement M
series_bytes_spec =
    tie.close (tie.spec years-left-requires (λ c. search rules) (λ c. search rules) (λ c. omega (arith, few c)) (λ c. omega (arith, few c))
    (λ c. omega (arith, few c)) (λ c. omega (arith, few c)) (λ c. omega (arith, few c)) (λ c. omega (arith, few c)) returns)
