-- `put_series` meets its contract: 2 for too many rings, before any index is worked out.
use borrow.Author.Rules.{rules}
use mathlib.Core.Path.{◌≡◌, ap, ◌∙◌, subst}
use lib.IntN.{ℤ, pos, ◌+ℤ◌}
use mir.Syntax.{w32, w64}
use mir.Val.{SFits}
use Rattle.base_exact.proofs.Word.{to_z-of_z}
use Rattle.base_text.specs.Bytes.{Text}
use Rattle.spec_rings.specs.Rings.{fault_line}
use Rattle.build_space.specs.Machine.{space}
use Rattle.curve_ordinates.specs.Wood.{wood_of}
use Rattle.rings_read.specs.Machine.{Front}
use Rattle.rings_text.proofs.Indexed.{many_text}
use Rattle.rings_text.proofs.put_series.Statement.{statement}
use Rattle.rings_text.proofs.put_series.Tie as tie

returns : tie.Need-returns-then-widths-gt-POSITION_LIMIT
returns c =
    let s = c in let x = s.args in
    let many = c.if-widths-gt-POSITION_LIMIT.true in
    let f : SFits w32 x.first = s.ranges.first in
    let y = c.year_of-year in
    let g : SFits w64 y.result = record { sfits = y.type_inv } in
    let e : y.result ≡ x.first +ℤ pos 4096 = simp to_z-of_z at y.ensures in
    subst (λ (t : Text). Front t c.put_fault.result c.put_fault.new.out)
    (ap (λ (z : ℤ). fault_line x.name.now z 2) e
    ∙ many_text (wood_of x.wood) (space x.breaks.now x.degrees.now x.orders.now) x.coefs.now
    x.name.now x.first x.widths.now s.requires.fitting many)
    (simp to_z-of_z at c.put_fault.ensures)

returns-2 : tie.Need-returns
returns-2 c =
    let s = c in
    let f : SFits w32 s.args.first = s.ranges.first in
    simp to_z-of_z at c.put_indexed.ensures

pub put_series_spec : {M : Type 1} → statement M
put_series_spec =
    tie.close (tie.spec (λ c κs. search rules) (λ c κs. search rules) (λ c. search rules) returns (λ c κs. search rules) (λ c. search rules) returns-2)
