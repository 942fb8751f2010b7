-- Three tests.
use borrow.Author.Rules.{rules}
use mathlib.Core.Bool.{Bool, ◌&&◌, ◌||◌}
use mathlib.Core.Path.{◌≡◌, ◌∙◌, ap, ap₂}
use Prim.Native.Nat.{ℕ, ◌+◌}
use native.Mathlib.Omega.{arith}
use lib.Dec.{leb}
use Rattle.base_exact.proofs.Word.{to_z-of_z}
use Rattle.spec_tucson.specs.Line.{is_width, same, thousandths, year_in_decade}
use Rattle.spec_tucson.proofs.Lines.{year-below}
use Rattle.tucson_judge.proofs.is_good.Statement.{statement}
use Rattle.tucson_judge.proofs.is_good.Tie as tie

-- the year's place in its decade
in-decade : (c : tie.After-year_in_decade) → c.year_in_decade.result ≡ year_in_decade c.args.year
in-decade c = let f = c.ranges.year in simp to_z-of_z at c.year_in_decade.ensures

add-both : tie.Need-overflow_add-year_in_decade
add-both c = let s = c in omega (arith, in-decade c, year-below s.args.year, s.requires)

returns : tie.Need-returns
returns c =
    let d = c in
    let e = d in
    let s = e in
    let a = s.args in
    let f = s.ranges.last in
    let width : e.is_width.result ≡ is_width a.last = simp to_z-of_z at e.is_width.ensures in
    let closing : e.same.result ≡ same a.last thousandths = simp to_z-of_z at e.same.ensures in
    let ends : e.either-ends.result ≡ (is_width a.last || same a.last thousandths) = e.either-ends.ensures ∙ ap₂ (λ (x y : Bool). x || y) width closing in
    let inner : c.both.result ≡ (a.widths && (is_width a.last || same a.last thousandths)) =
    c.both.ensures ∙ ap (λ (x : Bool). a.widths && x) ends in
    c.both-2.ensures ∙ ap₂ (λ (k : ℕ) (x : Bool). leb (k + a.count) 10 && x) (in-decade d.before.before) inner

pub is_good_spec : {M : Type 1} → statement M
is_good_spec =
    tie.close (tie.spec (λ c κs. search rules) (λ c κs. search rules) (λ c κs. search rules) (λ c κs. search rules) add-both
    (λ c κs. search rules) (λ c κs. search rules) returns)
