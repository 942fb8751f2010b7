-- A line that goes on with its series leaves it as it is; another one begins a series, which is looked through.
use borrow.Author.Rules.{rules}
use mathlib.Core.Bool.{cond}
use mathlib.Core.Path.{◌≡◌}
use native.Mathlib.Omega.{arith}
use mir.Syntax.{w32}
use mir.Val.{SFits}
use Rattle.base_exact.proofs.Word.{to_z-of_z}
use Rattle.tucson_walk.proofs.Entering.{enter_on, enter-first}
use Rattle.tucson_walk.proofs.enter.Statement.{statement}
use Rattle.tucson_walk.proofs.enter.Tie as tie

returns : tie.Need-returns-then-s-ne0
returns c h i b k ks e behind holds =
    let s = c.args in
    enter_on s.unit b k ks s.s (λ z. omega (arith, z, c.if-s-ne0.true)) holds

returns-2 : tie.Need-returns
returns-2 c h i b k ks e behind holds =
    let s = c.args in
    let f : SFits w32 c.first_closing-first.result = record { sfits = c.first_closing-first.type_inv } in
    let a = c.series_ahead-ahead in
    let g : SFits w32 a.result.closing = record { sfits = c.struct_told-1.given.1.0.1 } in
    let z : c.first_closing-first.result ≡ cond s.s.known s.s.first a.result.closing = simp to_z-of_z at c.first_closing-first.ensures in
    enter-first s.unit b k ks s.s a.result _ (omega (arith, c.if-s-ne0.false)) holds (a.ensures h i k ks e behind) (simp to_z-of_z z)

pub enter_spec : {M : Type 1} → statement M
enter_spec = tie.close (tie.spec returns (λ c κs. search rules) (λ c κs. search rules) returns-2)
