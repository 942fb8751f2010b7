-- All 72 rows are all cells of the table; otherwise the cells are counted. Assumes nothing.
use borrow.Author.Rules.{rules}
use mathlib.Core.Path.{◌≡◌, ◌∙◌, ap}
use Prim.Native.Nat.{ℕ, ◌*◌}
use native.Mathlib.Omega.{arith}
use lib.IntN.{pos}
use Rattle.build_cells.specs.Region.{filled}
use Rattle.build_table.proofs.clear_rows.Statement.{statement}
use Rattle.build_table.proofs.clear_rows.Tie as tie

returns : tie.Need-returns-then-rows-eq-ROW_CELLS
returns c =
    let k = c.before.before in
    let t = k.before.before.before in
    let a = t.before.args in
    let all : 5184 ≡ 72 * a.rows = omega (arith, t.if-rows-eq-ROW_CELLS.true) in
    (k.clear.ensures.0 ∙ ap (λ (n : ℕ). filled 0 n (pos 0) a.num.now) all, k.clear.ensures.1 ∙ ap (λ (n : ℕ). filled 0 n (pos 1) a.den.now) all)

pub clear_rows_spec : {M : Type 1} → statement M
clear_rows_spec =
    tie.close (tie.spec (λ c κs. search rules) (λ c. search rules) (λ c. search rules) returns (λ c. omega arith) (λ c κs. search rules)
    (λ c. search rules) (λ c. search rules) (λ c. search rules))
