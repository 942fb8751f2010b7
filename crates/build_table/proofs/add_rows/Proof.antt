-- The part of the numerators from the first new row's first column on is marked: the rows of the identity. Assumes nothing.
use borrow.Author.Rules.{rules}
use mathlib.Core.Path.{ap, ap₂, ◌∙◌}
use mathlib.Core.List.{List, ◌++◌, append-nil}
use Prim.Native.Nat.{◌+◌, ◌*◌, ◌-◌}
use native.Mathlib.Omega.{arith}
use lib.IntN.{ℤ}
use lib.ListN.{length, take, drop, length-drop, drop_of_length-le}
use Rattle.build_cells.specs.Region.{marked}
use Rattle.build_table.proofs.Added.{take_whole, rows-added}
use Rattle.build_table.proofs.add_rows.Statement.{statement}
use Rattle.build_table.proofs.add_rows.Tie as tie

returns : tie.Need-returns
returns c t m is size wide =
    let a = c.before.before.before in
    let x = a.args in
    let xs = x.num.now in
    let start = 72 * x.rows + x.column in
    let rest = drop start xs in
    let left = length xs - start in
    ap (λ (l : List ℤ). take start xs ++ (l ++ drop left rest)) c.before.mark_diagonal.ensures
    ∙ ap₂ (λ (l r : List ℤ). take start xs ++ (marked x.n l ++ r)) (take_whole left rest (omega (arith, length-drop start xs)))
    (drop_of_length-le rest {i = left} (omega (arith, length-drop start xs)))
    ∙ ap (λ (l : List ℤ). take start xs ++ l) (append-nil (marked x.n rest))
    ∙ rows-added t x.rows x.column x.n m wide size a.requires.0 a.requires.1.0 a.requires.1.1.0 xs a.requires.1.1.1 is

pub add_rows_spec : {M : Type 1} → statement M
add_rows_spec =
    tie.close (tie.spec (λ c. search rules) (λ c. search rules) (λ c. search rules) (λ c. search rules) (λ c. search rules)
    (λ c. search rules) (λ c κs. search rules) (λ c. search rules) returns)
