-- A turn puts the ordinate of one column more behind the coefficients.
use Rattle.std.proofs.Common.{◌≡◌, ℕ, ◌+◌, ◌≤◌, List, [], ◌∷◌, ◌++◌, map, length, get_or, take, drop, sym, ap, ◌∙◌, rules, arith}
use Rattle.std.proofs.Common.{ℤ, pos, w32, FitsSigned}
use mathlib.Core.List.{append_assoc, append-nil}
use native.Mathlib.Numerals.{add-one}
use lib.ListN.{length-append, length-drop}
use lib.Seq.{get_or-drop}
use Rattle.base_exact.specs.Rational.{ℚ, int}
use Rattle.base_exact.proofs.Word.{to_z-of_z, sfits_widen}
use Rattle.base_exact.specs.Tabulate.{tab}
use Rattle.base_exact.proofs.Tabulate.{tab_snoc, tab_length, tab_take, tab_ext, map_tab}
use Rattle.base_fraction.proofs.Value.{fraction-int}
use Rattle.base_fraction.specs.Fractions.{fractions}
use Rattle.base_fraction.proofs.Fractions.{fractions_more}
use Rattle.recover_arrays.proofs.append.Goals as goal

-- the ordinate of the k-th of these columns as a fraction
abbrev coefficient : List ℤ → ℕ → ℕ → ℚ
coefficient ordinates column k = int (get_or ordinates (column + k) (pos 0))

none : (ps : List ℚ) (f : ℕ → ℚ) → ps ≡ ps ++ tab 0 f
unfolding tab
none ps f = sym (append-nil ps)

-- the ordinates of these columns, as a part of all
columns_of : (os : List ℤ) (column n : ℕ) → column + n ≤ length os → tab n (coefficient os column) ≡ map int (take n (drop column os))
columns_of os column n h =
    tab_ext n (λ k l. ap int (sym (get_or-drop column os k (pos 0))))
    ∙ sym (map_tab int n (λ k. get_or (drop column os) k (pos 0)))
    ∙ ap (map int) (tab_take n (drop column os) (pos 0) (omega (arith, length-drop column os)))

pub loop-i-init : goal.loop-i-init
loop-i-init c = λ ps e size. e ∙ ap fractions (none ps _)

pub loop-i-preserved : goal.loop-i-preserved
loop-i-preserved c =
    let l = c.loop-i in
    let g = c.args in
    let os = g.ordinates.now in
    let o = get_or os (g.column + l.i) (pos 0) in
    let n : FitsSigned w32 (get_or os (g.column + l.i) (pos 0)) = search rules in
    let m = sfits_widen n in
    let f = coefficient os g.column in
    λ ps e size.
    (simp to_z-of_z (fractions_more (ps ++ tab l.i f) (f l.i) (g.rows + l.i) l.all (record { num = o; den = pos 1 })
    (length-append ps (tab l.i f) ∙ omega (arith, size, tab_length l.i f)) (omega arith) (l.invariant ps e size) (sym (fraction-int o))))
    ∙ ap fractions (append_assoc ps (tab l.i f) (f l.i ∷ [])
    ∙ ap (λ xs. ps ++ xs) (sym (tab_snoc l.i f) ∙ ap (λ m. tab m f) (sym (add-one l.i))))

pub returns : goal.returns
returns c = λ ps e size.
    let l = c.loop-i in
    let g = c.args in
    let all : l.i ≡ g.n = omega arith in
    l.invariant ps e size
    ∙ ap (λ xs. fractions (ps ++ xs)) (ap (λ m. tab m (coefficient g.ordinates.now g.column)) all
    ∙ columns_of g.ordinates.now g.column g.n c.requires.1)
