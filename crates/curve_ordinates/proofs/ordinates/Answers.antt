-- A column's terms, within their limits, are its ordinate.
use Rattle.std.proofs.Common.{rules, ap, ap₂, sym, ◌∙◌, arith, ℕ, ◌+◌, ◌*◌, ◌≤◌, List, ℤ, nat_abs, set, w32, w64}
use mir.Val.{SFits}
use Rattle.base_exact.proofs.Tabulate.{tab-none, tab_more}
use Rattle.base_exact.proofs.Word.{to_z-of_z, sfits_abs}
use Rattle.spec_spline.specs.Table.{Table}
use Rattle.spec_spline.specs.Reading.{ordinate, at_least, at_most}
use Rattle.spec_spline.specs.CurveCall.{coefficient_limit}
use Rattle.curve_ordinates.specs.Ordinates.{given, terms_of, entries}
use Rattle.curve_ordinates.specs.declared.Terms.{Terms}
use Rattle.curve_ordinates.proofs.Columns.{limits_terms, terms_least, terms_greatest, terms_abs}
use Rattle.curve_ordinates.proofs.ordinates.Goals as goal

-- the terms within their limits
abbrev within : Terms → ℤ
within x = at_most (given x.some x.greatest) (at_least (given x.some x.least) x.sum)

-- what the rows' terms in a column come to fits a cell of the list
word : (t : Table) (own : ℕ → ℤ) → ((i : ℕ) → nat_abs (own i) ≤ coefficient_limit) → (c n : ℕ) → SFits w32 (within (terms_of t own c n))
word t own small c n = sfits_abs (omega (arith, terms_abs t own small c n))

pub loop-c-init : goal.loop-c-init
loop-c-init c = λ t h m. tab-none _ _

pub limited-requires : goal.limited-requires
limited-requires c =
    let r = c.requires.rows in
    let index = c.wood_index-index.result in
    let own = entries c.args.coefs.now index in
    let small = λ (i : ℕ). r.coefficients.small (2 * i + index) in
    rw (c.column_terms-all.ensures r.weights.table r.weights.holds) (record {
      least-small = terms_least r.weights.table own small c.loop-c.c c.args.n;
      greatest-small = terms_greatest r.weights.table own small c.loop-c.c c.args.n;
    })

pub overflow_cast-o : goal.overflow_cast-o
overflow_cast-o c =
    let r = c.requires.rows in
    let index = c.wood_index-index.result in
    let f : SFits w64 c.limited.result = search rules in
    simp to_z-of_z
    (rw (c.limited.ensures, c.column_terms-all.ensures r.weights.table r.weights.holds)
    (word r.weights.table (entries c.args.coefs.now index) (λ (i : ℕ). r.coefficients.small (2 * i + index)) c.loop-c.c c.args.n))

pub loop-c-preserved : goal.loop-c-preserved
loop-c-preserved c = λ t h m.
    let r = c.requires.rows in
    let index = c.wood_index-index.result in
    let own = entries c.args.coefs.now index in
    let f : SFits w64 c.limited.result = search rules in
    let is = c.limited.ensures ∙ ap within (c.column_terms-all.ensures t h) in
    let g : SFits w32 c.limited.result = rw is (word t own (λ (i : ℕ). r.coefficients.small (2 * i + index)) c.loop-c.c c.args.n) in
    simp to_z-of_z (
    ap₂ (λ (l : List ℤ) (z : ℤ). set l c.loop-c.c z) (c.loop-c.invariant t h m)
    (is ∙ ap (λ (n : ℕ). within (terms_of t own c.loop-c.c n)) (sym m) ∙ limits_terms t own c.loop-c.c)
    ∙ tab_more (ordinate t own) c.loop-c.c c.args.os.now (omega arith))
